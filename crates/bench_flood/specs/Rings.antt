-- A ground whose nodes stand in a ring, each joined to those that stand two strides away on both sides. Assumes nothing.
use Rattle.std.specs.Prelude.{ℕ, ◌+◌, ◌-◌, Bool, false, cond, List, [], ◌∷◌, Some, None, Option, nat_le, nat_lt, slice_index_or}

-- the node that stands s further on than u among n
abbrev pub turn : ℕ → ℕ → ℕ → ℕ
turn n s u = cond (nat_lt u (n - s)) (u + s) (u - (n - s))

-- u is a node, and no stride is longer than the ring
abbrev pub whole : ℕ → ℕ → ℕ → ℕ → Bool
whole n near wide u = cond (nat_lt u n) (cond (nat_le near n) (nat_le wide n) false) false

module _ {M : Type 0} (void : M) (n near wide : ℕ) (nears wides : List M) where
  -- four crossings: a stride on, a stride back, a wide one on, a wide one back. A level stands at the node that it leads on from
  abbrev pub joins : ℕ → List (ℕ × M)
  joins u =
      (turn n near u, slice_index_or nears u void) ∷ (turn n (n - near) u, slice_index_or nears (turn n (n - near) u) void)
      ∷ (turn n wide u, slice_index_or wides u void) ∷ (turn n (n - wide) u, slice_index_or wides (turn n (n - wide) u) void) ∷ []

  -- the crossings of a node
  abbrev pub ring_crossings : ℕ → List (ℕ × M)
  ring_crossings u = cond (whole n near wide u) (joins u) []

  -- the first so many nodes drain
  abbrev pub ring_drain : ℕ → ℕ → Option M
  ring_drain outlets u = cond (nat_lt u n) (cond (nat_lt u outlets) (Some (slice_index_or nears u void)) None) None
