-- A test that the checker computes: whether given marks are the sills of a sheet. Assumes nothing.
use Rattle.std.proofs.Common.{ℕ, zero, suc, ◌+◌, ◌*◌, ◌/◌, ◌%◌, Bool, true, cond, not, ◌&&◌, ◌||◌, eqb, ltb, leb, List, length, get_or}
use Rattle.marks.specs.Orders.{highest}
use Rattle.sheets.specs.Grids.{at_edge}
use Rattle.terrain.specs.Terrains.{Kind}

-- a test passes of every number below n
abbrev pub every : (ℕ → Bool) → ℕ → Bool
every p zero = true
every p (suc n) = p n && every p n

-- two numbers differ by at most 1
abbrev pub beside : ℕ → ℕ → Bool
beside a b = leb a (b + 1) && leb b (a + 1)

-- Of a sheet whose marks lie in a list: `sills` are named as the sills, and `next` as the next cell on a way out from each.
module _ {M : Type 0} (κ : Kind M) (rows cols : ℕ) (marks sills : List M) (next : List ℕ) where
  abbrev pub mark_at : ℕ → M
  mark_at u = get_or marks u κ.void

  abbrev pub sill_at : ℕ → M
  sill_at u = get_or sills u κ.void

  -- two marks are each at most the other
  abbrev pub same : M → M → Bool
  same a b = κ.leb a b && κ.leb b a

  abbrev pub edge : ℕ → Bool
  edge u = at_edge rows cols (u / cols) (u % cols)

  abbrev pub touch : ℕ → ℕ → Bool
  touch u v = (beside (u / cols) (v / cols) && beside (u % cols) (v % cols)) && not (eqb u v)

  -- on the edge no sill is above its cell, and from a cell to one that touches it no sill is above both that cell's sill and its own mark: no way is
  -- lower than named
  abbrev pub closed_at : ℕ → Bool
  closed_at u = (not (edge u) || κ.leb (sill_at u) (mark_at u)) && every (λ v. not (touch u v) || κ.leb (sill_at u) (highest κ.leb (mark_at u) (sill_at v))) (rows * cols)

  -- from the cell u the named way leads out within k steps, and nothing on it is above t
  abbrev pub leads : ℕ → M → ℕ → Bool
  leads zero t u = κ.leb (mark_at u) t && edge u
  leads (suc k) t u = κ.leb (mark_at u) t && (edge u || ((touch u (get_or next u u) && ltb (get_or next u u) (rows * cols)) && leads k t (get_or next u u)))

  -- what is named as the filled sheet has the void where the sheet has it, and elsewhere the sill
  abbrev pub filled_at : List M → ℕ → Bool
  filled_at finished u = same (get_or finished u κ.void) (cond (κ.leb (mark_at u) κ.void) κ.void (sill_at u))

  -- all of every cell
  abbrev pub passes : List M → Bool
  passes finished =
      (leb (rows * cols) (length marks) && leb (rows * cols) (length finished))
      && every (λ u. closed_at u && (leads (rows * cols) (sill_at u) u && filled_at finished u)) (rows * cols)
