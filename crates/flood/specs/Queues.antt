-- What the contracts of `Queue` cite. Assumes nothing.
use Rattle.std.specs.Prelude.{◌≡◌, ℕ, ◌+◌, true, Bool, List, ◌∷◌, length, Some, None, Option, slice_set}
use Rattle.std.specs.List.Sorted.{IsPermutation}
use Rattle.std.specs.List.{AllByRecursion, slice_get}
use Rattle.flood.specs.Heaps.{contents, room}
use Rattle.flood.specs.Places.{Kept}
use Rattle.flood.specs.declared.entry.Entry.{Entry}
use Rattle.flood.specs.declared.queue.Queue.{Queue}

module _ {M : Type 0} {m : _} {o : _} {e : _} where
  -- the entries that wait
  abbrev pub waiting : Queue M m o e → List (Entry M)
  waiting s = contents s.heap.now

  -- one entry more waits
  pub record Joined (s : Queue M m o e) (x : Entry M) (s' : Queue M m o e) : Type 0 where
    pub entries : IsPermutation (x ∷ waiting s) (waiting s')
    pub more : s'.heap.now.len ≡ s.heap.now.len + 1
    pub room : room s'.heap.now ≡ room s.heap.now
    pub kept : Kept s.origins.now s'.origins.now (waiting s')

  -- a lowest entry has left, and its origin stands at its node; or there was none
  abbrev pub Left : (M → M → Bool) → Queue M m o e → Option (Entry M) → Queue M m o e → Type 0
  Left leb s None s' = (length (waiting s) ≡ 0) × (s'.heap.now ≡ s.heap.now) × (s'.origins ≡ s.origins) × (s'.placed ≡ s.placed)
  Left leb s (Some x) s' =
      IsPermutation (waiting s) (x ∷ waiting s') × AllByRecursion (λ y. leb x.level y.level ≡ true) (waiting s)
      × (s.heap.now.len ≡ s'.heap.now.len + 1) × (room s'.heap.now ≡ room s.heap.now)
      × Kept (slice_set s.origins.now x.node (Some x.origin)) s'.origins.now (waiting s')

  -- x stands where an entry of its node stood
  pub record Replaced (s : Queue M m o e) (x : Entry M) (s' : Queue M m o e) : Type 0 where
    pub place : ℕ
    pub old : Entry M
    pub stood : slice_get (waiting s) place ≡ Some old
    pub node : old.node ≡ x.node
    pub entries : IsPermutation (slice_set (waiting s) place x) (waiting s')
    pub equal : s'.heap.now.len ≡ s.heap.now.len
    pub room : room s'.heap.now ≡ room s.heap.now
    pub kept : Kept s.origins.now s'.origins.now (waiting s')
