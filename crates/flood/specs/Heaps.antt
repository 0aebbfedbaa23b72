-- What the contracts of `Heap` cite. Assumes nothing.
use Rattle.std.specs.Prelude.{◌≡◌, ℕ, ◌+◌, ◌<◌, ◌≤◌, Bool, true, not, ◌⊎◌, List, ◌∷◌, length, take, Some, None, Ok, Err, Option, Result, nat_le, slice_set}
use Rattle.std.specs.List.Sorted.{IsPermutation}
use Rattle.std.specs.List.{AllByRecursion, slice_get}
use Rattle.flood.specs.Orders.{Above}
use Rattle.flood.specs.declared.heap.Heap.{Heap}

-- x may not stand in the place of what a look there answers
abbrev pub above : {X : Type 0} → (X → X → Bool) → X → Option X → Bool
above le x None = true
above le x (Some y) = not (le x y)

module _ {X : Type 0} {m : _} where
  -- what the heap holds, in the order of its places
  abbrev pub contents : Heap X m → List X
  contents h = take h.len h.slots.now

  -- how many it can hold
  abbrev pub room : Heap X m → ℕ
  room h = length h.slots.now

  -- it holds as many as it can
  abbrev pub full : Heap X m → Bool
  full h = nat_le (room h) (length (contents h))

  -- an element of h' stands where it stood in h, or on the path of h'
  abbrev pub Traced : Heap X m → Heap X m → Type 0
  Traced h h' = (k : ℕ) → k < length (contents h') → (slice_get (contents h') k ≡ slice_get (contents h) k) ⊎ (Above h'.path.foot k × (h'.path.head ≤ k))

  -- what `put` leaves: one element more, or after a refusal the same heap
  abbrev pub Put : {F : Type 0} → Heap X m → X → Result Unit F → Heap X m → Type 0
  Put h x (Ok u) h' = IsPermutation (x ∷ contents h) (contents h') × (h'.len ≡ h.len + 1) × (room h' ≡ room h) × Traced h h'
  Put h x (Err e) h' = h' ≡ h

  -- what `take` answers and leaves: one element less, and none exactly where there is none
  abbrev pub Taken : Heap X m → Option X → Heap X m → Type 0
  Taken h None h' = (length (contents h) ≡ 0) × (h' ≡ h)
  Taken h (Some x) h' = IsPermutation (contents h) (x ∷ contents h') × (length (contents h) ≡ h'.len + 1) × (room h' ≡ room h) × Traced h h'

  -- what was taken is at most each element
  abbrev pub LeastOf : (X → X → Bool) → Heap X m → Option X → Type 0
  LeastOf le h None = Unit {0}
  LeastOf le h (Some x) = AllByRecursion (λ y. le x y ≡ true) (contents h)

  -- what `lower` leaves: x in the place of another element, or after a refusal the same heap
  abbrev pub Lowered : {F : Type 0} → Heap X m → ℕ → X → Result Unit F → Heap X m → Type 0
  Lowered h i x (Ok u) h' = IsPermutation (slice_set (contents h) i x) (contents h') × (h'.len ≡ h.len) × (room h' ≡ room h) × Traced h h'
  Lowered h i x (Err e) h' = h' ≡ h
