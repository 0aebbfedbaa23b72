-- Heaps under a test `le`, as lists: the children of the place p are p * 2 + 1 and p * 2 + 2. Assumes nothing.
use Rattle.std.specs.Prelude.{◌≡◌, ℕ, ◌+◌, ◌-◌, ◌*◌, ◌/◌, ◌<◌, ◌≤◌, Bool, true, ◌⊎◌, List, length, take, ◌≢◌, slice_index_or}
use Rattle.std.specs.List.Sorted.{IsPermutation}

-- among the first n, each parent is at most its child
abbrev pub Ordered : {X : Type 0} → (X → X → Bool) → List X → ℕ → Type 0
Ordered {X} le xs n = (p k : ℕ) (d : X) → p * 2 + 1 ≤ k → k ≤ p * 2 + 2 → k < n → le (slice_index_or xs p d) (slice_index_or xs k d) ≡ true

-- the same but for the links of the place j, whose parent is at most its children
abbrev pub Gap : {X : Type 0} → (X → X → Bool) → List X → ℕ → ℕ → Type 0
Gap {X} le xs j n =
    ((p k : ℕ) (d : X) → p * 2 + 1 ≤ k → k ≤ p * 2 + 2 → k < n → (p ≢ j) → (k ≢ j) → le (slice_index_or xs p d) (slice_index_or xs k d) ≡ true)
    × ((p k : ℕ) (d : X) → p * 2 + 1 ≤ j → j ≤ p * 2 + 2 → j * 2 + 1 ≤ k → k ≤ j * 2 + 2 → k < n → le (slice_index_or xs p d) (slice_index_or xs k d) ≡ true)

-- the element at c is at most each child of j
abbrev pub Least : {X : Type 0} → (X → X → Bool) → List X → ℕ → ℕ → ℕ → Type 0
Least {X} le xs j c n = (k : ℕ) (d : X) → j * 2 + 1 ≤ k → k ≤ j * 2 + 2 → k < n → le (slice_index_or xs c d) (slice_index_or xs k d) ≡ true

-- the element at j is at most its parent's children, but may be below its parent
abbrev pub Rising : {X : Type 0} → (X → X → Bool) → List X → ℕ → ℕ → Type 0
Rising le xs j n = Gap le xs j n × Least le xs j j n

-- the element at j is at least its parent, but may be above its children
abbrev pub Sinking : {X : Type 0} → (X → X → Bool) → List X → ℕ → ℕ → Type 0
Sinking {X} le xs j n =
    ((p k : ℕ) (d : X) → p * 2 + 1 ≤ k → k ≤ p * 2 + 2 → k < n → (p ≢ j) → le (slice_index_or xs p d) (slice_index_or xs k d) ≡ true)
    × ((p k : ℕ) (d : X) → p * 2 + 1 ≤ j → j ≤ p * 2 + 2 → j * 2 + 1 ≤ k → k ≤ j * 2 + 2 → k < n → le (slice_index_or xs p d) (slice_index_or xs k d) ≡ true)

-- what `rise` does: the front of each length that holds the place is shuffled, and mended
unfoldable pub Rises : {X : Type 0} → (X → X → Bool) → List X → ℕ → List X → Type 0
Rises le xs j ys = (n : ℕ) → j < n → n ≤ length xs → IsPermutation (take n xs) (take n ys) × (Rising le xs j n → Ordered le ys n)

-- what `sink` does to the first n
unfoldable pub Sinks : {X : Type 0} → (X → X → Bool) → List X → ℕ → List X → Type 0
Sinks le xs n ys = IsPermutation (take n xs) (take n ys) × (Sinking le xs 0 n → Ordered le ys n)

-- the same, shut
unfoldable pub Best : {X : Type 0} → (X → X → Bool) → List X → ℕ → ℕ → ℕ → Type 0
Best le xs j c n = Least le xs j c n

-- Above j k: the place k is j, or its parent, or that one's parent, and so on
pub data Above : ℕ → ℕ → Type 0 where
  stands : {j : ℕ} → Above j j
  climbs : {j k : ℕ} → 0 < j → Above ((j - 1) / 2) k → Above j k

-- what differs between two lists below n stands on the path from the place foot up to the place head
unfoldable pub Moves : {X : Type 0} → List X → List X → ℕ → ℕ → ℕ → Type 0
Moves {X} xs ys n foot head = (k : ℕ) (d : X) → k < n → (slice_index_or ys k d ≡ slice_index_or xs k d) ⊎ (Above foot k × (head ≤ k))
