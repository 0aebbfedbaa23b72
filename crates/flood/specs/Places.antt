-- Where the nodes of entries stand. Assumes nothing.
use Rattle.std.specs.Prelude.{◌≡◌, ℕ, ◌<◌, ◌≤◌, ◌⊎◌, List, length, drop, Some, None, count_by, Option, ◌≢◌, nat_eq, slice_index_or}
use Rattle.std.specs.List.{AllByRecursion, slice_get}
use Rattle.flood.specs.Orders.{Above}
use Rattle.flood.specs.declared.entry.Entry.{Entry}

-- how many entries are of the node v
abbrev pub times : {M : Type 0} → ℕ → List (Entry M) → ℕ
times v q = count_by (λ x. nat_eq x.node v) q

-- the place of each entry stands at its node
abbrev pub Placed : {M : Type 0} → List (Option ℕ) → List (Entry M) → Type 0
Placed {M} os q = (k : ℕ) (x : Entry M) → slice_get q k ≡ Some x → slice_index_or os x.node None ≡ Some k

-- the same but for the places from foot up to head
abbrev pub HalfPlaced : {M : Type 0} → List (Option ℕ) → List (Entry M) → ℕ → ℕ → Type 0
HalfPlaced {M} os q foot head = (k : ℕ) (x : Entry M) → slice_get q k ≡ Some x → (slice_index_or os x.node None ≡ Some k) ⊎ (Above foot k × (head ≤ k))

-- the place k has been noted: an entry there has it in its slot, and those of other nodes hold what they held
abbrev pub Noted : {M : Type 0} → List (Option ℕ) → List (Entry M) → ℕ → List (Option ℕ) → Type 0
Noted {M} os q k os' =
    ((x : Entry M) → slice_get q k ≡ Some x → slice_index_or os' x.node None ≡ Some k)
    × ((i : ℕ) (y : Entry M) → slice_get q i ≡ Some y → (i ≢ k) → slice_index_or os' y.node None ≡ slice_index_or os y.node None)

-- each node waits once at most, and its slot exists
pub record Single {M : Type 0} (os : List (Option ℕ)) (q : List (Entry M)) : Type 0 where
  pub within : (k : ℕ) (x : Entry M) → slice_get q k ≡ Some x → x.node < length os
  pub once : (v : ℕ) → times v q ≤ 1

-- the slots of nodes that do not wait in q hold what they held, and so do those past all nodes that do
pub record Kept {M : Type 0} (os os' : List (Option ℕ)) (q : List (Entry M)) : Type 0 where
  pub same : (v : ℕ) → times v q ≡ 0 → slice_index_or os' v None ≡ slice_index_or os v None
  pub rest : (n : ℕ) → AllByRecursion (λ x. x.node < n) q → drop n os' ≡ drop n os
  pub long : length os' ≡ length os
