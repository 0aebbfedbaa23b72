-- What holds while a flood goes on. Assumes nothing.
use Rattle.std.specs.Prelude.{◌≡◌, ℕ, ◌+◌, ◌<◌, ◌≤◌, Bool, true, false, not, ◌⊎◌, List, take, is_some, Some, None, count_by, Option, ◌≢◌, slice_index_or}
use Rattle.std.specs.List.{AllByRecursion, slice_get}
use Rattle.marks.specs.Orders.{highest}
use Rattle.flood.specs.Grounds.{Graph, Drains}
use Rattle.flood.specs.Places.{times}
use Rattle.flood.specs.declared.entry.Entry.{Entry}

-- how many nodes below n have no level
abbrev pub missing : {M : Type 0} → ℕ → List (Option M) → ℕ
missing n ls = count_by (λ l. not (is_some l)) (take n ls)

-- v has a level that is at most c
abbrev pub Met : {M : Type 0} → Graph M → List (Option M) → ℕ → M → Type 0
Met {M} g ls v c = (a : M) × (slice_index_or ls v None ≡ Some a) × (g.leb a c ≡ true)

-- each crossing of v has passed on v's level k
abbrev pub Passed : {M : Type 0} → Graph M → List (Option M) → ℕ → M → Type 0
Passed {M} g ls v k = (i far : ℕ) (w : M) → slice_get (g.crossings v) i ≡ Some (far, w) → Met g ls far (highest g.leb w k)

-- v is reached at the level l from e: by some route, and not above v's own drain, from which e is v
abbrev pub Reached : {M : Type 0} → Graph M → ℕ → M → ℕ → Type 0
Reached {M} g v l e = Drains g v e l × ((d : M) → g.drain v ≡ Some d → (g.leb l d ≡ true) × (d ≡ l → e ≡ v))

-- what a node that does not wait holds: where it is reached from, or nothing, and then it has no drain
abbrev pub Cell : {M : Type 0} → Graph M → ℕ → Option M → Option ℕ → Type 0
Cell g v (Some l) (Some e) = Reached g v l e
Cell g v (Some l) None = ⊥
Cell g v None (Some e) = ⊥
Cell {M} g v None None = (d : M) → g.drain v ≢ Some d

-- an entry is of a node, which has the entry's level, and is reached at it from the entry's origin
abbrev pub Waits : {M : Type 0} → Graph M → List (Option M) → Entry M → Type 0
Waits g ls x = (x.node < g.nodes) × (slice_index_or ls x.node None ≡ Some x.level) × Reached g x.node x.level x.origin

-- between two turns: a node with a level waits, or has passed its level on
pub record Going {M : Type 0} (g : Graph M) (ls : List (Option M)) (os : List (Option ℕ)) (q : List (Entry M)) : Type 0 where
  pub cells : (v : ℕ) → v < g.nodes → times v q ≡ 0 → Cell g v (slice_index_or ls v None) (slice_index_or os v None)
  pub waiting : AllByRecursion (Waits g ls) q
  pub once : (v : ℕ) → times v q ≤ 1
  pub settled : (v : ℕ) (k : M) → v < g.nodes → slice_index_or ls v None ≡ Some k → (times v q ≡ 1) ⊎ (AllByRecursion (λ x. g.leb k x.level ≡ true) q × Passed g ls v k)

-- in the turn of the node of x, which has passed its level on at its first j crossings
pub record Spreading {M : Type 0} (g : Graph M) (x : Entry M) (j : ℕ) (ls : List (Option M)) (os : List (Option ℕ)) (q : List (Entry M)) : Type 0 where
  pub source : Waits g ls x
  pub cells : (v : ℕ) → v < g.nodes → times v q ≡ 0 → Cell g v (slice_index_or ls v None) (slice_index_or os v None)
  pub waiting : AllByRecursion (Waits g ls) q
  pub above : AllByRecursion (λ y. g.leb x.level y.level ≡ true) q
  pub once : (v : ℕ) → times v q ≤ 1
  pub others : (v : ℕ) (k : M) → v < g.nodes → slice_index_or ls v None ≡ Some k → (v ≢ x.node) → (times v q ≡ 1) ⊎ ((g.leb k x.level ≡ true) × Passed g ls v k)
  pub passed : (i v : ℕ) (w : M) → i < j → slice_get (g.crossings x.node) i ≡ Some (v, w) → Met g ls v (highest g.leb w x.level)

-- at the start, with the nodes below i looked at: each that drains waits
pub record Filling {M : Type 0} (g : Graph M) (i : ℕ) (ls : List (Option M)) (os : List (Option ℕ)) (q : List (Entry M)) : Type 0 where
  pub cells : (v : ℕ) → v < i → times v q ≡ 0 → Cell g v (slice_index_or ls v None) (slice_index_or os v None)
  pub waiting : AllByRecursion (λ x. (x.node < i) × (slice_index_or ls x.node None ≡ Some x.level) × Reached g x.node x.level x.origin) q
  pub once : (v : ℕ) → times v q ≤ 1
  pub queued : (v : ℕ) (k : M) → v < i → slice_index_or ls v None ≡ Some k → times v q ≡ 1

-- the crossings passed, after one was tried at j
abbrev pub onward : Bool → ℕ → ℕ
onward true j = j + 1
onward false j = j
