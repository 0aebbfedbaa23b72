-- Flooding the cells of a sheet. Assumes nothing.
use Rattle.std.specs.Prelude.{◌≡◌, ℕ, ◌*◌, ◌<◌, ◌≤◌, Bool, cond, not, ◌&&◌, List, [], ◌∷◌, drop, Some, None, Ok, Err, Option, Result, ◌==◌, slice_index_or}
use Rattle.marks.specs.declared.refusal.Refusal.{Refusal}
use Rattle.marks.specs.Refusals.{Told, checked}
use Rattle.sheets.specs.Layouts.{flat, bad_sides}
use Rattle.flood.specs.Calls.{short}
use Rattle.sheets.specs.declared.copies.Place.{Place}
use Rattle.terrain.specs.Cells.{OnEdge, place_of, count_below}
use Rattle.terrain.specs.Terrains.{Kind, sheet_terrain}
use Rattle.terrain.specs.Ways.{Walk, last, worst, IsSill}

-- each cell's level is its sill
abbrev pub LevelsAreSills : {M : Type 0} → Kind M → ℕ → ℕ → List M → List (Option M) → Type 0
LevelsAreSills {M} κ rows cols marks levels = (u : ℕ) → u < rows * cols → (m : M) × (slice_index_or levels u None ≡ Some m) × IsSill (sheet_terrain κ (flat rows cols marks)) (place_of cols u) m

-- what flooding the cells tells
abbrev pub levels_told : {M X : Type 0} → ℕ → ℕ → ℕ → List (Option M) → List (Option ℕ) → List X → Told (Unit {0})
levels_told rows cols len ls os hs = checked ((bad_sides rows cols, 1) ∷ (not (len == rows * cols), 4) ∷ (short (rows * cols) ls os hs, 5) ∷ []) tt

-- what it leaves: accepted, the levels are the sills, and behind the cells stands what stood there; refused, all is as it was
abbrev pub LevelsLeft : {M X : Type 0} → Kind M → ℕ → ℕ → List M → List (Option M) → List (Option M) → List (Option ℕ) → List (Option ℕ) → List X → List X → Result (Unit {0}) Refusal → Type 0
LevelsLeft κ rows cols marks ls₀ ls os₀ os hs₀ hs (Ok u) = LevelsAreSills κ rows cols marks ls × (drop (rows * cols) ls ≡ drop (rows * cols) ls₀) × (drop (rows * cols) os ≡ drop (rows * cols) os₀)
LevelsLeft κ rows cols marks ls₀ ls os₀ os hs₀ hs (Err e) = (ls ≡ ls₀) × (os ≡ os₀) × (hs ≡ hs₀)

-- the cell e is an origin of the cell u at the level l: it lies on the edge, a walk from u ends in it of which the worst mark
-- is l, and it is u itself if u lies on the edge
pub record IsOrigin {M : Type 0} (κ : Kind M) (rows cols : ℕ) (marks : List M) (u : ℕ) (l : M) (e : ℕ) : Type 0 where
  pub inside : e < rows * cols
  pub edge : OnEdge rows cols (place_of cols e)
  pub walk : (ds : List Place) × Walk (sheet_terrain κ (flat rows cols marks)) (place_of cols u) ds × (last (place_of cols u) ds ≡ place_of cols e) × (worst (sheet_terrain κ (flat rows cols marks)) (place_of cols u) ds ≡ l)
  pub own : OnEdge rows cols (place_of cols u) → e ≡ u

-- each cell has an origin at its level
abbrev pub HaveOrigins : {M : Type 0} → Kind M → ℕ → ℕ → List M → List (Option M) → List (Option ℕ) → Type 0
HaveOrigins {M} κ rows cols marks levels origins = (u : ℕ) → u < rows * cols → (m : M) × (e : ℕ) × (slice_index_or levels u None ≡ Some m) × (slice_index_or origins u None ≡ Some e) × IsOrigin κ rows cols marks u m e

-- an accepted flood of the cells leaves each cell an origin at its level
abbrev pub OriginsLeft : {M : Type 0} → Kind M → ℕ → ℕ → List M → List (Option M) → List (Option ℕ) → Result (Unit {0}) Refusal → Type 0
OriginsLeft κ rows cols marks ls os (Ok u) = HaveOrigins κ rows cols marks ls os
OriginsLeft κ rows cols marks ls os (Err e) = Unit {0}

-- a cell's new mark: void stays, and any other cell gets its level
abbrev pub new_mark : {M : Type 0} → Kind M → M → Option M → M
new_mark κ m None = m
new_mark κ m (Some l) = cond (κ.leb m κ.void) m l

-- the new mark is above a mark that is not void
abbrev pub rises : {M : Type 0} → Kind M → M → Option M → Bool
rises κ m l = not (κ.leb m κ.void) && not (κ.leb (new_mark κ m l) m)

-- the first n marks of a list have their new marks, and the others are as they were
abbrev pub Raised : {M : Type 0} → Kind M → List M → List M → List (Option M) → ℕ → Type 0
Raised {M} κ before after levels n =
    ((k : ℕ) (d : M) → k < n → slice_index_or after k d ≡ new_mark κ (slice_index_or before k d) (slice_index_or levels k None)) × ((k : ℕ) (d : M) → n ≤ k → slice_index_or after k d ≡ slice_index_or before k d)

-- how many of the first n marks rise
abbrev pub risen : {M : Type 0} → Kind M → List M → List (Option M) → ℕ → ℕ
risen κ marks levels n = count_below (λ k. rises κ (slice_index_or marks k κ.void) (slice_index_or levels k None)) n
