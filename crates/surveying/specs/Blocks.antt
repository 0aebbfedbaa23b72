-- Reading and flooding an area of a sheet, and keeping the marks of its mouths. Assumes nothing.
use Rattle.std.specs.Prelude.{◌≡◌, ℕ, ◌+◌, ◌-◌, ◌*◌, ◌<◌, ◌≤◌, Bool, ◌⊎◌, List, length, Some, None, Ok, Err, Option, Result, slice_index_or}
use Rattle.std.specs.List.{slice_get}
use Rattle.marks.specs.declared.refusal.Refusal.{Refusal}
use Rattle.sheets.specs.Copies.{broken_rows}
use Rattle.sheets.specs.Grids.{Grid}
use Rattle.terrain.specs.Blocks.{HoldsBlock}
use Rattle.terrain.specs.Cells.{place}
use Rattle.terrain.specs.Levels.{LevelsAreSills, HaveOrigins}
use Rattle.terrain.specs.Terrains.{Kind}
use Rattle.tiles.specs.Plans.{Area, height, width}
use Rattle.tiles.specs.Mouths.{mouth_index}
use Rattle.tables.specs.declared.records.MouthRecord.{MouthRecord}
use Rattle.tables.specs.Records.{mouth_with}
use Rattle.seams.specs.Sheets.{extent_of}

-- some cell of the area is dead
abbrev pub dead_in : {M : Type 0} → Grid M → Area → Bool
dead_in g a = broken_rows g (place a.top a.left) (width a) (height a)

-- the area lies on the sheet
pub record Inside {M : Type 0} (g : Grid M) (a : Area) : Type 0 where
  pub rows : a.bottom ≤ g.rows
  pub cols : a.right ≤ g.cols

-- what reading an area and flooding it leave, where they are accepted: its marks row by row, the levels of its cells, and their origins
abbrev pub BlockFlooded : {M : Type 0} → Kind M → Grid M → Area → List M → List (Option M) → List (Option ℕ) → Result (Unit {0}) Refusal → Type 0
BlockFlooded κ g a marks levels origins (Ok u) =
    HoldsBlock g (place a.top a.left) (extent_of a) marks
    × LevelsAreSills κ (height a) (width a) marks levels × HaveOrigins κ (height a) (width a) marks levels origins
BlockFlooded κ g a marks levels origins (Err e) = Unit {0}

-- the number in the area of the cell in row i and column j of the sheet
abbrev pub cell_number : Area → ℕ → ℕ → ℕ
cell_number a i j = (i - a.top) * width a + (j - a.left)

-- The records of the first n mouths of the area, from the place `first` of a table on, have their marks and no sill; the others are as they were.
pub record MarksKept {M : Type 0} (κ : Kind M) (a : Area) (marks : List M) (first n : ℕ) (ms ms' : List (MouthRecord M)) : Type 0 where
  pub new : (k i j : ℕ) → k < n → mouth_index a i j ≡ Some k → slice_get ms' (first + k) ≡ Some (mouth_with (slice_index_or marks (cell_number a i j) κ.void) None)
  pub rest : (b : ℕ) → (b < first) ⊎ (first + n ≤ b) → slice_get ms' b ≡ slice_get ms b
  pub long : length ms' ≡ length ms
