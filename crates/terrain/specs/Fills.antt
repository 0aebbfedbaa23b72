-- Filling a whole sheet at once. Assumes nothing.
use Rattle.std.specs.Prelude.{◌≡◌, ℕ, ◌*◌, Bool, false, not, ◌&&◌, ◌||◌, [], ◌∷◌, length, Ok, Err, Result, ◌==◌, ◌≢◌, nat_lt}
use Rattle.marks.specs.declared.refusal.Refusal.{Refusal}
use Rattle.marks.specs.Refusals.{Told, checked, number}
use Rattle.sheets.specs.declared.copies.Place.{Place}
use Rattle.sheets.specs.Copies.{broken_rows}
use Rattle.sheets.specs.Grids.{Cell, mark, dead, Grid}
use Rattle.flood.specs.Calls.{short}
use Rattle.terrain.specs.declared.scratch.Scratch.{Scratch}
use Rattle.terrain.specs.Cells.{place, InSheet, place_of, count_below}
use Rattle.terrain.specs.Ways.{IsSill}
use Rattle.terrain.specs.Filled.{Filled}
use Rattle.terrain.specs.Terrains.{Kind, cell_at, sheet_terrain}

-- two sheets have different sides
abbrev pub other_sides : {M : Type 0} → Grid M → Grid M → Bool
other_sides g h = not (g.rows == h.rows && g.cols == h.cols)

-- how many cells a sheet has
abbrev pub size : {M : Type 0} → Grid M → ℕ
size g = g.rows * g.cols

-- some cell of a sheet is dead
abbrev pub dead_in : {M : Type 0} → Grid M → Bool
dead_in g = broken_rows g (place 0 0) g.cols g.rows

-- one of the slices lent to work in has fewer than n places
abbrev pub scratch_short : {M : Type 0} → ℕ → Scratch M → Bool
scratch_short n s = nat_lt (length s.marks.now) n || short n s.levels.now s.origins.now s.heap.now

-- a cell is raised: it is not void in the first sheet, and its mark is higher in the second
abbrev pub raised_from : {M : Type 0} → Kind M → Cell M → Cell M → Bool
raised_from κ (mark m) (mark n) = not (κ.leb m κ.void) && not (κ.leb n m)
raised_from κ (mark m) dead = false
raised_from κ dead x = false

-- how many cells of a sheet are raised from the first sheet to the second
unfoldable pub raised : {M : Type 0} → Kind M → Grid M → Grid M → ℕ
raised κ g h = count_below (λ u. raised_from κ (cell_at g (place_of g.cols u)) (cell_at h (place_of g.cols u))) (size g)

-- what filling the sheet g into another tells: h' is what the target holds afterwards
abbrev pub fill_told : {M : Type 0} → Kind M → Grid M → Grid M → Grid M → Scratch M → Told ℕ
fill_told κ g h h' s = checked ((other_sides g h, 6) ∷ (scratch_short (size g) s, 5) ∷ (dead_in g, 7) ∷ []) (raised κ g h')

-- a cell of the target is finished: void where the source is void, elsewhere its sill in the source
pub record Finished {M : Type 0} (κ : Kind M) (g h : Grid M) (c : Place) : Type 0 where
  pub voids : cell_at g c ≡ mark κ.void → cell_at h c ≡ mark κ.void
  pub sills : (cell_at g c ≢ mark κ.void) → (m : M) × (cell_at h c ≡ mark m) × IsSill (sheet_terrain κ g) c m

-- the target after filling: its sides are as they were, and each of its cells is finished
pub record FilledSheet {M : Type 0} (κ : Kind M) (g h h' : Grid M) : Type 0 where
  pub rows : h'.rows ≡ h.rows
  pub cols : h'.cols ≡ h.cols
  pub cells : (c : Place) → InSheet g.rows g.cols c → Finished κ g h' c

-- what filling leaves of the target: accepted, filled; refused, what it held
abbrev pub FillLeaves : {M : Type 0} → Kind M → Grid M → Grid M → Grid M → Result ℕ Refusal → Type 0
FillLeaves κ g h h' (Ok n) = FilledSheet κ g h h'
FillLeaves κ g h h' (Err e) = h' ≡ h

-- the same slices are lent afterwards
pub record SameLoans {M : Type 0} (s s' : Scratch M) : Type 0 where
  pub marks : s'.marks.ghost_name ≡ s.marks.ghost_name
  pub levels : s'.levels.ghost_name ≡ s.levels.ghost_name
  pub origins : s'.origins.ghost_name ≡ s.origins.ghost_name
  pub heap : s'.heap.ghost_name ≡ s.heap.ghost_name

-- scratch is free after acceptance and after a refusal for a dead cell, and unchanged after any other
abbrev pub ScratchLeft : {M X : Type 0} → Scratch M → Scratch M → Result X Refusal → Type 0
ScratchLeft s s' (Ok x) = Unit {0}
ScratchLeft s s' (Err e) = (number e ≢ 7) → s' ≡ s

-- The sills of a sheet are its filled surface, and the only one: whatever gives each cell its sill is nowhere below the
-- sheet, from each cell there is a way along which it never climbs, and it is at most every such surface.
abbrev pub SillsFill : {M : Type 0} → Kind M → Grid M → Type 0
SillsFill {M} κ g =
    (s : Place → M) → ((c : Place) → InSheet g.rows g.cols c → IsSill (sheet_terrain κ g) c (s c)) →
    Filled (sheet_terrain κ g) s × ((w : Place → M) → Filled (sheet_terrain κ g) w → (c : Place) → InSheet g.rows g.cols c → w c ≡ s c)
