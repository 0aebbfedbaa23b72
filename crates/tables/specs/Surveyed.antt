-- What the tables hold of a tile that was surveyed, and of the mouths of a settled round. Assumes nothing.
use Rattle.std.specs.Prelude.{◌≡◌, ℕ, ◌+◌, ◌-◌, ◌<◌, ◌≤◌, List, length, Some, None}
use Rattle.std.specs.List.{slice_get}
use Rattle.sheets.specs.declared.copies.Place.{Place}
use Rattle.sheets.specs.Grids.{Grid, mark}
use Rattle.terrain.specs.Terrains.{Kind, cell_at, sheet_terrain}
use Rattle.terrain.specs.Ways.{IsSill}
use Rattle.tiles.specs.Plans.{Plan}
use Rattle.tiles.specs.Mouths.{pass_base, tile_mouths}
use Rattle.seams.specs.Sheets.{MouthOf, MouthAt, SheetTree}
use Rattle.seams.specs.Tilings.{Passes}
use Rattle.tables.specs.declared.records.PassRecord.{PassRecord}
use Rattle.tables.specs.Records.{Tables, mouth_with}

-- k is the place of a pass of tile t: it has one fewer than mouths
abbrev pub PassOf : Plan → ℕ → ℕ → Type 0
PassOf p t k = (pass_base p t ≤ k) × (k < pass_base p t + (tile_mouths p t - 1))

-- the passes of tile t that stand in a table
abbrev pub PassIn : {M : Type 0} → Plan → ℕ → List (PassRecord M) → Passes M ℕ
PassIn p t ps a b l = (k : ℕ) × PassOf p t k × (slice_get ps k ≡ Some (record { from = a; to = b; level = l }))

-- The records of tile t are those of a survey of the sheet g: each mouth's has its mark and no sill (`marks`), each pass's is between two of its
-- mouths (`ends`), and the passes are a tree: any two mouths are joined by them, and the least highest level over chains of passes between two
-- mouths is the least worst mark over walks inside the tile between them.
pub record Recorded {M : Type 0} (κ : Kind M) (g : Grid M) (p : Plan) (t : ℕ) (w : Tables M) : Type 0 where
  pub marks : (b : ℕ) (c : Place) → MouthOf p t b → MouthAt p b c → (m : M) × (cell_at g c ≡ mark m) × (slice_get w.mouths b ≡ Some (mouth_with m None))
  pub ends : (k : ℕ) → PassOf p t k → (q : PassRecord M) × (slice_get w.passes k ≡ Some q) × MouthOf p t q.from × MouthOf p t q.to
  pub tree : SheetTree κ g p t (PassIn p t w.passes)

-- all records but those of tile t, also behind those of the sheet, are as they were
pub record SameElsewhere {M : Type 0} (p : Plan) (t : ℕ) (w w' : Tables M) : Type 0 where
  pub mouths : (b : ℕ) → (MouthOf p t b → ⊥) → slice_get w'.mouths b ≡ slice_get w.mouths b
  pub passes : (k : ℕ) → (PassOf p t k → ⊥) → slice_get w'.passes k ≡ slice_get w.passes k
  pub all_mouths : length w'.mouths ≡ length w.mouths
  pub all_passes : length w'.passes ≡ length w.passes

-- each mouth's record has its cell's mark, and its sill in the sheet g
abbrev pub HaveSills : {M : Type 0} → Kind M → Grid M → Plan → Tables M → Type 0
HaveSills {M} κ g p w = (a : ℕ) (c : Place) → MouthAt p a c → (m : M) × (s : M) × (cell_at g c ≡ mark m) × (slice_get w.mouths a ≡ Some (mouth_with m (Some s))) × IsSill (sheet_terrain κ g) c s
