-- The survey of one tile of a sheet: its flood, and its passes on their way to a tree. Assumes nothing.
use Rattle.std.specs.Prelude.{◌≡◌, ℕ, ◌+◌, ◌*◌, ◌<◌, List, Some, None, Option, slice_index_or}
use Rattle.std.specs.List.{ContainsAt as Has}
use Rattle.marks.specs.Orders.{highest}
use Rattle.sheets.specs.Grids.{Grid}
use Rattle.tiles.specs.Plans.{Plan, height, width, tile_at}
use Rattle.tiles.specs.Mouths.{mouth_index, tile_mouths}
use Rattle.terrain.specs.Blocks.{HoldsBlock}
use Rattle.terrain.specs.Cells.{place, Touches, place_of}
use Rattle.terrain.specs.Levels.{LevelsAreSills, HaveOrigins}
use Rattle.terrain.specs.Terrains.{Kind, sheet_terrain}
use Rattle.seams.specs.Tilings.{Passes}
use Rattle.seams.specs.Joins.{Joining}
use Rattle.seams.specs.Sheets.{tiling_of, TileMouthAt, extent_of, cell_in, number_in, level_in, origin_in}

-- What reading tile t of the sheet g and flooding it alone leave: its marks row by row, the level of each of its cells, and its origin.
pub record TileFlooded {M : Type 0} (κ : Kind M) (g : Grid M) (p : Plan) (t : ℕ) (marks : List M) (levels : List (Option M)) (origins : List (Option ℕ)) : Type 0 where
  pub read : HoldsBlock g (place (tile_at p t).top (tile_at p t).left) (extent_of (tile_at p t)) marks
  pub sills : LevelsAreSills κ (height (tile_at p t)) (width (tile_at p t)) marks levels
  pub from : HaveOrigins κ (height (tile_at p t)) (width (tile_at p t)) marks levels origins

-- How many cells tile t has.
abbrev pub tile_cells : Plan → ℕ → ℕ
tile_cells p t = height (tile_at p t) * width (tile_at p t)

-- The cells of the numbers u and v of tile t touch.
pub record TouchIn (p : Plan) (t u v : ℕ) : Type 0 where
  pub from : u < tile_cells p t
  pub to : v < tile_cells p t
  pub touch : Touches (place_of (width (tile_at p t)) u) (place_of (width (tile_at p t)) v)

-- The origin of the cell u of tile t is its x-th mouth.
pub record OriginAt (p : Plan) (t : ℕ) (origins : List (Option ℕ)) (u x : ℕ) : Type 0 where
  pub cell : ℕ
  pub is : slice_index_or origins u None ≡ Some cell
  pub mouth : mouth_index (tile_at p t) (cell_in (tile_at p t) cell).row (cell_in (tile_at p t) cell).col ≡ Some x

-- l is the higher of the levels of the cells u and v.
pub record HigherOf {M : Type 0} (κ : Kind M) (levels : List (Option M)) (u v : ℕ) (l : M) : Type 0 where
  pub one : M
  pub other : M
  pub at_u : slice_index_or levels u None ≡ Some one
  pub at_v : slice_index_or levels v None ≡ Some other
  pub higher : highest κ.leb one other ≡ l

-- Tile t on its way to a tree: what holds of the labels of its mouths and of the passes kept, both counted from 0 in the tile, once the pairs of
-- touching cells that are `Taken`, by their numbers in the tile, were taken up by rising levels.
abbrev pub Surveying : {M : Type 0} → Kind M → Grid M → Plan → ℕ → List (Option M) → List (Option ℕ) → List ℕ → List (ℕ × ℕ × M) → (ℕ → ℕ → Type 0) → Type 0
Surveying κ g p t levels origins labels passes Taken =
    Joining (sheet_terrain κ g) (tiling_of p) t (tile_mouths p t) (TileMouthAt p t) (origin_in (tile_at p t) origins) (level_in κ (tile_at p t) levels) labels passes
    (λ c d. Taken (number_in (tile_at p t) c) (number_in (tile_at p t) d))

-- The passes of a list, each end so many further on: from the numbers of mouths in a tile to those in the sheet.
abbrev pub Further : {M : Type 0} → ℕ → List (ℕ × ℕ × M) → Passes M ℕ
Further base passes a b l = (x : ℕ) × (y : ℕ) × (a ≡ base + x) × (b ≡ base + y) × Has passes (x, y, l)
