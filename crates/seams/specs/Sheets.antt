-- A sheet cut by a plan: its tiling, the numbers of its mouths, and its tiles alone. Assumes nothing.
use Rattle.std.specs.Prelude.{◌≡◌, ℕ, ◌+◌, ◌-◌, ◌<◌, ◌≤◌, true, List, Some, None, Option, slice_index_or}
use Rattle.sheets.specs.declared.copies.Place.{Place}
use Rattle.sheets.specs.declared.copies.Extent.{Extent}
use Rattle.sheets.specs.Grids.{Grid}
use Rattle.tiles.specs.Plans.{Plan, Area, height, width, tile_of}
use Rattle.tiles.specs.Mouths.{is_mouth, mouth_number, mouth_base, tile_mouths}
use Rattle.terrain.specs.Cells.{place, node_of, place_of}
use Rattle.terrain.specs.Terrains.{Kind, sheet_terrain}
use Rattle.seams.specs.Tilings.{Tiling, Passes}
use Rattle.seams.specs.Trees.{TreeOf}

-- The plan cuts a sheet of its own sides.
pub record Cuts {M : Type 0} (p : Plan) (g : Grid M) : Type 0 where
  pub rows : g.rows ≡ p.rows
  pub cols : g.cols ≡ p.cols

-- The tiling of a cut sheet: each cell's tile, and the cells on the border of their tile for mouths.
abbrev pub tiling_of : Plan → Tiling Place
tiling_of p = record { tile = λ c. tile_of p c.row c.col; Mouth = λ c. is_mouth p c.row c.col ≡ true }

-- a is the number of a mouth of tile t.
abbrev pub MouthOf : Plan → ℕ → ℕ → Type 0
MouthOf p t a = (mouth_base p t ≤ a) × (a < mouth_base p (t + 1))

-- The mouth of the number a is the cell c.
abbrev pub MouthAt : Plan → ℕ → Place → Type 0
MouthAt p a c = mouth_number p c.row c.col ≡ Some a

-- The x-th mouth of tile t, counted from 0, is the cell c.
abbrev pub TileMouthAt : Plan → ℕ → ℕ → Place → Type 0
TileMouthAt p t x c = MouthAt p (mouth_base p t + x) c

-- x counts a mouth of tile t.
abbrev pub TileMouth : Plan → ℕ → ℕ → Type 0
TileMouth p t x = x < tile_mouths p t

-- The passes P, between numbers of mouths, are a tree of tile t of the sheet g.
abbrev pub SheetTree : {M : Type 0} → Kind M → Grid M → Plan → ℕ → Passes M ℕ → Type 0
SheetTree κ g p t P = TreeOf (sheet_terrain κ g) (tiling_of p) t (MouthOf p t) (MouthAt p) P

-- A cell of an area, counted from the area's corner, as a cell of the sheet.
abbrev pub from_corner : Area → Place → Place
from_corner a c = place (a.top + c.row) (a.left + c.col)

-- A cell of the sheet, counted from an area's corner.
abbrev pub to_corner : Area → Place → Place
to_corner a c = place (c.row - a.top) (c.col - a.left)

-- How many rows and columns an area has.
abbrev pub extent_of : Area → Extent
extent_of a = record { height = height a; width = width a }

-- The value that is there, or another.
abbrev pub value_or : {A : Type 0} → A → Option A → A
value_or d None = d
value_or d (Some x) = x

-- The cell of the number u of an area, in reading order from its corner.
abbrev pub cell_in : Area → ℕ → Place
cell_in a u = from_corner a (place_of (width a) u)

-- The number of a cell in an area.
abbrev pub number_in : Area → Place → ℕ
number_in a c = node_of (width a) (to_corner a c)

-- The level of a cell of an area, in a list of the levels of its cells.
abbrev pub level_in : {M : Type 0} → Kind M → Area → List (Option M) → Place → M
level_in κ a levels c = value_or κ.void (slice_index_or levels (number_in a c) None)

-- The origin of a cell of an area, in a list of the origins of its cells.
abbrev pub origin_in : Area → List (Option ℕ) → Place → Place
origin_in a origins c = cell_in a (value_or 0 (slice_index_or origins (number_in a c) None))
