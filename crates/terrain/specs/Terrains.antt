-- A sheet as a terrain, and what filling it gives. Assumes nothing.
use Rattle.std.specs.Prelude.{Bool}
use Rattle.marks.specs.declared.order.Order as order
use Rattle.sheets.specs.Grids.{Cell, mark, dead, Grid}
use Rattle.terrain.specs.Ways.{Terrain}
use Rattle.sheets.specs.declared.copies.Place.{Place}
use Rattle.terrain.specs.Cells.{Touches, InSheet, OnEdge}

-- a kind of mark: how its marks compare, and its lowest mark, the void
pub record Kind (M : Type 0) : Type 0 where
  pub leb : M → M → Bool
  pub void : M

-- the kind of a type of marks, by its order and its void
abbrev pub kind_of : {M : Type 0} → order.Ghosts M → M → Kind M
kind_of o void = record { leb = o.leb; void = void }

-- what stands in a cell of a sheet
abbrev pub cell_at : {M : Type 0} → Grid M → Place → Cell M
cell_at g c = g.cell c.row c.col

-- the mark of a cell; of a dead one, the mark d
abbrev pub mark_or : {M : Type 0} → M → Cell M → M
mark_or d (mark m) = m
mark_or d dead = d

-- a sheet as a terrain: walks run over all its cells, and ways end on its edge
abbrev pub sheet_terrain : {M : Type 0} → Kind M → Grid M → Terrain M Place
sheet_terrain κ g = record {
  leb = κ.leb;
  mark = λ c. mark_or κ.void (cell_at g c);
  Touch = Touches;
  Open = InSheet g.rows g.cols;
  Outlet = OnEdge g.rows g.cols;
}
