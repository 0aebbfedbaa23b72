-- The ground of a sheet's cells: they are its nodes, in reading order. Assumes nothing.
use Rattle.std.specs.Prelude.{ℕ, ◌*◌, ◌/◌, ◌%◌, min, max, Bool, cond, List, [], map, Some, None, Option, nat_lt, slice_index_or}
use Rattle.marks.specs.Orders.{highest}
use Rattle.sheets.specs.Grids.{at_edge}
use Rattle.flood.specs.Grounds.{Graph, graph}
use Rattle.std.specs.List.{range_with_len}
use Rattle.terrain.specs.Neighbours.{degree, far}

-- the level between two cells is the higher of their marks
abbrev pub between : {M : Type 0} → (M → M → Bool) → M → List M → ℕ → ℕ → M
between leb void marks u v = highest leb (slice_index_or marks (min u v) void) (slice_index_or marks (max u v) void)

module _ {M : Type 0} (leb : M → M → Bool) (void : M) (rows cols : ℕ) (marks : List M) where
  -- the k-th crossing of a cell leads to the k-th cell that touches it
  abbrev pub crossing_at : ℕ → ℕ → ℕ × M
  crossing_at u k = (far cols u k, between leb void marks u (far cols u k))

  -- a cell is joined to each cell that touches it
  unfoldable pub cell_crossings : ℕ → List (ℕ × M)
  cell_crossings u = cond (nat_lt u (rows * cols)) (map (crossing_at u) (range_with_len 0 (degree rows cols (u / cols) (u % cols)))) []

  -- a cell on the edge drains at its own mark
  unfoldable pub cell_drain : ℕ → Option M
  cell_drain u = cond (nat_lt u (rows * cols)) (cond (at_edge rows cols (u / cols) (u % cols)) (Some (slice_index_or marks u void)) None) None

  -- the ground as a graph
  abbrev pub cell_graph : Graph M
  cell_graph = graph leb (rows * cols) cell_crossings cell_drain
