-- A cell's sill is the higher of its level in its tile and its origin's sill. Assumes nothing.
use Rattle.std.proofs.Common.{◌≡◌, ℕ, ◌+◌, ◌<◌, List, get_or, Some, None, Option, subst₂}
use Rattle.marks.specs.Orders.{OrderLaws, highest}
use Rattle.flood.specs.Grounds.{graph, LeastWorst}
use Rattle.sheets.specs.Grids.{Grid}
use Rattle.tiles.specs.Plans.{Plan, Lawful, tiles, tile_at}
use Rattle.tiles.specs.Mouths.{mouth_base}
use Rattle.terrain.specs.Terrains.{Kind, sheet_terrain}
use Rattle.terrain.specs.Ways.{IsSill}
use Rattle.seams.specs.Tilings.{Passes, Nearest}
use Rattle.seams.specs.Sheets.{Cuts, tiling_of, SheetTree, cell_in}
use Rattle.seams.specs.Surveys.{TileFlooded, tile_cells, OriginAt}
use Rattle.seams.specs.MouthGraphs.{MouthGraph}
use Rattle.seams.proofs.Mouths.{finish}
use Rattle.seams.proofs.Numbers.{index_mouth}
use Rattle.seams.proofs.Settles.{mouth_sill}
use Rattle.seams.proofs.Sheets.{sheet_symmetric, sheet_tiled}
use Rattle.seams.proofs.Shifts.{cell_level, cell_origin, cell_nearest}

module _ {M : Type 0} (κ : Kind M) (O : OrderLaws κ.leb) (g : Grid M) (p : Plan) (l : Lawful p) (fit : Cuts p g) (t : ℕ) (lt : t < tiles p)
    (marks : List M) (levels : List (Option M)) (origins : List (Option ℕ)) (F : TileFlooded κ g p t marks levels origins) where
  pub cell_sill : (u e : ℕ) (n s : M) → u < tile_cells p t → get_or levels u None ≡ Some n → get_or origins u None ≡ Some e →
      IsSill (sheet_terrain κ g) (cell_in (tile_at p t) e) s → IsSill (sheet_terrain κ g) (cell_in (tile_at p t) u) (highest κ.leb n s)
  cell_sill u e n s h is-n is-e sill =
      let near = cell_nearest κ g p l fit t lt marks F.read O levels origins F.sills F.from u h in
      let at-e = cell_origin κ g p l fit t lt marks F.read O levels origins F.sills F.from u e h is-e in
      let at_n = cell_level κ g p l fit t lt marks F.read O levels origins F.sills F.from u n h is-n in
      (finish (sheet_terrain κ g) (tiling_of p) O (sheet_symmetric κ g) (sheet_tiled κ g p l fit) (cell_in (tile_at p t) u) (cell_in (tile_at p t) e) n s
      (subst₂ (λ o m. Nearest (sheet_terrain κ g) (tiling_of p) (cell_in (tile_at p t) u) o m) at-e at_n near) sill).1

-- The whole way: the higher of a cell's level and the level of its origin in the graph of the mouths is its sill.
module _ {M : Type 0} (κ : Kind M) (O : OrderLaws κ.leb) (g : Grid M) (p : Plan) (l : Lawful p) (fit : Cuts p g)
    (P : ℕ → Passes M ℕ) (trees : (t : ℕ) → t < tiles p → SheetTree κ g p t (P t))
    (nodes : ℕ) (crossings : ℕ → List (ℕ × M)) (drain : ℕ → Option M) (N : MouthGraph κ g p P nodes crossings drain) where
  pub tiled_sill : (t : ℕ) → t < tiles p → (marks : List M) (levels : List (Option M)) (origins : List (Option ℕ)) → TileFlooded κ g p t marks levels origins →
      (u x : ℕ) (n : M) (s : Option M) → u < tile_cells p t → get_or levels u None ≡ Some n → OriginAt p t origins u x → LeastWorst (graph κ.leb nodes crossings drain) (mouth_base p t + x) s →
      (m : M) × (s ≡ Some m) × IsSill (sheet_terrain κ g) (cell_in (tile_at p t) u) (highest κ.leb n m)
  tiled_sill t lt marks levels origins F u x n s h is-n o L =
      let c = cell_in (tile_at p t) o.cell in
      let at-mouth = index_mouth p l t c.row c.col x lt o.mouth in
      let m = mouth_sill κ O g p l fit P trees nodes crossings drain N (mouth_base p t + x) c at-mouth.1 s L in
      (m.0, m.1, cell_sill κ O g p l fit t lt marks levels origins F u o.cell n m.0 h is-n o.is m.2)
