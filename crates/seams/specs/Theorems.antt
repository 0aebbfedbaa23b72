-- What the tiled way of filling a sheet rests on. Assumes nothing.
use Rattle.std.specs.Prelude.{◌≡◌, ℕ, suc, ◌+◌, ◌<◌, ◌⊎◌, List, [], ◌∷◌, ◌++◌, length, Some, None, Option, ◌≢◌, slice_index_or}
use Rattle.std.specs.List.{ContainsAt as Has}
use Rattle.marks.specs.Orders.{highest}
use Rattle.flood.specs.Grounds.{graph, Route, LeastWorst}
use Rattle.sheets.specs.declared.copies.Place.{Place}
use Rattle.sheets.specs.Grids.{Grid}
use Rattle.tiles.specs.Plans.{Plan, Lawful, tiles, tile_at}
use Rattle.tiles.specs.Mouths.{mouth_base, tile_mouths}
use Rattle.terrain.specs.Terrains.{Kind, sheet_terrain}
use Rattle.terrain.specs.Ways.{IsSill}
use Rattle.seams.specs.Joins.{Listed, NoneAbove, label, own_labels, Unjoined, Relabelled}
use Rattle.seams.specs.Sheets.{Cuts, MouthAt, TileMouth, SheetTree, cell_in}
use Rattle.seams.specs.Surveys.{TileFlooded, tile_cells, TouchIn, OriginAt, HigherOf, Surveying, Further}
use Rattle.seams.specs.MouthGraphs.{MouthGraph}

-- the pair of u and v stands in the list
abbrev pub Among : List (ℕ × ℕ) → ℕ → ℕ → Type 0
Among taken u v = Has taken (u, v)

-- The survey of tile t of the sheet g, which was read and flooded. `taken` are the pairs of touching cells taken up so far, in rising order of
-- the higher of their levels.
pub record TileSurvey {M : Type 0} (κ : Kind M) (g : Grid M) (p : Plan) (t : ℕ) (levels : List (Option M)) (origins : List (Option ℕ)) : Type 0 where
  -- it begins with each mouth for its own label, and nothing taken up
  pub begins : (labels : List ℕ) → Unjoined (tile_mouths p t) labels → Surveying κ g p t levels origins labels [] (Among [])
  -- a pair whose origins have one label is passed over
  pub skips : (labels : List ℕ) (passes : List (ℕ × ℕ × M)) (taken : List (ℕ × ℕ)) → Surveying κ g p t levels origins labels passes (Among taken) →
      (u v x y : ℕ) (l : M) → TouchIn p t u v → OriginAt p t origins u x → OriginAt p t origins v y → HigherOf κ levels u v l → NoneAbove κ.leb l passes →
      label labels x ≡ label labels y → Surveying κ g p t levels origins labels passes (Among (taken ++ ((u, v) ∷ [])))
  -- a pair whose origins have two labels gives a pass at the higher of its levels, and the second label is made the first: one label fewer
  pub keeps : (labels : List ℕ) (passes : List (ℕ × ℕ × M)) (taken : List (ℕ × ℕ)) → Surveying κ g p t levels origins labels passes (Among taken) →
      (u v x y : ℕ) (l : M) → TouchIn p t u v → OriginAt p t origins u x → OriginAt p t origins v y → HigherOf κ levels u v l → NoneAbove κ.leb l passes →
      (label labels x ≢ label labels y) → (labels' : List ℕ) → Relabelled labels labels' (label labels x) (label labels y) →
      Surveying κ g p t levels origins labels' (passes ++ ((x, y, l) ∷ [])) (Among (taken ++ ((u, v) ∷ []))) × (own_labels labels (tile_mouths p t) ≡ suc (own_labels labels' (tile_mouths p t)))
  -- once all pairs are taken up, the passes are a tree of the tile, one fewer than its mouths, and all labels are one
  pub ends : (labels : List ℕ) (passes : List (ℕ × ℕ × M)) (taken : List (ℕ × ℕ)) → Surveying κ g p t levels origins labels passes (Among taken) →
      ((u v : ℕ) → TouchIn p t u v → Among taken u v ⊎ Among taken v u) →
      SheetTree κ g p t (Further (mouth_base p t) passes) × (length passes + 1 ≡ tile_mouths p t) × ((x y : ℕ) → TileMouth p t x → TileMouth p t y → label labels x ≡ label labels y)

-- Every tile of a cut sheet can be surveyed so.
abbrev pub SurveysEnd : {M : Type 0} → Kind M → Type 0
SurveysEnd {M} κ =
    (g : Grid M) (p : Plan) → Lawful p → Cuts p g → (t : ℕ) → t < tiles p →
    (marks : List M) (levels : List (Option M)) (origins : List (Option ℕ)) → TileFlooded κ g p t marks levels origins → TileSurvey κ g p t levels origins

-- If each tile has a tree of passes, every mouth has a route in the graph of the mouths, and the least worst level over its routes is its sill in
-- the whole sheet.
abbrev pub MouthsSettle : {M : Type 0} → Kind M → Type 0
MouthsSettle {M} κ =
    (g : Grid M) (p : Plan) → Lawful p → Cuts p g → (passes : ℕ → List (ℕ × ℕ × M)) → ((t : ℕ) → t < tiles p → SheetTree κ g p t (Listed (passes t))) →
    (nodes : ℕ) (crossings : ℕ → List (ℕ × M)) (drain : ℕ → Option M) → MouthGraph κ g p (λ t. Listed (passes t)) nodes crossings drain →
    (a : ℕ) (c : Place) → MouthAt p a c →
    ((path : List ℕ) × (l : M) × Route (graph κ.leb nodes crossings drain) a path l) ×
    ((s : Option M) → LeastWorst (graph κ.leb nodes crossings drain) a s → (m : M) × (s ≡ Some m) × IsSill (sheet_terrain κ g) c m)

-- A cell's sill in the whole sheet is the higher of its level in its tile and its origin's sill in the whole sheet.
abbrev pub LevelsFinish : {M : Type 0} → Kind M → Type 0
LevelsFinish {M} κ =
    (g : Grid M) (p : Plan) → Lawful p → Cuts p g → (t : ℕ) → t < tiles p →
    (marks : List M) (levels : List (Option M)) (origins : List (Option ℕ)) → TileFlooded κ g p t marks levels origins →
    (u e : ℕ) (l s : M) → u < tile_cells p t → slice_index_or levels u None ≡ Some l → slice_index_or origins u None ≡ Some e →
    IsSill (sheet_terrain κ g) (cell_in (tile_at p t) e) s → IsSill (sheet_terrain κ g) (cell_in (tile_at p t) u) (highest κ.leb l s)

-- The whole way. Each tile has a tree of passes; a cell of tile t has the level l in its tile, and the x-th mouth of the tile for its origin; s is
-- that mouth's least worst level over the graph of the mouths. Then the higher of l and s is the cell's sill in the whole sheet.
abbrev pub TilesFill : {M : Type 0} → Kind M → Type 0
TilesFill {M} κ =
    (g : Grid M) (p : Plan) → Lawful p → Cuts p g → (passes : ℕ → List (ℕ × ℕ × M)) → ((t : ℕ) → t < tiles p → SheetTree κ g p t (Listed (passes t))) →
    (nodes : ℕ) (crossings : ℕ → List (ℕ × M)) (drain : ℕ → Option M) → MouthGraph κ g p (λ t. Listed (passes t)) nodes crossings drain →
    (t : ℕ) → t < tiles p → (marks : List M) (levels : List (Option M)) (origins : List (Option ℕ)) → TileFlooded κ g p t marks levels origins →
    (u x : ℕ) (l : M) (s : Option M) → u < tile_cells p t → slice_index_or levels u None ≡ Some l → OriginAt p t origins u x → LeastWorst (graph κ.leb nodes crossings drain) (mouth_base p t + x) s →
    (m : M) × (s ≡ Some m) × IsSill (sheet_terrain κ g) (cell_in (tile_at p t) u) (highest κ.leb l m)
