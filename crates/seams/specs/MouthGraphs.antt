-- The graph of the mouths of a cut sheet. Assumes nothing.
use Rattle.std.specs.Prelude.{◌≡◌, ℕ, ◌<◌, ◌⊎◌, ◌↔◌, List, Some, Option, ◌≢◌}
use Rattle.marks.specs.Orders.{highest}
use Rattle.flood.specs.Grounds.{graph, Crosses}
use Rattle.sheets.specs.declared.copies.Place.{Place}
use Rattle.sheets.specs.Grids.{Grid}
use Rattle.tiles.specs.Plans.{Plan, tiles, tile_of}
use Rattle.terrain.specs.Cells.{Touches, OnEdge}
use Rattle.terrain.specs.Terrains.{Kind, sheet_terrain}
use Rattle.seams.specs.Tilings.{Passes}
use Rattle.seams.specs.Sheets.{MouthAt}

module _ {M : Type 0} (κ : Kind M) (g : Grid M) (p : Plan) where
  -- The mouths a and b are linked at the level l: by a pass of some tile, in either direction, or as touching cells of different tiles, at the
  -- higher of their marks.
  pub data Linked (P : ℕ → Passes M ℕ) : ℕ → ℕ → M → Type 0 where
    by_pass : {a b : ℕ} {l : M} (t : ℕ) → t < tiles p → P t a b l ⊎ P t b a l → Linked P a b l
    by_seam : {a b : ℕ} {l : M} (c d : Place) → MouthAt p a c → MouthAt p b d → Touches c d → (tile_of p c.row c.col ≢ tile_of p d.row d.col) →
        highest κ.leb ((sheet_terrain κ g).mark c) ((sheet_terrain κ g).mark d) ≡ l → Linked P a b l

  -- The mouth a drains at the level l: it lies on the sheet's edge, and l is its mark.
  abbrev pub DrainsAt : ℕ → M → Type 0
  DrainsAt a l = (c : Place) × MouthAt p a c × OnEdge g.rows g.cols c × ((sheet_terrain κ g).mark c ≡ l)

  -- These crossings and drains are those of the mouths, where P t are the passes of the tile t: each link is a crossing, each crossing is a link, or
  -- leads from a mouth to itself, and just the mouths on the sheet's edge drain.
  pub record MouthGraph (P : ℕ → Passes M ℕ) (nodes : ℕ) (crossings : ℕ → List (ℕ × M)) (drain : ℕ → Option M) : Type 0 where
    pub links : (a b : ℕ) (l : M) → Linked P a b l → Crosses (graph κ.leb nodes crossings drain) a b l
    pub only : (a b : ℕ) (l : M) → Crosses (graph κ.leb nodes crossings drain) a b l → Linked P a b l ⊎ (a ≡ b)
    pub drains : (a : ℕ) (l : M) → (drain a ≡ Some l) ↔ DrainsAt a l
