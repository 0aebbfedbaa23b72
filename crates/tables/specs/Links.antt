-- The ground of mouths that two tables stand for: mouths are linked by the passes of their tile, and over seams. It is a
-- ground whatever the tables hold. Assumes nothing.
use Rattle.std.specs.Prelude.{◌≡◌, ℕ, suc, ◌+◌, ◌-◌, ◌*◌, ◌/◌, ◌%◌, ◌<◌, min, max, Bool, true, false, cond, ◌&&◌, ◌⊎◌, ◌↔◌, List, [], ◌++◌, Some, None, Option, ◌==◌, nat_le, nat_lt}
use Rattle.std.specs.List.{slice_get}
use Rattle.marks.specs.Orders.{highest}
use Rattle.flood.specs.Grounds.{Graph, graph, Crosses}
use Rattle.sheets.specs.declared.copies.Place.{Place}
use Rattle.terrain.specs.Cells.{place, place_of, Touches, OnEdge}
use Rattle.sheets.specs.Grids.{at_edge}
use Rattle.terrain.specs.Terrains.{Kind}
use Rattle.tiles.specs.Plans.{Plan, tiles, tile_of}
use Rattle.tiles.specs.Mouths.{mouths, mouth_base, pass_base, tile_mouths, mouth_number}
use Rattle.tables.specs.declared.records.MouthRecord.{MouthRecord}
use Rattle.tables.specs.declared.records.PassRecord.{PassRecord}
use Rattle.tables.specs.Picks.{picked, first}
use Rattle.tables.specs.Records.{Tables, mark_of}

-- an answer is the number a
abbrev pub is_number : ℕ → Option ℕ → Bool
is_number a None = false
is_number a (Some b) = b == a

-- the cell of the mouth a: the first in reading order that has this number
unfoldable pub cell_of : Plan → ℕ → Place
cell_of p a = place_of p.cols (first (λ u. is_number a (mouth_number p (u / p.cols) (u % p.cols))) 0 (p.rows * p.cols))

-- the tile of the mouth a
abbrev pub tile_of_mouth : Plan → ℕ → ℕ
tile_of_mouth p a = tile_of p (cell_of p a).row (cell_of p a).col

-- the number a is one of the mouths of the tile t
abbrev pub of_tile : Plan → ℕ → ℕ → Bool
of_tile p t a = nat_le (mouth_base p t) a && nat_lt a (mouth_base p (suc t))

-- of the nine cells around a cell, row by row, itself among them, the k-th; none past the edge of so many rows and
-- columns
abbrev pub around : ℕ → ℕ → Place → ℕ → Option Place
around rows cols c k =
    cond ((nat_le 1 (c.row + k / 3) && nat_le (c.row + k / 3) rows) && (nat_le 1 (c.col + k % 3) && nat_le (c.col + k % 3) cols))
    (Some (place (c.row + k / 3 - 1) (c.col + k % 3 - 1))) None

-- from the mouth a over a pass to its other end, at its level; none, if a is no end of it
abbrev pub far_end : {M : Type 0} → ℕ → PassRecord M → Option (ℕ × M)
far_end a q = cond (q.from == a) (Some (q.to, q.level)) (cond (q.to == a) (Some (q.from, q.level)) None)

module _ {M : Type 0} (κ : Kind M) (ms : List (MouthRecord M)) where
  -- over a seam two mouths are linked at the higher of their marks; the lower number comes first, so that both ways the
  -- level is one by its form
  abbrev pub seam_level : ℕ → ℕ → M
  seam_level a b = highest κ.leb (mark_of κ.void ms (min a b)) (mark_of κ.void ms (max a b))

  -- the link from the mouth a to the mouth that has a number
  abbrev pub link_to : ℕ → Option ℕ → Option (ℕ × M)
  link_to a None = None
  link_to a (Some b) = Some (b, seam_level a b)

-- the link from the mouth a to a cell beside it, if that lies in another tile
abbrev pub seam_link : {M : Type 0} → Kind M → Plan → List (MouthRecord M) → ℕ → Option Place → Option (ℕ × M)
seam_link κ p ms a None = None
seam_link κ p ms a (Some d) = cond (tile_of p d.row d.col == tile_of_mouth p a) None (link_to κ ms a (mouth_number p d.row d.col))

-- the link over a seam to the k-th of the nine cells around the mouth a
abbrev pub seam_at : {M : Type 0} → Kind M → Plan → List (MouthRecord M) → ℕ → ℕ → Option (ℕ × M)
seam_at κ p ms a k = seam_link κ p ms a (around p.rows p.cols (cell_of p a) k)

-- the link from the mouth a, of the tile t, by a record: none, unless it joins a to a mouth of the tile
abbrev pub pass_link : {M : Type 0} → Plan → ℕ → ℕ → Option (PassRecord M) → Option (ℕ × M)
pass_link p t a None = None
pass_link p t a (Some q) = cond (of_tile p t q.from && of_tile p t q.to) (far_end a q) None

-- the link from the mouth a by the k-th record of its tile
abbrev pub pass_at : {M : Type 0} → Plan → List (PassRecord M) → ℕ → ℕ → Option (ℕ × M)
pass_at p ps a k = pass_link p (tile_of_mouth p a) a (slice_get ps (pass_base p (tile_of_mouth p a) + k))

module _ {M : Type 0} (κ : Kind M) (p : Plan) (w : Tables M) where
  -- the links of a mouth: over seams, and by the passes of its tile
  unfoldable pub mouth_crossings : ℕ → List (ℕ × M)
  mouth_crossings a = cond (nat_lt a (mouths p)) (picked (seam_at κ p w.mouths a) 0 9 ++ picked (pass_at p w.passes a) 0 (tile_mouths p (tile_of_mouth p a) - 1)) []

  -- a mouth on the sheet's edge drains at its own mark
  unfoldable pub mouth_drain : ℕ → Option M
  mouth_drain a = cond (nat_lt a (mouths p)) (cond (at_edge p.rows p.cols (cell_of p a).row (cell_of p a).col) (Some (mark_of κ.void w.mouths a)) None) None

  -- The mouths a and b are linked over a seam: their cells touch and lie in different tiles.
  pub record Seamed (a b : ℕ) (l : M) : Type 0 where
    pub from : Place
    pub to : Place
    pub from_number : mouth_number p from.row from.col ≡ Some a
    pub to_number : mouth_number p to.row to.col ≡ Some b
    pub touch : Touches from to
    pub apart : tile_of p from.row from.col ≡ tile_of p to.row to.col → ⊥
    pub level : l ≡ seam_level κ w.mouths a b

  -- They are linked by a pass: a record of a tile joins them, in one direction or the other, and both are mouths of the
  -- tile.
  pub record Passed (a b : ℕ) (l : M) : Type 0 where
    pub tile : ℕ
    pub place : ℕ
    pub pass : PassRecord M
    pub exists : tile < tiles p
    pub within : place < tile_mouths p tile - 1
    pub stands : slice_get w.passes (pass_base p tile + place) ≡ Some pass
    pub from_in : of_tile p tile pass.from ≡ true
    pub to_in : of_tile p tile pass.to ≡ true
    pub ends : ((pass.from ≡ a) × (pass.to ≡ b)) ⊎ ((pass.from ≡ b) × (pass.to ≡ a))
    pub level : l ≡ pass.level

  -- the ground as a graph
  abbrev pub mouth_graph : Graph M
  mouth_graph = graph κ.leb (mouths p) mouth_crossings mouth_drain

  -- What the ground of mouths is: two mouths are joined exactly where they are linked, and just the mouths on the sheet's
  -- edge drain, at their own marks.
  pub record Joins : Type 0 where
    pub crosses : (a b : ℕ) (l : M) → Crosses mouth_graph a b l ↔ (Seamed a b l ⊎ Passed a b l)
    pub drains : (a : ℕ) (i j : ℕ) → mouth_number p i j ≡ Some a → OnEdge p.rows p.cols (place i j) → mouth_drain a ≡ Some (mark_of κ.void w.mouths a)
    pub dry : (a : ℕ) (i j : ℕ) → mouth_number p i j ≡ Some a → (OnEdge p.rows p.cols (place i j) → ⊥) → mouth_drain a ≡ None
