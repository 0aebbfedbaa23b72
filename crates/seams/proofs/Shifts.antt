-- A tile alone, as a sheet of its own, has the walks inside the tile; what a flood of it leaves. Assumes nothing.
use Rattle.std.proofs.Common.{◌≡◌, ℕ, ◌+◌, ◌-◌, ◌*◌, ◌<◌, true, List, get_or, Some, None, Option, sym, ap, ◌∙◌, subst, subst₂, arith}
use Rattle.std.proofs.lemmas.Bool.{and_parts, and_from}
use Rattle.marks.specs.Orders.{OrderLaws}
use Rattle.sheets.specs.declared.copies.Place.{Place}
use Rattle.sheets.specs.Grids.{Grid}
use Rattle.sheets.specs.Layouts.{flat}
use Rattle.tiles.specs.Plans.{Plan, Lawful, Area, tiles, tile_at, tile_of, holds, height, width}
use Rattle.tiles.specs.Mouths.{mouth_in, on_border}
use Rattle.tiles.proofs.Tilings.{Held, held, holding, tile_within, tile_holds, tile_once}
use Rattle.terrain.specs.Blocks.{HoldsBlock}
use Rattle.terrain.specs.Cells.{place, Touches, InSheet, OnEdge, node_of, place_of}
use Rattle.terrain.specs.CellLaws.{some_same, place_in, node_in, node_place, place_node}
use Rattle.terrain.specs.Levels.{LevelsAreSills, HaveOrigins}
use Rattle.terrain.specs.Terrains.{Kind, mark_or, sheet_terrain}
use Rattle.terrain.specs.Under.{Under, stop, step}
use Rattle.terrain.specs.Ways.{Terrain, AtMost, IsSill}
use Rattle.terrain.proofs.Bridges.{edge_on, on_edge}
use Rattle.terrain.proofs.Marks.{le_self}
use Rattle.terrain.proofs.Sills.{drains_sill}
use Rattle.terrain.proofs.Walks.{open_first, open_last, from_list}
use Rattle.seams.specs.Tilings.{cut, own, Nearest, Searched}
use Rattle.seams.specs.Sheets.{Cuts, tiling_of, from_corner, to_corner, extent_of, value_or, cell_in, number_in, level_in, origin_in}
use Rattle.seams.proofs.Mouths.{own_inner, inner_own, inner_tile}
use Rattle.seams.proofs.Sheets.{same_place, sheet_tiled, on_plan, on_sheet_lem}

-- a map of nodes that keeps what walks are made of keeps walks
module _ {M N K : Type 0} (G : Terrain M N) (H : Terrain M K) (f : N → K) (order : (a b : M) → G.leb a b ≡ true → H.leb a b ≡ true) (opens : (c : N) → G.Open c → H.Open (f c)) (marks : (c : N) → G.Open c → G.mark c ≡ H.mark (f c)) (touches : (c d : N) → G.Open c → G.Open d → G.Touch c d → H.Touch (f c) (f d)) where
  pub under_map : {t : M} {u v : N} → Under G t u v → Under H t (f u) (f v)
  under_map {t} (stop {u = u} o l) = stop (opens u o) (order _ _ (subst (λ x. AtMost G x t) (marks u o) l))
  under_map {t} (step {u = u} {v = w} o l r a) = step (opens u o) (order _ _ (subst (λ x. AtMost G x t) (marks u o) l)) (touches u w o (open_first G a) r) (under_map a)

module _ {M : Type 0} (κ : Kind M) (g : Grid M) (p : Plan) (l : Lawful p) (fit : Cuts p g) (t : ℕ) (lt : t < tiles p) where
  abbrev a : Area
  a = tile_at p t

  abbrev W : Terrain M Place
  W = own (sheet_terrain κ g) (tiling_of p) t

  -- a cell of the tile, by its bounds and by its tile's number
  pub held_open : (c : Place) → Held a c.row c.col → W.Open c
  held_open c h =
      let e = holding a c.row c.col h in
      (on_sheet_lem κ g p l fit c (tile_within p c.row c.col t l e), sym (tile_once p c.row c.col t l e))

  pub open_held : (c : Place) → W.Open c → Held a c.row c.col
  open_held c o =
      let i = on_plan κ g p l fit c o.0 in
      held a c.row c.col (subst (λ n. holds (tile_at p n) c.row c.col ≡ true) o.1 (tile_holds p c.row c.col i.0 i.1))

  corner_held : (c : Place) → InSheet (height a) (width a) c → Held a (a.top + c.row) (a.left + c.col)
  corner_held c i = record { above = omega arith; below = omega (arith, i.0); before = omega arith; behind = omega (arith, i.1) }

  -- to the tile's corner and back
  pub from_open : (c : Place) → InSheet (height a) (width a) c → W.Open (from_corner a c)
  from_open c i = held_open (from_corner a c) (corner_held c i)

  pub to_open : (c : Place) → W.Open c → InSheet (height a) (width a) (to_corner a c)
  to_open c o = let h = open_held c o in (omega (arith, h.above, h.below), omega (arith, h.before, h.behind))

  pub to_from : (c : Place) → to_corner a (from_corner a c) ≡ c
  to_from c = same_place (omega arith) (omega arith)

  pub from_to : (c : Place) → W.Open c → from_corner a (to_corner a c) ≡ c
  from_to c o = let h = open_held c o in same_place (omega (arith, h.above)) (omega (arith, h.before))

  pub number_cell : (u : ℕ) → number_in a (cell_in a u) ≡ u
  number_cell u = ap (node_of (width a)) (to_from (place_of (width a) u)) ∙ node_place (width a) u

  pub cell_number_lem : (c : Place) → W.Open c → cell_in a (number_in a c) ≡ c
  cell_number_lem c o = ap (from_corner a) (place_node (width a) (to_corner a c) (to_open c o).1) ∙ from_to c o

  pub from_touches : (c d : Place) → Touches c d → Touches (from_corner a c) (from_corner a d)
  from_touches c d r = (omega (arith, r.0), omega (arith, r.1), omega (arith, r.2), omega (arith, r.3), λ e. r.4 (sym (to_from c) ∙ ap (to_corner a) e ∙ to_from d))

  pub to_touches : (c d : Place) → W.Open c → W.Open d → Touches c d → Touches (to_corner a c) (to_corner a d)
  to_touches c d oc od r = (omega (arith, r.0), omega (arith, r.1), omega (arith, r.2), omega (arith, r.3), λ e. r.4 (sym (from_to c oc) ∙ ap (from_corner a) e ∙ from_to d od))

  -- the mouths of the tile are the cells on the edge of the sheet that it is alone
  pub edge_mouth : (c : Place) → InSheet (height a) (width a) c → OnEdge (height a) (width a) c → W.Outlet (from_corner a c)
  edge_mouth c i e =
      let i' : ℕ = a.top + c.row in
      let j' : ℕ = a.left + c.col in
      let border : on_border (height a) (width a) (i' - a.top) (j' - a.left) ≡ true = subst₂ (λ x y. on_border (height a) (width a) x y ≡ true) (omega arith) (omega arith) (on_edge (height a) (width a) c e) in
      subst (λ n. mouth_in (tile_at p n) i' j' ≡ true) (sym (from_open c i).1) (and_from (holds a i' j') (on_border (height a) (width a) (i' - a.top) (j' - a.left)) (holding a i' j' (corner_held c i)) border)

  pub mouth_edge : (c : Place) → W.Outlet c → tile_of p c.row c.col ≡ t → OnEdge (height a) (width a) (to_corner a c)
  mouth_edge c m k = edge_on (height a) (width a) (to_corner a c) (and_parts (holds a c.row c.col) _ (subst (λ n. mouth_in (tile_at p n) c.row c.col ≡ true) k m)).1

  -- the tile's marks row by row in a list, as a sheet
  module _ (xs : List M) (read : HoldsBlock g (place a.top a.left) (extent_of a) xs) where
    abbrev F : Terrain M Place
    F = sheet_terrain κ (flat (height a) (width a) xs)

    alone_mark : (c : Place) → F.Open c → F.mark c ≡ W.mark (from_corner a c)
    alone_mark c i = sym (ap (mark_or κ.void) (read c.row c.col i.0 i.1))

    pub alone_inner : {s : M} {u v : Place} → Under F s u v → Under W s (from_corner a u) (from_corner a v)
    alone_inner w = under_map F W (from_corner a) (λ x y h. h) from_open alone_mark (λ c d oc od r. from_touches c d r) w

    pub inner_alone : {s : M} {u v : Place} → Under W s u v → Under F s (to_corner a u) (to_corner a v)
    inner_alone w = under_map W F (to_corner a) (λ x y h. h) to_open (λ c o. ap W.mark (sym (from_to c o)) ∙ sym (alone_mark (to_corner a c) (to_open c o))) to_touches w

    -- a sill of the tile alone, with a walk to the edge of that worst mark, gives the nearest mouth
    pub alone_nearest : OrderLaws κ.leb → (c o : Place) (m : M) → F.Open c → F.Outlet o → Under F m c o → IsSill F c m → Nearest (sheet_terrain κ g) (tiling_of p) (from_corner a c) (from_corner a o) m
    alone_nearest O c o m oc edge w s = record {
      mouth = edge_mouth o (open_last F w) edge;
      path = own_inner (sheet_terrain κ g) (tiling_of p) t (alone_inner w);
      least = λ d r md i.
          let inside : Under W r (from_corner a c) d = inner_own (sheet_terrain κ g) (tiling_of p) t (from_open c oc).1 i in
          let back : Under F r c (to_corner a d) = subst (λ x. Under F r x (to_corner a d)) (to_from c) (inner_alone inside) in
          let k : tile_of p d.row d.col ≡ t = sym (inner_tile (sheet_terrain κ g) (tiling_of p) i) ∙ (from_open c oc).1 in
          drains_sill F O s r (to_corner a d, back, mouth_edge d md k);
    }

    -- what a flood of the tile alone leaves
    module _ (O : OrderLaws κ.leb) (levels : List (Option M)) (origins : List (Option ℕ)) (sills : LevelsAreSills κ (height a) (width a) xs levels) (from : HaveOrigins κ (height a) (width a) xs levels origins) where
      -- of the cell of a number
      pub cell_level : (u : ℕ) (m : M) → u < height a * width a → get_or levels u None ≡ Some m → level_in κ a levels (cell_in a u) ≡ m
      cell_level u m h e = ap (λ n. value_or κ.void (get_or levels n None)) (number_cell u) ∙ ap (value_or κ.void) e

      pub cell_origin : (u e : ℕ) → u < height a * width a → get_or origins u None ≡ Some e → origin_in a origins (cell_in a u) ≡ cell_in a e
      cell_origin u e h is = ap (λ n. cell_in a (value_or 0 (get_or origins n None))) (number_cell u) ∙ ap (λ o. cell_in a (value_or 0 o)) is

      pub cell_nearest : (u : ℕ) → u < height a * width a → Nearest (sheet_terrain κ g) (tiling_of p) (cell_in a u) (origin_in a origins (cell_in a u)) (level_in κ a levels (cell_in a u))
      cell_nearest u h =
          let f = from u h in
          let s = sills u h in
          let m = f.0 in
          let e = f.1 in
          let is = f.4 in
          let c = place_of (width a) u in
          let o = place_of (width a) e in
          let w = is.walk in
          let walk : Under F m c o = subst (λ x. Under F m c x) w.2 (from_list F O m c w.0 w.1 (subst (λ x. AtMost F x m) (sym w.3) (le_self O m))) in
          let same : s.0 ≡ m = some_same s.0 m (sym s.1 ∙ f.2) in
          let near = alone_nearest O c o m (place_in (height a) (width a) u h) is.edge walk (subst (IsSill F c) same s.2) in
          subst₂ (λ x y. Nearest (sheet_terrain κ g) (tiling_of p) (cell_in a u) x y) (sym (cell_origin u e h f.3)) (sym (cell_level u m h f.2)) near

      -- each cell of the tile has its nearest mouth, and each mouth is its own
      pub tile_searched : Searched (sheet_terrain κ g) (tiling_of p) t (origin_in a origins) (level_in κ a levels)
      tile_searched = record {
        nearest = λ c k r.
            let o : W.Open c = (open_first (cut (sheet_terrain κ g) (tiling_of p)) r.3, k) in
            let is = cell_number_lem c o in
            subst (λ x. Nearest (sheet_terrain κ g) (tiling_of p) x (origin_in a origins x) (level_in κ a levels x)) is (cell_nearest (number_in a c) (node_in (height a) (width a) (to_corner a c) (to_open c o)));
        own = λ c k m.
            let o : W.Open c = ((sheet_tiled κ g p l fit).clear c m, k) in
            let u : ℕ = number_in a c in
            let f = from u (node_in (height a) (width a) (to_corner a c) (to_open c o)) in
            let here : place_of (width a) u ≡ to_corner a c = place_node (width a) (to_corner a c) (to_open c o).1 in
            let e : f.1 ≡ u = f.4.own (subst (OnEdge (height a) (width a)) (sym here) (mouth_edge c m k)) in
            ap (λ o. cell_in a (value_or 0 o)) f.3 ∙ ap (cell_in a) e ∙ cell_number_lem c o;
      }
