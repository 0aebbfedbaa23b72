-- The survey of one tile of a sheet: how it begins, goes on and ends. Assumes nothing.
use Rattle.std.proofs.Common.{◌≡◌, ℕ, suc, ◌+◌, ◌<◌, ◌≤◌, ◌⊎◌, ◌↔◌, List, [], ◌∷◌, ◌++◌, length, get_or, Some, None, Option, sym, ap, ◌∙◌, subst, ap₂, subst₂, inl, inr, ⊎_elim}
use Rattle.marks.specs.Orders.{OrderLaws, highest}
use Rattle.sheets.specs.declared.copies.Place.{Place}
use Rattle.sheets.specs.Grids.{Grid}
use Rattle.tiles.specs.Plans.{Plan, Lawful, Area, tiles, tile_at, height, width}
use Rattle.tiles.specs.Mouths.{mouth_index, mouth_base, tile_mouths}
use Rattle.tiles.proofs.Numberings.{mouths_some}
use Rattle.terrain.specs.Cells.{Touches, place_of}
use Rattle.terrain.specs.CellLaws.{place_in, node_in, place_node}
use Rattle.terrain.specs.Terrains.{Kind, sheet_terrain}
use Rattle.terrain.specs.Ways.{Terrain}
use Rattle.seams.specs.Tilings.{Tiling, Passes, own, Inner, Reaches, Searched, Meet}
use Rattle.seams.specs.Trees.{TreeOf}
use Rattle.seams.specs.Joins.{Listed, NoneAbove, label, own_labels, Unjoined, Relabelled}
use Rattle.seams.specs.Sheets.{Cuts, tiling_of, TileMouth, TileMouthAt, SheetTree, to_corner, cell_in, number_in, level_in, origin_in}
use Rattle.seams.specs.Surveys.{TileFlooded, tile_cells, TouchIn, OriginAt, HigherOf, Surveying, Further}
use Rattle.seams.proofs.Mouths.{origin_mouth}
use Rattle.seams.proofs.Numbers.{index_mouth, mouth_index_lem, tree_further}
use Rattle.seams.proofs.Rectangles.{tile_connected}
use Rattle.seams.proofs.Rising.{joining_room, joining_retold, joining_none, joining_skip, joining_keep, joining_one, joining_count, joining_tree_of}
use Rattle.seams.proofs.Sheets.{sheet_symmetric, sheet_tiled, tile_counted}
use Rattle.seams.proofs.Shifts.{to_open, from_open, cell_number_lem, from_touches, to_touches, cell_level, cell_origin, cell_nearest, tile_searched}

-- One tile's survey.
module _ {M : Type 0} (κ : Kind M) (O : OrderLaws κ.leb) (g : Grid M) (p : Plan) (l : Lawful p) (fit : Cuts p g) (t : ℕ) (lt : t < tiles p)
    (marks : List M) (levels : List (Option M)) (origins : List (Option ℕ)) (F : TileFlooded κ g p t marks levels origins) where
  abbrev G : Terrain M Place
  G = sheet_terrain κ g

  abbrev T : Tiling Place
  T = tiling_of p

  abbrev a : Area
  a = tile_at p t

  abbrev origin : Place → Place
  origin = origin_in a origins

  abbrev level : Place → M
  level = level_in κ a levels

  searched : Searched G T t origin level
  searched = tile_searched κ g p l fit t lt marks F.read O levels origins F.sills F.from

  reaches : (u : ℕ) → u < tile_cells p t → Reaches G T (cell_in a u)
  reaches u h =
      let n = cell_nearest κ g p l fit t lt marks F.read O levels origins F.sills F.from u h in
      (origin (cell_in a u), level (cell_in a u), n.mouth, n.path)

  cell_open : (u : ℕ) → u < tile_cells p t → (own G T t).Open (cell_in a u)
  cell_open u h = from_open κ g p l fit t lt (place_of (width a) u) (place_in (height a) (width a) u h)

  -- touching cells of the tile meet
  meet : (u v : ℕ) → TouchIn p t u v → Meet G T t (cell_in a u) (cell_in a v)
  meet u v r =
      let ou = cell_open u r.from in
      let ov = cell_open v r.to in
      record {
        here = ou.1;
        there = ov.1;
        clear = (ou.0, ov.0);
        touch = from_touches κ g p l fit t lt (place_of (width a) u) (place_of (width a) v) r.touch;
        reaches = (reaches u r.from, reaches v r.to);
      }

  met : (c d : Place) → Meet G T t c d → TouchIn p t (number_in a c) (number_in a d)
  met c d m =
      let oc : (own G T t).Open c = (m.clear.0, m.here) in
      let od : (own G T t).Open d = (m.clear.1, m.there) in
      let ic = to_open κ g p l fit t lt c oc in
      let id = to_open κ g p l fit t lt d od in
      record {
        from = node_in (height a) (width a) (to_corner a c) ic;
        to = node_in (height a) (width a) (to_corner a d) id;
        touch = subst₂ Touches (sym (place_node (width a) (to_corner a c) ic.1)) (sym (place_node (width a) (to_corner a d) id.1)) (to_touches κ g p l fit t lt c d oc od m.touch);
      }

  origin_at : (u x : ℕ) → u < tile_cells p t → OriginAt p t origins u x → TileMouth p t x × TileMouthAt p t x (origin (cell_in a u))
  origin_at u x h o =
      let e = cell_origin κ g p l fit t lt marks F.read O levels origins F.sills F.from u o.cell h o.is in
      let m = index_mouth p l t (cell_in a o.cell).row (cell_in a o.cell).col x lt o.mouth in
      (m.0, subst (TileMouthAt p t x) (sym e) m.1)

  level_at : (u v : ℕ) (n : M) → u < tile_cells p t → v < tile_cells p t → HigherOf κ levels u v n → highest κ.leb (level (cell_in a u)) (level (cell_in a v)) ≡ n
  level_at u v n hu hv r =
      let at = cell_level κ g p l fit t lt marks F.read O levels origins F.sills F.from in
      ap₂ (highest κ.leb) (at u r.one hu r.at_u) (at v r.other hv r.at_v) ∙ r.higher

  -- each cell's origin is a mouth of the tile
  pub origin_found : (u e : ℕ) → u < tile_cells p t → get_or origins u None ≡ Some e → (x : ℕ) × (mouth_index a (cell_in a e).row (cell_in a e).col ≡ Some x)
  origin_found u e h is =
      let o = cell_origin κ g p l fit t lt marks F.read O levels origins F.sills F.from u e h is in
      let m = origin_mouth G T O (sheet_symmetric κ g) t origin level searched (cell_in a u) (cell_open u h).1 (reaches u h) in
      mouth_index_lem p t (cell_in a e).row (cell_in a e).col (subst T.Mouth o m.0) (subst (λ c. T.tile c ≡ t) o m.1)

  -- at the start each mouth has its own label, and no pair is taken up
  pub survey_none : (labels : List ℕ) (Taken : ℕ → ℕ → Type 0) → Unjoined (tile_mouths p t) labels → ((u v : ℕ) → Taken u v → ⊥) → Surveying κ g p t levels origins labels [] Taken
  survey_none labels Taken U none = joining_none G T t (tile_mouths p t) (TileMouthAt p t) origin level labels _ U (λ c d h. none _ _ h)

  -- what was taken up may be told otherwise, if nothing is added
  pub survey_retold : (labels : List ℕ) (passes : List (ℕ × ℕ × M)) (Taken Taken' : ℕ → ℕ → Type 0) → Surveying κ g p t levels origins labels passes Taken →
      ((u v : ℕ) → TouchIn p t u v → Taken' u v → Taken u v ⊎ Taken v u) → Surveying κ g p t levels origins labels passes Taken'
  survey_retold labels passes Taken Taken' S was =
      joining_retold G T t (tile_mouths p t) (TileMouthAt p t) origin level O (sheet_symmetric κ g) labels passes _ S _ (λ c d m h. was _ _ (met c d m) h)

  module _ (labels : List ℕ) (passes : List (ℕ × ℕ × M)) (Taken Taken' : ℕ → ℕ → Type 0) (S : Surveying κ g p t levels origins labels passes Taken)
      (u v : ℕ) (r : TouchIn p t u v) (more : (c d : ℕ) → TouchIn p t c d → Taken' c d → Taken c d ⊎ ((c ≡ u) × (d ≡ v)))
      (x y : ℕ) (from : OriginAt p t origins u x) (to : OriginAt p t origins v y) (n : M) (higher : HigherOf κ levels u v n) (low : NoneAbove κ.leb n passes) where
    one_more : (c d : Place) → Meet G T t c d → Taken' (number_in a c) (number_in a d) → Taken (number_in a c) (number_in a d) ⊎ ((c ≡ cell_in a u) × (d ≡ cell_in a v))
    one_more c d m h =
        let back = cell_number_lem κ g p l fit t lt in
        ⊎_elim
        (λ old. inl old)
        (λ e. inr (sym (back c (m.clear.0, m.here)) ∙ ap (cell_in a) e.0, sym (back d (m.clear.1, m.there)) ∙ ap (cell_in a) e.1))
        (more _ _ (met c d m) h)

    is_level : highest κ.leb (level (cell_in a u)) (level (cell_in a v)) ≡ n
    is_level = level_at u v n r.from r.to higher

    -- before a pass is kept there is room for it among one fewer than mouths
    pub survey_room : (label labels x ≡ label labels y → ⊥) → length passes + 2 ≤ tile_mouths p t
    survey_room apart = joining_room G T t (tile_mouths p t) (TileMouthAt p t) origin level labels passes _ S x y (origin_at u x r.from from).0 (origin_at v y r.to to).0 apart

    -- a pair whose origins have one label is passed over
    pub survey_skip : label labels x ≡ label labels y → Surveying κ g p t levels origins labels passes Taken'
    survey_skip e =
        let ox = origin_at u x r.from from in
        let oy = origin_at v y r.to to in
        joining_skip G T t (tile_mouths p t) (TileMouthAt p t) origin level O (tile_counted κ g p l fit t lt) labels passes _ _ S
        (cell_in a u) (cell_in a v) one_more x y ox.0 oy.0 ox.1 oy.1 (subst (λ z. NoneAbove κ.leb z passes) (sym is_level) low) e

    -- a pair whose origins have two labels gives a pass, and the second label is made the first
    pub survey_keep : (label labels x ≡ label labels y → ⊥) → (labels' : List ℕ) → Relabelled labels labels' (label labels x) (label labels y) →
        Surveying κ g p t levels origins labels' (passes ++ ((x, y, n) ∷ [])) Taken' × (own_labels labels (tile_mouths p t) ≡ suc (own_labels labels' (tile_mouths p t)))
    survey_keep apart labels' R =
        let ox = origin_at u x r.from from in
        let oy = origin_at v y r.to to in
        subst (λ z. Surveying κ g p t levels origins labels' (passes ++ ((x, y, z) ∷ [])) Taken' × (own_labels labels (tile_mouths p t) ≡ suc (own_labels labels' (tile_mouths p t)))) is_level
        (joining_keep G T t (tile_mouths p t) (TileMouthAt p t) origin level O (tile_counted κ g p l fit t lt) labels passes _ _ S
        (cell_in a u) (cell_in a v) one_more x y ox.0 oy.0 ox.1 oy.1 (subst (λ z. NoneAbove κ.leb z passes) (sym is_level) low) (meet u v r) apart labels' R)

  -- Once all pairs of touching cells are taken up, all labels are one, there is one pass fewer than mouths, and the passes are a tree.
  module _ (labels : List ℕ) (passes : List (ℕ × ℕ × M)) (Taken : ℕ → ℕ → Type 0) (S : Surveying κ g p t levels origins labels passes Taken) (all : (u v : ℕ) → TouchIn p t u v → Taken u v ⊎ Taken v u) where
    all_met : (c d : Place) → Meet G T t c d → Taken (number_in a c) (number_in a d) ⊎ Taken (number_in a d) (number_in a c)
    all_met c d m = all _ _ (met c d m)

    connected : (c d : Place) → T.Mouth c → T.Mouth d → T.tile c ≡ t → T.tile d ≡ t → (s : M) × Inner G T s c d
    connected c d mc md kc kd =
        let D = sheet_tiled κ g p l fit in
        tile_connected κ O g p l fit t lt c d (D.clear c mc, kc) (D.clear d md, kd)

    pub survey_one : (x y : ℕ) → TileMouth p t x → TileMouth p t y → label labels x ≡ label labels y
    survey_one = joining_one G T t (tile_mouths p t) (TileMouthAt p t) origin level O (sheet_symmetric κ g) (sheet_tiled κ g p l fit) (tile_counted κ g p l fit t lt) searched labels passes _ S all_met connected (mouths_some p t l lt)

    pub survey_count : length passes + 1 ≡ tile_mouths p t
    survey_count = joining_count G T t (tile_mouths p t) (TileMouthAt p t) origin level O (sheet_symmetric κ g) (sheet_tiled κ g p l fit) (tile_counted κ g p l fit t lt) searched labels passes _ S all_met connected (mouths_some p t l lt)

    pub survey_tile_tree : TreeOf G T t (TileMouth p t) (TileMouthAt p t) (Listed passes)
    survey_tile_tree = joining_tree_of G T t (tile_mouths p t) (TileMouthAt p t) origin level O (sheet_symmetric κ g) (sheet_tiled κ g p l fit) (tile_counted κ g p l fit t lt) searched labels passes _ S all_met survey_one

    -- over the numbers of the sheet's mouths
    pub survey_tree : (Q : Passes M ℕ) → ((b c : ℕ) (n : M) → Q b c n ↔ Further (mouth_base p t) passes b c n) → SheetTree κ g p t Q
    survey_tree Q same = tree_further κ g p t Q passes same survey_tile_tree
