-- The tiling of a cut sheet, and the numbers of its mouths. Assumes nothing.
use Rattle.std.proofs.Common.{◌≡◌, ℕ, ◌+◌, ◌-◌, ◌<◌, ◌≤◌, sym, ◌∙◌, subst, arith}
use Rattle.std.proofs.lemmas.Bool.{and_parts}
use Rattle.sheets.specs.declared.copies.Place.{Place}
use Rattle.sheets.specs.Grids.{Grid}
use Rattle.tiles.specs.Plans.{Plan, Lawful, tiles, tile_at, tile_of, holds}
use Rattle.tiles.specs.Mouths.{mouth_base, tile_mouths}
use Rattle.tiles.proofs.Tilings.{tile_within}
use Rattle.tiles.proofs.Numberings.{base_rises, base_more}
use Rattle.tiles.proofs.Seams.{numbered}
use Rattle.terrain.specs.Cells.{place, InSheet, OnEdge}
use Rattle.terrain.specs.CellLaws.{some_same}
use Rattle.terrain.specs.Terrains.{Kind, sheet_terrain}
use Rattle.terrain.specs.Ways.{Symmetric}
use Rattle.seams.specs.Tilings.{Tiled}
use Rattle.seams.specs.Trees.{Counted}
use Rattle.seams.specs.Sheets.{Cuts, tiling_of, MouthOf, MouthAt, TileMouth, TileMouthAt}

pub same_place : {c d : Place} → c.row ≡ d.row → c.col ≡ d.col → c ≡ d
same_place p q = λ i. place (p i) (q i)

pub sheet_symmetric : {M : Type 0} (κ : Kind M) (g : Grid M) → Symmetric (sheet_terrain κ g)
sheet_symmetric κ g u v t = (t.1, t.0, t.3, t.2, λ e. t.4 (sym e))

module _ {M : Type 0} (κ : Kind M) (g : Grid M) (p : Plan) (l : Lawful p) (fit : Cuts p g) where
  -- the sheet's cells are the plan's
  pub on_plan : (c : Place) → InSheet g.rows g.cols c → (c.row < p.rows) × (c.col < p.cols)
  on_plan c i = (subst (λ n. c.row < n) fit.rows i.0, subst (λ n. c.col < n) fit.cols i.1)

  pub on_sheet_lem : (c : Place) → (c.row < p.rows) × (c.col < p.cols) → InSheet g.rows g.cols c
  on_sheet_lem c i = (subst (λ n. c.row < n) (sym fit.rows) i.0, subst (λ n. c.col < n) (sym fit.cols) i.1)

  pub sheet_tiled : Tiled (sheet_terrain κ g) (tiling_of p)
  sheet_tiled = record {
    clear = λ c m. on_sheet_lem c (tile_within p c.row c.col (tile_of p c.row c.col) l (and_parts (holds (tile_at p (tile_of p c.row c.col)) c.row c.col) _ m).0);
    seams = λ u v ou ov t apart.
        let iu = on_plan u ou in
        let iv = on_plan v ov in
        (numbered p l).seam u.row u.col v.row v.col iu.0 iu.1 iv.0 iv.1 (t.0, t.1) (t.2, t.3) apart;
    outlets = λ c o e.
        let i = on_plan c o in
        (numbered p l).edge c.row c.col i.0 i.1 (edge c e);
  }
    where
      edge : (c : Place) → OnEdge g.rows g.cols c → OnEdge p.rows p.cols c
      edge c e = subst (λ n. OnEdge p.rows n c) fit.cols (subst (λ n. OnEdge n g.cols c) fit.rows e)

  -- the numbers of a tile's mouths
  pub sheet_counted : (t : ℕ) → t < tiles p → Counted (sheet_terrain κ g) (tiling_of p) t (MouthOf p t) (MouthAt p)
  sheet_counted t lt =
      let N = numbered p l in
      record {
        mouth = λ a c of is. (N.only c.row c.col a is, sym (N.owner c.row c.col a t is of.0 of.1));
        number = λ c m k.
            let a = N.mouth c.row c.col m in
            let b = N.interval c.row c.col a.0 a.1 in
            (a.0, (subst (λ n. mouth_base p n ≤ a.0) k b.1, subst (λ n. a.0 < mouth_base p (n + 1)) k b.2), a.1);
        found = λ a of.
            let f = N.found a (omega (arith, of.1, base_rises p (t + 1) (tiles p) (omega arith))) in
            (place f.0 f.1, f.2);
        single = λ a c d ic id. let s = N.single c.row c.col d.row d.col a ic id in same_place s.0 s.1;
        alike = λ a b c ia ib. some_same a b (sym ia ∙ ib);
      }

  -- the same, counted from 0 in the tile
  pub tile_counted : (t : ℕ) → t < tiles p → Counted (sheet_terrain κ g) (tiling_of p) t (TileMouth p t) (TileMouthAt p t)
  tile_counted t lt =
      let C = sheet_counted t lt in
      let base : ℕ = mouth_base p t in
      let of : (x : ℕ) → x < tile_mouths p t → MouthOf p t (base + x) = λ x h. (omega arith, omega (arith, base_more p t)) in
      record {
        mouth = λ x c h is. C.mouth (base + x) c (of x h) is;
        number = λ c m k.
            let a = C.number c m k in
            let e : a.0 ≡ base + (a.0 - base) = omega (arith, a.1) in
            (a.0 - base, omega (arith, a.1, base_more p t), subst (λ n. MouthAt p n c) e a.2);
        found = λ x h. C.found (base + x) (of x h);
        single = λ x c d ic id. C.single (base + x) c d ic id;
        alike = λ x y c ix iy. omega (arith, C.alike (base + x) (base + y) c ix iy);
      }
