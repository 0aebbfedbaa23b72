-- Tables that hold what surveys left stand for the graph of the sheet's mouths. Assumes nothing.
use Rattle.std.proofs.Common.{◌≡◌, ℕ, suc, ◌+◌, ◌-◌, ◌<◌, ◌≤◌, min, max, true, false, ltb, leb, ◌⊎◌, ◌↔◌, List, Some, None, Option, sym, refl, ap, ◌∙◌, subst, ap₂, inl, inr, ⊎_elim, add-one, arith, lt-ltb, le-leb}
use Rattle.std.specs.List.{slice_get}
use Rattle.std.proofs.lemmas.Bool.{and_from, cases_lt, cases_Bool}
use Rattle.marks.specs.Orders.{OrderLaws, highest}
use Rattle.flood.specs.Grounds.{Crosses, LeastWorst}
use Rattle.sheets.specs.declared.copies.Place.{Place}
use Rattle.sheets.specs.Grids.{Grid, mark, at_edge}
use Rattle.terrain.specs.Cells.{OnEdge}
use Rattle.terrain.specs.Terrains.{Kind, cell_at, mark_or, sheet_terrain}
use Rattle.terrain.specs.Ways.{IsSill}
use Rattle.terrain.proofs.Bridges.{edge_on, on_edge}
use Rattle.terrain.proofs.Marks.{highest_swap}
use Rattle.tiles.specs.Plans.{Plan, Lawful, tiles, tile_of}
use Rattle.tiles.specs.Mouths.{mouths, mouth_base, pass_base}
use Rattle.tiles.proofs.Tilings.{tile_exists}
use Rattle.tiles.proofs.Seams.{numbered}
use Rattle.seams.specs.Sheets.{Cuts, MouthOf, MouthAt}
use Rattle.seams.specs.MouthGraphs.{Linked, by_pass, by_seam, DrainsAt, MouthGraph}
use Rattle.seams.proofs.Settles.{mouth_sill}
use Rattle.tables.specs.declared.records.MouthRecord.{MouthRecord}
use Rattle.tables.specs.Records.{Tables, tables, mark_of, mouth_with}
use Rattle.tables.specs.Records as records
use Rattle.tables.specs.Links.{of_tile, cell_of, seam_level, mouth_crossings, mouth_drain, mouth_graph, Seamed, Passed}
use Rattle.tables.specs.Surveyed.{PassIn, Recorded, HaveSills}
use Rattle.tables.proofs.Picking.{none_some}
use Rattle.tables.proofs.Linked.{cross_linked, linked_cross, mouth_joins, cell_number_lem, drain_none}

module _ {M : Type 0} (κ : Kind M) (O : OrderLaws κ.leb) (g : Grid M) (p : Plan) (law : Lawful p) (fit : Cuts p g) (w : Tables M) (all : (t : ℕ) → t < tiles p → Recorded κ g p t w) where
  -- a mouth belongs to the tile of its cell
  of_its_tile : (a : ℕ) (c : Place) → MouthAt p a c → MouthOf p (tile_of p c.row c.col) a
  of_its_tile a c e = let r = (numbered p law).interval c.row c.col a e in (r.1, r.2)

  recorded_mark : (a : ℕ) (c : Place) → MouthAt p a c → (m : M) × (cell_at g c ≡ mark m) × (slice_get w.mouths a ≡ Some (mouth_with m None))
  recorded_mark a c e = (all (tile_of p c.row c.col) (tile_exists p c.row c.col)).marks a c (of_its_tile a c e) e

  mark_is : (a : ℕ) (c : Place) → MouthAt p a c → mark_of κ.void w.mouths a ≡ (sheet_terrain κ g).mark c
  mark_is a c e = let r = recorded_mark a c e in ap (records.mark_or κ.void) r.2 ∙ sym (ap (mark_or κ.void) r.1)

  level_is : (a b : ℕ) (c d : Place) → MouthAt p a c → MouthAt p b d → seam_level κ w.mouths a b ≡ highest κ.leb ((sheet_terrain κ g).mark c) ((sheet_terrain κ g).mark d)
  level_is a b c d e f = ⊎_elim
      (λ (h : a < b).
      let low : min a b ≡ a = omega arith in
      let high : max a b ≡ b = omega arith in
      ap₂ (highest κ.leb) (ap (mark_of κ.void w.mouths) low ∙ mark_is a c e) (ap (mark_of κ.void w.mouths) high ∙ mark_is b d f))
      (λ (h : b ≤ a).
      let low : min a b ≡ b = omega arith in
      let high : max a b ≡ a = omega arith in
      ap₂ (highest κ.leb) (ap (mark_of κ.void w.mouths) low ∙ mark_is b d f) (ap (mark_of κ.void w.mouths) high ∙ mark_is a c e) ∙ highest_swap O ((sheet_terrain κ g).mark d) ((sheet_terrain κ g).mark c))
      (cases_lt a b)

  -- passes

  in_tile : (t a : ℕ) → MouthOf p t a → of_tile p t a ≡ true
  in_tile t a h = and_from (leb (mouth_base p t) a) (ltb a (mouth_base p (suc t))) (le-leb (mouth_base p t) a h.0) (lt-ltb a (mouth_base p (suc t)) (subst (λ n. a < mouth_base p n) (add-one t) h.1))

  pass_linked : (t a b : ℕ) (l : M) → t < tiles p → PassIn p t w.passes a b l → Passed κ p w a b l
  pass_linked t a b l h s =
      let ends = (all t h).tree.ends a b l s in
      record {
        tile = t;
        place = s.0 - pass_base p t;
        pass = record { from = a; to = b; level = l };
        exists = h;
        within = omega (arith, s.1);
        stands = let e : pass_base p t + (s.0 - pass_base p t) ≡ s.0 = omega (arith, s.1) in ap (slice_get w.passes) e ∙ s.2;
        from_in = in_tile t a ends.0;
        to_in = in_tile t b ends.1;
        ends = inl (refl, refl);
        level = refl;
      }

  turned : (a b : ℕ) (l : M) → Passed κ p w a b l → Passed κ p w b a l
  turned a b l s = record {
    tile = s.tile;
    place = s.place;
    pass = s.pass;
    exists = s.exists;
    within = s.within;
    stands = s.stands;
    from_in = s.from_in;
    to_in = s.to_in;
    ends = ⊎_elim inr inl s.ends;
    level = s.level;
  }

  linked_pass : (a b : ℕ) (l : M) (s : Passed κ p w a b l) → PassIn p s.tile w.passes a b l ⊎ PassIn p s.tile w.passes b a l
  linked_pass a b l s = ⊎_elim
      (λ (e : (s.pass.from ≡ a) × (s.pass.to ≡ b)). inl (pass_base p s.tile + s.place, (omega arith, omega (arith, s.within)), s.stands ∙ (λ i. Some (record { from = e.0 i; to = e.1 i; level = sym s.level i }))))
      (λ (e : (s.pass.from ≡ b) × (s.pass.to ≡ a)). inr (pass_base p s.tile + s.place, (omega arith, omega (arith, s.within)), s.stands ∙ (λ i. Some (record { from = e.0 i; to = e.1 i; level = sym s.level i }))))
      s.ends

  -- the graph

  drains_so : (a : ℕ) (l : M) → (mouth_drain κ p w a ≡ Some l) ↔ DrainsAt κ g p a l
  drains_so a l = (to, from)
    where
      from : DrainsAt κ g p a l → mouth_drain κ p w a ≡ Some l
      from d =
          let edge : OnEdge p.rows p.cols d.0 = subst (λ z. OnEdge p.rows z d.0) fit.cols (subst (λ z. OnEdge z g.cols d.0) fit.rows d.2) in
          (mouth_joins κ p w law).drains a d.0.row d.0.col d.1 edge ∙ ap Some (mark_is a d.0 d.1 ∙ d.3)

      to : mouth_drain κ p w a ≡ Some l → DrainsAt κ g p a l
      to e = ⊎_elim
          (λ (h : a < mouths p).
          let c = cell_of p a in
          let n = cell_number_lem p law a h in
          ⊎_elim
          (λ (is : at_edge p.rows p.cols c.row c.col ≡ true).
          let edge = edge_on p.rows p.cols c is in
          let here = (mouth_joins κ p w law).drains a c.row c.col n edge in
          let same : mark_of κ.void w.mouths a ≡ l = some_same _ l (sym here ∙ e) in
          (c, n, subst (λ z. OnEdge g.rows z c) (sym fit.cols) (subst (λ z. OnEdge z p.cols c) (sym fit.rows) edge), sym (mark_is a c n) ∙ same))
          (λ (is : at_edge p.rows p.cols c.row c.col ≡ false). absurd (none_some l (sym ((mouth_joins κ p w law).dry a c.row c.col n (λ on. off c is on)) ∙ e)))
          (cases_Bool (at_edge p.rows p.cols c.row c.col)))
          (λ (h : mouths p ≤ a). absurd (none_some l (sym (drain_none κ p w law a h) ∙ e)))
          (cases_lt a (mouths p))
        where
          some_same : {X : Type 0} (x y : X) → Some x ≡ Some y → x ≡ y
          some_same x y q = cc

          off : (c : Place) → at_edge p.rows p.cols c.row c.col ≡ false → OnEdge p.rows p.cols c → ⊥
          off c is on = let z : true ≡ false = sym (on_edge p.rows p.cols c on) ∙ is in let q : ◌≡◌ {A = ℕ} 0 1 = cc in omega arith

  pub mouth_graph_lem : MouthGraph κ g p (λ t. PassIn p t w.passes) (mouths p) (mouth_crossings κ p w) (mouth_drain κ p w)
  mouth_graph_lem = record {
    links = links;
    only = only;
    drains = drains_so;
  }
    where
      links : (a b : ℕ) (l : M) → Linked κ g p (λ t. PassIn p t w.passes) a b l → Crosses (mouth_graph κ p w) a b l
      links a b l (by_pass t h e) = linked_cross κ p w law a b l (inr (⊎_elim (λ s. pass_linked t a b l h s) (λ s. turned b a l (pass_linked t b a l h s)) e))
      links a b l (by_seam c d e f touch apart is) = linked_cross κ p w law a b l (inl (record { from = c; to = d; from_number = e; to_number = f; touch = touch; apart = apart; level = sym is ∙ sym (level_is a b c d e f) }))

      only : (a b : ℕ) (l : M) → Crosses (mouth_graph κ p w) a b l → Linked κ g p (λ t. PassIn p t w.passes) a b l ⊎ (a ≡ b)
      only a b l e = inl (⊎_elim
          (λ (s : Seamed κ p w a b l). by_seam s.from s.to s.from_number s.to_number s.touch s.apart (sym (s.level ∙ level_is a b s.from s.to s.from_number s.to_number)))
          (λ (s : Passed κ p w a b l). by_pass s.tile s.exists (linked_pass a b l s))
          (cross_linked κ p w law a e.0 b l e.1))

  -- a mouth's least worst level in it is its sill
  pub level_sill : (a : ℕ) (c : Place) → MouthAt p a c → (s : Option M) → LeastWorst (mouth_graph κ p w) a s → (m : M) × (s ≡ Some m) × IsSill (sheet_terrain κ g) c m
  level_sill = mouth_sill κ O g p law fit (λ t. PassIn p t w.passes) (λ t h. (all t h).tree) (mouths p) (mouth_crossings κ p w) (mouth_drain κ p w) mouth_graph_lem

  -- so settling gives each mouth its sill
  pub settled_sills : (ms : List (MouthRecord M)) → ((a : ℕ) (r : MouthRecord M) → a < mouths p → slice_get w.mouths a ≡ Some r → (s : Option M) × (slice_get ms a ≡ Some (mouth_with r.mark s)) × LeastWorst (mouth_graph κ p w) a s) → HaveSills κ g p (tables ms w.passes)
  settled_sills ms levels a c e =
      let r = recorded_mark a c e in
      let s = levels a (mouth_with r.0 None) ((numbered p law).interval c.row c.col a e).3 r.2 in
      let q = level_sill a c e s.0 s.2 in
      (r.0, q.0, r.1, s.1 ∙ ap (λ z. Some (mouth_with r.0 z)) q.1, q.2)
