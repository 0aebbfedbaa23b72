-- The least worst level of a mouth over the routes of the mouth graph is its sill. Assumes nothing.
use Rattle.std.proofs.Common.{◌≡◌, ℕ, ◌<◌, ◌≤◌, true, List, [], ◌∷◌, Some, None, Option, sym, refl, ◌∙◌, subst, subst₂, inl, inr, ⊎_elim, arith}
use Rattle.std.proofs.lemmas.Bool.{cases_lt}
use Rattle.marks.specs.Orders.{OrderLaws, highest}
use Rattle.flood.specs.Grounds.{Graph, graph, Route, LeastWorst, Found}
use Rattle.sheets.specs.declared.copies.Place.{Place}
use Rattle.sheets.specs.Grids.{Grid}
use Rattle.tiles.specs.Plans.{Plan, Lawful, tiles}
use Rattle.tiles.proofs.Tilings.{tile_exists}
use Rattle.tiles.proofs.Seams.{numbered}
use Rattle.terrain.specs.CellLaws.{some_same}
use Rattle.terrain.specs.Terrains.{Kind, sheet_terrain}
use Rattle.terrain.specs.Ways.{Terrain, IsSill, worst}
use Rattle.terrain.proofs.Bridges.{column_way}
use Rattle.terrain.proofs.Marks.{le_self, higher_le, higher_le_left, higher_le_right}
use Rattle.terrain.proofs.Sills.{way_drains}
use Rattle.seams.specs.Tilings.{Tiling, Passes, Tree, Link, pass, seam, Settles, out, over, IsSettled}
use Rattle.seams.specs.Trees.{Placed}
use Rattle.seams.specs.Sheets.{Cuts, tiling_of, MouthOf, MouthAt, SheetTree}
use Rattle.seams.specs.MouthGraphs.{Linked, by_pass, by_seam, MouthGraph}
use Rattle.seams.proofs.Chains.{chain_map}
use Rattle.seams.proofs.Mouths.{drains_settles, settle}
use Rattle.seams.proofs.Sheets.{same_place, sheet_tiled, sheet_counted}
use Rattle.seams.proofs.Trees.{tree_by_thresholds}

module _ {M : Type 0} (κ : Kind M) (O : OrderLaws κ.leb) (g : Grid M) (p : Plan) (l : Lawful p) (fit : Cuts p g)
    (P : ℕ → Passes M ℕ) (trees : (t : ℕ) → t < tiles p → SheetTree κ g p t (P t))
    (nodes : ℕ) (crossings : ℕ → List (ℕ × M)) (drain : ℕ → Option M) (N : MouthGraph κ g p P nodes crossings drain) where
  abbrev G : Terrain M Place
  G = sheet_terrain κ g

  abbrev T : Tiling Place
  T = tiling_of p

  abbrev H : Graph M
  H = graph κ.leb nodes crossings drain

  -- the passes of a tile, between cells
  abbrev Q : ℕ → Passes M Place
  Q t c d n = (t < tiles p) × Placed (MouthAt p) (P t) c d n

  all_trees : (t : ℕ) → Tree G T t (Q t)
  all_trees t = ⊎_elim inside outside (cases_lt t (tiles p))
    where
      inside : t < tiles p → Tree G T t (Q t)
      inside lt =
          let R = tree_by_thresholds G T O (sheet_tiled κ g p l fit) t (MouthOf p t) (MouthAt p) (sheet_counted κ g p l fit t lt) (P t) (trees t lt) in
          record {
            ends = λ c d n q. R.ends c d n q.1;
            joins = λ s c d mc md kc kd.
                let j = R.joins s c d mc md kc kd in
                (λ h. j.0 (h.0, chain_map (λ x. x) (λ a b n q. q.1) h.1), λ i. let h = j.1 i in (h.0, chain_map (λ x. x) (λ a b n q. (lt, q)) h.1));
          }

      outside : tiles p ≤ t → Tree G T t (Q t)
      outside ge = record {
        ends = λ c d n q. absurd (omega (arith, q.0));
        joins = λ s c d mc md kc kd. absurd (omega (arith, kc, tile_exists p c.row c.col));
      }

  same_cell : (a : ℕ) (c d : Place) → MouthAt p a c → MouthAt p a d → c ≡ d
  same_cell a c d ic id = let s = (numbered p l).single c.row c.col d.row d.col a ic id in same_place s.0 s.1

  mouth_of : (a : ℕ) (c : Place) → MouthAt p a c → T.Mouth c
  mouth_of a c is = (numbered p l).only c.row c.col a is

  -- the mouth that a link leads to is a cell, and the cells are linked
  link_cells : {a b : ℕ} {n : M} → Linked κ g p P a b n → (c : Place) → MouthAt p a c → (d : Place) × MouthAt p b d × Link G T Q c d n
  link_cells {a} {b} (by_pass {l = n} t lt (inl q)) c ic =
      let d = (sheet_counted κ g p l fit t lt).found b ((trees t lt).ends a b n q).1 in
      (d.0, d.1, pass t (inl (lt, (a, b, ic, d.1, q))))
  link_cells {a} {b} (by_pass {l = n} t lt (inr q)) c ic =
      let d = (sheet_counted κ g p l fit t lt).found b ((trees t lt).ends b a n q).0 in
      (d.0, d.1, pass t (inr (lt, (b, a, d.1, ic, q))))
  link_cells {a} {b} (by_seam c' d ic' id r apart is) c ic =
      (d, id, subst₂ (λ x n. Link G T Q x d n) (same_cell a c' c ic' ic) is (seam (mouth_of a c' ic') (mouth_of b d id) r apart))

  -- and the other way
  cells_link : {c d : Place} {n : M} → Link G T Q c d n → (a : ℕ) → MouthAt p a c → (b : ℕ) × MouthAt p b d × Linked κ g p P a b n
  cells_link {c} {d} (pass {l = n} t (inl q)) a ic =
      let is : q.1.0 ≡ a = some_same q.1.0 a (sym q.1.2 ∙ ic) in
      (q.1.1, q.1.3, by_pass t q.0 (inl (subst (λ x. P t x q.1.1 n) is q.1.4)))
  cells_link {c} {d} (pass {l = n} t (inr q)) a ic =
      let is : q.1.1 ≡ a = some_same q.1.1 a (sym q.1.3 ∙ ic) in
      (q.1.0, q.1.2, by_pass t q.0 (inr (subst (λ x. P t q.1.0 x n) is q.1.4)))
  cells_link {c} {d} (seam mc md r apart) a ic =
      let b = (numbered p l).mouth d.row d.col md in
      (b.0, b.1, by_seam c d ic b.1 r apart refl)

  route_settles : (path : List ℕ) (a : ℕ) (n s : M) (c : Place) → MouthAt p a c → Route H a path n → κ.leb n s ≡ true → Settles G T Q s c
  route_settles [] a n s c ic r h =
      let d = (N.drains a n).0 r in
      let is = same_cell a d.0 c d.1 ic in
      subst (Settles G T Q s) is (out (mouth_of a d.0 d.1) d.2 (subst (λ x. κ.leb x s ≡ true) (sym d.3) h))
  route_settles (b ∷ path) a n s c ic r h =
      let low = subst (λ x. κ.leb x s ≡ true) r.4 h in
      let rest : (d : Place) → MouthAt p b d → Settles G T Q s d = λ d id. route_settles path b r.1 s d id r.3 (higher_le_right O r.0 r.1 s low) in
      ⊎_elim
      (λ linked.
      let k = link_cells linked c ic in
      over k.2 (higher_le_left O r.0 r.1 s low) (rest k.0 k.1))
      (λ e. rest c (subst (λ x. MouthAt p x c) e ic))
      (N.only a b r.0 r.2)

  settles_route : {s : M} {c : Place} → Settles G T Q s c → (a : ℕ) → MouthAt p a c → (path : List ℕ) × (n : M) × Route H a path n × (κ.leb n s ≡ true)
  settles_route (out {a = c} mc o h) a ic = ([], G.mark c, (N.drains a (G.mark c)).1 (c, ic, o, refl), h)
  settles_route {s} (over {l = j} k h r) a ic =
      let b = cells_link k a ic in
      let rest = settles_route r b.0 b.1 in
      (b.0 ∷ rest.0, highest κ.leb j rest.1, (j, rest.1, N.links a b.0 j b.2, rest.2, refl), higher_le O j rest.1 s h rest.3)

  -- every mouth has a route
  pub mouth_route : (a : ℕ) (c : Place) → MouthAt p a c → (path : List ℕ) × (n : M) × Route H a path n
  mouth_route a c ic =
      let m = mouth_of a c ic in
      let i = (sheet_tiled κ g p l fit).clear c m in
      let w = column_way κ g c.row c.col i.0 i.1 in
      let d = way_drains G O (worst G c w.0) c w.0 w.1 (le_self O (worst G c w.0)) in
      let r = settles_route (drains_settles G T O (sheet_tiled κ g p l fit) Q all_trees m d) a ic in
      (r.0, r.1, r.2)

  -- its least worst level is its sill
  pub mouth_sill : (a : ℕ) (c : Place) → MouthAt p a c → (s : Option M) → LeastWorst H a s → (m : M) × (s ≡ Some m) × IsSill G c m
  mouth_sill a c ic (Some m) L =
      let e = L.0.1 in
      let settled : IsSettled G T Q c m = record {
        settles = route_settles e.0 a m m c ic e.2 (le_self O m);
        least = λ s x. let r = settles_route x a ic in O.transitive m r.1 s (L.1 r.0 r.1 r.2) r.3;
      } in
      (m, refl, ((settle G T O (sheet_tiled κ g p l fit) Q all_trees c (mouth_of a c ic)).1 m).0 settled)
  mouth_sill a c ic None dry = let r = mouth_route a c ic in absurd (dry r.0 r.1 r.2)

  -- and so is the level that a flood of the graph finds
  pub mouth_found : (a : ℕ) (c : Place) → MouthAt p a c → (s : Option M) (o : Option ℕ) → Found H a s o → (m : M) × (s ≡ Some m) × IsSill G c m
  mouth_found a c ic (Some m) (Some e) f = mouth_sill a c ic (Some m) ((e, f.0), f.1)
  mouth_found a c ic (Some m) None f = absurd f
  mouth_found a c ic None (Some e) f = absurd f
  mouth_found a c ic None None f = mouth_sill a c ic None f
