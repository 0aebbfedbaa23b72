-- Routes of the ground of cells are ways of the sheet, and a flood's level is the sill. Assumes nothing.
use Rattle.std.proofs.Common.{◌≡◌, ℕ, zero, suc, ◌+◌, ◌*◌, ◌/◌, ◌%◌, ◌<◌, ◌≤◌, Bool, true, false, cond, ◌||◌, eqb, ◌⊎◌, List, [], ◌∷◌, map, get_or, Some, None, Option, sym, refl, ap, ◌∙◌, subst, ap₂, inl, inr, ⊎_elim, arith, le-ltb, lt-ltb, eq-eqb}
use Rattle.std.specs.List.{range_with_len}
use Rattle.std.proofs.lemmas.List.FromFn.{length-map-range_with_len, get_or-map-range_with_len}
use Rattle.std.proofs.lemmas.Bool.{cases_lt, cases_Bool, eqb-true}
use Rattle.marks.specs.Orders.{OrderLaws, highest}
use Rattle.sheets.specs.Grids.{Grid, at}
use Rattle.sheets.specs.Layouts.{flat}
use Rattle.flood.specs.Grounds.{Graph, Crosses, Route, Found, Least, Drains, Dry}
use Rattle.flood.specs.Grounds as grounds
use Rattle.sheets.specs.declared.copies.Place.{Place}
use Rattle.terrain.specs.Cells.{place, Touches, InSheet, OnEdge, node_of, place_of}
use Rattle.sheets.specs.Grids.{at_edge}
use Rattle.terrain.specs.CellGrounds.{between, cell_drain, cell_graph}
use Rattle.terrain.specs.Terrains.{Kind, mark_or, sheet_terrain}
use Rattle.terrain.specs.Levels.{IsOrigin}
use Rattle.terrain.specs.Ways.{Terrain, AtMost, Walk, Way, worst, last, IsSill}
use Rattle.terrain.specs.Filled.{Lists, HasWay}
use Rattle.terrain.proofs.Marks.{le_self, highest_swap}
use Rattle.terrain.proofs.Walks.{first_worst, from_list, open_last}
use Rattle.terrain.specs.CellLaws.{some_none, some_same, place_in, node_place, node_in, place_node, crossing_joins, joins_crossing}

-- orders

module _ {M : Type 0} {leb : M → M → Bool} (O : OrderLaws leb) where
  -- a mark that is at most k adds nothing to k
  highest_under : (a b k : M) → leb b k ≡ true → highest leb (highest leb a b) k ≡ highest leb a k
  highest_under a b k h = go (leb a b) refl
    where
      go : (x : Bool) → leb a b ≡ x → highest leb (cond x b a) k ≡ highest leb a k
      go true p = ap (λ t. cond t k b) h ∙ sym (ap (λ t. cond t k a) (O.transitive a b k p h))
      go false p = refl

-- a mark of a list, with a default

pub mark_at_lem : {M : Type 0} (void : M) (xs : List M) (k : ℕ) → mark_or void (at xs k) ≡ get_or xs k void
mark_at_lem void [] k = refl
mark_at_lem void (x ∷ xs) zero = refl
mark_at_lem void (x ∷ xs) (suc k) = mark_at_lem void xs k

-- the test for the edge

or_true : (x y : Bool) → (x || y) ≡ true → (x ≡ true) ⊎ (y ≡ true)
or_true true y h = inl refl
or_true false y h = inr h

or_left : (x y : Bool) → x ≡ true → (x || y) ≡ true
or_left true y h = refl
or_left false y h = let z : ◌≡◌ {A = ℕ} 0 1 = cc in absurd (omega arith)

or_right : (x y : Bool) → y ≡ true → (x || y) ≡ true
or_right true y h = refl
or_right false y h = h

pub edge_on : (rows cols : ℕ) (c : Place) → at_edge rows cols c.row c.col ≡ true → OnEdge rows cols c
edge_on rows cols c h = ⊎_elim
    (λ p. inl (⊎_elim (λ q. inl (eqb-true c.row 0 q)) (λ q. inr (eqb-true (c.row + 1) rows q)) (or_true _ _ p)))
    (λ p. inr (⊎_elim (λ q. inl (eqb-true c.col 0 q)) (λ q. inr (eqb-true (c.col + 1) cols q)) (or_true _ _ p)))
    (or_true _ _ h)

pub on_edge : (rows cols : ℕ) (c : Place) → OnEdge rows cols c → at_edge rows cols c.row c.col ≡ true
on_edge rows cols c e =
    let r0 : Bool = eqb c.row 0 in
    let r1 : Bool = eqb (c.row + 1) rows in
    let c0 : Bool = eqb c.col 0 in
    let c1 : Bool = eqb (c.col + 1) cols in
    ⊎_elim
    (λ p. or_left (r0 || r1) (c0 || c1) (⊎_elim (λ q. or_left r0 r1 (eq-eqb c.row 0 q)) (λ q. or_right r0 r1 (eq-eqb (c.row + 1) rows q)) p))
    (λ p. or_right (r0 || r1) (c0 || c1) (⊎_elim (λ q. or_left c0 c1 (eq-eqb c.col 0 q)) (λ q. or_right c0 c1 (eq-eqb (c.col + 1) cols q)) p))
    e

-- up its column each cell has a way
pub column_way : {M : Type 0} (κ : Kind M) (g : Grid M) (i j : ℕ) → i < g.rows → j < g.cols → HasWay (sheet_terrain κ g) (place i j)
column_way κ g zero j h k = ([], ((h, k), inl (inl refl)))
column_way κ g (suc i) j h k =
    let rest = column_way κ g i j (omega arith) k in
    (place i j ∷ rest.0, (((h, k), (omega arith, omega arith, omega arith, omega arith, λ e. omega (arith, ap (λ c. c.row) e)), rest.1.0), rest.1.1))

module _ {M : Type 0} (κ : Kind M) (O : OrderLaws κ.leb) (rows cols : ℕ) (marks : List M) where
  -- the sheet whose marks lie in a list, and its ground
  abbrev T : Terrain M Place
  T = sheet_terrain κ (flat rows cols marks)

  abbrev G : Graph M
  G = cell_graph κ.leb κ.void rows cols marks

  mark_of : (u : ℕ) → T.mark (place_of cols u) ≡ get_or marks u κ.void
  mark_of u = mark_at_lem κ.void marks (node_of cols (place_of cols u)) ∙ ap (λ k. get_or marks k κ.void) (node_place cols u)

  -- the level between two cells, by their marks
  level_between : (u v : ℕ) → between κ.leb κ.void marks u v ≡ highest κ.leb (T.mark (place_of cols u)) (T.mark (place_of cols v))
  level_between u v = ⊎_elim
      (λ (h : u < v). ap₂ (λ a b. highest κ.leb (get_or marks a κ.void) (get_or marks b κ.void)) (omega arith) (omega arith) ∙ both u v)
      (λ (h : v ≤ u). ap₂ (λ a b. highest κ.leb (get_or marks a κ.void) (get_or marks b κ.void)) (omega arith) (omega arith) ∙ highest_swap O (get_or marks v κ.void) (get_or marks u κ.void) ∙ both u v)
      (cases_lt u v)
    where
      both : (u v : ℕ) → highest κ.leb (get_or marks u κ.void) (get_or marks v κ.void) ≡ highest κ.leb (T.mark (place_of cols u)) (T.mark (place_of cols v))
      both u v = sym (ap₂ (highest κ.leb) (mark_of u) (mark_of v))

  drain_on : (u : ℕ) (l : M) → G.drain u ≡ Some l → (u < rows * cols) × OnEdge rows cols (place_of cols u) × (T.mark (place_of cols u) ≡ l)
  unfolding cell_drain
  drain_on u l e = ⊎_elim
      (λ (h : u < rows * cols). inside h (ap (λ b. cond b rest None) (sym (lt-ltb u (rows * cols) h)) ∙ e))
      (λ (h : rows * cols ≤ u). absurd (some_none l (ap (λ b. cond b rest None) (sym (le-ltb u (rows * cols) h)) ∙ e)))
      (cases_lt u (rows * cols))
    where
      rest : Option M
      rest = cond (at_edge rows cols (u / cols) (u % cols)) (Some (get_or marks u κ.void)) None

      inside : u < rows * cols → cond (at_edge rows cols (u / cols) (u % cols)) (Some (get_or marks u κ.void)) None ≡ Some l → (u < rows * cols) × OnEdge rows cols (place_of cols u) × (T.mark (place_of cols u) ≡ l)
      inside h q = ⊎_elim
          (λ (b : at_edge rows cols (u / cols) (u % cols) ≡ true). (h, edge_on rows cols (place_of cols u) b, mark_of u ∙ some_same (get_or marks u κ.void) l (ap (λ x. cond x (Some (get_or marks u κ.void)) None) (sym b) ∙ q)))
          (λ (b : at_edge rows cols (u / cols) (u % cols) ≡ false). absurd (some_none l (ap (λ x. cond x (Some (get_or marks u κ.void)) None) (sym b) ∙ q)))
          (cases_Bool (at_edge rows cols (u / cols) (u % cols)))

  on_drain : (u : ℕ) → u < rows * cols → OnEdge rows cols (place_of cols u) → G.drain u ≡ Some (T.mark (place_of cols u))
  unfolding cell_drain
  on_drain u h e = ap₂ (λ a b. cond a (cond b (Some (get_or marks u κ.void)) None) None) (lt-ltb u (rows * cols) h) (on_edge rows cols (place_of cols u) e) ∙ ap Some (sym (mark_of u))

  -- a route is a way
  route_way : (path : List ℕ) (u : ℕ) (l : M) → Route G u path l →
      Way T (place_of cols u) (map (place_of cols) path) × (worst T (place_of cols u) (map (place_of cols) path) ≡ l) × (last (place_of cols u) (map (place_of cols) path) ≡ place_of cols (grounds.last u path))
  route_way [] u l r =
      let d = drain_on u l r in
      ((place_in rows cols u d.0, d.1), d.2, refl)
  route_way (v ∷ path) u l r =
      let rest = route_way path v r.1 r.3 in
      let j = joined u v r.0 r.2 in
      let low = subst (λ x. AtMost T (T.mark (place_of cols v)) x) rest.1 (first_worst T O (place_of cols v) (map (place_of cols) path)) in
      let level : r.0 ≡ highest κ.leb (T.mark (place_of cols u)) (T.mark (place_of cols v)) = j.2 in (
        ((place_in rows cols u j.0, j.1, rest.0.0), rest.0.1),
        ap (highest κ.leb (T.mark (place_of cols u))) rest.1 ∙ sym (r.4 ∙ ap (λ w. highest κ.leb w r.1) level ∙ highest_under O (T.mark (place_of cols u)) (T.mark (place_of cols v)) r.1 low),
        rest.2,
      )
    where
      joined : (u v : ℕ) (w : M) → Crosses G u v w → (u < rows * cols) × Touches (place_of cols u) (place_of cols v) × (w ≡ highest κ.leb (T.mark (place_of cols u)) (T.mark (place_of cols v)))
      joined u v w c =
          let x = crossing_joins κ.leb κ.void rows cols marks u c.0 v w c.1 in
          (x.from, x.touch, x.level ∙ level_between u v)

  -- a way is a route
  way_route : (ds : List Place) (c : Place) → Way T c ds → Route G (node_of cols c) (map (node_of cols) ds) (worst T c ds)
  way_route [] c w = on_drain (node_of cols c) (node_in rows cols c w.0) (subst (OnEdge rows cols) (sym (place_node cols c w.0.1)) w.1) ∙ ap (λ d. Some (T.mark d)) (place_node cols c w.0.1)
  way_route (d ∷ ds) c w =
      let in_c : InSheet rows cols c = w.0.0 in
      let in-d : InSheet rows cols d = first_in ds d w.0.2 in
      let is_c = place_node cols c in_c.1 in
      let is-d = place_node cols d in-d.1 in
      let k = joins_crossing κ.leb κ.void rows cols marks (node_of cols c) (node_of cols d) (node_in rows cols c in_c) (node_in rows cols d in-d) (subst (λ x. Touches x (place_of cols (node_of cols d))) (sym is_c) (subst (Touches c) (sym is-d) w.0.1)) in
      let level : between κ.leb κ.void marks (node_of cols c) (node_of cols d) ≡ highest κ.leb (T.mark c) (T.mark d) = level_between (node_of cols c) (node_of cols d) ∙ ap₂ (λ x y. highest κ.leb (T.mark x) (T.mark y)) is_c is-d in (
        between κ.leb κ.void marks (node_of cols c) (node_of cols d),
        worst T d ds,
        k,
        way_route ds d (w.0.2, w.1),
        sym (ap (λ x. highest κ.leb x (worst T d ds)) level ∙ highest_under O (T.mark c) (T.mark d) (worst T d ds) (first_worst T O d ds)),
      )
    where
      first_in : (ds : List Place) (d : Place) → Walk T d ds → InSheet rows cols d
      first_in [] d w = w
      first_in (e ∷ ds) d w = w.0

  -- a cell's level is its sill, and each cell has one
  pub level_sill : (u : ℕ) (l : M) (e : ℕ) → Drains G u e l → Least G u l → IsSill T (place_of cols u) l
  level_sill u l e d least = record {
    reached = (let w = route_way d.0 u l d.2 in (map (place_of cols) d.0, w.0, w.1));
    least = λ ds w. least (map (node_of cols) ds) (worst T (place_of cols u) ds) (subst (λ n. Route G n (map (node_of cols) ds) (worst T (place_of cols u) ds)) (node_place cols u) (way_route ds (place_of cols u) w));
  }

  -- a cell of the sheet has a route
  routed : (u : ℕ) → u < rows * cols → Dry G u → ⊥
  routed u h dry =
      let p = place_in rows cols u h in
      let w = column_way κ (flat rows cols marks) (u / cols) (u % cols) p.0 p.1 in
      dry (map (node_of cols) w.0) (worst T (place_of cols u) w.0) (subst (λ n. Route G n (map (node_of cols) w.0) (worst T (place_of cols u) w.0)) (node_place cols u) (way_route w.0 (place_of cols u) w.1))

  pub found_sill : (u : ℕ) → u < rows * cols → (l : Option M) (o : Option ℕ) → Found G u l o → (m : M) × (l ≡ Some m) × IsSill T (place_of cols u) m
  found_sill u h (Some l) (Some e) f = (l, refl, level_sill u l e f.0 f.1)
  found_sill u h (Some l) None f = absurd f
  found_sill u h None (Some e) f = absurd f
  found_sill u h None None f = absurd (routed u h f)

  -- and so has its origin
  level_origin : (u : ℕ) → u < rows * cols → (l : M) (e : ℕ) → Drains G u e l → Least G u l → (G.drain u ≡ Some l → e ≡ u) → IsOrigin κ rows cols marks u l e
  level_origin u h l e d least alone =
      let w = route_way d.0 u l d.2 in
      let here = place_of cols u in
      let ds = map (place_of cols) d.0 in
      let ends : last here ds ≡ place_of cols e = w.2 ∙ ap (place_of cols) d.1 in
      let in_e : InSheet rows cols (place_of cols e) = subst (InSheet rows cols) ends (open_last T (from_list T O (worst T here ds) here ds w.0.0 (le_self O (worst T here ds)))) in
      record {
        inside = subst (λ n. n < rows * cols) (node_place cols e) (node_in rows cols (place_of cols e) in_e);
        edge = subst (OnEdge rows cols) ends w.0.1;
        walk = (ds, w.0.0, ends, w.1);
        own = λ on.
            let drains = on_drain u h on in
            let is : T.mark here ≡ l = O.antisymmetric (T.mark here) l (subst (λ x. AtMost T (T.mark here) x) w.1 (first_worst T O here ds)) (least [] (T.mark here) drains) in
            alone (drains ∙ ap Some is);
      }

  pub found_origin : (u : ℕ) → u < rows * cols → (l : Option M) (o : Option ℕ) → Found G u l o → (m : M) × (e : ℕ) × (l ≡ Some m) × (o ≡ Some e) × IsOrigin κ rows cols marks u m e
  found_origin u h (Some l) (Some e) f = (l, e, refl, refl, level_origin u h l e f.0 f.1 f.2)
  found_origin u h (Some l) None f = absurd f
  found_origin u h None (Some e) f = absurd f
  found_origin u h None None f = absurd (routed u h f)

-- the cells of a sheet
pub cells : ℕ → ℕ → List Place
cells rows cols = map (place_of cols) (range_with_len 0 (rows * cols))

pub cells_all : {M : Type 0} (κ : Kind M) (g : Grid M) → Lists (sheet_terrain κ g) (cells g.rows g.cols)
unfolding cells
cells_all κ g c h =
    let n = g.rows * g.cols in
    let lt = node_in g.rows g.cols c h in (
      node_of g.cols c,
      subst (λ m. node_of g.cols c < m) (sym (length-map-range_with_len (place_of g.cols) 0 (g.rows * g.cols))) lt,
      λ d. get_or-map-range_with_len (place_of g.cols) 0 (g.rows * g.cols) (node_of g.cols c) (node_of g.cols c) d lt (omega arith) ∙ place_node g.cols c h.1,
    )
