-- What the test says: the named marks are the sills, and the filled sheet is finished. Assumes nothing.
use Rattle.std.proofs.Common.{◌≡◌, ℕ, zero, suc, ◌+◌, ◌*◌, ◌/◌, ◌%◌, ◌<◌, ◌≤◌, Bool, true, false, cond, not, ◌&&◌, ◌||◌, eqb, ltb, leb, ◌⊎◌, List, length, get_or, sym, refl, ap, ◌∙◌, subst, inl, inr, ⊎_elim, arith, ltb-true, eq-eqb, ne_eqb, le-leb, leb-true}
use Rattle.std.proofs.lemmas.Bool.{and_parts, and_from, cases_eq, cases_Bool}
use Rattle.marks.specs.Orders.{OrderLaws, highest}
use Rattle.sheets.specs.declared.copies.Place.{Place}
use Rattle.sheets.specs.Grids.{mark, at, at_edge}
use Rattle.sheets.specs.Layouts.{flat}
use Rattle.sheets.proofs.Marks.{at-get_or}
use Rattle.terrain.specs.Cells.{Touches, InSheet, OnEdge, node_of, place_of}
use Rattle.terrain.specs.CellLaws.{place_in, node_place, node_in, place_node}
use Rattle.terrain.specs.Terrains.{Kind, sheet_terrain}
use Rattle.terrain.specs.Under.{Under, stop, step, Drains}
use Rattle.terrain.specs.Ways.{Terrain, IsSill}
use Rattle.terrain.specs.Fills.{Finished}
use Rattle.terrain.proofs.Bridges.{mark_at_lem, edge_on, on_edge}
use Rattle.terrain.proofs.Marks.{le_self, higher_le}
use Rattle.terrain.proofs.Sills.{sill_of_lem}
use Rattle.terrain.proofs.Walks.{open_first, raise}
use Rattle.cases.proofs.Tests.{every, beside, mark_at, sill_at, edge, touch, closed_at, leads, filled_at, passes}

true_false : true ≡ false → ⊥
true_false e = let z : ◌≡◌ {A = ℕ} 0 1 = cc in omega arith

-- a test of every number, at one
every_at : (p : ℕ → Bool) (n k : ℕ) → every p n ≡ true → k < n → p k ≡ true
every_at p zero k e h = absurd (omega arith)
every_at p (suc n) k e h =
    let r = and_parts (p n) (every p n) e in
    ⊎_elim (λ (here : k ≡ n). ap p here ∙ r.0) (λ (other : k ≡ n → ⊥). every_at p n k r.1 (omega (arith, other))) (cases_eq k n)

-- what holds unless a test passes, where it passes
unless : (x y : Bool) → (not x || y) ≡ true → x ≡ true → y ≡ true
unless true y e h = e
unless false y e h = absurd (true_false (sym h))

or_cases : (x y : Bool) → (x || y) ≡ true → (x ≡ true) ⊎ (y ≡ true)
or_cases true y e = inl refl
or_cases false y e = inr e

not_true : (b : Bool) → not b ≡ true → b ≡ false
not_true true e = absurd (true_false (sym e))
not_true false e = refl

mark_same : {M : Type 0} (a b : M) → mark a ≡ mark b → a ≡ b
mark_same a b e = cc

module _ {M : Type 0} (κ : Kind M) (O : OrderLaws κ.leb) (least : (x : M) → κ.leb κ.void x ≡ true) (rows cols : ℕ) (marks sills : List M) (next : List ℕ) (finished : List M) (ok : passes κ rows cols marks sills next finished ≡ true) where
  abbrev T : Terrain M Place
  T = sheet_terrain κ (flat rows cols marks)

  long : (rows * cols ≤ length marks) × (rows * cols ≤ length finished)
  long =
      let r = and_parts (leb (rows * cols) (length marks) && leb (rows * cols) (length finished)) _ ok in
      let s = and_parts (leb (rows * cols) (length marks)) _ r.0 in
      (leb-true _ _ s.0, leb-true _ _ s.1)

  each : (u : ℕ) → u < rows * cols → (closed_at κ rows cols marks sills next u ≡ true) × (leads κ rows cols marks sills next (rows * cols) (sill_at κ rows cols marks sills next u) u ≡ true) × (filled_at κ rows cols marks sills next finished u ≡ true)
  each u h =
      let r = and_parts (leb (rows * cols) (length marks) && leb (rows * cols) (length finished)) _ ok in
      let s = and_parts (closed_at κ rows cols marks sills next u) _ (every_at _ (rows * cols) u r.1 h) in
      let t = and_parts (leads κ rows cols marks sills next (rows * cols) (sill_at κ rows cols marks sills next u) u) _ s.1 in
      (s.0, t.0, t.1)

  abbrev mark_of : ℕ → M
  mark_of = mark_at κ rows cols marks sills next

  abbrev sill_of : ℕ → M
  sill_of = sill_at κ rows cols marks sills next

  abbrev touches : ℕ → ℕ → Bool
  touches = touch κ rows cols marks sills next

  edge_low : (u : ℕ) → u < rows * cols → edge κ rows cols marks sills next u ≡ true → κ.leb (sill_of u) (mark_of u) ≡ true
  edge_low u h e = unless (edge κ rows cols marks sills next u) _ (and_parts (not (edge κ rows cols marks sills next u) || κ.leb (sill_of u) (mark_of u)) _ (each u h).0).0 e

  touch_low : (u v : ℕ) → u < rows * cols → v < rows * cols → touches u v ≡ true → κ.leb (sill_of u) (highest κ.leb (mark_of u) (sill_of v)) ≡ true
  touch_low u v h k e = unless (touches u v) _ (every_at _ (rows * cols) v (and_parts (not (edge κ rows cols marks sills next u) || κ.leb (sill_of u) (mark_of u)) _ (each u h).0).1 k) e

  -- touching cells, by their numbers

  touch_test : (c d : Place) → InSheet rows cols c → InSheet rows cols d → Touches c d → touches (node_of cols c) (node_of cols d) ≡ true
  touch_test c d hc hd t =
      let pc = place_node cols c hc.1 in
      let pd = place_node cols d hd.1 in
      let rc : node_of cols c / cols ≡ c.row = ap (λ z. z.row) pc in
      let cc' : node_of cols c % cols ≡ c.col = ap (λ z. z.col) pc in
      let rd : node_of cols d / cols ≡ d.row = ap (λ z. z.row) pd in
      let cd : node_of cols d % cols ≡ d.col = ap (λ z. z.col) pd in
      let other : node_of cols c ≡ node_of cols d → ⊥ = λ e. t.4 (sym pc ∙ ap (place_of cols) e ∙ pd) in
      let u : ℕ = node_of cols c in
      let v : ℕ = node_of cols d in
      let above : u / cols ≤ v / cols + 1 = omega (arith, t.0) in
      let below : v / cols ≤ u / cols + 1 = omega (arith, t.1) in
      let left : u % cols ≤ v % cols + 1 = omega (arith, t.2) in
      let right : v % cols ≤ u % cols + 1 = omega (arith, t.3) in
      and_from (beside (u / cols) (v / cols) && beside (u % cols) (v % cols)) _
      (and_from (beside (u / cols) (v / cols)) _ (and_from (leb (u / cols) (v / cols + 1)) _ (le-leb _ _ above) (le-leb _ _ below)) (and_from (leb (u % cols) (v % cols + 1)) _ (le-leb _ _ left) (le-leb _ _ right)))
      (ap not (ne_eqb u v other))

  test_touch : (u v : ℕ) → touches u v ≡ true → Touches (place_of cols u) (place_of cols v)
  test_touch u v e =
      let r = and_parts (beside (u / cols) (v / cols) && beside (u % cols) (v % cols)) _ e in
      let s = and_parts (beside (u / cols) (v / cols)) _ r.0 in
      let down = and_parts (leb (u / cols) (v / cols + 1)) _ s.0 in
      let along = and_parts (leb (u % cols) (v % cols + 1)) _ s.1 in (
        leb-true _ _ down.0,
        leb-true _ _ down.1,
        leb-true _ _ along.0,
        leb-true _ _ along.1,
        λ same_cell. true_false (sym (eq-eqb u v (sym (node_place cols u) ∙ ap (node_of cols) same_cell ∙ node_place cols v)) ∙ not_true (eqb u v) r.1),
      )

  -- no way is lower

  low : {t : M} {c o : Place} → Under T t c o → OnEdge rows cols o → κ.leb (sill_of (node_of cols c)) t ≡ true
  low {t} (stop {u = c} inside under) out =
      let on : edge κ rows cols marks sills next (node_of cols c) ≡ true = ap (λ z. at_edge rows cols z.row z.col) (place_node cols c inside.1) ∙ on_edge rows cols c out in
      O.transitive _ _ _ (edge_low (node_of cols c) (node_in rows cols c inside) on) (subst (λ m. κ.leb m t ≡ true) (mark_at_lem κ.void marks (node_of cols c)) under)
  low {t} (step {u = c} {v = d} inside under touch' rest) out =
      let there = open_first T rest in
      let near = touch_low (node_of cols c) (node_of cols d) (node_in rows cols c inside) (node_in rows cols d there) (touch_test c d inside there touch') in
      O.transitive _ _ _ near (higher_le O _ _ t (subst (λ m. κ.leb m t ≡ true) (mark_at_lem κ.void marks (node_of cols c)) under) (low rest out))

  -- the named way is one

  mark_here : (u : ℕ) → T.mark (place_of cols u) ≡ mark_of u
  mark_here u = mark_at_lem κ.void marks (node_of cols (place_of cols u)) ∙ ap mark_of (node_place cols u)

  way : (k : ℕ) (t : M) (u : ℕ) → u < rows * cols → leads κ rows cols marks sills next k t u ≡ true → Drains T t (place_of cols u)
  way zero t u h e =
      let r = and_parts (κ.leb (mark_of u) t) _ e in
      (place_of cols u, stop (place_in rows cols u h) (ap (λ m. κ.leb m t) (mark_here u) ∙ r.0), edge_on rows cols (place_of cols u) r.1)
  way (suc k) t u h e = let r = and_parts (κ.leb (mark_of u) t) _ e in go (way k t) r.0 (or_cases (edge κ rows cols marks sills next u) _ r.1)
    where
      go : ((v : ℕ) → v < rows * cols → leads κ rows cols marks sills next k t v ≡ true → Drains T t (place_of cols v)) → κ.leb (mark_of u) t ≡ true →
          (edge κ rows cols marks sills next u ≡ true) ⊎ (((touches u (get_or next u u) && ltb (get_or next u u) (rows * cols)) && leads κ rows cols marks sills next k t (get_or next u u)) ≡ true) → Drains T t (place_of cols u)
      go rest under (inl on) = (place_of cols u, stop (place_in rows cols u h) (ap (λ m. κ.leb m t) (mark_here u) ∙ under), edge_on rows cols (place_of cols u) on)
      go rest under (inr more) =
          let s = and_parts (touches u (get_or next u u) && ltb (get_or next u u) (rows * cols)) _ more in
          let q = and_parts (touches u (get_or next u u)) _ s.0 in
          let d = rest (get_or next u u) (ltb-true _ _ q.1) s.1 in
          (d.0, step (place_in rows cols u h) (ap (λ m. κ.leb m t) (mark_here u) ∙ under) (test_touch u (get_or next u u) q.0) d.1, d.2)

  pub sill_at_lem : (c : Place) → InSheet rows cols c → IsSill T c (sill_of (node_of cols c))
  sill_at_lem c h =
      let u : ℕ = node_of cols c in
      let inside = node_in rows cols c h in
      let here = place_node cols c h.1 in
      let drains : Drains T (sill_of u) c = subst (Drains T (sill_of u)) here (way (rows * cols) (sill_of u) u inside (each u inside).1) in
      sill_of_lem T O c (sill_of u) (λ t le. (drains.0, raise T O le drains.1, drains.2)) (λ t d. low d.1 d.2)

  -- the filled sheet

  filled : (u : ℕ) → u < rows * cols → get_or finished u κ.void ≡ cond (κ.leb (mark_of u) κ.void) κ.void (sill_of u)
  filled u h =
      let r = and_parts (κ.leb (get_or finished u κ.void) (cond (κ.leb (mark_of u) κ.void) κ.void (sill_of u))) _ (each u h).2 in
      O.antisymmetric _ _ r.0 r.1

  pub holds : (c : Place) → InSheet rows cols c → Finished κ (flat rows cols marks) (flat rows cols finished) c
  holds c h =
      let u : ℕ = node_of cols c in
      let inside = node_in rows cols c h in
      let source : at marks u ≡ mark (mark_of u) = at-get_or marks u κ.void (omega (arith, long.0)) in
      let target : at finished u ≡ mark (get_or finished u κ.void) = at-get_or finished u κ.void (omega (arith, long.1)) in
      record {
        voids = λ e.
            let is : mark_of u ≡ κ.void = mark_same _ _ (sym source ∙ e) in
            target ∙ ap mark (filled u inside ∙ ap (λ b. cond b κ.void (sill_of u)) (ap (λ m. κ.leb m κ.void) is ∙ le_self O κ.void));
        sills = λ other.
            let above : κ.leb (mark_of u) κ.void ≡ false = ⊎_elim (λ (e : κ.leb (mark_of u) κ.void ≡ true). absurd (other (source ∙ ap mark (O.antisymmetric _ _ e (least (mark_of u)))))) (λ e. e) (cases_Bool (κ.leb (mark_of u) κ.void)) in
            (sill_of u, target ∙ ap mark (filled u inside ∙ ap (λ b. cond b κ.void (sill_of u)) above), sill_at_lem c h);
      }
