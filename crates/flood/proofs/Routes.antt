-- Levels that are closed under crossings and drains are the least worst levels. Assumes nothing.
use Rattle.std.proofs.Common.{◌≡◌, ℕ, ◌<◌, true, List, [], ◌∷◌, Some, None, Option, sym, refl, ap, subst, ⊎_elim}
use Rattle.std.proofs.lemmas.Bool.{cases_Bool, cond_both}
use Rattle.marks.specs.Orders.{highest}
use Rattle.flood.proofs.Counts.{some_same, none_some}
use Rattle.flood.proofs.Laws.{Lawful}
use Rattle.flood.specs.Grounds.{Graph, Crosses, Route, Drains, LeastWorst, Found}

-- a node that drains has a level at most its drain's, and a level is passed on over each crossing
pub record ClosedUp {M : Type 0} (g : Graph M) (lv : ℕ → Option M) : Type 0 where
  pub drained : (v : ℕ) (d : M) → v < g.nodes → g.drain v ≡ Some d → (l : M) × (lv v ≡ Some l) × (g.leb l d ≡ true)
  pub crossed : (u v : ℕ) (w l : M) → u < g.nodes → lv u ≡ Some l → Crosses g u v w → (k : M) × (lv v ≡ Some k) × (g.leb k (highest g.leb w l) ≡ true)

module _ {M : Type 0} {g : Graph M} (laws : Lawful g) where
  pub leb_refl : (x : M) → g.leb x x ≡ true
  leb_refl x = ⊎_elim (λ e. e) (λ e. laws.total x x e) (cases_Bool (g.leb x x))

  pub higher_left : (x y : M) → g.leb x (highest g.leb x y) ≡ true
  higher_left x y = cond_both (g.leb x y) y x (λ z. g.leb x z ≡ true) (λ e. e) (λ e. leb_refl x)

  pub higher_right : (x y : M) → g.leb y (highest g.leb x y) ≡ true
  higher_right x y = cond_both (g.leb x y) y x (λ z. g.leb y z ≡ true) (λ e. leb_refl y) (λ e. laws.total x y e)

  pub higher_least : (x y z : M) → g.leb x z ≡ true → g.leb y z ≡ true → g.leb (highest g.leb x y) z ≡ true
  higher_least x y z a b = cond_both (g.leb x y) y x (λ h. g.leb h z ≡ true) (λ e. b) (λ e. a)

  -- a route from u, begun one crossing earlier
  pub extended : (u v e : ℕ) (w l : M) → Crosses g u v w → Drains g u e l → Drains g v e (highest g.leb w l)
  extended u v e w l c r = (u ∷ r.0, r.1, (w, l, laws.back u c.0 v w c.1, r.2, refl))

  -- every route is met by a level that is at most its worst
  pub met : {lv : ℕ → Option M} → ClosedUp g lv → (v : ℕ) (path : List ℕ) (k : M) → v < g.nodes → Route g v path k → (l : M) × (lv v ≡ Some l) × (g.leb l k ≡ true)
  met h v [] k b is = h.drained v k b is
  met h u (v ∷ path) k b r =
      let w = r.0 in
      let l = r.1 in
      let c = r.2 in
      let far : v < g.nodes = laws.within u c.0 v w c.1 in
      let at_v = met h v path l far r.3 in
      let at_u = h.crossed v u w at_v.0 far at_v.1 (laws.back u c.0 v w c.1) in
      let top = highest g.leb w l in
      let low = laws.transitive at_v.0 l top at_v.2 (higher_right w l) in
      let bound = higher_least w at_v.0 top (higher_left w l) low in
      (at_u.0, at_u.1, rw r.4 (laws.transitive at_u.0 (highest g.leb w at_v.0) top at_u.2 bound))

  at_level : (lv : ℕ → Option M) → ClosedUp g lv → ((v : ℕ) (l : M) → v < g.nodes → lv v ≡ Some l → (e : ℕ) × Drains g v e l) → (v : ℕ) → v < g.nodes → (o : Option M) → lv v ≡ o → LeastWorst g v o
  at_level lv h each v b (Some l) is = (each v l b is, λ path k r. let m = met h v path k b r in subst (λ x. g.leb x k ≡ true) (sym (some_same (lv v) l m.0 is m.1)) m.2)
  at_level lv h each v b None is = λ path k r. let m = met h v path k b r in none_some (lv v) m.0 is m.1

  -- levels that are closed under crossings and drains, and each of which some route has, are the least worst levels
  pub closed_least : (lv : ℕ → Option M) → ClosedUp g lv → ((v : ℕ) (l : M) → v < g.nodes → lv v ≡ Some l → (e : ℕ) × Drains g v e l) → (v : ℕ) → v < g.nodes → LeastWorst g v (lv v)
  closed_least lv h each v b = at_level lv h each v b (lv v) refl

  -- there is one such level at most
  pub least_one : (v : ℕ) (l k : Option M) → LeastWorst g v l → LeastWorst g v k → l ≡ k
  least_one v (Some l) (Some k) a b = ap Some (laws.antisymmetric l k (a.1 b.0.1.0 k b.0.1.2) (b.1 a.0.1.0 l a.0.1.2))
  least_one v (Some l) None a b = absurd (b a.0.1.0 l a.0.1.2)
  least_one v None (Some k) a b = absurd (a b.0.1.0 k b.0.1.2)
  least_one v None None a b = refl

-- the level that a flood finds is the least worst level
pub found_least : {M : Type 0} (g : Graph M) (v : ℕ) (l : Option M) (e : Option ℕ) → Found g v l e → LeastWorst g v l
found_least g v (Some l) (Some e) f = ((e, f.0), f.1)
found_least g v (Some l) None f = absurd f
found_least g v None (Some e) f = absurd f
found_least g v None None f = f
