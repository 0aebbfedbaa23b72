-- Chains over the numbers of mouths and over the mouths; the tree by thresholds and the tree by least levels. Assumes nothing.
use Rattle.std.proofs.Common.{◌≡◌, ℕ, Bool, true, ◌⊎◌, ◌↔◌, sym, refl, subst, inl, inr, ⊎_elim}
use Rattle.std.proofs.lemmas.Bool.{cases_eq}
use Rattle.marks.specs.Orders.{OrderLaws, highest}
use Rattle.terrain.specs.Ways.{Terrain, AtMost, worst}
use Rattle.terrain.specs.Under.{Under, stop}
use Rattle.terrain.proofs.Marks.{le_self, higher_le, higher_le_left, higher_le_right}
use Rattle.terrain.proofs.Walks.{low_first, low_last, from_list, to_list}
use Rattle.seams.specs.Tilings.{Tiling, Passes, cut, own, Chain, stay, hop, Tiled, Inner, Tree}
use Rattle.seams.specs.Trees.{LeastOf, ChainAt, one, more, Placed, InnerWalk, Counted, TreeOf}
use Rattle.seams.specs.Joins.{LowestChain}
use Rattle.seams.proofs.Mouths.{own_inner, inner_own}

-- a chain under a threshold, and its highest level
module _ {M N : Type 0} {leb : M → M → Bool} (O : OrderLaws leb) {P : Passes M N} where
  pub chain_highest : {t : M} {a b : N} → Chain leb P t a b → (a ≡ b) ⊎ ((l : M) × ChainAt leb P a b l × (leb l t ≡ true))
  chain_highest stay = inl refl
  chain_highest {t} (hop {a = a} {b = b} {c = c} {l = j} p h r) = ⊎_elim
      (λ e. inr (j, subst (λ x. ChainAt leb P a x j) e (one p), h))
      (λ s. inr (highest leb j s.0, more p s.1, higher_le O j s.0 t h s.2))
      (chain_highest r)

  pub highest_chain : {t : M} {a b : N} {l : M} → ChainAt leb P a b l → leb l t ≡ true → Chain leb P t a b
  highest_chain (one p) h = hop p h stay
  highest_chain (more p r) h = hop p (higher_le_left O _ _ _ h) (highest_chain r (higher_le_right O _ _ _ h))

-- chains of numbers are chains of the nodes that have them
module _ {M N : Type 0} (G : Terrain M N) (T : Tiling N) (k : ℕ) (Of : ℕ → Type 0) (Is : ℕ → N → Type 0) (C : Counted G T k Of Is) (P : Passes M ℕ) where
  pub chain_placed : ((a b : ℕ) (l : M) → P a b l → Of a × Of b) → {t : M} {x y : ℕ} → Chain G.leb P t x y → (c d : N) → Is x c → Is y d → Chain G.leb (Placed Is P) t c d
  chain_placed ends {t} (stay {a = x}) c d ic id = subst (λ z. Chain G.leb (Placed Is P) t c z) (C.single x c d ic id) stay
  chain_placed ends (hop {a = x} {b = y} {l = l} (inl p) h r) c d ic id =
      let z = C.found y (ends x y l p).1 in
      hop (inl (x, y, ic, z.1, p)) h (chain_placed ends r z.0 d z.1 id)
  chain_placed ends (hop {a = x} {b = y} {l = l} (inr p) h r) c d ic id =
      let z = C.found y (ends y x l p).0 in
      hop (inr (y, x, z.1, ic, p)) h (chain_placed ends r z.0 d z.1 id)

  pub chain_numbered : {t : M} {c d : N} → Chain G.leb (Placed Is P) t c d → (x y : ℕ) → Is x c → Is y d → Chain G.leb P t x y
  chain_numbered {t} (stay {a = c}) x y ix iy = subst (λ z. Chain G.leb P t x z) (C.alike x y c ix iy) stay
  chain_numbered {t} (hop {l = l} (inl p) h r) x y ix iy = hop (inl (subst (λ z. P z p.1 l) (C.alike p.0 x _ p.2 ix) p.4)) h (chain_numbered r p.1 y p.3 iy)
  chain_numbered {t} (hop {l = l} (inr p) h r) x y ix iy = hop (inr (subst (λ z. P p.0 z l) (C.alike p.1 x _ p.3 ix) p.4)) h (chain_numbered r p.0 y p.2 iy)

-- walks inside the tile under a threshold, and their worst marks
module _ {M N : Type 0} (G : Terrain M N) (T : Tiling N) (O : OrderLaws G.leb) (k : ℕ) where
  pub inner_walk : {t : M} {c d : N} → T.tile c ≡ k → Inner G T t c d → (l : M) × InnerWalk G T k c d l × AtMost G l t
  inner_walk {c = c} e i =
      let w = to_list (own G T k) O (inner_own G T k e i) in
      (worst (own G T k) c w.0, (w.0, w.1, w.2, refl), w.3)

  pub walk_inner : {t : M} {c d : N} {l : M} → InnerWalk G T k c d l → AtMost G l t → Inner G T t c d
  walk_inner {t} {c} {d} {l} w h =
      own_inner G T k (subst (λ x. Under (own G T k) t c x) w.2 (from_list (own G T k) O t c w.0 w.1 (subst (λ x. AtMost G x t) (sym w.3) h)))

-- the least of what is reached by thresholds
module _ {M : Type 0} {leb : M → M → Bool} (O : OrderLaws leb) (P : M → Type 0) (m : M) where
  pub least_of : ((l : M) × P l × (leb l m ≡ true)) → ((l : M) → P l → leb m l ≡ true) → LeastOf leb P m
  least_of s low = record { reached = subst P (O.antisymmetric s.0 m s.2 (low s.0 s.1)) s.1; least = low }

module _ {M N : Type 0} (G : Terrain M N) (T : Tiling N) (O : OrderLaws G.leb) (D : Tiled G T) (k : ℕ) (Of : ℕ → Type 0) (Is : ℕ → N → Type 0) (C : Counted G T k Of Is) (P : Passes M ℕ) where
  -- a tree by least levels is one by thresholds
  pub tree_by_thresholds : TreeOf G T k Of Is P → Tree G T k (Placed Is P)
  tree_by_thresholds R = record {
    ends = λ a b l p.
        let e = R.ends p.0 p.1 l p.4 in
        let ma = C.mouth p.0 a e.0 p.2 in
        let mb = C.mouth p.1 b e.1 p.3 in
        (ma.0, mb.0, ma.1, mb.1);
    joins = λ t c d mc md kc kd.
        let x = C.number c mc kc in
        let y = C.number d md kd in
        ⊎_elim (λ e. alone t c d mc (C.single y.0 c d (subst (λ z. Is z c) e x.2) y.2)) (λ ne. apart t c d kc x.0 y.0 x.1 y.1 x.2 y.2 ne) (cases_eq x.0 y.0);
  }
    where
      alone : (t : M) (c d : N) → T.Mouth c → c ≡ d → (AtMost G (G.mark c) t × Chain G.leb (Placed Is P) t c d) ↔ Inner G T t c d
      alone t c d mc e = (
        λ h. subst (λ z. Inner G T t c z) e (stop (D.clear c mc) h.0),
        λ i. (low_first (cut G T) i, subst (λ z. Chain G.leb (Placed Is P) t c z) e stay),
      )

      apart : (t : M) (c d : N) → T.tile c ≡ k → (x y : ℕ) → Of x → Of y → Is x c → Is y d → (x ≡ y → ⊥) → (AtMost G (G.mark c) t × Chain G.leb (Placed Is P) t c d) ↔ Inner G T t c d
      apart t c d kc x y ox oy ix iy ne =
          let L = R.levels x y c d ox oy ix iy ne in (
            λ h. ⊎_elim
                (λ e. absurd (ne e))
                (λ s. walk_inner G T O k L.2.reached (O.transitive L.0 s.0 t (L.1.least s.0 s.1) s.2))
                (chain_highest O (chain_numbered G T k Of Is C P h.1 x y ix iy)),
            λ i.
                let w = inner_walk G T O k kc i in
                (low_first (cut G T) i, chain_placed G T k Of Is C P R.ends (highest_chain O L.1.reached (O.transitive L.0 w.0 t (L.2.least w.0 w.1) w.2)) c d ix iy),
          )

  -- a tree by thresholds, of which any two numbers have a lowest level, is one by least levels
  module _ (ends : (a b : ℕ) (l : M) → P a b l → Of a × Of b) (R : Tree G T k (Placed Is P)) (holds : (c d : N) (l : M) → Placed Is P c d l → Inner G T l c d)
      (lowest : (a b : ℕ) → Of a → Of b → (a ≡ b → ⊥) → (l : M) × LowestChain G.leb P a b l) where
    -- a chain that leads on begins no higher than its threshold
    first_low : {t : M} {c d : N} → Chain G.leb (Placed Is P) t c d → (c ≡ d) ⊎ AtMost G (G.mark c) t
    first_low stay = inl refl
    first_low (hop {a = c} {b = e} {l = l} (inl p) h r) = inr (O.transitive _ _ _ (low_first (cut G T) (holds c e l p)) h)
    first_low (hop {a = c} {b = e} {l = l} (inr p) h r) = inr (O.transitive _ _ _ (low_last (cut G T) (holds e c l p)) h)

    pub tree_by_levels : TreeOf G T k Of Is P
    tree_by_levels = record {
      ends = ends;
      levels = λ a b c d oa ob ia ib ne.
          let L = lowest a b oa ob ne in
          let m = L.0 in
          let mc = C.mouth a c oa ia in
          let md = C.mouth b d ob ib in
          let low : (l : M) → ChainAt G.leb P a b l → AtMost G m l = λ l s. (L.1 l).1 (highest_chain O s (le_self O l)) in
          let deep : (l : M) → InnerWalk G T k c d l → AtMost G m l = λ l w. (L.1 l).1 (chain_numbered G T k Of Is C P ((R.joins l c d mc.0 md.0 mc.1 md.1).1 (walk_inner G T O k w (le_self O l))).1 a b ia ib) in
          let chain : Chain G.leb P m a b = (L.1 m).0 (le_self O m) in
          let placed : Chain G.leb (Placed Is P) m c d = chain_placed G T k Of Is C P ends chain c d ia ib in
          let begins : AtMost G (G.mark c) m = ⊎_elim (λ e. absurd (ne (C.alike a b d (subst (Is a) e ia) ib))) (λ h. h) (first_low placed) in (
            m,
            least_of O (ChainAt G.leb P a b) m (⊎_elim (λ e. absurd (ne e)) (λ s. s) (chain_highest O chain)) low,
            least_of O (InnerWalk G T k c d) m (inner_walk G T O k mc.1 ((R.joins m c d mc.0 md.0 mc.1 md.1).0 (begins, placed))) deep,
          );
    }
