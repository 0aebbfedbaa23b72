-- The mouth graph settles as the terrain drains; a node's sill from its nearest mouth's; the tree of a tile. Assumes nothing.
use Rattle.std.proofs.Common.{◌≡◌, ℕ, ◌⊎◌, ◌↔◌, sym, refl, ◌∙◌, subst₂, inl, inr}
use native.Mathlib.Decide.{ℕ_discrete}
use Rattle.marks.specs.Orders.{OrderLaws, highest}
use Rattle.terrain.specs.Ways.{Terrain, Symmetric, AtMost, IsSill}
use Rattle.terrain.specs.Under.{Under, stop, step, Drains}
use Rattle.terrain.proofs.Marks.{le_self, le_higher_left, le_higher_right, higher_le, higher_le_left, higher_le_right}
use Rattle.terrain.proofs.Walks.{open_first, low_first, open_last, low_last, join, push, turn, raise}
use Rattle.terrain.proofs.Sills.{sill_drains, drains_sill, sill_of_lem}
use Rattle.seams.specs.Tilings.{Tiling, Passes, cut, own, Chain, stay, hop, Tiled, Inner, Tree, Link, pass, seam, Settles, out, over, IsSettled, Reaches, Nearest, Searched, Meet, Spanned}
use Rattle.seams.proofs.Chains.{flip, chain_join, chain_raise}

module _ {M N : Type 0} (G : Terrain M N) where
  pub drains_raise : OrderLaws G.leb → {s t : M} {c : N} → AtMost G s t → Drains G s c → Drains G t c
  drains_raise O h d = (d.0, raise G O h d.1, d.2)

  pub drains_after : {t : M} {c d : N} → Under G t c d → Drains G t d → Drains G t c
  drains_after a d = (d.0, join G a d.1, d.2)

  module _ (T : Tiling N) where
    pub inner_under : {t : M} {u v : N} → Inner G T t u v → Under G t u v
    inner_under (stop o l) = stop o l
    inner_under (step o l r a) = step o l r.0 (inner_under a)

    pub inner_tile : {t : M} {u v : N} → Inner G T t u v → T.tile u ≡ T.tile v
    inner_tile (stop o l) = refl
    inner_tile (step o l r a) = r.1 ∙ inner_tile a

    pub cut_symmetric : Symmetric G → Symmetric (cut G T)
    cut_symmetric S u v r = (S u v r.0, sym r.1)

    -- walks of the tile alone are the walks inside it
    pub own_inner : (k : ℕ) {t : M} {u v : N} → Under (own G T k) t u v → Inner G T t u v
    own_inner k (stop o l) = stop o.0 l
    own_inner k (step o l r a) = step o.0 l (r, o.1 ∙ sym (open_first (own G T k) a).1) (own_inner k a)

    pub inner_own : (k : ℕ) {t : M} {u v : N} → T.tile u ≡ k → Inner G T t u v → Under (own G T k) t u v
    inner_own k e (stop o l) = stop (o, e) l
    inner_own k e (step o l r a) = step (o, e) l r.0 (inner_own k (sym r.1 ∙ e) a)

-- The mouth graph.
module _ {M N : Type 0} (G : Terrain M N) (T : Tiling N) (O : OrderLaws G.leb) (D : Tiled G T) (P : ℕ → Passes M N) (trees : (k : ℕ) → Tree G T k (P k)) where
  either_way : {a b : N} {l : M} (k : ℕ) → P k a b l ⊎ P k b a l → T.Mouth a × T.Mouth b × (T.tile a ≡ k) × (T.tile b ≡ k)
  either_way k (inl p) = (trees k).ends _ _ _ p
  either_way k (inr p) = let e = (trees k).ends _ _ _ p in (e.1, e.0, e.3, e.2)

  -- a link from a leads, under t, to b, if b is not above t
  link_under : {a b : N} {l : M} → Link G T P a b l → {t : M} → AtMost G l t → AtMost G (G.mark b) t → Under G t a b
  link_under {a} {b} (pass k p) {t} h low =
      let e = either_way k p in
      let back : Inner G T t b a = ((trees k).joins t b a e.1 e.0 e.3 e.2).0 (low, hop (flip p) h stay) in
      inner_under G T (((trees k).joins t a b e.0 e.1 e.2 e.3).0 (low_last (cut G T) back, hop p h stay))
  link_under (seam m n r apart) h low = step (D.clear _ m) (higher_le_left O _ _ _ h) r (stop (D.clear _ n) low)

  pub settles_drains : {t : M} {a : N} → Settles G T P t a → Drains G t a
  settles_drains (out m o h) = (_, stop (D.clear _ m) h, o)
  settles_drains (over k h s) =
      let d = settles_drains s in
      drains_after G (link_under k h (low_first G d.1)) d

  chain_settles : (k : ℕ) {t : M} {a b : N} → Chain G.leb (P k) t a b → Settles G T P t b → Settles G T P t a
  chain_settles k stay s = s
  chain_settles k (hop p h c) s = over (pass k p) h (chain_settles k c s)

  inner_settles : {t : M} {a b : N} → T.Mouth a → T.Mouth b → Inner G T t a b → Settles G T P t b → Settles G T P t a
  inner_settles {t} {a} {b} ma mb i s =
      let k = T.tile a in
      chain_settles k (((trees k).joins t a b ma mb refl (sym (inner_tile G T i))).1 i).1 s

  -- the mouth a, from which u is reached inside the tile, drains as u does
  walk_settles : {t : M} {u v a : N} → T.Mouth a → Inner G T t a u → Under G t u v → G.Outlet v → Settles G T P t a
  walk_settles m i (stop o l) e = inner_settles m (D.outlets _ o e) i (out (D.outlets _ o e) e l)
  walk_settles m i (step {u = u} {v = w} o l r a) e =
      elim (ℕ_discrete (T.tile u) (T.tile w)) [
        | yes q ↦ walk_settles m (push (cut G T) i (r, q) (open_first G a) (low_first G a)) a e
        | no n ↦
            let s = D.seams u w o (open_first G a) r n in
            inner_settles m s.0 i (over (seam s.0 s.1 r n) (higher_le O _ _ _ l (low_first G a)) (walk_settles s.1 (stop (open_first G a) (low_first G a)) a e))
      ]

  pub drains_settles : {t : M} {a : N} → T.Mouth a → Drains G t a → Settles G T P t a
  drains_settles m d = walk_settles m (stop (open_first G d.1) (low_first G d.1)) d.1 d.2

  pub settle : (a : N) → T.Mouth a → ((t : M) → Settles G T P t a ↔ Drains G t a) × ((m : M) → IsSettled G T P a m ↔ IsSill G a m)
  settle a ma = (
    λ t. (λ s. settles_drains s, λ d. drains_settles ma d),
    λ m. (
      λ i. sill_of_lem G O a m (λ t h. drains_raise G O h (settles_drains i.settles)) (λ t d. i.least t (drains_settles ma d)),
      λ i. record { settles = drains_settles ma (sill_drains G O i m (le_self O m)); least = λ t s. drains_sill G O i t (settles_drains s) },
    ),
  )

-- The finish.
module _ {M N : Type 0} (G : Terrain M N) (T : Tiling N) (O : OrderLaws G.leb) (S : Symmetric G) (D : Tiled G T) where
  -- the first mouth of a way out
  pub first_mouth : {t : M} {c v : N} → Under G t c v → G.Outlet v → (m : N) × T.Mouth m × Inner G T t c m
  first_mouth (stop {u = u} o l) e = (u, D.outlets u o e, stop o l)
  first_mouth (step {u = u} {v = w} o l r a) e =
      elim (ℕ_discrete (T.tile u) (T.tile w)) [
        | yes q ↦
            let m = first_mouth a e in
            (m.0, m.1, step o l (r, q) m.2)
        | no n ↦ (u, (D.seams u w o (open_first G a) r n).0, stop o l)
      ]

  pub finish : (c o : N) (l m : M) → Nearest G T c o l → IsSill G o m →
      ((t : M) → AtMost G (highest G.leb l m) t ↔ Drains G t c) × IsSill G c (highest G.leb l m)
  finish c o l m n i = (λ t. (down t, up t), sill_of_lem G O c (highest G.leb l m) down up)
    where
      down : (t : M) → AtMost G (highest G.leb l m) t → Drains G t c
      down t h =
          drains_after G (raise G O (higher_le_left O _ _ _ h) (inner_under G T n.path)) (sill_drains G O i t (higher_le_right O _ _ _ h))

      up : (t : M) → Drains G t c → AtMost G (highest G.leb l m) t
      up t d =
          let f = first_mouth d.1 d.2 in
          let le : AtMost G l t = n.least f.0 t f.1 f.2 in
          let back : Under G t o c = turn G S (raise G O le (inner_under G T n.path)) in
          higher_le O _ _ _ le (drains_sill G O i t (drains_after G back d))

-- The tree of a tile.
module _ {M N : Type 0} (G : Terrain M N) (T : Tiling N) (O : OrderLaws G.leb) (S : Symmetric G) (D : Tiled G T)
    (k : ℕ) (P : Passes M N) (origin : N → N) (level : N → M) (Q : Searched G T k origin level) (R : Spanned G T k P origin level) where
  chain_inner : {t : M} {a b : N} → Chain G.leb P t a b → G.Open a → AtMost G (G.mark a) t → Inner G T t a b
  chain_inner stay o l = stop o l
  chain_inner (hop {a = a} {b = b} {l = l} (inl p) h c) o low =
      let i : Inner G T _ a b = raise (cut G T) O h (R.holds a b l p).3 in
      join (cut G T) i (chain_inner c (open_last (cut G T) i) (low_last (cut G T) i))
  chain_inner (hop {a = a} {b = b} {l = l} (inr p) h c) o low =
      let i : Inner G T _ a b = raise (cut G T) O h (turn (cut G T) (cut_symmetric G T S) (R.holds b a l p).3) in
      join (cut G T) i (chain_inner c (open_last (cut G T) i) (low_last (cut G T) i))

  -- along a walk to a mouth the nearest mouths are joined
  origins_joined : {t : M} {u v : N} → Inner G T t u v → T.Mouth v → T.tile u ≡ k → Chain G.leb P t (origin u) (origin v)
  origins_joined (stop o l) m e = stay
  origins_joined {t} (step {u = u} {v = w} {w = v} o l r a) m e =
      let e' : T.tile w ≡ k = sym r.1 ∙ e in
      let ru : Reaches G T u = (v, t, m, step o l r a) in
      let rw' : Reaches G T w = (v, t, m, a) in
      let lu : AtMost G (level u) t = (Q.nearest u e ru).least v t m (step o l r a) in
      let lw : AtMost G (level w) t = (Q.nearest w e' rw').least v t m a in
      let meet : Meet G T k u w = record { here = e; there = e'; clear = (o, open_first (cut G T) a); touch = r.0; reaches = (ru, rw') } in
      chain_join (chain_raise O (higher_le O _ _ _ lu lw) (R.joined u w meet)) (origins_joined a m e')

  pub tree : Tree G T k P
  tree = record {
    ends = λ a b l p. let h = R.holds a b l p in (h.0, h.1, h.2, sym (inner_tile G T h.3) ∙ h.2);
    joins = λ t a b ma mb ka kb. (
      λ h. chain_inner h.1 (D.clear a ma) h.0,
      λ i. (low_first (cut G T) i, subst₂ (λ x y. Chain G.leb P t x y) (Q.own a ka ma) (Q.own b kb mb) (origins_joined i mb ka)),
    );
  }

pub meet_turn : {M N : Type 0} (G : Terrain M N) (T : Tiling N) → Symmetric G → (k : ℕ) (u v : N) → Meet G T k u v → Meet G T k v u
meet_turn G T S k u v m = record { here = m.there; there = m.here; clear = (m.clear.1, m.clear.0); touch = S u v m.touch; reaches = (m.reaches.1, m.reaches.0) }

-- Where two nodes meet, their nearest mouths are joined inside the tile at the higher of their levels.
module _ {M N : Type 0} (G : Terrain M N) (T : Tiling N) (O : OrderLaws G.leb) (S : Symmetric G)
    (k : ℕ) (origin : N → N) (level : N → M) (Q : Searched G T k origin level) where
  pub meet_inner : (u v : N) → Meet G T k u v → Inner G T (highest G.leb (level u) (level v)) (origin u) (origin v)
  meet_inner u v m =
      let iu = turn (cut G T) (cut_symmetric G T S) (raise (cut G T) O (le_higher_left O (level u) (level v)) (Q.nearest u m.here m.reaches.0).path) in
      let iv = raise (cut G T) O (le_higher_right O (level u) (level v)) (Q.nearest v m.there m.reaches.1).path in
      join (cut G T) iu (step m.clear.0 (low_last (cut G T) iu) (m.touch, m.here ∙ sym m.there) iv)

  -- the nearest mouth of a node of the tile is a mouth of the tile
  pub origin_mouth : (c : N) → T.tile c ≡ k → Reaches G T c → T.Mouth (origin c) × (T.tile (origin c) ≡ k)
  origin_mouth c e r =
      let n = Q.nearest c e r in
      (n.mouth, sym (inner_tile G T n.path) ∙ e)
