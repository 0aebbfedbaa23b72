-- The sills of a finite ground are its filled surface. Assumes nothing.
use Rattle.std.proofs.Common.{◌≡◌, ℕ, zero, suc, ◌<◌, Bool, true, false, List, [], ◌∷◌, sym, refl, subst, arith}
use Rattle.marks.specs.Orders.{OrderLaws}
use Rattle.terrain.specs.Ways.{Terrain, AtMost, Walk, Way, worst, IsSill}
use Rattle.terrain.specs.Filled.{Lists, HasWay, Falls, Runs, Filled}
use Rattle.terrain.proofs.Marks.{le_self, higher_le, higher_le_right}
use Rattle.terrain.proofs.Walks.{first_worst}
use Rattle.terrain.proofs.Counts.{misses, misses_lt}

-- from c, a way out along which s never climbs
abbrev Running : {M N : Type 0} (G : Terrain M N) → (N → M) → N → Type 0
Running {M} {N} G s c = (ds : List N) × Way G c ds × Falls G s c ds

module _ {M N : Type 0} (G : Terrain M N) (O : OrderLaws G.leb) where
  -- a surface that runs is at least the worst mark of each of its ways
  over_worst : (v : N → M) → Runs G v → (c : N) (ds : List N) → Way G c ds → Falls G v c ds → AtMost G (worst G c ds) (v c)
  over_worst v R c [] w f = R.above c ([], w)
  over_worst v R c (d ∷ ds) w f =
      let rest = over_worst v R d ds (w.0.2, w.1) f.1 in
      higher_le O _ _ _ (R.above c (d ∷ ds, w)) (O.transitive _ _ _ rest f.0)

  walk_open : (c : N) (ds : List N) → Walk G c ds → G.Open c
  walk_open c [] w = w
  walk_open c (d ∷ ds) w = w.0

  module _ (s : N → M) (sill : (c : N) → HasWay G c → IsSill G c (s c)) where
    pub sills_above : (c : N) → HasWay G c → AtMost G (G.mark c) (s c)
    sills_above c d =
        let r = (sill c d).reached in
        subst (λ x. AtMost G (G.mark c) x) r.2 (first_worst G O c r.0)

    pub sills_lowest : (v : N → M) → Runs G v → (c : N) → HasWay G c → AtMost G (s c) (v c)
    sills_lowest v R c d =
        let r = R.down c d in
        O.transitive _ _ _ ((sill c d).least r.0 r.1) (over_worst v R c r.0 r.1 r.2)

    -- before a node that runs, one of the same walk whose sill is no lower
    before : (c d : N) → G.Open c → G.Touch c d → AtMost G (s d) (s c) → Running G s d → Running G s c
    before c d o r h w = (d ∷ w.0, ((o, r, w.1.0), w.1.1), (h, w.2))

    -- along a way with no mark above the sill top of its first node, up to the first node whose sill is lower
    follow : (top : M) → ((d : N) → HasWay G d → AtMost G (s d) top → G.leb top (s d) ≡ false → Running G s d) →
        (c : N) (ds : List N) → Way G c ds → AtMost G (worst G c ds) top → s c ≡ top → Running G s c
    follow top lower c [] w h e = ([], w, tt)
    follow top lower c (d ∷ ds) w h e =
        let tail : Way G d ds = (w.0.2, w.1) in
        let low : AtMost G (worst G d ds) top = higher_le_right O _ _ _ h in
        let le : AtMost G (s d) top = O.transitive _ _ _ ((sill d (ds, tail)).least ds tail) low in
        let next : s d ≡ top → Running G s d = follow top lower d ds tail low in
        go le next (lower d (ds, tail) le) (G.leb top (s d)) refl
      where
        go : AtMost G (s d) top → (s d ≡ top → Running G s d) → (G.leb top (s d) ≡ false → Running G s d) → (x : Bool) → G.leb top (s d) ≡ x → Running G s c
        go le next down true x = before c d w.0.0 w.0.1 (subst (λ y. AtMost G (s d) y) (sym e) le) (next (O.antisymmetric _ _ le x))
        go le next down false x = before c d w.0.0 w.0.1 (subst (λ y. AtMost G (s d) y) (sym e) le) (down x)

    module _ (all : List N) (lists : Lists G all) where
      -- how many nodes have a sill below c's
      abbrev lower : N → ℕ
      lower c = misses (λ e. G.leb (s c) (s e)) all

      falls : (c d : N) → G.Open d → AtMost G (s d) (s c) → G.leb (s c) (s d) ≡ false → lower d < lower c
      falls c d o h e = misses_lt (λ x. G.leb (s c) (s x)) (λ x. G.leb (s d) (s x)) (λ x g. O.transitive _ _ _ h g) d e (le_self O _) all (lists d o)

      run : (n : ℕ) (c : N) → lower c < n → HasWay G c → Running G s c
      run zero c h d = absurd (omega arith)
      run (suc n) c h d =
          let r = (sill c d).reached in
          follow (s c) (λ x dx le lt. run n x (omega (arith, falls c x (walk_open x dx.0 dx.1.0) le lt)) dx) c r.0 r.1
          (subst (λ y. AtMost G y (s c)) (sym r.2) (le_self O _)) refl

      pub sills_run : Runs G s
      sills_run = record { above = sills_above; down = λ c d. run (suc (lower c)) c (omega arith) d }

      pub sills_filled : Filled G s
      sills_filled = record { runs = sills_run; lowest = sills_lowest }

      pub filled_sills : (w : N → M) → Filled G w → (c : N) → HasWay G c → w c ≡ s c
      filled_sills w F c d = O.antisymmetric _ _ (F.lowest s sills_run c d) (sills_lowest w F.runs c d)
