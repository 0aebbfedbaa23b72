-- Passes taken up by rising levels, with labels: how it begins, goes on and ends. Assumes nothing.
use Rattle.std.proofs.Common.{◌≡◌, ℕ, suc, ◌+◌, ◌<◌, ◌≤◌, false, eqb, ◌⊎◌, List, [], ◌∷◌, ◌++◌, length, sym, refl, ap, ◌∙◌, subst, subst₂, inl, inr, ⊎_elim, arith}
use Rattle.std.specs.List.{ContainsAt as Has}
use Rattle.std.proofs.ByRecursion.{has_push_cases}
use Rattle.std.proofs.lemmas.List.{length_push}
use Rattle.std.proofs.lemmas.Bool.{cases_eq, eq-eqb, ne_eqb}
use Rattle.marks.specs.Orders.{OrderLaws, highest}
use Rattle.terrain.specs.Cells.{count_below}
use Rattle.terrain.specs.Ways.{Terrain, AtMost, Symmetric}
use Rattle.terrain.proofs.Marks.{le_self, le_higher_left, le_higher_right, higher_le}
use Rattle.seams.specs.Tilings.{Tiling, Chain, stay, hop, Tiled, Inner, Tree, Searched, Meet, Spanned}
use Rattle.seams.specs.Joins.{Listed, Joined, same, via, NoneAbove, LowestChain, label, own_labels, Unjoined, Relabelled, MeetAt, Joining}
use Rattle.seams.specs.Trees.{Placed, Counted, TreeOf}
use Rattle.seams.proofs.Chains.{chain_turn, chain_raise, chain_map}
use Rattle.seams.proofs.Joins.{joined_join, joined_turn, joined_more, joined_keeps, chain_joined, joined_chain, listed_more, listed_new, none_above_more, chain_split, count_but_one, count_two, count_all, count_none, relabel_moved, relabel_kept}
use Rattle.seams.proofs.Mouths.{tree, meet_turn, meet_inner, origin_mouth}
use Rattle.seams.proofs.Trees.{chain_placed, chain_numbered, tree_by_levels}

module _ {M N : Type 0} (G : Terrain M N) (T : Tiling N) (k m : ℕ) (Is : ℕ → N → Type 0) (origin : N → N) (level : N → M) where
  -- at the start each mouth has its own label, and nothing is taken up
  pub joining_none : (labels : List ℕ) (Taken : N → N → Type 0) → Unjoined m labels → ((u v : N) → Taken u v → ⊥) → Joining G T k m Is origin level labels [] Taken
  joining_none labels Taken U none = record {
    long = U.long;
    within = λ x lt. omega (arith, U.each x lt);
    own = λ x lt. ap (label labels) (U.each x lt);
    ends = λ x y l h. absurd (omega (arith, h.1));
    one = λ x y lx ly e. subst (λ z. Joined {M = M} (Listed []) x z) (sym (U.each x lx) ∙ e ∙ U.each y ly) same;
    made = λ x y l h. absurd (omega (arith, h.1));
    lowest = λ x y lx ly ne e. absurd (ne (sym (U.each x lx) ∙ e ∙ U.each y ly));
    joined = λ u v e h. absurd (none u v h);
    count = omega (arith, count_all (λ x. eqb (label labels x) x) m (λ x lt. eq-eqb (label labels x) x (U.each x lt)));
  }

  module _ (O : OrderLaws G.leb) (C : Counted G T k (λ x. x < m) Is) (labels : List ℕ) (ps : List (ℕ × ℕ × M)) (Taken Taken' : N → N → Type 0) (J : Joining G T k m Is origin level labels ps Taken)
      (u v : N) (more : (c d : N) → Meet G T k c d → Taken' c d → Taken c d ⊎ ((c ≡ u) × (d ≡ v))) (x y : ℕ) (lx : x < m) (ly : y < m) (is_x : Is x (origin u)) (is_y : Is y (origin v))
      (low : NoneAbove G.leb (highest G.leb (level u) (level v)) ps) where
    -- a chain between x and y serves the pair u, v however its mouths are numbered
    serve : (qs : List (ℕ × ℕ × M)) → ((c d : N) → Meet G T k c d → Taken c d → (a b : ℕ) → Is a (origin c) → Is b (origin d) → Chain G.leb (Listed qs) (highest G.leb (level c) (level d)) a b) →
        Chain G.leb (Listed qs) (highest G.leb (level u) (level v)) x y →
        (c d : N) → Meet G T k c d → Taken' c d → (a b : ℕ) → Is a (origin c) → Is b (origin d) → Chain G.leb (Listed qs) (highest G.leb (level c) (level d)) a b
    serve qs old new c d m h = ⊎_elim (λ (t : Taken c d). old c d m t) (λ (e : (c ≡ u) × (d ≡ v)). there e) (more c d m h)
      where
        here : (a b : ℕ) → Is a (origin u) → Is b (origin v) → Chain G.leb (Listed qs) (highest G.leb (level u) (level v)) a b
        here a b ia ib = subst₂ (λ p q. Chain G.leb (Listed qs) (highest G.leb (level u) (level v)) p q) (C.alike x a (origin u) is_x ia) (C.alike y b (origin v) is_y ib) new

        there : (c ≡ u) × (d ≡ v) → (a b : ℕ) → Is a (origin c) → Is b (origin d) → Chain G.leb (Listed qs) (highest G.leb (level c) (level d)) a b
        there e = subst₂ (λ p q. (a b : ℕ) → Is a (origin p) → Is b (origin q) → Chain G.leb (Listed qs) (highest G.leb (level p) (level q)) a b) (sym e.0) (sym e.1) here

    -- a pair whose nearest mouths have one label is passed over
    pub joining_skip : label labels x ≡ label labels y → Joining G T k m Is origin level labels ps Taken'
    joining_skip e = record {
      long = J.long;
      within = J.within;
      own = J.own;
      ends = J.ends;
      one = J.one;
      made = J.made;
      lowest = J.lowest;
      joined = serve ps J.joined (joined_chain low (J.one x y lx ly e));
      count = J.count;
    }

    -- a pair whose nearest mouths have two labels gives a pass, and the one label is made the other
    module _ (meet : Meet G T k u v) (apart : label labels x ≡ label labels y → ⊥) (labels' : List ℕ) (R : Relabelled labels labels' (label labels x) (label labels y)) where
      abbrev top : M
      top = highest G.leb (level u) (level v)

      abbrev qs : List (ℕ × ℕ × M)
      qs = ps ++ ((x, y, top) ∷ [])

      abbrev a : ℕ
      a = label labels x

      abbrev b : ℕ
      b = label labels y

      moved : (z : ℕ) → z < m → label labels z ≡ b → label labels' z ≡ a
      moved z lt e = relabel_moved labels labels' a b R z (omega (arith, J.long)) e

      kept : (z : ℕ) → z < m → (label labels z ≡ b → ⊥) → label labels' z ≡ label labels z
      kept z lt ne = relabel_kept labels labels' a b R z (omega (arith, J.long)) ne

      -- a keeps its label
      first : label labels' a ≡ a
      first = kept a (J.within x lx) (λ e. apart (sym (J.own x lx) ∙ e)) ∙ J.own x lx

      within' : (z : ℕ) → z < m → label labels' z < m
      within' z lt = ⊎_elim (λ e. omega (arith, moved z lt e, J.within x lx)) (λ ne. omega (arith, kept z lt ne, J.within z lt)) (cases_eq (label labels z) b)

      own' : (z : ℕ) → z < m → label labels' (label labels' z) ≡ label labels' z
      own' z lt = ⊎_elim
          (λ e. ap (label labels') (moved z lt e) ∙ first ∙ sym (moved z lt e))
          (λ ne. ap (label labels') (kept z lt ne) ∙ kept (label labels z) (J.within z lt) (λ f. ne (sym (J.own z lt) ∙ f)) ∙ J.own z lt ∙ sym (kept z lt ne))
          (cases_eq (label labels z) b)

      still : {p q : ℕ} → Joined (Listed ps) p q → Joined (Listed qs) p q
      still j = joined_more (listed_more G.leb ps x y top) j

      -- each mouth is joined to one whose old label is its new label
      home : (z : ℕ) → z < m → (w : ℕ) × (w < m) × Joined (Listed qs) z w × (label labels w ≡ label labels' z)
      home z lt = ⊎_elim
          (λ e. (x, lx, joined_join (still (J.one z y lt ly e)) (via (inr (listed_new G.leb ps x y top)) same), sym (moved z lt e)))
          (λ ne. (z, lt, same, sym (kept z lt ne)))
          (cases_eq (label labels z) b)

      one' : (p q : ℕ) → p < m → q < m → label labels' p ≡ label labels' q → Joined (Listed qs) p q
      one' p q lp lq e =
          let hp = home p lp in
          let hq = home q lq in
          joined_join hp.2 (joined_join (still (J.one hp.0 hq.0 hp.1 hq.1 (hp.3 ∙ e ∙ sym hq.3))) (joined_turn hq.2))

      -- mouths with one label keep one label
      alike' : (p q : ℕ) → p < m → q < m → label labels p ≡ label labels q → label labels' p ≡ label labels' q
      alike' p q lp lq e = ⊎_elim
          (λ f. moved p lp f ∙ sym (moved q lq (sym e ∙ f)))
          (λ ne. kept p lp ne ∙ e ∙ sym (kept q lq (λ f. ne (e ∙ f))))
          (cases_eq (label labels p) b)

      at_new : (A : ℕ → ℕ → M → Type 0) → A x y top → (p q : ℕ) (l : M) → ◌≡◌ {A = ℕ × ℕ × M} (x, y, top) (p, q, l) → A p q l
      at_new A h p q l e = subst (λ (r : ℕ × ℕ × M). A r.0 r.1 r.2) e h

      made' : (p q : ℕ) (l : M) → Has qs (p, q, l) → label labels' p ≡ label labels' q
      made' p q l h = ⊎_elim
          (λ old. let n = J.ends p q l old in alike' p q n.0 n.1 (J.made p q l old))
          (at_new (λ p q l. label labels' p ≡ label labels' q) (kept x lx apart ∙ sym (moved y ly refl)) p q l)
          (has_push_cases ps (x, y, top) (p, q, l) h)

      ends' : (p q : ℕ) (l : M) → Has qs (p, q, l) → (p < m) × (q < m) × MeetAt G T k Is origin level p q l
      ends' p q l h = ⊎_elim
          (λ old. J.ends p q l old)
          (at_new (λ p q l. (p < m) × (q < m) × MeetAt G T k Is origin level p q l) (lx, ly, record { one = u; other = v; meet = meet; from = is_x; to = is_y; at_level = refl }) p q l)
          (has_push_cases ps (x, y, top) (p, q, l) h)

      low' : NoneAbove G.leb top qs
      low' = none_above_more G.leb ps x y top low (le_self O top)

      lowest' : (p q : ℕ) → p < m → q < m → (p ≡ q → ⊥) → label labels' p ≡ label labels' q → (l : M) × LowestChain G.leb (Listed qs) p q l
      lowest' p q lp lq ne e = ⊎_elim
          (λ f.
          let old = J.lowest p q lp lq ne f in
          let below : AtMost G old.0 top = (old.1 top).1 (joined_chain low (J.one p q lp lq f)) in (
            old.0,
            λ t. (
              λ le. chain_map (λ z. z) (listed_more G.leb ps x y top) ((old.1 t).0 le),
              λ c. ⊎_elim (λ c'. (old.1 t).1 c') (λ le. O.transitive old.0 top t below le) (chain_split G.leb ps x y top c),
            ),
          ))
          (λ two. (
            top,
            λ t. (
              λ le. chain_raise O le (joined_chain low' (one' p q lp lq e)),
              λ c. ⊎_elim (λ c'. absurd (two (joined_keeps (label labels) J.made (chain_joined c')))) (λ le. le) (chain_split G.leb ps x y top c),
            ),
          ))
          (cases_eq (label labels p) (label labels q))

      -- the label b is no longer its own, and nothing else changes
      fewer : own_labels labels m ≡ suc (own_labels labels' m)
      fewer = count_but_one (λ z. eqb (label labels z) z) (λ z. eqb (label labels' z) z) b m (J.within y ly) (eq-eqb (label labels b) b (J.own y ly)) (ne_eqb (label labels' b) b (λ e. apart (sym (moved b (J.within y ly) (J.own y ly)) ∙ e))) each
        where
          each : (z : ℕ) → z < m → (z ≡ b → ⊥) → eqb (label labels z) z ≡ eqb (label labels' z) z
          each z lt ne = ⊎_elim
              (λ e. ne_eqb (label labels z) z (λ f. ne (sym f ∙ e)) ∙ sym (ne_eqb (label labels' z) z (λ f. apart (sym (J.own x lx) ∙ ap (label labels) (sym (moved z lt e) ∙ f) ∙ e))))
              (λ other. ap (λ n. eqb n z) (sym (kept z lt other)))
              (cases_eq (label labels z) b)

      pub joining_keep : Joining G T k m Is origin level labels' qs Taken' × (own_labels labels m ≡ suc (own_labels labels' m))
      joining_keep = (
        record {
          long = R.long ∙ J.long;
          within = within';
          own = own';
          ends = ends';
          one = one';
          made = made';
          lowest = lowest';
          joined = serve qs (λ c d e h p q ip iq. chain_map (λ z. z) (listed_more G.leb ps x y top) (J.joined c d e h p q ip iq)) (hop (inl (listed_new G.leb ps x y top)) (le_self O top) stay);
          count = omega (arith, J.count, fewer, length_push ps (x, y, top));
        },
        fewer,
      )

-- While two labels are left, one pass more still leaves fewer passes than mouths.
pub joining_room : {M N : Type 0} (G : Terrain M N) (T : Tiling N) (k m : ℕ) (Is : ℕ → N → Type 0) (origin : N → N) (level : N → M) (labels : List ℕ) (ps : List (ℕ × ℕ × M)) (Taken : N → N → Type 0) →
    Joining G T k m Is origin level labels ps Taken → (x y : ℕ) → x < m → y < m → (label labels x ≡ label labels y → ⊥) → length ps + 2 ≤ m
joining_room G T k m Is origin level labels ps Taken J x y lx ly apart =
    let a : ℕ = label labels x in
    let b : ℕ = label labels y in
    omega (arith, J.count, count_two (λ z. eqb (label labels z) z) a b m (J.within x lx) (J.within y ly) apart (eq-eqb (label labels a) a (J.own x lx)) (eq-eqb (label labels b) b (J.own y ly)))

-- The chain of a pair, whichever way round it was taken up.
module _ {M N : Type 0} (G : Terrain M N) (T : Tiling N) (k m : ℕ) (Is : ℕ → N → Type 0) (origin : N → N) (level : N → M) (O : OrderLaws G.leb) (S : Symmetric G)
    (labels : List ℕ) (ps : List (ℕ × ℕ × M)) (Taken : N → N → Type 0) (J : Joining G T k m Is origin level labels ps Taken) where
  pub taken_chain : (u v : N) → Meet G T k u v → Taken u v ⊎ Taken v u → (x y : ℕ) → Is x (origin u) → Is y (origin v) → Chain G.leb (Listed ps) (highest G.leb (level u) (level v)) x y
  taken_chain u v e (inl h) x y ix iy = J.joined u v e h x y ix iy
  taken_chain u v e (inr h) x y ix iy =
      chain_turn (chain_raise O (higher_le O _ _ _ (le_higher_right O (level u) (level v)) (le_higher_left O (level u) (level v))) (J.joined v u (meet_turn G T S k u v e) h y x iy ix))

  -- what was taken up may be told otherwise, if nothing is added
  pub joining_retold : (Taken' : N → N → Type 0) → ((u v : N) → Meet G T k u v → Taken' u v → Taken u v ⊎ Taken v u) → Joining G T k m Is origin level labels ps Taken'
  joining_retold Taken' was = record {
    long = J.long;
    within = J.within;
    own = J.own;
    ends = J.ends;
    one = J.one;
    made = J.made;
    lowest = J.lowest;
    joined = λ u v e h. taken_chain u v e (was u v e h);
    count = J.count;
  }

-- Once all pairs are taken up, the passes are a tree.
module _ {M N : Type 0} (G : Terrain M N) (T : Tiling N) (k m : ℕ) (Is : ℕ → N → Type 0) (origin : N → N) (level : N → M) (O : OrderLaws G.leb) (S : Symmetric G) (D : Tiled G T) (C : Counted G T k (λ x. x < m) Is)
    (Q : Searched G T k origin level) (labels : List ℕ) (ps : List (ℕ × ℕ × M)) (Taken : N → N → Type 0) (J : Joining G T k m Is origin level labels ps Taken)
    (all : (u v : N) → Meet G T k u v → Taken u v ⊎ Taken v u) where
  pub joining_spanned : Spanned G T k (Placed Is (Listed ps)) origin level
  joining_spanned = record {
    holds = holds;
    joined = λ u v e.
        let ou = origin_mouth G T O S k origin level Q u e.here e.reaches.0 in
        let ov = origin_mouth G T O S k origin level Q v e.there e.reaches.1 in
        let x = C.number (origin u) ou.0 ou.1 in
        let y = C.number (origin v) ov.0 ov.1 in
        chain_placed G T k (λ z. z < m) Is C (Listed ps) (λ a b l p. let n = J.ends a b l p in (n.0, n.1)) (taken_chain G T k m Is origin level O S labels ps Taken J u v e (all u v e) x.0 y.0 x.2 y.2) (origin u) (origin v) x.2 y.2;
  }
    where
      holds : (a b : N) (l : M) → Placed Is (Listed ps) a b l → T.Mouth a × T.Mouth b × (T.tile a ≡ k) × Inner G T l a b
      holds a b l p =
          let e = J.ends p.0 p.1 l p.4 in
          let ma = C.mouth p.0 a e.0 p.2 in
          let mb = C.mouth p.1 b e.1 p.3 in
          let w = e.2 in
          let i = meet_inner G T O S k origin level Q w.one w.other w.meet in
          (ma.0, mb.0, ma.1, subst (λ t. Inner G T t a b) w.at_level (subst₂ (λ c d. Inner G T (highest G.leb (level w.one) (level w.other)) c d) (C.single p.0 _ a w.from p.2) (C.single p.1 _ b w.to p.3) i))

  pub joining_tree : Tree G T k (Placed Is (Listed ps))
  joining_tree = tree G T O S D k (Placed Is (Listed ps)) origin level Q joining_spanned

  -- if walks inside the tile join its mouths, all labels are one, and there is one pass fewer than mouths
  module _ (connected : (a b : N) → T.Mouth a → T.Mouth b → T.tile a ≡ k → T.tile b ≡ k → (t : M) × Inner G T t a b) (some : 0 < m) where
    pub joining_one : (x y : ℕ) → x < m → y < m → label labels x ≡ label labels y
    joining_one x y lx ly =
        let c = C.found x lx in
        let d = C.found y ly in
        let mc = C.mouth x c.0 lx c.1 in
        let md = C.mouth y d.0 ly d.1 in
        let i = connected c.0 d.0 mc.0 md.0 mc.1 md.1 in
        joined_keeps (label labels) J.made (chain_joined (chain_numbered G T k (λ z. z < m) Is C (Listed ps) ((joining_tree.joins i.0 c.0 d.0 mc.0 md.0 mc.1 md.1).1 i.1).1 x y c.1 d.1))

    pub joining_count : length ps + 1 ≡ m
    joining_count =
        let c : ℕ = label labels 0 in
        let lc : c < m = J.within 0 some in
        let just : own_labels labels m ≡ suc (count_below (λ z. false) m) = count_but_one (λ z. eqb (label labels z) z) (λ z. false) c m lc (eq-eqb (label labels c) c (J.own 0 some)) refl (λ z lt ne. ne_eqb (label labels z) z (λ e. ne (sym e ∙ joining_one z 0 lt some))) in
        omega (arith, J.count, just, count_none m)

  -- and any two mouths have the least level over chains that they have over walks
  pub joining_tree_of : ((x y : ℕ) → x < m → y < m → label labels x ≡ label labels y) → TreeOf G T k (λ x. x < m) Is (Listed ps)
  joining_tree_of single = tree_by_levels G T O D k (λ x. x < m) Is C (Listed ps)
      (λ a b l p. let n = J.ends a b l p in (n.0, n.1))
      joining_tree
      (λ c d l p. (joining_spanned.holds c d l p).3)
      (λ a b la lb ne. J.lowest a b la lb ne (single a b la lb))
