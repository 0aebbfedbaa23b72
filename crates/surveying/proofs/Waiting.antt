-- How the cells of a tile wait, and are taken in rising order of level. Assumes nothing.
use Rattle.std.proofs.Common.{◌≡◌, ℕ, ◌+◌, ◌<◌, true, ◌⊎◌, List, [], ◌∷◌, length, get_or, None, Option, sym, refl, ap, ◌∙◌, subst, inl, inr, ⊎_elim, arith}
use Rattle.std.specs.List.Sorted.{IsPermutation}
use Rattle.std.specs.List.{AllByRecursion}
use Rattle.std.proofs.ByRecursion.{All-weaker, all_shuffled}
use Rattle.std.proofs.lemmas.Bool.{cases_eq}
use Rattle.flood.specs.Places.{times}
use Rattle.flood.specs.declared.entry.Entry.{Entry}
use Rattle.flood.proofs.Counts.{some_same, times_yes, times_no, times_none, times_shuffled}
use Rattle.marks.specs.Orders.{OrderLaws, highest}
use Rattle.sheets.specs.declared.copies.Place.{Place}
use Rattle.terrain.specs.Terrains.{Kind}
use Rattle.tiles.specs.Plans.{Area, tile_at}
use Rattle.tiles.specs.Mouths.{mouth_base, tile_mouths}
use Rattle.tables.specs.declared.records.PassRecord.{PassRecord}
use Rattle.seams.specs.Joins.{Listed, NoneAbove, Unjoined}
use Rattle.seams.specs.Sheets.{TileMouthAt, value_or, cell_in, number_in, level_in, origin_in}
use Rattle.seams.specs.Surveys.{TouchIn, Surveying}
use Rattle.seams.specs.Tilings.{Chain, stay}
use Rattle.seams.proofs.Joins.{none_above_none, none_above_raise}
use Rattle.seams.proofs.Surveys.{survey_none}
use Rattle.surveying.specs.Turns.{cells_of, Near, Flooded, Besides, Until, Stands, Lined, Sofar, Turn}
use Rattle.surveying.proofs.Turning.{told_so, cells_same, touch_near}

-- cells of one origin need no pass between them
module _ {M : Type 0} (κ : Kind M) (a : Area) (levels : List (Option M)) (origins : List (Option ℕ)) (C : Flooded κ a levels origins) where
  same_end : (c d : Place) (x y : ℕ) → get_or origins (number_in (tile_at C.plan C.tile) c) None ≡ get_or origins (number_in (tile_at C.plan C.tile) d) None →
      TileMouthAt C.plan C.tile x (origin_in (tile_at C.plan C.tile) origins c) → TileMouthAt C.plan C.tile y (origin_in (tile_at C.plan C.tile) origins d) → x ≡ y
  same_end c d x y same ix iy =
      let is : origin_in (tile_at C.plan C.tile) origins c ≡ origin_in (tile_at C.plan C.tile) origins d = ap (λ o. cell_in (tile_at C.plan C.tile) (value_or 0 o)) same in
      let n = some_same _ (mouth_base C.plan C.tile + x) (mouth_base C.plan C.tile + y) (subst (TileMouthAt C.plan C.tile x) is ix) iy in
      omega (arith, n)

  survey_equal : (labels : List ℕ) (passes : List (ℕ × ℕ × M)) → Surveying κ C.grid C.plan C.tile levels origins labels passes (λ u v. ⊥) →
      Surveying κ C.grid C.plan C.tile levels origins labels passes (λ u v. get_or origins u None ≡ get_or origins v None)
  survey_equal labels passes S = record {
    long = S.long;
    within = S.within;
    own = S.own;
    ends = S.ends;
    one = S.one;
    made = S.made;
    lowest = S.lowest;
    joined = λ c d meet same x y ix iy. subst (λ z. Chain κ.leb (Listed passes) (highest κ.leb (level_in κ (tile_at C.plan C.tile) levels c) (level_in κ (tile_at C.plan C.tile) levels d)) x z) (same_end c d x y same ix iy) stay;
    count = S.count;
  }

module _ {M : Type 0} (κ : Kind M) (O : OrderLaws κ.leb) (a : Area) (levels : List (Option M)) (origins : List (Option ℕ)) where
  -- the next cell does not wait: all cells near it have its origin
  pub lined_past : (i : ℕ) (q : List (Entry M)) → (Flooded κ a levels origins → (d : ℕ) → Near a i d → get_or origins i None ≡ get_or origins d None) → Lined κ a levels origins i q → Lined κ a levels origins (i + 1) q
  lined_past i q same L = record {
    stands = L.stands;
    before = All-weaker (λ x. x.node < i) (λ x. x.node < i + 1) (λ x h. omega (arith, h)) q L.before;
    once = L.once;
    others = λ C c d lt N none. ⊎_elim
        (λ (e : c ≡ i). ap (λ z. get_or origins z None) e ∙ same C d (subst (λ z. Near a z d) e N))
        (λ (ne : c ≡ i → ⊥). L.others C c d (omega (arith, lt, ne)) N none)
        (cases_eq c i);
  }

  -- the next cell waits
  pub lined_more : (i : ℕ) (x : Entry M) (q q' : List (Entry M)) → x.node ≡ i → Stands κ a levels origins x → IsPermutation (x ∷ q) q' → Lined κ a levels origins i q → Lined κ a levels origins (i + 1) q'
  lined_more i x q q' is S sh L =
      let first : times i q ≡ 0 = times_none i q (All-weaker (λ y. y.node < i) (λ y. y.node ≡ i → ⊥) (λ y h e. omega (arith, h, e)) q L.before) in
      let count : (v : ℕ) → times v q' ≡ times v (x ∷ q) = λ v. times_shuffled v (x ∷ q) q' sh in
      record {
        stands = all_shuffled (Stands κ a levels origins) (x ∷ q) q' sh (S, L.stands);
        before = all_shuffled (λ y. y.node < i + 1) (x ∷ q) q' sh (omega (arith, is), All-weaker (λ y. y.node < i) (λ y. y.node < i + 1) (λ y h. omega (arith, h)) q L.before);
        once = λ v. ⊎_elim
            (λ (e : x.node ≡ v). omega (arith, count v, times_yes v x q e, subst (λ z. times z q ≡ 0) (sym is ∙ e) first))
            (λ (ne : x.node ≡ v → ⊥). omega (arith, count v, times_no v x q ne, L.once v))
            (cases_eq x.node v);
        others = λ C c d lt N none. ⊎_elim
            (λ (e : x.node ≡ c). absurd (omega (arith, none, count c, times_yes c x q e)))
            (λ (ne : x.node ≡ c → ⊥). L.others C c d (⊎_elim (λ (same : c ≡ i). absurd (ne (is ∙ sym same))) (λ (other : c ≡ i → ⊥). omega (arith, lt, other)) (cases_eq c i)) N (sym (times_no c x q ne) ∙ sym (count c) ∙ none))
            (cases_eq x.node c);
      }

  module _ (C : Flooded κ a levels origins) (first : ℕ) where
    -- at the start no pass is kept
    pub so_begins : (q : List (Entry M)) (labels : List ℕ) (records : List (PassRecord M)) → Unjoined (tile_mouths C.plan C.tile) labels → length records + 1 ≡ tile_mouths C.plan C.tile → Lined κ a levels origins (cells_of a) q →
        Sofar κ a levels origins C first (Besides κ a levels origins q) q labels records 0
    so_begins q labels records U long L = told_so κ O a levels origins C first (λ u v. get_or origins u None ≡ get_or origins v None) (Besides κ a levels origins q) q labels records 0
        (record {
          passes = [];
          survey = survey_equal κ a levels origins C labels [] (survey_none κ O C.grid C.plan C.lawful C.cuts C.tile C.there C.marks levels origins C.flooded labels (λ u v. ⊥) U (λ u v h. h));
          low = All-weaker (Stands κ a levels origins) (λ x. NoneAbove κ.leb x.level []) (λ x h. none_above_none κ.leb x.level) q L.stands;
          listed = refl;
          within = omega arith;
          room = long;
        })
        (λ u v T. go u v T)
      where
        go : (u v : ℕ) → TouchIn C.plan C.tile u v → Besides κ a levels origins q u v → (get_or origins u None ≡ get_or origins v None) ⊎ (get_or origins v None ≡ get_or origins u None)
        go u v T (inl same) = inl same
        go u v T (inr r) = inl (L.others C u v (subst (λ n. u < n) (cells_same κ O a levels origins C) T.from) (touch_near κ O a levels origins C u v T) r.1)

    -- the turn of an entry that was taken begins
    pub turn_begins : (x : Entry M) (q₀ q : List (Entry M)) (labels : List ℕ) (records : List (PassRecord M)) (kept : ℕ) → IsPermutation q₀ (x ∷ q) →
        Sofar κ a levels origins C first (Besides κ a levels origins q₀) q₀ labels records kept → Turn κ a levels origins C q first x 0 labels records kept
    turn_begins x q₀ q labels records kept sh S =
        let T = told_so κ O a levels origins C first (Besides κ a levels origins q₀) (Until κ a levels origins q x.node 0) q₀ labels records kept S go in
        record {
          passes = T.passes;
          survey = T.survey;
          low = ((all_shuffled (λ y. NoneAbove κ.leb y.level T.passes) q₀ (x ∷ q) sh T.low).0, tt);
          listed = T.listed;
          within = T.within;
          room = T.room;
        }
      where
        go : (c d : ℕ) → TouchIn C.plan C.tile c d → Until κ a levels origins q x.node 0 c d → Besides κ a levels origins q₀ c d ⊎ Besides κ a levels origins q₀ d c
        go c d T (inl same) = inl (inl same)
        go c d T (inr r) = ⊎_elim
            (λ (ne : c ≡ x.node → ⊥). inl (inr (r.0, sym (times_shuffled c q₀ (x ∷ q) sh) ∙ times_no c x q (λ e. ne (sym e)) ∙ r.1)))
            (λ (lt : d < 0). absurd (omega (arith, lt)))
            r.2

    -- and ends
    pub turn_ends : (x : Entry M) (q : List (Entry M)) (labels : List ℕ) (records : List (PassRecord M)) (kept : ℕ) → AllByRecursion (λ y. κ.leb x.level y.level ≡ true) q →
        Turn κ a levels origins C q first x (cells_of a) labels records kept → Sofar κ a levels origins C first (Besides κ a levels origins q) q labels records kept
    turn_ends x q labels records kept least S =
        let T = told_so κ O a levels origins C first (Until κ a levels origins q x.node (cells_of a)) (Besides κ a levels origins q) (x ∷ []) labels records kept S go in
        record {
          passes = T.passes;
          survey = T.survey;
          low = All-weaker (λ y. κ.leb x.level y.level ≡ true) (λ y. NoneAbove κ.leb y.level T.passes) (λ y h. none_above_raise O x.level y.level T.passes h T.low.0) q least;
          listed = T.listed;
          within = T.within;
          room = T.room;
        }
      where
        go : (c d : ℕ) → TouchIn C.plan C.tile c d → Besides κ a levels origins q c d → Until κ a levels origins q x.node (cells_of a) c d ⊎ Until κ a levels origins q x.node (cells_of a) d c
        go c d T (inl same) = inl (inl same)
        go c d T (inr r) = inl (inr (r.0, r.1, inr (subst (λ n. d < n) (cells_same κ O a levels origins C) T.to)))
