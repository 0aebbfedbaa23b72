-- The steps of a flood keep what holds while it goes on. Assumes nothing.
use Rattle.std.proofs.Common.{◌≡◌, ℕ, suc, ◌+◌, ◌<◌, ◌≤◌, true, false, List, [], ◌∷◌, ◌++◌, length, get_or, take, drop, set, Some, None, Option, sym, refl, ap, ◌∙◌, subst, inl, inr, ⊎_elim, arith, get_or-set_other, get_or-set_same}
use Rattle.std.specs.List.{AllByRecursion, slice_get}
use Rattle.std.specs.List.Sorted.{IsPermutation}
use Rattle.std.proofs.ByRecursion.{All-weaker, all_shuffled}
use Rattle.std.proofs.lemmas.List.{set_split, set-get_or}
use Rattle.std.proofs.lemmas.Option.{slice_get_past}
use Rattle.std.proofs.lemmas.List.Sorted.{IsPermutation-refl, IsPermutation-cons, IsPermutation-swap, IsPermutation-trans, IsPermutation-sym}
use Rattle.std.proofs.lemmas.Bool.{cases_eq, cases_lt, both_ways}
use Rattle.marks.specs.Orders.{highest}
use Rattle.flood.specs.Grounds.{Graph}
use Rattle.flood.specs.Places.{times, Kept}
use Rattle.flood.specs.State.{Met, Reached, Cell, Waits, Going, Spreading}
use Rattle.flood.specs.declared.entry.Entry.{Entry}
use Rattle.flood.proofs.Counts.{some_same, none_some, nth_inside, nth_is, all_nth, times_yes, times_no, times_shuffled, times_none, times_apart}
use Rattle.flood.proofs.Laws.{Lawful}
use Rattle.flood.proofs.Routes.{leb_refl, higher_right, extended}

-- what holds of each element by two facts
pub all_both : {X : Type 0} (P Q R : X → Type 0) → ((x : X) → P x → Q x → R x) → (xs : List X) → AllByRecursion P xs → AllByRecursion Q xs → AllByRecursion R xs
all_both P Q R f [] a b = tt
all_both P Q R f (x ∷ xs) a b = (f x a.0 b.0, all_both P Q R f xs a.1 b.1)

-- an element goes to the front
shuffled_middle : {X : Type 0} (xs : List X) (a : X) (bs : List X) → IsPermutation (xs ++ a ∷ bs) (a ∷ (xs ++ bs))
shuffled_middle [] a bs = IsPermutation-refl (a ∷ bs)
shuffled_middle (z ∷ zs) a bs =
    IsPermutation-trans _ _ _ (IsPermutation-cons z (zs ++ a ∷ bs) (a ∷ (zs ++ bs)) (shuffled_middle zs a bs)) (IsPermutation-swap (z ∷ a ∷ (zs ++ bs)) (a ∷ z ∷ (zs ++ bs)) 0 1 (omega arith) (omega arith) refl)

-- another element in a place: the rest stays
abbrev pub rest_of : {X : Type 0} → List X → ℕ → List X
rest_of xs i = take i xs ++ drop (suc i) xs

pub shuffled_set : {X : Type 0} (xs : List X) (i : ℕ) (x : X) → i < length xs → IsPermutation (set xs i x) (x ∷ rest_of xs i)
shuffled_set xs i x h = rw (set_split xs i x h) (shuffled_middle (take i xs) x (drop (suc i) xs))

pub shuffled_nth : {X : Type 0} (xs : List X) (i : ℕ) (x : X) → slice_get xs i ≡ Some x → IsPermutation xs (x ∷ rest_of xs i)
shuffled_nth xs i x is =
    let same : set xs i x ≡ xs = subst (λ z. set xs i z ≡ xs) (nth_is xs i x x is) (set-get_or xs i x) in
    subst (λ z. IsPermutation z (x ∷ rest_of xs i)) same (shuffled_set xs i x (nth_inside xs i x is))

pub cell_dry : {M : Type 0} (g : Graph M) (v : ℕ) (o : Option ℕ) → Cell g v None o → (d : M) → g.drain v ≡ Some d → ⊥
cell_dry g v (Some e) c d is = absurd c
cell_dry g v None c d is = c d is

-- levels only fall
abbrev pub Falls : {M : Type 0} → Graph M → List (Option M) → List (Option M) → Type 0
Falls {M} g ls ms = (v : ℕ) (k : M) → get_or ls v None ≡ Some k → Met g ms v k

-- the slots of nodes that do not wait are all that counts of the origins
pub spreading_kept : {M : Type 0} {g : Graph M} {x : Entry M} {j : ℕ} {ls : List (Option M)} {os os' : List (Option ℕ)} {q : List (Entry M)} → Kept os os' q → Spreading g x j ls os q → Spreading g x j ls os' q
spreading_kept {g = g} {ls = ls} k s = record {
  source = s.source;
  cells = λ v h none. subst (Cell g v (get_or ls v None)) (sym (k.same v none)) (s.cells v h none);
  waiting = s.waiting;
  above = s.above;
  once = s.once;
  others = s.others;
  passed = s.passed;
}

module _ {M : Type 0} {g : Graph M} (laws : Lawful g) where
  pub met_falls : (ls ms : List (Option M)) → Falls g ls ms → (v : ℕ) (c : M) → Met g ls v c → Met g ms v c
  met_falls ls ms f v c m = let n = f v m.0 m.1 in (n.0, n.1, laws.transitive n.0 m.0 c n.2 m.2)

  pub falls_set : (ls : List (Option M)) (far : ℕ) (c : M) → far < length ls → ((k : M) → get_or ls far None ≡ Some k → g.leb c k ≡ true) → Falls g ls (set ls far (Some c))
  falls_set ls far c in' better v k is =
      ⊎_elim
      (λ (e : v ≡ far). (c, rw e (get_or-set_same ls far (Some c) None in'), better k (rw e at is)))
      (λ (ne : v ≡ far → ⊥). (k, get_or-set_other ls far v (Some c) None ne ∙ is, leb_refl laws k))
      (cases_eq v far)

  -- a crossing that would not improve its far node
  pub skipped : {x : Entry M} {j : ℕ} {ls : List (Option M)} {os : List (Option ℕ)} {q : List (Entry M)} → (far : ℕ) (w k : M) → Spreading g x j ls os q
      → slice_get (g.crossings x.node) j ≡ Some (far, w) → get_or ls far None ≡ Some k → g.leb k (highest g.leb w x.level) ≡ true → Spreading g x (j + 1) ls os q
  skipped {x = x} {j = j} {ls = ls} far w k s is lv le = record {
    source = s.source;
    cells = s.cells;
    waiting = s.waiting;
    above = s.above;
    once = s.once;
    others = s.others;
    passed = λ i v y less read. ⊎_elim
        (λ (lt : i < j). s.passed i v y lt read)
        (λ (ge : j ≤ i). let e : i ≡ j = omega arith in
        let P : ℕ × M → Type 0 = λ z. Met g ls z.0 (highest g.leb z.1 x.level) in
        subst P (some_same _ (far, w) (v, y) is (rw e at read)) (k, lv, le))
        (cases_lt i j);
  }

  -- a crossing that improves the node of y, which is then among the others of the queue
  pub written : {x : Entry M} {j : ℕ} {ls : List (Option M)} {os : List (Option ℕ)} {q : List (Entry M)} → (y : Entry M) (w : M) (rest q' : List (Entry M)) → Spreading g x j ls os q
      → slice_get (g.crossings x.node) j ≡ Some (y.node, w) → y.level ≡ highest g.leb w x.level
      → y.node < length ls → (y.node ≡ x.node → ⊥)
      → ((k : M) → get_or ls y.node None ≡ Some k → g.leb y.level k ≡ true)
      → Reached g y.node y.level y.origin
      → AllByRecursion (Waits g ls) rest → AllByRecursion (λ z. g.leb x.level z.level ≡ true) rest
      → times y.node rest ≡ 0 → ((v : ℕ) → (v ≡ y.node → ⊥) → times v q ≡ times v rest)
      → IsPermutation (y ∷ rest) q'
      → Spreading g x (j + 1) (set ls y.node (Some y.level)) os q'
  written {x} {j} {ls} {os} {q} y w rest q' s is c-is in-ls not-u better reached waits above apart others shuffle =
      let far = y.node in
      let c = y.level in
      let ms = set ls far (Some c) in
      let falls : Falls g ls ms = falls_set ls far c in-ls better in
      let at-far : get_or ms far None ≡ Some c = get_or-set_same ls far (Some c) None in-ls in
      let count : (v : ℕ) → times v q' ≡ times v (y ∷ rest) = λ v. times_shuffled v _ q' shuffle in
      let count-far : times far q' ≡ 1 = count far ∙ times_yes far y rest refl ∙ ap (λ n. 1 + n) apart in
      let count-other : (v : ℕ) → (v ≡ far → ⊥) → times v q' ≡ times v q = λ v ne. count v ∙ times_no v y rest (λ z. ne (sym z)) ∙ sym (others v ne) in
      let from = s.source in
      record {
        source = (from.0, get_or-set_other ls far x.node (Some c) None (λ z. not-u (sym z)) ∙ from.1, from.2);
        cells = λ v h none.
            let ne : v ≡ far → ⊥ = λ z. omega (arith, count-far, subst (λ n. times n q' ≡ 0) z none) in
            rw (get_or-set_other ls far v (Some c) None ne) (s.cells v h (sym (count-other v ne) ∙ none));
        waiting = all_shuffled (Waits g ms) _ q' shuffle ((laws.within x.node j far w is, at-far, reached), all_both (λ z. z.node ≡ far → ⊥) (Waits g ls) (Waits g ms) (λ z ne h. (h.0, get_or-set_other ls far z.node (Some c) None ne ∙ h.1, h.2)) rest (times_apart far rest apart) waits);
        above = all_shuffled (λ z. g.leb x.level z.level ≡ true) _ q' shuffle (rw c-is (higher_right laws w x.level), above);
        once = λ v. ⊎_elim
            (λ (z : v ≡ far). rw z (omega (arith, count-far)))
            (λ (ne : v ≡ far → ⊥). omega (arith, count-other v ne, s.once v))
            (cases_eq v far);
        others = λ v k h lv ne-u. ⊎_elim
            (λ (z : v ≡ far). inl (rw z count-far))
            (λ (ne : v ≡ far → ⊥). ⊎_elim
            (λ t. inl (count-other v ne ∙ t))
            (λ p. inr (p.0, λ i f z read. met_falls ls ms falls f _ (p.1 i f z read)))
            (s.others v k h (sym (get_or-set_other ls far v (Some c) None ne) ∙ lv) ne-u))
            (cases_eq v far);
        passed = λ i v z less read. ⊎_elim
            (λ (lt : i < j). met_falls ls ms falls v _ (s.passed i v z lt read))
            (λ (ge : j ≤ i). let e : i ≡ j = omega arith in
            let P : ℕ × M → Type 0 = λ t. Met g ms t.0 (highest g.leb t.1 x.level) in
            subst P (some_same _ (far, w) (v, z) is (rw e at read)) (c, at-far, rw (← c-is) (leb_refl laws c)))
            (cases_lt i j);
      }

  -- a crossing of x reaches its far node from where x was reached
  made_reached : {x : Entry M} {j : ℕ} {ls : List (Option M)} {os : List (Option ℕ)} {q : List (Entry M)} → (far : ℕ) (w c : M) → Spreading g x j ls os q
      → slice_get (g.crossings x.node) j ≡ Some (far, w) → c ≡ highest g.leb w x.level
      → ((d : M) → g.drain far ≡ Some d → (g.leb c d ≡ true) × (d ≡ c → ⊥))
      → Reached g far c x.origin
  made_reached {x} {j} far w c s is c-is drained =
      (rw c-is (extended laws x.node far x.origin w x.level (j, is) s.source.2.0), λ d z. ((drained d z).0, λ y. absurd ((drained d z).1 y)))

  -- a node without a level does not wait
  pub fresh_apart : {x : Entry M} {j : ℕ} {ls : List (Option M)} {os : List (Option ℕ)} {q : List (Entry M)} → (far : ℕ) → Spreading g x j ls os q → get_or ls far None ≡ None → times far q ≡ 0
  fresh_apart {ls = ls} {q = q} far s none = times_none far q (All-weaker (Waits g ls) (λ z. z.node ≡ far → ⊥) (λ z h e. none_some (get_or ls far None) z.level none (rw e at h.1)) q s.waiting)

  -- a far node that had no level
  pub fresh : {x : Entry M} {j : ℕ} {ls : List (Option M)} {os : List (Option ℕ)} {q : List (Entry M)} → (y : Entry M) (w : M) (q' : List (Entry M)) → Spreading g x j ls os q
      → slice_get (g.crossings x.node) j ≡ Some (y.node, w) → y.level ≡ highest g.leb w x.level → y.origin ≡ x.origin
      → g.nodes ≤ length ls
      → get_or ls y.node None ≡ None
      → IsPermutation (y ∷ q) q'
      → Spreading g x (j + 1) (set ls y.node (Some y.level)) os q'
  fresh {x} {j} {ls} {os} {q} y w q' s is c-is o_is long none shuffle =
      let far = y.node in
      let low : far < g.nodes = laws.within x.node j far w is in
      let apart = fresh_apart far s none in
      let dry = cell_dry g far (get_or os far None) (rw none at (s.cells far low apart)) in
      written y w q q' s is c-is (omega arith)
      (λ z. none_some (get_or ls x.node None) x.level (rw z at none) s.source.1)
      (λ k z. absurd (none_some (get_or ls far None) k none z))
      (rw o_is (made_reached far w y.level s is c-is (λ d z. absurd (dry d z)))) s.waiting s.above apart (λ v ne. refl) shuffle

  -- a far node whose level was higher waits still
  pub waits_still : {x : Entry M} {j : ℕ} {ls : List (Option M)} {os : List (Option ℕ)} {q : List (Entry M)} → (far : ℕ) (w c k : M) → Spreading g x j ls os q
      → slice_get (g.crossings x.node) j ≡ Some (far, w) → c ≡ highest g.leb w x.level
      → get_or ls far None ≡ Some k → g.leb k c ≡ false
      → (times far q ≡ 1) × (far ≡ x.node → ⊥)
  waits_still {x} {j} {ls} {os} {q} far w c k s is c-is lv strict =
      let top = x.level in
      let le : g.leb top c ≡ true = rw c-is (higher_right laws w top) in
      let not-u : far ≡ x.node → ⊥ = λ z. both_ways (g.leb k c) strict (rw (some_same (get_or ls x.node None) k top (rw z at lv) s.source.1) le) in
      (⊎_elim (λ t. t) (λ p. absurd (both_ways (g.leb k c) strict (laws.transitive k top c p.0 le))) (s.others far k (laws.within x.node j far w is) lv not-u), not-u)

  -- the entry of a node has its level
  pub entries_level : {x : Entry M} {j : ℕ} {ls : List (Option M)} {os : List (Option ℕ)} {q : List (Entry M)} → (far : ℕ) (k c : M) → Spreading g x j ls os q
      → get_or ls far None ≡ Some k → g.leb k c ≡ false → AllByRecursion (λ z. z.node ≡ far → g.leb z.level c ≡ false) q
  entries_level {ls = ls} {q = q} far k c s lv strict = All-weaker (Waits g ls) (λ z. z.node ≡ far → g.leb z.level c ≡ false)
      (λ z h e. rw (some_same (get_or ls far None) z.level k (rw e at h.1) lv) strict) q s.waiting

  pub lowered : {x : Entry M} {j : ℕ} {ls : List (Option M)} {os : List (Option ℕ)} {q : List (Entry M)} → (y : Entry M) (w k : M) (i : ℕ) (old : Entry M) (q' : List (Entry M)) → Spreading g x j ls os q
      → slice_get (g.crossings x.node) j ≡ Some (y.node, w) → y.level ≡ highest g.leb w x.level → y.origin ≡ x.origin
      → g.nodes ≤ length ls
      → get_or ls y.node None ≡ Some k → g.leb k y.level ≡ false
      → slice_get q i ≡ Some old → old.node ≡ y.node
      → IsPermutation (set q i y) q'
      → Spreading g x (j + 1) (set ls y.node (Some y.level)) os q'
  lowered {x} {j} {ls} {os} {q} y w k i old q' s is c-is o_is long lv strict stood node shuffle =
      let far = y.node in
      let c = y.level in
      let low : far < g.nodes = laws.within x.node j far w is in
      let le : g.leb c k ≡ true = laws.total k c strict in
      let still = waits_still far w c k s is c-is lv strict in
      let waited = all_nth (Waits g ls) q i old s.waiting stood in
      let level : old.level ≡ k = some_same (get_or ls far None) old.level k (subst (λ n. get_or ls n None ≡ Some old.level) node waited.1) lv in
      let drained : (d : M) → g.drain far ≡ Some d → g.leb k d ≡ true = λ d z. subst (λ m. g.leb m d ≡ true) level (waited.2.1 d (subst (λ n. g.drain n ≡ Some d) (sym node) z)).0 in
      let reached = made_reached far w c s is c-is (λ d z. (laws.transitive c k d le (drained d z), λ same. both_ways (g.leb k c) strict (rw same at (drained d z)))) in
      let rest = rest_of q i in
      let out : IsPermutation q (old ∷ rest) = shuffled_nth q i old stood in
      let count : (v : ℕ) → times v q ≡ times v (old ∷ rest) = λ v. sym (times_shuffled v q (old ∷ rest) out) in
      let apart : times far rest ≡ 0 = omega (arith, still.0, count far, times_yes far old rest node) in
      written y w rest q' s is c-is (omega arith) still.1
      (λ m z. rw (← some_same (get_or ls far None) k m lv z) le)
      (rw o_is reached) (all_shuffled (Waits g ls) q (old ∷ rest) out s.waiting).1 (all_shuffled (λ z. g.leb x.level z.level ≡ true) q (old ∷ rest) out s.above).1
      apart (λ v ne. count v ∙ times_no v old rest (λ z. ne (sym z ∙ node)))
      (IsPermutation-trans _ _ _ (IsPermutation-sym _ _ (shuffled_set q i y (nth_inside q i old stood))) shuffle)

  -- a turn begins with a lowest entry, whose origin is written
  pub begun : {ls : List (Option M)} {os : List (Option ℕ)} {q : List (Entry M)} → (os' : List (Option ℕ)) (x : Entry M) (rest : List (Entry M)) → Going g ls os q
      → IsPermutation q (x ∷ rest) → AllByRecursion (λ y. g.leb x.level y.level ≡ true) q → g.nodes ≤ length os → Kept (set os x.node (Some x.origin)) os' rest → Spreading g x 0 ls os' rest
  begun {ls} {os} {q} os' x rest s out least long kept =
      let waits = all_shuffled (Waits g ls) q (x ∷ rest) out s.waiting in
      let in-os : x.node < length os = omega (arith, waits.0.0) in
      let count : (v : ℕ) → times v q ≡ times v (x ∷ rest) = λ v. sym (times_shuffled v q (x ∷ rest) out) in
      spreading_kept kept (record {
        source = waits.0;
        cells = λ v h none. ⊎_elim
            (λ (z : v ≡ x.node). rw z (rw (waits.0.1, get_or-set_same os x.node (Some x.origin) None in-os) waits.0.2))
            (λ (ne : v ≡ x.node → ⊥). rw (get_or-set_other os x.node v (Some x.origin) None ne) (s.cells v h (count v ∙ times_no v x rest (λ z. ne (sym z)) ∙ none)))
            (cases_eq v x.node);
        waiting = waits.1;
        above = (all_shuffled (λ y. g.leb x.level y.level ≡ true) q (x ∷ rest) out least).1;
        once = λ v. ⊎_elim
            (λ (z : x.node ≡ v). omega (arith, s.once v, count v, times_yes v x rest z))
            (λ (ne : x.node ≡ v → ⊥). omega (arith, s.once v, count v, times_no v x rest ne))
            (cases_eq x.node v);
        others = λ v k h lv ne. ⊎_elim
            (λ t. inl (sym (times_no v x rest (λ z. ne (sym z))) ∙ sym (count v) ∙ t))
            (λ p. inr ((all_shuffled (λ y. g.leb k y.level ≡ true) q (x ∷ rest) out p.0).0, p.1))
            (s.settled v k h lv);
        passed = λ i v w less read. absurd (omega arith);
      })

  -- a turn is over when no crossing is left
  pub over : {x : Entry M} {ls : List (Option M)} {os : List (Option ℕ)} {q : List (Entry M)} → (j : ℕ) → Spreading g x j ls os q
      → length (g.crossings x.node) ≤ j → Going g ls os q
  over {x} {ls} {os} {q} j s end = record {
    cells = s.cells;
    waiting = s.waiting;
    once = s.once;
    settled = λ v k h lv. ⊎_elim
        (λ (z : v ≡ x.node). let same : x.level ≡ k = some_same (get_or ls x.node None) x.level k s.source.1 (rw z at lv) in
        inr (rw (← same) s.above, λ i far w read. rw (← same) (s.passed i far w (inside i far w (rw z at read)) (rw z at read))))
        (λ (ne : v ≡ x.node → ⊥). ⊎_elim
        (λ t. inl t)
        (λ p. inr (All-weaker (λ y. g.leb x.level y.level ≡ true) (λ y. g.leb k y.level ≡ true) (λ y a. laws.transitive k x.level y.level p.0 a) q s.above, p.1))
        (s.others v k h lv ne))
        (cases_eq v x.node);
  }
    where
      inside : (i far : ℕ) (w : M) → slice_get (g.crossings x.node) i ≡ Some (far, w) → i < j
      inside i far w read = ⊎_elim
          (λ (lt : i < j). lt)
          (λ (ge : j ≤ i). absurd (none_some (slice_get (g.crossings x.node) i) (far, w) (slice_get_past (g.crossings x.node) i (omega arith)) read))
          (cases_lt i j)
