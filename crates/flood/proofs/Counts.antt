-- How often a node waits. Assumes nothing.
use Rattle.std.proofs.Common.{◌≡◌, ℕ, zero, suc, ◌+◌, ◌<◌, ◌≤◌, cond, eqb, List, [], ◌∷◌, length, get_or, set, Some, None, Option, sym, refl, ap, ◌∙◌, subst, ⊎_elim, arith}
use Rattle.std.specs.List.{AllByRecursion, slice_get}
use Rattle.std.specs.List.Sorted.{IsPermutation}
use Rattle.std.proofs.lemmas.Option.{slice_get_past, slice_get-get_or}
use Rattle.std.proofs.lemmas.List.Sorted.{sum_by-IsPermutation}
use Rattle.std.proofs.lemmas.List.Sums.{sum_by-cons, sum_by-set}
use Rattle.std.proofs.lemmas.Bool.{cases_eq, cases_lt, eq-eqb, ne_eqb, cond-true, cond-false}
use Rattle.flood.specs.Places.{times}
use Rattle.flood.specs.declared.entry.Entry.{Entry}

pub some_same : {A : Type 0} (o : Option A) (x y : A) → o ≡ Some x → o ≡ Some y → x ≡ y
some_same o x y p q = cc

pub none_some : {A : Type 0} (o : Option A) (x : A) → o ≡ None → o ≡ Some x → ⊥
none_some o x p q = let z : ◌≡◌ {A = ℕ} 0 1 = cc in omega arith

pub nth_inside : {A : Type 0} (xs : List A) (i : ℕ) (x : A) → slice_get xs i ≡ Some x → i < length xs
nth_inside xs i x is = ⊎_elim (λ (lt : i < length xs). lt) (λ (ge : length xs ≤ i). absurd (none_some (slice_get xs i) x (slice_get_past xs i ge) is)) (cases_lt i (length xs))

-- where nothing stands the list has ended
pub nth_ended : {A : Type 0} (xs : List A) (i : ℕ) → slice_get xs i ≡ None → length xs ≤ i
nth_ended [] i is = omega arith
nth_ended (x ∷ xs) zero is = absurd (none_some (Some x) x is refl)
nth_ended (x ∷ xs) (suc i) is = omega (arith, nth_ended xs i is)

pub nth_is : {A : Type 0} (xs : List A) (i : ℕ) (x d : A) → slice_get xs i ≡ Some x → get_or xs i d ≡ x
nth_is xs i x d is = some_same (slice_get xs i) (get_or xs i d) x (slice_get-get_or xs i d (nth_inside xs i x is)) is

pub all_nth : {A : Type 0} (P : A → Type 0) (xs : List A) (i : ℕ) (x : A) → AllByRecursion P xs → slice_get xs i ≡ Some x → P x
all_nth P [] i x all is = absurd (none_some None x refl is)
all_nth P (y ∷ xs) zero x all is = subst P (some_same (Some y) y x refl is) all.0
all_nth P (y ∷ xs) (suc i) x all is = all_nth P xs i x all.1 is

pub times_yes : {M : Type 0} (v : ℕ) (x : Entry M) (q : List (Entry M)) → x.node ≡ v → times v (x ∷ q) ≡ 1 + times v q
times_yes v x q e = sum_by-cons (λ y. cond (eqb y.node v) 1 0) x q ∙ ap (λ n. n + times v q) (cond-true (eqb x.node v) 1 0 (eq-eqb x.node v e))

pub times_no : {M : Type 0} (v : ℕ) (x : Entry M) (q : List (Entry M)) → (x.node ≡ v → ⊥) → times v (x ∷ q) ≡ times v q
times_no v x q ne = sum_by-cons (λ y. cond (eqb y.node v) 1 0) x q ∙ ap (λ n. n + times v q) (cond-false (eqb x.node v) 1 0 (ne_eqb x.node v ne)) ∙ omega arith

pub times_shuffled : {M : Type 0} (v : ℕ) (xs ys : List (Entry M)) → IsPermutation xs ys → times v ys ≡ times v xs
times_shuffled v xs ys h = sum_by-IsPermutation (λ y. cond (eqb y.node v) 1 0) xs ys h

pub times_none : {M : Type 0} (v : ℕ) (q : List (Entry M)) → AllByRecursion (λ x. x.node ≡ v → ⊥) q → times v q ≡ 0
times_none v [] h = refl
times_none v (x ∷ q) h = times_no v x q h.0 ∙ times_none v q h.1

pub times_apart : {M : Type 0} (v : ℕ) (q : List (Entry M)) → times v q ≡ 0 → AllByRecursion (λ x. x.node ≡ v → ⊥) q
times_apart v [] h = tt
times_apart v (x ∷ q) h =
    let ne : x.node ≡ v → ⊥ = λ e. omega (arith, times_yes v x q e) in
    (ne, times_apart v q (sym (times_no v x q ne) ∙ h))

pub times_grows : {M : Type 0} (v : ℕ) (x : Entry M) (q : List (Entry M)) → times v q ≤ times v (x ∷ q)
times_grows v x q = ⊎_elim (λ (e : x.node ≡ v). omega (arith, times_yes v x q e)) (λ (ne : x.node ≡ v → ⊥). omega (arith, times_no v x q ne)) (cases_eq x.node v)

-- an entry counts
pub times_some : {M : Type 0} (v : ℕ) (q : List (Entry M)) (k : ℕ) (x : Entry M) → slice_get q k ≡ Some x → x.node ≡ v → 1 ≤ times v q
times_some v [] k x is e = absurd (none_some None x refl is)
times_some v (y ∷ q) zero x is e = omega (arith, times_yes v y q (ap (λ z. z.node) (some_same (Some y) y x refl is) ∙ e))
times_some v (y ∷ q) (suc k) x is e = omega (arith, times_some v q k x is e, times_grows v y q)

-- what counts is an entry
pub times_found : {M : Type 0} (v : ℕ) (q : List (Entry M)) → 0 < times v q → (k : ℕ) × (x : Entry M) × (slice_get q k ≡ Some x) × (x.node ≡ v)
times_found v [] h = absurd (omega (arith, h))
times_found {M} v (y ∷ q) h = ⊎_elim
    (λ (e : y.node ≡ v). (0, y, refl, e))
    (λ (ne : y.node ≡ v → ⊥). let more : 0 < times v q = omega (arith, times_no v y q ne) in let r = times_found v q more in (suc r.0, r.1, r.2, r.3))
    (cases_eq y.node v)

-- a node that waits once stands at one place
pub one_place : {M : Type 0} (q : List (Entry M)) → ((v : ℕ) → times v q ≤ 1) → (i j : ℕ) (x y : Entry M) → slice_get q i ≡ Some x → slice_get q j ≡ Some y → x.node ≡ y.node → i ≡ j
one_place [] once i j x y a b e = absurd (none_some None x refl a)
one_place (z ∷ q) once zero zero x y a b e = refl
one_place (z ∷ q) once zero (suc j) x y a b e =
    let same : z.node ≡ y.node = ap (λ t. t.node) (some_same (Some z) z x refl a) ∙ e in
    absurd (omega (arith, once y.node, times_yes y.node z q same, times_some y.node q j y b refl))
one_place (z ∷ q) once (suc i) zero x y a b e =
    let same : z.node ≡ x.node = ap (λ t. t.node) (some_same (Some z) z y refl b) ∙ sym e in
    absurd (omega (arith, once x.node, times_yes x.node z q same, times_some x.node q i x a refl))
one_place (z ∷ q) once (suc i) (suc j) x y a b e = ap suc (one_place q (λ v. omega (arith, once v, times_grows v z q)) i j x y a b e)

-- another entry of the same node in a place
pub times_set : {M : Type 0} (v : ℕ) (q : List (Entry M)) (i : ℕ) (x y : Entry M) → slice_get q i ≡ Some y → y.node ≡ x.node → times v (set q i x) ≡ times v q
times_set {M} v q i x y is e =
    let f : Entry M → ℕ = λ z. cond (eqb z.node v) 1 0 in
    let there : get_or q i y ≡ y = nth_is q i y y is in
    let equal : f (get_or q i y) ≡ f x = ap f there ∙ ap (λ n. cond (eqb n v) 1 0) e in
    omega (arith, sum_by-set f q i x y (nth_inside q i y is), equal)

pub all_from_nth : {A : Type 0} (P : A → Type 0) (xs : List A) → ((i : ℕ) (x : A) → slice_get xs i ≡ Some x → P x) → AllByRecursion P xs
all_from_nth P [] f = tt
all_from_nth P (x ∷ xs) f = (f 0 x refl, all_from_nth P xs (λ i. f (suc i)))

-- what holds of the nodes that wait holds of the same nodes in another order
pub all_times : {M : Type 0} (P : ℕ → Type 0) (q q' : List (Entry M)) → ((v : ℕ) → times v q' ≡ times v q) → AllByRecursion (λ x. P x.node) q' → AllByRecursion (λ x. P x.node) q
all_times P q q' same all = all_from_nth (λ x. P x.node) q (λ i x is.
    let more : 0 < times x.node q' = omega (arith, same x.node, times_some x.node q i x is refl) in
    let r = times_found x.node q' more in
    subst P r.3 (all_nth (λ y. P y.node) q' r.0 r.1 all r.2))
