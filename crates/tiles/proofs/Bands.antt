-- The bands of a lawfully cut side. Assumes nothing.
use Rattle.std.proofs.Common.{◌≡◌, ℕ, zero, suc, ◌+◌, ◌-◌, ◌<◌, ◌≤◌, true, false, ◌&&◌, ltb, leb, List, [], ◌∷◌, length, get_or, take, drop, Ok, Err, sym, refl, ap, ◌∙◌, ⊎_elim, add-zero, add-one, arith}
use Rattle.std.proofs.lemmas.Bool.{le-leb, lt-leb, ltb-true, leb-true, and_parts, cases_order, cases_lt, cases_eq, eq-eqb, ne_eqb}
use Rattle.std.proofs.lemmas.List.{drop_more, drop_all, get_or_past, get_or_default, get_or-take, length-take-le}
use Rattle.std.proofs.lemmas.List.Sorted.{searched}
use Rattle.std.specs.List.Sorted.{IsBinarySearchResult}
use Rattle.tiles.specs.Rules.{band_fits, bands, lawful, start, band_size, band_of, singles}
use Rattle.tiles.proofs.Rising.{rising}
use Rattle.std.specs.Ordering.{nat_cmp}

-- where band k begins, if the first begins at a
abbrev from : ℕ → ℕ → List ℕ → ℕ → ℕ
from a side cs zero = a
from a side cs (suc k) = get_or cs k side

start_from : (side : ℕ) (cs : List ℕ) (k : ℕ) → start side cs k ≡ from 0 side cs k
start_from side cs zero = refl
start_from side cs (suc k) = refl

-- each band begins before it ends, and is at most 64 long
pub record Band (a b : ℕ) : Type 0 where
  pub rises : a < b
  pub near : b ≤ a + 64

pub fits : (a b : ℕ) → band_fits a b ≡ true → Band a b
fits a b e =
    let p = and_parts (ltb a b) (leb (b - a) 64) e in
    record { rises = ltb-true a b p.0; near = omega (arith, ltb-true a b p.0, leb-true (b - a) 64 p.1) }

band_from : (a side : ℕ) (cs : List ℕ) (k : ℕ) → bands a side cs ≡ true → k ≤ length cs → Band (from a side cs k) (from a side cs (suc k))
band_from a side [] zero e le = fits a side e
band_from a side [] (suc k) e le = absurd (omega arith)
band_from a side (c ∷ cs) zero e le = fits a c (and_parts (band_fits a c) (bands c side cs) e).0
band_from a side (c ∷ cs) (suc zero) e le = band_from c side cs zero (and_parts (band_fits a c) (bands c side cs) e).1 (omega arith)
band_from a side (c ∷ cs) (suc (suc k)) e le = band_from c side cs (suc k) (and_parts (band_fits a c) (bands c side cs) e).1 (omega arith)

pub lawful_few : (side : ℕ) (cs : List ℕ) → lawful side cs ≡ true → length cs ≤ 31
lawful_few side cs e = leb-true (length cs) 31 (and_parts (leb (length cs) 31) (bands 0 side cs) e).0

pub band : (side : ℕ) (cs : List ℕ) (k : ℕ) → lawful side cs ≡ true → k ≤ length cs → Band (start side cs k) (start side cs (suc k))
band side cs zero e le = band_from 0 side cs zero (and_parts (leb (length cs) 31) (bands 0 side cs) e).1 le
band side cs (suc k) e le = band_from 0 side cs (suc k) (and_parts (leb (length cs) 31) (bands 0 side cs) e).1 le

-- past the last band is the side
pub start_past : (side : ℕ) (cs : List ℕ) (k : ℕ) → length cs < k → start side cs k ≡ side
start_past side cs zero lt = absurd (omega arith)
start_past side cs (suc k) lt = get_or_past cs k side (omega arith)

-- bands begin one after the other
pub starts_rise : (side : ℕ) (cs : List ℕ) → lawful side cs ≡ true → (a b : ℕ) → a ≤ b → start side cs a ≤ start side cs b
starts_rise side cs e = rising (start side cs) (λ k. ⊎_elim
    (λ lt. omega (arith, (band side cs k e (omega arith)).rises))
    (λ le. omega (arith, start_past side cs (suc k) (omega arith), start_past side cs k (omega arith)))
    (cases_lt k (length cs + 1)))

pub start_below : (side : ℕ) (cs : List ℕ) (k : ℕ) → lawful side cs ≡ true → start side cs k ≤ side
start_below side cs k e = ⊎_elim
    (λ lt. omega (arith, starts_rise side cs e k (suc (length cs)) (omega arith), start_past side cs (suc (length cs)) (omega arith)))
    (λ le. omega (arith, start_past side cs k (omega arith)))
    (cases_lt k (length cs + 1))

-- the band of a place holds it
shifted : (a c side : ℕ) (cs : List ℕ) (n : ℕ) → from a side (c ∷ cs) (suc n) ≡ from c side cs n
shifted a c side cs zero = refl
shifted a c side cs (suc n) = refl

low_from : (a side : ℕ) (cs : List ℕ) (i : ℕ) → a ≤ i → from a side cs (band_of cs i) ≤ i
low_from a side [] i le = le
low_from a side (c ∷ cs) i le = ⊎_elim
    (λ h. rw (lt-leb c i h) le)
    (λ h. rw (le-leb c i h) (omega (arith, shifted a c side cs (band_of cs i), low_from c side cs i h)))
    (cases_lt i c)

high_from : (a side : ℕ) (cs : List ℕ) (i : ℕ) → i < side → i < from a side cs (suc (band_of cs i))
high_from a side [] i lt = lt
high_from a side (c ∷ cs) i lt = ⊎_elim
    (λ h. rw (lt-leb c i h) h)
    (λ h. rw (le-leb c i h) (high_from c side cs i lt))
    (cases_lt i c)

pub band_few : (cs : List ℕ) (i : ℕ) → band_of cs i ≤ length cs
band_few [] i = omega arith
band_few (c ∷ cs) i = ⊎_elim
    (λ h. rw (lt-leb c i h) (omega arith))
    (λ h. rw (le-leb c i h) (omega (arith, band_few cs i)))
    (cases_lt i c)

pub band_low : (side : ℕ) (cs : List ℕ) (i : ℕ) → start side cs (band_of cs i) ≤ i
band_low side cs i = omega (arith, start_from side cs (band_of cs i), low_from 0 side cs i (omega arith))

pub band_high : (side : ℕ) (cs : List ℕ) (i : ℕ) → i < side → i < start side cs (suc (band_of cs i))
band_high side cs i lt = high_from 0 side cs i lt

-- and no other band does
pub one_band : (side : ℕ) (cs : List ℕ) (k m i : ℕ) → lawful side cs ≡ true → start side cs k ≤ i → i < start side cs (suc k) → start side cs m ≤ i → i < start side cs (suc m) → k ≡ m
one_band side cs k m i e a b c d = ⊎_elim (λ same. same) (⊎_elim
    (λ lt. absurd (omega (arith, starts_rise side cs e (suc k) m lt)))
    (λ lt. absurd (omega (arith, starts_rise side cs e (suc m) k lt))))
    (cases_order k m)

pub band_is : (side : ℕ) (cs : List ℕ) (k i : ℕ) → lawful side cs ≡ true → start side cs k ≤ i → i < start side cs (suc k) → k ≡ band_of cs i
band_is side cs k i e a b =
    one_band side cs k (band_of cs i) i e a b (band_low side cs i) (band_high side cs i (omega (arith, start_below side cs (suc k) e)))

-- the band by the cuts around a place
pub band_between : (cs : List ℕ) (i k : ℕ) → k ≤ length cs → ((m : ℕ) → m < k → get_or cs m 0 ≤ i) → (k < length cs → i < get_or cs k 0) → band_of cs i ≡ k
band_between [] i k le low high = omega arith
band_between (c ∷ cs) i zero le low high = rw (lt-leb c i (high (omega arith)))
band_between (c ∷ cs) i (suc k) le low high =
    rw (le-leb c i (low 0 (omega arith))) (ap suc (band_between cs i k (omega arith) (λ m lt. low (suc m) (omega arith)) (λ lt. high (omega arith))))

-- the cuts rise
pub cuts_rise : (side : ℕ) (cs : List ℕ) → lawful side cs ≡ true → (i j : ℕ) → i ≤ j → j < length cs → get_or cs i 0 ≤ get_or cs j 0
cuts_rise side cs e i j le lt =
    omega (arith, starts_rise side cs e (suc i) (suc j) (omega arith), get_or_default cs i 0 side (omega arith), get_or_default cs j 0 side lt)

pub cut_next : (side : ℕ) (cs : List ℕ) (i : ℕ) → lawful side cs ≡ true → suc i < length cs → get_or cs i 0 < get_or cs (suc i) 0
cut_next side cs i e lt =
    omega (arith, (band side cs (suc i) e (omega arith)).rises, get_or_default cs i 0 side (omega arith), get_or_default cs (suc i) 0 side lt)

-- one cut further, as the rules are checked
one_more : (a side i : ℕ) (cs : List ℕ) → i < length cs → bands a side (drop i cs) ≡ (band_fits a (get_or cs i 0) && bands (get_or cs i 0) side (drop (i + 1) cs))
one_more a side i cs h = ap (bands a side) (drop_more cs i 0 h)

pub bands_more : (a side i : ℕ) (cs : List ℕ) → i < length cs → band_fits a (get_or cs i 0) ≡ true → bands a side (drop i cs) ≡ bands (get_or cs i 0) side (drop (i + 1) cs)
bands_more a side i cs h e = one_more a side i cs h ∙ ap (λ b. b && bands (get_or cs i 0) side (drop (i + 1) cs)) e

pub bands_no : (a side i : ℕ) (cs : List ℕ) → i < length cs → band_fits a (get_or cs i 0) ≡ false → bands a side (drop i cs) ≡ false
bands_no a side i cs h e = one_more a side i cs h ∙ ap (λ b. b && bands (get_or cs i 0) side (drop (i + 1) cs)) e

pub bands_end : (a side i : ℕ) (cs : List ℕ) → length cs ≤ i → bands a side (drop i cs) ≡ band_fits a side
bands_end a side i cs h = ap (bands a side) (drop_all i cs h)

-- one band further, as the bands of one cell are counted
pub singles_yes : (side : ℕ) (cs : List ℕ) (k : ℕ) → band_size side cs k ≡ 1 → singles side cs (k + 1) ≡ singles side cs k + 1
unfolding singles
singles_yes side cs k e = rw (add-one, eq-eqb (band_size side cs k) 1 e)

pub singles_no : (side : ℕ) (cs : List ℕ) (k : ℕ) → (band_size side cs k ≡ 1 → ⊥) → singles side cs (k + 1) ≡ singles side cs k
unfolding singles
singles_no side cs k e = rw (add-one, ne_eqb (band_size side cs k) 1 e, add-zero)

pub singles_few : (side : ℕ) (cs : List ℕ) (k : ℕ) → singles side cs k ≤ k
unfolding singles
singles_few side cs zero = omega arith
singles_few side cs (suc k) = ⊎_elim
    (λ e. omega (arith, singles_few side cs k, singles_yes side cs k e, ap (singles side cs) (add-one k)))
    (λ e. omega (arith, singles_few side cs k, singles_no side cs k e, ap (singles side cs) (add-one k)))
    (cases_eq (band_size side cs k) 1)

-- where a band begins, by the array that holds the cuts
pub start_end : (side n k : ℕ) (cs : List ℕ) → n ≤ length cs → n < k → side ≡ start side (take n cs) k
start_end side n k cs le lt = sym (start_past side (take n cs) k (omega (arith, length-take-le n cs le)))

pub start_cut : (side n k : ℕ) (cs : List ℕ) → n ≤ length cs → 0 < k → k ≤ n → get_or cs (k - 1) 0 ≡ start side (take n cs) k
start_cut side n zero cs room pos le = absurd (omega arith)
start_cut side n (suc k) cs room pos le =
    let e : suc k - 1 ≡ k = omega arith in
    ap (λ j. get_or cs j 0) e ∙ get_or_default cs k 0 side (omega arith) ∙ sym (get_or-take n cs k side (omega arith))

-- the band of a place, by a binary search over the cuts
pub band_found : (side : ℕ) (cs : List ℕ) (i k : ℕ) → lawful side cs ≡ true → IsBinarySearchResult (λ y. nat_cmp y i) cs (Ok k) → k + 1 ≡ band_of cs i
band_found side cs i k e located =
    let s = searched cs i (Ok k) located (cuts_rise side cs e) in
    sym (band_between cs i (k + 1) (omega (arith, s.0))
    (λ m lt. omega (arith, cuts_rise side cs e m k (omega arith) s.0, s.1))
    (λ lt. rw (add-one k) (omega (arith, cut_next side cs k e (omega arith), s.1))))

pub band_missed : (side : ℕ) (cs : List ℕ) (i k : ℕ) → lawful side cs ≡ true → IsBinarySearchResult (λ y. nat_cmp y i) cs (Err k) → k ≡ band_of cs i
band_missed side cs i k e located =
    let s = searched cs i (Err k) located (cuts_rise side cs e) in
    sym (band_between cs i k s.0 (λ m lt. omega (arith, s.1 m lt)) (λ lt. s.2 k (omega arith) lt))

-- a band by where it begins and where the next does
pub band_read : (side : ℕ) (cs : List ℕ) (i a b : ℕ) → lawful side cs ≡ true → i ≤ length cs → a ≡ start side cs i → b ≡ start side cs (i + 1) → Band a b
band_read side cs i a b l le ea eb =
    let x = band side cs i l le in
    let end = eb ∙ ap (start side cs) (add-one i) in
    record { rises = omega (arith, x.rises, end); near = omega (arith, x.near, end) }

pub size_read : (side : ℕ) (cs : List ℕ) (i a b : ℕ) → a ≡ start side cs i → b ≡ start side cs (i + 1) → b - a ≡ band_size side cs i
size_read side cs i a b ea eb = let end = eb ∙ ap (start side cs) (add-one i) in omega (arith, end)
