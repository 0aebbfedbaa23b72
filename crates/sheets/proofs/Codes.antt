-- Codes of two bytes in a list of bytes. Assumes nothing.
use Rattle.std.proofs.Common.{◌≡◌, ℕ, ◌+◌, ◌*◌, ◌/◌, ◌%◌, ◌<◌, ◌≤◌, Bool, true, false, ◌≢◌, List, length, get_or, set, Some, Option, MatchBool, sym, ap, ◌∙◌, subst, arith, below_more}
use Rattle.std.specs.List.{range_with_len, AllWithin, HoldsAt}
use Rattle.std.proofs.lemmas.List.FromFn.{length-range_with_len, get_or-range_with_len}
use Rattle.std.proofs.lemmas.Nat.{div-add-mod'}
use Rattle.std.proofs.lemmas.List.{length-set, get_or-set_same, get_or-set_other}
use Rattle.sheets.specs.Grids.{mark, is_dead, cell_of, at}
use Rattle.sheets.specs.Runs.{broken, Holds, Written}
use Rattle.sheets.specs.Layouts.{code_at, code_cell, packed}
use Rattle.sheets.proofs.Marks.{at-get_or, at_some}
use Rattle.sheets.proofs.Places.{apart}
use Rattle.sheets.proofs.Spans.{unbroken, broken_by}

-- the code at a place that is set, and at the others
module _ (bs : List ℕ) (p high low : ℕ) where
  pub code_set_same : 2 * p + 1 < length bs → code_at (set (set bs (2 * p) high) (2 * p + 1) low) p ≡ high * 256 + low
  code_set_same h =
      let one = set bs (2 * p) high in
      let ne : 2 * p ≢ 2 * p + 1 = omega arith in
      let a : get_or (set one (2 * p + 1) low) (2 * p) 0 ≡ high = get_or-set_other one (2 * p + 1) (2 * p) low 0 ne ∙ get_or-set_same bs (2 * p) high 0 (omega arith) in
      let b : get_or (set one (2 * p + 1) low) (2 * p + 1) 0 ≡ low = get_or-set_same one (2 * p + 1) low 0 (omega (arith, length-set bs (2 * p) high)) in
      omega (arith, a, b)

  pub code_set_other : (k : ℕ) → k ≢ p → code_at (set (set bs (2 * p) high) (2 * p + 1) low) k ≡ code_at bs k
  code_set_other k ne =
      let one = set bs (2 * p) high in
      let n0 : 2 * k ≢ 2 * p + 1 = omega arith in
      let n1 : 2 * k ≢ 2 * p = (λ e. ne (omega arith)) in
      let n2 : 2 * k + 1 ≢ 2 * p + 1 = (λ e. ne (omega arith)) in
      let n3 : 2 * k + 1 ≢ 2 * p = omega arith in
      let a : get_or (set one (2 * p + 1) low) (2 * k) 0 ≡ get_or bs (2 * k) 0 = get_or-set_other one (2 * p + 1) (2 * k) low 0 n0 ∙ get_or-set_other bs (2 * p) (2 * k) high 0 n1 in
      let b : get_or (set one (2 * p + 1) low) (2 * k + 1) 0 ≡ get_or bs (2 * k + 1) 0 = get_or-set_other one (2 * p + 1) (2 * k + 1) low 0 n2 ∙ get_or-set_other bs (2 * p) (2 * k + 1) high 0 n3 in
      omega (arith, a, b)

-- what is said of all numbers from one on, said of each
pub all_over : (P Q : ℕ → Type 0) (a n : ℕ) (r : Bool) → MatchBool r (AllWithin P (range_with_len a n) 0 (length (range_with_len a n))) ((k : ℕ) × (k < length (range_with_len a n)) × HoldsAt Q (range_with_len a n) k) → MatchBool r ((k : ℕ) → k < n → P (a + k)) ((k : ℕ) × (k < n) × Q (a + k))
all_over P Q a n true h = λ k lt. subst P (get_or-range_with_len a n k 0 lt) (h k 0 (omega arith) (omega (arith, length-range_with_len a n)))
all_over P Q a n false h = let lt : h.0 < n = omega (arith, h.1, length-range_with_len a n) in (h.0, lt, subst Q (get_or-range_with_len a n h.0 0 lt) (h.2 0))

-- the first n of some marks were put, by their codes, into bytes at a place, and no other code was changed
pub record Packing {M : Type 0} (coded : M → ℕ) (before after : List ℕ) (ys : List M) (from n : ℕ) : Type 0 where
  pub long : length after ≡ length before
  pub run : (k : ℕ) → k < n → (y : M) → at ys k ≡ mark y → code_at after (from + k) ≡ coded y
  pub rest : (i : ℕ) → (from ≤ i → i < from + n → ⊥) → code_at after i ≡ code_at before i

module _ {M : Type 0} (coded : M → ℕ) (bs cs ds : List ℕ) (ys : List M) (from n : ℕ) (y : M) where
  pub packing_more : Packing coded bs cs ys from n → 2 * (from + n) + 1 < length bs → n < length ys → y ≡ get_or ys n y → ds ≡ set (set cs (2 * (from + n)) (coded y / 256)) (2 * (from + n) + 1) (coded y % 256) → Packing coded bs ds ys from (n + 1)
  packing_more h within more read is =
      let p = from + n in
      let room : 2 * p + 1 < length cs = omega (arith, h.long) in
      let there : at ys n ≡ mark y = at-get_or ys n y more ∙ ap mark (sym read) in
      record {
        long = ap length is ∙ length-set (set cs (2 * p) (coded y / 256)) (2 * p + 1) (coded y % 256) ∙ length-set cs (2 * p) (coded y / 256) ∙ h.long;
        run = below_more (λ k. (z : M) → at ys k ≡ mark z → code_at ds (from + k) ≡ coded z) n
            (λ k lt z e. let ne : from + k ≢ p = omega arith in ap (λ l. code_at l (from + k)) is ∙ code_set_other cs p (coded y / 256) (coded y % 256) (from + k) ne ∙ h.run k lt z e)
            (λ z e. let same : y ≡ z = cc in ap (λ l. code_at l p) is ∙ code_set_same cs p (coded y / 256) (coded y % 256) room ∙ div-add-mod' (coded y) 256 ∙ ap coded same);
        rest = λ i out. let ne : i ≢ p = (λ e. out (omega arith) (omega arith)) in ap (λ l. code_at l i) is ∙ code_set_other cs p (coded y / 256) (coded y % 256) i ne ∙ h.rest i (λ q r. out q (omega arith));
      }

-- marks whose codes are put into bytes are written into the grid that is laid out in them
module _ {M : Type 0} (coded : M → ℕ) (decoded : ℕ → Option M) (encodes : (x : M) → decoded (coded x) ≡ Some x) (rows cols : ℕ) (bs : List ℕ) (rows' cols' : ℕ) (cs : List ℕ) (ys : List M) (row col from : ℕ) where
  pub packed_written : rows' ≡ rows → cols' ≡ cols → from ≡ row * cols + col → col + length ys ≤ cols → Packing coded bs cs ys from (length ys) → Written (packed decoded rows cols bs) (packed decoded rows' cols' cs) row col ys
  packed_written er ec ef fits h =
      record {
        rows = er;
        cols = ec;
        run = λ k lt. written k lt;
        rest = λ i j hi hj out. ap (λ w. code_cell decoded cs (i * w + j)) ec ∙ ap (λ c. cell_of (decoded c)) (h.rest (i * cols + j) (λ p q. apart cols row col (length ys) i j fits hj out (omega arith) (omega arith)));
      } where
        written : (k : ℕ) → k < length ys → code_cell decoded cs (row * cols' + (col + k)) ≡ at ys k
        written k lt =
            let p = at_some ys k lt in
            let place : row * cols + (col + k) ≡ from + k = omega arith in
            ap (λ w. code_cell decoded cs (row * w + (col + k))) ec ∙ ap (code_cell decoded cs) place ∙ ap (λ c. cell_of (decoded c)) (h.run k lt p.0 p.1) ∙ ap cell_of (encodes p.0) ∙ sym p.1

-- a run of codes of which none is dead, or one is
module _ {M : Type 0} (decoded : ℕ → Option M) (rows cols : ℕ) (bs : List ℕ) (row col from n : ℕ) (ef : from ≡ row * cols + col) where
  same_cell : (k : ℕ) → (packed decoded rows cols bs).cell row (col + k) ≡ code_cell decoded bs (from + k)
  same_cell k = let place : row * cols + (col + k) ≡ from + k = omega arith in ap (code_cell decoded bs) place

  pub codes_unbroken : ((k : ℕ) → k < n → is_dead (code_cell decoded bs (from + k)) ≡ false) → broken (packed decoded rows cols bs) row col n ≡ false
  codes_unbroken h = unbroken (packed decoded rows cols bs) row col n (λ k lt. ap is_dead (same_cell k) ∙ h k lt)

  pub codes_broken : (k : ℕ) → k < n → is_dead (code_cell decoded bs (from + k)) ≡ true → broken (packed decoded rows cols bs) row col n ≡ true
  codes_broken k lt e = broken_by (packed decoded rows cols bs) row col n k lt (ap is_dead (same_cell k) ∙ e)

  -- what is read of such a run
  pub codes_held : (xs : List M) → ((k : ℕ) → k < length xs → code_cell decoded bs (from + k) ≡ at xs k) → Holds (packed decoded rows cols bs) row col xs
  codes_held xs h k lt = same_cell k ∙ h k lt
