-- Runs that hold a dead cell or none, and runs that are written. Assumes nothing.
use Rattle.std.proofs.Common.{◌≡◌, ℕ, zero, suc, ◌+◌, ◌-◌, ◌*◌, ◌<◌, ◌≤◌, true, false, List, ◌++◌, length, take, drop, sym, refl, ap, ◌∙◌, ⊎_elim, subst, arith}
use borrow.Rule.Slice.PartMut.{put_mid}
use Rattle.std.proofs.lemmas.Bool.{or_parts, or_from, or_left, or_right, cases_eq, cases_lt}
use Rattle.std.proofs.lemmas.List.{drop-drop}
use Rattle.sheets.specs.Grids.{is_dead, at, Grid}
use Rattle.sheets.specs.Runs.{broken, Written}
use Rattle.sheets.specs.Layouts.{flat}
use Rattle.sheets.proofs.Marks.{at_alive, at_ext, at_take, at_drop, at_before, at_part, at_behind}
use Rattle.sheets.proofs.Places.{apart}

module _ {M : Type 0} (g : Grid M) (row col : ℕ) where
  -- no cell of an unbroken run is dead
  pub alive : (n : ℕ) → broken g row col n ≡ false → (k : ℕ) → k < n → is_dead (g.cell row (col + k)) ≡ false
  alive zero e k h = absurd (omega arith)
  alive (suc n) e k h =
      let p = or_parts (is_dead (g.cell row (col + n))) (broken g row col n) e in
      ⊎_elim (λ q. ap (λ l. is_dead (g.cell row (col + l))) q ∙ p.0) (λ ne. alive n p.1 k (omega arith)) (cases_eq k n)

  -- a run in which no cell is dead is unbroken
  pub unbroken : (n : ℕ) → ((k : ℕ) → k < n → is_dead (g.cell row (col + k)) ≡ false) → broken g row col n ≡ false
  unbroken zero h = refl
  unbroken (suc n) h = or_from (is_dead (g.cell row (col + n))) (broken g row col n) (h n (omega arith)) (unbroken n (λ k lt. h k (omega arith)))

  -- a run with a dead cell is broken
  pub broken_by : (n k : ℕ) → k < n → is_dead (g.cell row (col + k)) ≡ true → broken g row col n ≡ true
  broken_by zero k h e = absurd (omega arith)
  broken_by (suc n) k h e =
      let b = is_dead (g.cell row (col + n)) in
      ⊎_elim (λ q. or_left b (broken g row col n) (ap (λ l. is_dead (g.cell row (col + l))) (sym q) ∙ e)) (λ ne. or_right b (broken g row col n) (broken_by n k (omega arith) e)) (cases_eq k n)

-- what is read of a part of a list, laid out row by row
pub read_part : {M : Type 0} (xs ys : List M) (from n row cols col : ℕ) → from ≡ row * cols + col → ys ≡ take n (drop from xs) → length ys ≤ n → (k : ℕ) → k < length ys → at xs (row * cols + (col + k)) ≡ at ys k
read_part xs ys from n row cols col ef ey long k lt =
    sym (ap (λ l. at l k) ey ∙ at_take (drop from xs) n k (omega arith) ∙ at_drop xs from k ∙ ap (at xs) (omega arith))

-- a part of a list that is overwritten by the marks ys is a run that is written into the grid laid out in it
module _ {M : Type 0} (rows cols : ℕ) (xs ys : List M) (row col from : ℕ) (starts : from ≡ row * cols + col) (fits : col + length ys ≤ cols) (within : from + length ys ≤ length xs) where
  here : from ≤ length xs
  here = omega arith

  after : List M
  after = put_mid from (length ys) xs ys

  pub part_written : Written (flat rows cols xs) (flat rows cols (take from xs ++ (ys ++ drop (from + length ys) xs))) row col ys
  unfolding after
  part_written =
      let e : take from xs ++ (ys ++ drop (from + length ys) xs) ≡ after = ap (λ l. take from xs ++ (ys ++ l)) (sym (drop-drop (length ys) from xs)) in
      rw e (record {
        rows = refl;
        cols = refl;
        run = λ k lt. let place : row * cols + (col + k) ≡ from + k = omega arith in ap (at after) place ∙ at_part from (length ys) xs ys here k lt;
        rest = λ i j hi hj out. other (i * cols + j) (λ p q. apart cols row col (length ys) i j fits hj out (omega arith) (omega arith));
      })
    where
      other : (i : ℕ) → (from ≤ i → i < from + length ys → ⊥) → at after i ≡ at xs i
      other i out = ⊎_elim
          (λ (h : i < from). at_before from (length ys) xs ys here i h)
          (λ (h : from ≤ i). let back : from + (length ys + (i - (from + length ys))) ≡ i = omega arith in subst (λ k. at after k ≡ at xs k) back (at_behind from (length ys) xs ys here refl (i - (from + length ys))))
          (cases_lt i from)

-- a run of a grid of marks, laid out in a list that is long enough, is unbroken
pub flat_unbroken : {M : Type 0} (rows cols : ℕ) (xs : List M) (row col n : ℕ) → row * cols + col + n ≤ length xs → broken (flat rows cols xs) row col n ≡ false
flat_unbroken rows cols xs row col n h = unbroken (flat rows cols xs) row col n (λ k lt. at_alive xs (row * cols + (col + k)) (omega arith))

-- lists in which one grid is laid out are one list
pub flat_same : {M : Type 0} (a b a' b' : ℕ) (xs ys : List M) → flat a b xs ≡ flat a' b' ys → xs ≡ ys
flat_same a b a' b' xs ys e =
    at_ext xs ys (λ j. let p : 0 * b + j ≡ j = omega arith in let q : 0 * b' + j ≡ j = omega arith in ap (at xs) (sym p) ∙ ap (λ g. g.cell 0 j) e ∙ ap (at ys) q)
