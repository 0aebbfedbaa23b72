-- What stands at a place of a list of marks. Assumes nothing.
use Rattle.std.proofs.Common.{◌≡◌, ℕ, zero, suc, ◌+◌, ◌<◌, ◌≤◌, true, false, ◌≢◌, List, [], ◌∷◌, ◌++◌, length, get_or, take, drop, set, Some, None, Option, sym, refl, ap, ◌∙◌, suc-add, zero-add, arith, below_more}
use borrow.Rule.Slice.PartMut.{put_mid, post_of}
use Rattle.std.proofs.lemmas.List.{length-take-le}
use Rattle.sheets.specs.Grids.{Cell, mark, is_dead, cell_of, at}

-- the two cases of a cell differ
pub not_dead : {M : Type 0} (y : M) → cell_of None ≡ mark y → ⊥
not_dead y e = let z : false ≡ true = sym (ap is_dead e) in let w : ◌≡◌ {A = ℕ} 0 1 = cc in omega arith

-- a mark's cell tells the mark
pub one_mark : {M : Type 0} (x y : M) → mark x ≡ mark y → x ≡ y
one_mark x y e = cc

-- a cell that is not dead is a mark's
pub some_mark : {M : Type 0} (o : Option M) → is_dead (cell_of o) ≡ false → (m : M) × (o ≡ Some m)
some_mark (Some m) e = (m, refl)
some_mark None e = let z : ◌≡◌ {A = ℕ} 0 1 = cc in absurd (omega arith)

pub none_dead : {M : Type 0} (o : Option M) → None ≡ o → is_dead (cell_of o) ≡ false → ⊥
none_dead o n e = let m = some_mark o e in let p = n ∙ m.1 in let z : ◌≡◌ {A = ℕ} 0 1 = cc in omega arith

-- within the list there is a mark
pub at-get_or : {M : Type 0} (xs : List M) (k : ℕ) (d : M) → k < length xs → at xs k ≡ mark (get_or xs k d)
at-get_or [] k d h = absurd (omega arith)
at-get_or (x ∷ xs) zero d h = refl
at-get_or (x ∷ xs) (suc k) d h = at-get_or xs k d (omega arith)

pub at_alive : {M : Type 0} (xs : List M) (k : ℕ) → k < length xs → is_dead (at xs k) ≡ false
at_alive [] k h = absurd (omega arith)
at_alive (x ∷ xs) zero h = refl
at_alive (x ∷ xs) (suc k) h = at_alive xs k (omega arith)

pub at_some : {M : Type 0} (xs : List M) (k : ℕ) → k < length xs → (y : M) × (at xs k ≡ mark y)
at_some [] k h = absurd (omega arith)
at_some (x ∷ xs) zero h = (x, refl)
at_some (x ∷ xs) (suc k) h = at_some xs k (omega arith)

-- the first n marks of a list
pub at_take : {M : Type 0} (xs : List M) (n k : ℕ) → k < n → at (take n xs) k ≡ at xs k
at_take xs zero k h = absurd (omega arith)
at_take [] (suc n) k h = refl
at_take (x ∷ xs) (suc n) zero h = refl
at_take (x ∷ xs) (suc n) (suc k) h = at_take xs n k (omega arith)

-- the marks from n on
pub at_drop : {M : Type 0} (xs : List M) (n k : ℕ) → at (drop n xs) k ≡ at xs (n + k)
at_drop xs zero k = ap (at xs) (sym (zero-add k))
at_drop [] (suc n) k = refl
at_drop (x ∷ xs) (suc n) k = at_drop xs n k ∙ ap (at (x ∷ xs)) (sym (suc-add n k))

-- the first marks of two lists end to end, and the others
pub at_front : {M : Type 0} (xs ys : List M) (k : ℕ) → k < length xs → at (xs ++ ys) k ≡ at xs k
at_front [] ys k h = absurd (omega arith)
at_front (x ∷ xs) ys zero h = refl
at_front (x ∷ xs) ys (suc k) h = at_front xs ys k (omega arith)

pub at_back : {M : Type 0} (xs ys : List M) (k : ℕ) → at (xs ++ ys) (length xs + k) ≡ at ys k
at_back [] ys k = ap (at ys) (zero-add k)
at_back (x ∷ xs) ys k = ap (at (x ∷ (xs ++ ys))) (suc-add (length xs) k) ∙ at_back xs ys k

-- a part of a list that is overwritten, and what stands before and behind it
module _ {M : Type 0} (a n : ℕ) (xs ys : List M) (within : a ≤ length xs) where
  pub at_before : (k : ℕ) → k < a → at (put_mid a n xs ys) k ≡ at xs k
  at_before k h = at_front (take a xs) (ys ++ post_of a n xs) k (omega (arith, length-take-le a xs within)) ∙ at_take xs a k h

  after_front : (k : ℕ) → at (put_mid a n xs ys) (a + k) ≡ at (ys ++ post_of a n xs) k
  after_front k = ap (λ l. at (put_mid a n xs ys) (l + k)) (sym (length-take-le a xs within)) ∙ at_back (take a xs) (ys ++ post_of a n xs) k

  pub at_part : (k : ℕ) → k < length ys → at (put_mid a n xs ys) (a + k) ≡ at ys k
  at_part k h = after_front k ∙ at_front ys (post_of a n xs) k h

  pub at_behind : length ys ≡ n → (k : ℕ) → at (put_mid a n xs ys) (a + (n + k)) ≡ at xs (a + (n + k))
  at_behind long k =
      after_front (n + k) ∙ ap (λ l. at (ys ++ post_of a n xs) (l + k)) (sym long) ∙ at_back ys (post_of a n xs) k
      ∙ at_drop (drop a xs) n k ∙ at_drop xs a (n + k)

-- a place that is set, and the others
pub at_set_same : {M : Type 0} (xs : List M) (k : ℕ) (y : M) → k < length xs → at (set xs k y) k ≡ mark y
at_set_same [] k y h = absurd (omega arith)
at_set_same (x ∷ xs) zero y h = refl
at_set_same (x ∷ xs) (suc k) y h = at_set_same xs k y (omega arith)

pub at_set_other : {M : Type 0} (xs : List M) (i k : ℕ) (y : M) → k ≢ i → at (set xs i y) k ≡ at xs k
at_set_other [] i k y ne = refl
at_set_other (x ∷ xs) zero zero y ne = absurd (ne refl)
at_set_other (x ∷ xs) zero (suc k) y ne = refl
at_set_other (x ∷ xs) (suc i) zero y ne = refl
at_set_other (x ∷ xs) (suc i) (suc k) y ne = at_set_other xs i k y (λ e. ne (ap suc e))

-- one more place that holds what it should
pub at_fill : {M : Type 0} (C : ℕ → Cell M) (xs : List M) (n : ℕ) (y : M) → ((k : ℕ) → k < n → C k ≡ at xs k) → n < length xs → C n ≡ mark y → (k : ℕ) → k < n + 1 → C k ≡ at (set xs n y) k
at_fill C xs n y h lt e =
    below_more (λ k. C k ≡ at (set xs n y) k) n (λ k l. let ne : k ≢ n = omega arith in h k l ∙ sym (at_set_other xs n k y ne)) (e ∙ sym (at_set_same xs n y lt))

-- lists with the same marks at all places are one list
pub at_ext : {M : Type 0} (xs ys : List M) → ((k : ℕ) → at xs k ≡ at ys k) → xs ≡ ys
at_ext [] [] h = refl
at_ext [] (y ∷ ys) h = absurd (not_dead y (h 0))
at_ext (x ∷ xs) [] h = absurd (not_dead x (sym (h 0)))
at_ext (x ∷ xs) (y ∷ ys) h = let e = one_mark x y (h 0) in let t = at_ext xs ys (λ k. h (suc k)) in λ i. e i ∷ t i
