-- Going through a text line by line and part by part. Assumes nothing.
use Rattle.std.proofs.Common.{◌≡◌, ℕ, zero, suc, ◌+◌, ◌-◌, ◌<◌, ◌≤◌, ◌==◌, Bool, true, false, cond, List, [], ◌∷◌, ◌++◌, length, get_or, drop, sym, refl, ap, ◌∙◌, ⊎_elim, add-one, arith, length-drop}
use mathlib.Core.Bool.{not}
use Rattle.std.specs.List.{position_or_len}
use Rattle.std.proofs.lemmas.List.{drop-drop}
use Rattle.std.proofs.lemmas.List.FromFn.{length-map-range_with_len, get_or-map-range_with_len, map-range_with_len_more}
use Rattle.std.proofs.lemmas.Bool.Decides.{eqb_tells}
use Rattle.brackets.specs.Lines.{past_line, lines_on, past_part, parts_on, row_starts}

-- what follows the first line, by the place where it ends
pub line_place : (bs : List ℕ) → drop (position_or_len (λ b. b == 10) bs + 1) bs ≡ past_line bs
line_place [] = refl
line_place (b ∷ bs) = by (b == 10) (line_place bs)
  where
    by : (t : Bool) → drop (position_or_len (λ b. b == 10) bs + 1) bs ≡ past_line bs → drop (cond (not t) (1 + position_or_len (λ b. b == 10) bs) 0 + 1) (b ∷ bs) ≡ cond t bs (past_line bs)
    by true e = refl
    by false e = ap (λ k. drop k (b ∷ bs)) (swap (position_or_len (λ b. b == 10) bs)) ∙ e
      where
        swap : (n : ℕ) → 1 + n + 1 ≡ suc (n + 1)
        swap n = omega arith

-- one part more
pub parts_more : (n : ℕ) (bs : List ℕ) → parts_on (n + 1) bs ≡ past_part (parts_on n bs)
parts_more n bs = ap (λ k. parts_on k bs) (add-one n)

-- the parts behind the first, and those behind n
pub parts_inner : (n : ℕ) (bs : List ℕ) → parts_on (suc n) bs ≡ parts_on n (past_part bs)
parts_inner zero bs = refl
parts_inner (suc n) bs = ap past_part (parts_inner n bs)

pub parts_add : (m n : ℕ) (bs : List ℕ) → parts_on (m + n) bs ≡ parts_on n (parts_on m bs)
parts_add m zero bs = let e : m + zero ≡ m = omega arith in ap (λ k. parts_on k bs) e
parts_add m (suc n) bs = let e : m + suc n ≡ suc (m + n) = omega arith in ap (λ k. parts_on k bs) e ∙ ap past_part (parts_add m n bs)

-- the lines behind the first
pub lines_inner : (n : ℕ) (bs : List ℕ) → lines_on (suc n) bs ≡ lines_on n (past_line bs)
lines_inner zero bs = refl
lines_inner (suc n) bs = ap past_line (lines_inner n bs)

-- what follows some lines is the end of the text
past_suffix : (bs : List ℕ) → (k : ℕ) × (k ≤ length bs) × (past_line bs ≡ drop k bs)
past_suffix [] = (0, omega arith, refl)
past_suffix (b ∷ bs) =
    let r = past_suffix bs in
    ⊎_elim
    (λ p. (1, omega arith, ap (λ t. cond t bs (past_line bs)) p.0))
    (λ p. (suc r.0, omega (arith, r.1), ap (λ t. cond t bs (past_line bs)) p.0 ∙ r.2))
    (eqb_tells b 10)

lines_suffix : (n : ℕ) (bs : List ℕ) → (k : ℕ) × (k ≤ length bs) × (lines_on n bs ≡ drop k bs)
lines_suffix zero bs = (0, omega arith, refl)
lines_suffix (suc n) bs =
    let r = lines_suffix n bs in
    let p = past_suffix (lines_on n bs) in
    (r.0 + p.0, omega (arith, r.1, p.1, ap length r.2, length-drop r.0 bs), p.2 ∙ ap (drop p.0) r.2 ∙ drop-drop p.0 r.0 bs)

-- so it begins as far before the end as it is long
pub lines_start : (n : ℕ) (bs : List ℕ) → drop (length bs - length (lines_on n bs)) bs ≡ lines_on n bs
lines_start n bs =
    let r = lines_suffix n bs in
    let is : length bs - length (lines_on n bs) ≡ r.0 = omega (arith, r.1, ap length r.2, length-drop r.0 bs) in
    ap (λ k. drop k bs) is ∙ sym r.2

-- one row more
pub starts_more : (k : ℕ) (bs xs rest : List ℕ) → xs ≡ row_starts k bs → rest ≡ lines_on (suc k) bs → xs ++ ((length bs - length rest) ∷ []) ≡ row_starts (k + 1) bs
unfolding row_starts
starts_more k bs xs rest e d =
    (λ i. e i ++ ((length bs - length (d i)) ∷ [])) ∙ sym (map-range_with_len_more (λ i. length bs - length (lines_on (suc i) bs)) 0 k k (omega arith))

-- what follows some lines is no longer than the text
pub lines_long : (n : ℕ) (bs : List ℕ) → length (lines_on n bs) ≤ length bs
lines_long n bs = let r = lines_suffix n bs in omega (arith, r.1, ap length r.2, length-drop r.0 bs)

pub starts_none : (bs : List ℕ) → [] ≡ row_starts 0 bs
unfolding row_starts
starts_none bs = refl

-- how many rows begin, and where row i does
pub starts_long : (r : ℕ) (bs : List ℕ) → length (row_starts r bs) ≡ r
unfolding row_starts
starts_long r bs = length-map-range_with_len (λ i. length bs - length (lines_on (suc i) bs)) 0 r

pub starts_at : (r i d : ℕ) (bs : List ℕ) → i < r → (get_or (row_starts r bs) i d ≤ length bs) × (drop (get_or (row_starts r bs) i d) bs ≡ lines_on (suc i) bs)
unfolding row_starts
starts_at r i d bs h =
    let is = get_or-map-range_with_len (λ i. length bs - length (lines_on (suc i) bs)) 0 r i i d h (omega arith) in
    (omega (arith, is), ap (λ k. drop k bs) is ∙ lines_start (suc i) bs)
