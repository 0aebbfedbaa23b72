-- Decimal digits written from the last one on. Assumes nothing.
use Rattle.std.proofs.Common.{◌≡◌, ℕ, ◌+◌, ◌-◌, ◌/◌, ◌%◌, ◌^◌, ◌<◌, ◌≤◌, List, [], ◌∷◌, ◌++◌, length, drop, set, decimal, sym, ap, ◌∙◌, append_assoc, append-nil, arith, length-append, length-set}
use Rattle.std.proofs.lemmas.List.{drop-set, drop_all}
use Rattle.std.proofs.lemmas.Fmt.{decimal_digit, decimal_step, decimal_nonempty, length-decimal-le}

-- behind start stand the last digits of n, and those of rest have still to be written
pub record Ending (n rest start : ℕ) (bs : List ℕ) : Type 0 where
  pub is : decimal n ≡ decimal rest ++ drop (start + 1) bs
  pub room : length (decimal rest) ≤ start
  pub within : start ≤ 5
  pub long : length bs ≡ 6
  pub small : rest < 2 ^ 16

pub ending_none : (n : ℕ) (bs : List ℕ) → n < 2 ^ 16 → length bs ≡ 6 → Ending n n 5 bs
ending_none n bs small long = record {
  is = sym (ap (λ w. decimal n ++ w) (drop_all 6 bs (omega arith)) ∙ append-nil (decimal n));
  room = length-decimal-le 5 n (omega arith) (omega arith) (omega arith);
  within = omega arith;
  long = long;
  small = small;
}

module _ (n rest start : ℕ) (bs : List ℕ) (h : Ending n rest start bs) where
  some : 0 < length (decimal rest)
  some = decimal_nonempty rest (omega (arith, h.small))

  pub ending_more : 10 ≤ rest → Ending n (rest / 10) (start - 1) (set bs start (48 + rest % 10))
  ending_more ge =
      let step : decimal rest ≡ decimal (rest / 10) ++ ((48 + rest % 10) ∷ []) = decimal_step rest ge (omega (arith, h.small)) in
      let long : length (decimal rest) ≡ length (decimal (rest / 10)) + 1 = ap length step ∙ length-append (decimal (rest / 10)) ((48 + rest % 10) ∷ []) in
      let some : 0 < length (decimal (rest / 10)) = decimal_nonempty (rest / 10) (omega (arith, h.small)) in
      let place : start - 1 + 1 ≡ start = omega (arith, h.room, long) in
      record {
        is = h.is ∙ ap (λ w. w ++ drop (start + 1) bs) step ∙ append_assoc (decimal (rest / 10)) ((48 + rest % 10) ∷ []) (drop (start + 1) bs) ∙ ap (λ w. decimal (rest / 10) ++ w) (sym (ap (λ k. drop k (set bs start (48 + rest % 10))) place ∙ drop-set bs start (48 + rest % 10) (omega (arith, h.within, h.long))));
        room = omega (arith, h.room, long);
        within = omega (arith, h.within);
        long = simp length-set h.long;
        small = omega (arith, h.small);
      }

  pub ending_all : rest < 10 → drop start (set bs start (48 + rest)) ≡ decimal n
  ending_all lt = drop-set bs start (48 + rest) (omega (arith, h.within, h.long)) ∙ ap (λ w. w ++ drop (start + 1) bs) (sym (decimal_digit rest lt)) ∙ sym h.is

  pub ending_room : 1 ≤ start
  ending_room = omega (arith, h.room, some)
