-- Whether a tile is missing. Assumes nothing.
use Rattle.std.proofs.Common.{◌≡◌, ℕ, zero, suc, ◌≤◌, Bool, true, false, not, ◌||◌, List, [], ◌∷◌, length, get_or, take, replicate, refl, sym, ap, ◌∙◌, arith}
use Rattle.std.specs.List.{list_any}
use mathlib.Core.Bool.{beq}
use Rattle.round.specs.Rounds.{missing_below}

swapped : (a b c : Bool) → (a || (b || c)) ≡ (b || (a || c))
swapped true true c = refl
swapped true false c = refl
swapped false true c = refl
swapped false false c = refl

-- the first tile, and those behind it
front : (s : ℕ → Bool) (n : ℕ) → missing_below s (suc n) ≡ (not (s 0) || missing_below (λ k. s (suc k)) n)
front s zero = refl
front s (suc n) = ap (λ b. not (s (suc n)) || b) (front s n) ∙ swapped (not (s (suc n))) (not (s 0)) (missing_below (λ k. s (suc k)) n)

pub some_false : (xs : List Bool) (n : ℕ) → n ≤ length xs → list_any (λ y. beq y false) (take n xs) ≡ missing_below (λ t. get_or xs t false) n
some_false xs zero le = refl
some_false [] (suc n) le = absurd (omega arith)
some_false (true ∷ xs) (suc n) le = some_false xs n (omega arith) ∙ sym (front (λ t. get_or (true ∷ xs) t false) n)
some_false (false ∷ xs) (suc n) le = sym (front (λ t. get_or (false ∷ xs) t false) n)

pub none_set : (n t : ℕ) → get_or (replicate n false) t false ≡ false
none_set zero t = refl
none_set (suc n) zero = refl
none_set (suc n) (suc t) = none_set n t
