-- Decimal numbers without leading zeros. Assumes nothing.
use Rattle.std.specs.Prelude.{◌≡◌, ℕ, ◌+◌, ◌≤◌, ◌⊎◌, List, [], ◌∷◌, ◌++◌, length, drop, decimal}
use Rattle.grammar.specs.Grammars.{Grammar, Front}

-- the numbers from 1 to max
abbrev pub naturals : ℕ → Grammar ℕ
naturals max = record { valid = λ n. (1 ≤ n) × (n ≤ max); text = decimal }

-- u is nothing, and stands for 0, or a number from 1 to max
abbrev pub Begun : ℕ → List ℕ → ℕ → Type 0
Begun max u n = ((u ≡ []) × (n ≡ 0)) ⊎ ((u ≡ decimal n) × (1 ≤ n) × (n ≤ max))

-- from at to end stands what was read so far, of the number n
pub record Part (max at : ℕ) (bs : List ℕ) (end n : ℕ) : Type 0 where
  pub read : List ℕ
  pub split : drop at bs ≡ read ++ drop end bs
  pub place : end ≡ at + length read
  pub within : at ≤ length bs → end ≤ length bs
  pub begun : Begun max read n

-- and no number from 1 to max begins with one byte more
pub record Natural (max at : ℕ) (bs : List ℕ) (end n : ℕ) : Type 0 where
  pub part : Part max at bs end n
  pub next : (b : ℕ) (x : List ℕ) → drop end bs ≡ b ∷ x → Front (naturals max) (part.read ++ (b ∷ [])) → ⊥
