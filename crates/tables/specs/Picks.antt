-- The answers of a question that may have none, place after place. Assumes nothing.
use Rattle.std.specs.Prelude.{ℕ, zero, suc, Bool, cond, List, [], ◌∷◌, Some, None, Option}

-- an answer before others, if there is one
abbrev pub front : {X : Type 0} → Option X → List X → List X
front None xs = xs
front (Some x) xs = x ∷ xs

-- the answers at n places from k on, in their order, those left out that are none
unfoldable pub picked : {X : Type 0} → (ℕ → Option X) → ℕ → ℕ → List X
picked f k zero = []
picked f k (suc n) = front (f k) (picked f (suc k) n)

-- the first of n numbers from k on that passes a test; k + n, if none does
unfoldable pub first : (ℕ → Bool) → ℕ → ℕ → ℕ
first p k zero = k
first p k (suc n) = cond (p k) k (first p (suc k) n)
