-- When a flood is refused, and what it leaves. Assumes nothing.
use Rattle.std.specs.Prelude.{◌≡◌, ℕ, Bool, true, cond, List, length, drop, Ok, Err, Option, Result, nat_lt}
use Rattle.flood.specs.Grounds.{Graph, Flooded}

-- one of three lists is shorter than n
abbrev pub short : {X Y Z : Type 0} → ℕ → List X → List Y → List Z → Bool
short n xs ys zs = cond (nat_lt (length xs) n) true (cond (nat_lt (length ys) n) true (nat_lt (length zs) n))

-- what the levels, the origins and the slots hold after a flood, and before it: as it was found, and behind the nodes
-- what was there; after a refusal all that was there
abbrev pub Leaves : {M X F : Type 0} → Graph M → Result Unit F → List (Option M) → List (Option M) → List (Option ℕ) → List (Option ℕ) → List X → List X → Type 0
Leaves g (Ok u) ls ls₀ os os₀ q q₀ = Flooded g ls os × (drop g.nodes ls ≡ drop g.nodes ls₀) × (drop g.nodes os ≡ drop g.nodes os₀)
Leaves g (Err e) ls ls₀ os os₀ q q₀ = (ls ≡ ls₀) × (os ≡ os₀) × (q ≡ q₀)
