-- A sample ground: five nodes, of which the first and the fourth drain, and the last has no crossing. Assumes nothing.
--
--     0 -- high -- 1 -- low -- 3        4
--      \          /
--      low      mid
--        \      /
--           2
use Rattle.std.specs.Prelude.{ℕ, zero, suc, List, [], ◌∷◌, Some, None, Option}

module _ {M : Type 0} (low mid high : M) where
  -- the crossings of a node
  abbrev pub joined : ℕ → List (ℕ × M)
  joined zero = (1, high) ∷ (2, low) ∷ []
  joined (suc zero) = (0, high) ∷ (2, mid) ∷ (3, low) ∷ []
  joined (suc (suc zero)) = (0, low) ∷ (1, mid) ∷ []
  joined (suc (suc (suc zero))) = (1, low) ∷ []
  joined (suc (suc (suc (suc n)))) = []

  -- the drain level of a node
  abbrev pub outlet : ℕ → Option M
  outlet zero = Some low
  outlet (suc zero) = None
  outlet (suc (suc zero)) = None
  outlet (suc (suc (suc zero))) = Some mid
  outlet (suc (suc (suc (suc n)))) = None
