-- How marks are spelled. Assumes nothing.
use Rattle.std.specs.Prelude.{◌≡◌, ℕ, suc, cond, ◌⊎◌, List, [], ◌∷◌, drop, ℤ, pos, negsuc, decimal, ◌==◌}
use Rattle.marks.specs.declared.spelling.Spelling.{Spelling}

-- a blank, a line end or a bracket
abbrev pub Separator : ℕ → Type 0
Separator t = ((t ≡ 32) ⊎ (t ≡ 10)) ⊎ ((t ≡ 40) ⊎ (t ≡ 41))

-- the bytes that a spelling holds
abbrev pub spelt : Spelling → List ℕ
spelt s = drop s.start s.bytes

-- a height: decimal, and a dot for the least number of 16 bits, which stands for void
abbrev pub spelled_z : ℤ → List ℕ
spelled_z (pos n) = decimal n
spelled_z (negsuc n) = cond (n == 32767) (46 ∷ []) (45 ∷ decimal (suc n))
