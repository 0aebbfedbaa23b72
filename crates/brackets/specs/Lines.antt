-- Lines of a text, and the parts of a line. Assumes nothing.
use Rattle.std.specs.Prelude.{ℕ, zero, suc, ◌+◌, ◌-◌, cond, List, [], ◌∷◌, map, length, drop, ◌==◌}
use Rattle.std.specs.List.{range_with_len}
use Rattle.texts.specs.Tokens.{front}

-- what follows the first line
abbrev pub past_line : List ℕ → List ℕ
past_line [] = []
past_line (b ∷ bs) = cond (b == 10) bs (past_line bs)

-- what follows the first n lines
abbrev pub lines_on : ℕ → List ℕ → List ℕ
lines_on zero bs = bs
lines_on (suc n) bs = past_line (lines_on n bs)

-- what follows the first part, which may be empty, and the byte that ends it
abbrev pub past_part : List ℕ → List ℕ
past_part bs = drop (length (front bs) + 1) bs

-- what follows the first n parts
abbrev pub parts_on : ℕ → List ℕ → List ℕ
parts_on zero bs = bs
parts_on (suc n) bs = past_part (parts_on n bs)

-- the places at which the rows of a text begin, of which there are r: its lines but the first
unfoldable pub row_starts : ℕ → List ℕ → List ℕ
row_starts r bs = map (λ i. length bs - length (lines_on (suc i) bs)) (range_with_len 0 r)
