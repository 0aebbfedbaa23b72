-- Sheets that lie row by row in memory, one mark to a cell or two bytes to a cell. Assumes nothing.
use Rattle.std.specs.Prelude.{ℕ, ◌+◌, ◌*◌, Bool, not, ◌||◌, List, [], ◌∷◌, Option, ◌==◌, nat_lt, slice_index}
use Rattle.marks.specs.Refusals.{Told, checked}
use Rattle.sheets.specs.Grids.{Cell, Grid, cell_of, at}

-- a side that no sheet has: outside 1 to 2,048
abbrev pub bad_side : ℕ → Bool
bad_side n = nat_lt n 1 || nat_lt 2048 n

-- one of the sides is such
abbrev pub bad_sides : ℕ → ℕ → Bool
bad_sides rows cols = bad_side rows || bad_side cols

-- what making a sheet tells, where `len` is how much it is lent and `want` how much it takes
abbrev pub make_told : {X : Type 0} → ℕ → ℕ → ℕ → ℕ → X → Told X
make_told rows cols len want x = checked ((bad_sides rows cols, 1) ∷ (not (len == want), 4) ∷ []) x

-- the grid of marks that lie row by row in a list
abbrev pub flat : {M : Type 0} → ℕ → ℕ → List M → Grid M
flat rows cols xs = record { rows = rows; cols = cols; cell = λ i j. at xs (i * cols + j) }

-- the code of two bytes, the high byte first, that stands at place k of a list of codes
abbrev pub code_at : List ℕ → ℕ → ℕ
code_at bytes k = slice_index bytes (2 * k) * 256 + slice_index bytes (2 * k + 1)

-- the cell of that code: dead, if the code is no mark's
abbrev pub code_cell : {M : Type 0} → (ℕ → Option M) → List ℕ → ℕ → Cell M
code_cell decoded bytes k = cell_of (decoded (code_at bytes k))

-- the grid of codes of two bytes that lie row by row in a list
abbrev pub packed : {M : Type 0} → (ℕ → Option M) → ℕ → ℕ → List ℕ → Grid M
packed decoded rows cols bytes = record { rows = rows; cols = cols; cell = λ i j. code_cell decoded bytes (i * cols + j) }
