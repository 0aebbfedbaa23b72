-- What a sheet stands for: its sides, and what stands in each cell. Assumes nothing.
use Rattle.std.specs.Prelude.{ℕ, zero, suc, ◌+◌, ◌≤◌, Bool, true, false, ◌||◌, List, [], ◌∷◌, Some, None, Option, ◌==◌}

-- what stands in a cell: a mark, or nothing that can be read
pub data Cell (M : Type 0) : Type 0 where
  mark : M → Cell M
  dead : Cell M

-- the cell cannot be read
abbrev pub is_dead : {M : Type 0} → Cell M → Bool
is_dead (mark m) = false
is_dead dead = true

-- the cell of a mark, or of none
abbrev pub cell_of : {M : Type 0} → Option M → Cell M
cell_of (Some m) = mark m
cell_of None = dead

-- what stands at a place of a list of marks: past its end, nothing that can be read
abbrev pub at : {M : Type 0} → List M → ℕ → Cell M
at [] k = cell_of None
at (x ∷ xs) zero = mark x
at (x ∷ xs) (suc k) = at xs k

-- the meaning of a sheet: the cell in row i and column j is `cell i j`, where i is below `rows` and j below `cols`
pub record Grid (M : Type 0) : Type 0 where
  pub rows : ℕ
  pub cols : ℕ
  pub cell : ℕ → ℕ → Cell M

-- a side that a sheet may have
abbrev pub Side : ℕ → Type 0
Side n = (1 ≤ n) × (n ≤ 2048)

-- the cell in row i and column j lies on the edge of so many rows and columns
abbrev pub at_edge : ℕ → ℕ → ℕ → ℕ → Bool
at_edge rows cols i j = (i == 0 || i + 1 == rows) || (j == 0 || j + 1 == cols)

-- both sides of a grid are such
pub record Sided {M : Type 0} (g : Grid M) : Type 0 where
  pub rows : Side g.rows
  pub cols : Side g.cols
