-- Cells of a sheet: which touch, and which lie on its edge. Assumes nothing.
use Rattle.std.specs.Prelude.{◌≡◌, ℕ, zero, suc, ◌+◌, ◌*◌, ◌/◌, ◌%◌, ◌<◌, ◌≤◌, Bool, cond, ◌⊎◌, ◌≢◌}
use Rattle.sheets.specs.declared.copies.Place.{Place}

-- the cell in row i and column j
abbrev pub place : ℕ → ℕ → Place
place i j = record { row = i; col = j }

-- two different cells touch if their rows and their columns each differ by at most 1
abbrev pub Touches : Place → Place → Type 0
Touches c d = (c.row ≤ d.row + 1) × (d.row ≤ c.row + 1) × (c.col ≤ d.col + 1) × (d.col ≤ c.col + 1) × (c ≢ d)

-- the cell lies in a sheet of so many rows and columns
abbrev pub InSheet : ℕ → ℕ → Place → Type 0
InSheet rows cols c = (c.row < rows) × (c.col < cols)

-- the cell lies on the sheet's edge: in the first or last row, or the first or last column
abbrev pub OnEdge : ℕ → ℕ → Place → Type 0
OnEdge rows cols c = ((c.row ≡ 0) ⊎ (c.row + 1 ≡ rows)) ⊎ ((c.col ≡ 0) ⊎ (c.col + 1 ≡ cols))

-- the number of a cell in reading order, where a row has so many cells
abbrev pub node_of : ℕ → Place → ℕ
node_of cols c = c.row * cols + c.col

-- the cell of a number
abbrev pub place_of : ℕ → ℕ → Place
place_of cols u = place (u / cols) (u % cols)

-- how many numbers below n pass a test
abbrev pub count_below : (ℕ → Bool) → ℕ → ℕ
count_below p zero = 0
count_below p (suc n) = cond (p n) 1 0 + count_below p n
