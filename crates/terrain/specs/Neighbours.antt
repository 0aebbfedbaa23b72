-- The cells that touch a cell, in reading order. Assumes nothing.
use Rattle.std.specs.Prelude.{ℕ, ◌+◌, ◌-◌, ◌*◌, ◌/◌, ◌%◌, min, cond, nat_lt}
use Rattle.sheets.specs.declared.copies.Place.{Place}
use Rattle.terrain.specs.Cells.{place, node_of}

-- along a side: where the cells beside the cell i begin, i among them
abbrev pub begin : ℕ → ℕ
begin i = i - 1

-- how many they are, where the side has n cells
abbrev pub span : ℕ → ℕ → ℕ
span n i = min (i + 2) n - begin i

-- of a block that is w cells wide and at most three high: in which of its rows the k-th cell stands
abbrev pub down : ℕ → ℕ → ℕ
down w k = cond (nat_lt k w) 0 (cond (nat_lt k (w + w)) 1 2)

-- and where in that row
abbrev pub right : ℕ → ℕ → ℕ
right w k = cond (nat_lt k w) k (cond (nat_lt k (w + w)) (k - w) (k - (w + w)))

-- the place of a cell among the cells of the block around it
abbrev pub centre : ℕ → ℕ → ℕ → ℕ
centre cols i j = (i - begin i) * span cols j + (j - begin j)

-- the k-th place with the centre left out
abbrev pub beside : ℕ → ℕ → ℕ
beside c k = cond (nat_lt k c) k (k + 1)

-- how many cells touch the cell in row i and column j
abbrev pub degree : ℕ → ℕ → ℕ → ℕ → ℕ
degree rows cols i j = span rows i * span cols j - 1

-- the k-th of them
abbrev pub neighbour : ℕ → ℕ → ℕ → ℕ → Place
neighbour cols i j k = place (begin i + down (span cols j) (beside (centre cols i j) k)) (begin j + right (span cols j) (beside (centre cols i j) k))

-- the number of the k-th cell that touches the cell of the number u
abbrev pub far : ℕ → ℕ → ℕ → ℕ
far cols u k = node_of cols (neighbour cols (u / cols) (u % cols) k)
