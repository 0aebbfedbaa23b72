-- What a read and a write of a run, some cells of one row one after another, do. Assumes nothing.
use Rattle.std.specs.Prelude.{◌≡◌, ℕ, zero, suc, ◌+◌, ◌<◌, ◌≤◌, Bool, false, ◌||◌, List, [], ◌∷◌, length, Ok, Err, Result, nat_le, nat_lt}
use Rattle.marks.specs.declared.refusal.Refusal.{Refusal}
use Rattle.marks.specs.Refusals.{Told, checked}
use Rattle.sheets.specs.Grids.{Grid, is_dead, at}

-- the run of n cells from a column on leaves the sides: there is no such row, or the run ends past the last column
abbrev pub overruns : ℕ → ℕ → ℕ → ℕ → ℕ → Bool
overruns rows cols row col n = nat_le rows row || nat_lt cols (col + n)

-- such a run leaves the grid
abbrev pub outside : {M : Type 0} → Grid M → ℕ → ℕ → ℕ → Bool
outside g row col n = overruns g.rows g.cols row col n

-- some of the n cells from a column on is dead
abbrev pub broken : {M : Type 0} → Grid M → ℕ → ℕ → ℕ → Bool
broken g row col zero = false
broken g row col (suc n) = is_dead (g.cell row (col + n)) || broken g row col n

-- xs is what stands in the run that is as long as xs
abbrev pub Holds : {M : Type 0} → Grid M → ℕ → ℕ → List M → Type 0
Holds g row col xs = (k : ℕ) → k < length xs → g.cell row (col + k) ≡ at xs k

-- what a read of n cells tells
abbrev pub read_told : {M : Type 0} → Grid M → ℕ → ℕ → ℕ → Told (Unit {0})
read_told g row col n = checked ((outside g row col n, 6) ∷ (broken g row col n, 7) ∷ []) tt

-- what a read leaves in the slice that it fills: accepted, the run; refused, what it held
abbrev pub ReadLeaves : {M : Type 0} → Grid M → ℕ → ℕ → List M → List M → Result (Unit {0}) Refusal → Type 0
ReadLeaves g row col before after (Ok u) = (length after ≡ length before) × Holds g row col after
ReadLeaves g row col before after (Err e) = after ≡ before

-- what a write of n marks tells
abbrev pub write_told : {M : Type 0} → Grid M → ℕ → ℕ → ℕ → Told (Unit {0})
write_told g row col n = checked ((outside g row col n, 6) ∷ []) tt

-- the cell in row i and column j is one of the n cells from a column on
abbrev pub Within : ℕ → ℕ → ℕ → ℕ → ℕ → Type 0
Within row col n i j = (i ≡ row) × (col ≤ j) × (j < col + n)

-- h is g with xs written into a run, and with no other change
pub record Written {M : Type 0} (g h : Grid M) (row col : ℕ) (xs : List M) : Type 0 where
  pub rows : h.rows ≡ g.rows
  pub cols : h.cols ≡ g.cols
  pub run : Holds h row col xs
  pub rest : (i j : ℕ) → i < g.rows → j < g.cols → (Within row col (length xs) i j → ⊥) → h.cell i j ≡ g.cell i j

-- what a write leaves of the grid g: accepted, g with the run written; refused, g
abbrev pub WriteLeaves : {M : Type 0} → Grid M → Grid M → ℕ → ℕ → List M → Result (Unit {0}) Refusal → Type 0
WriteLeaves g h row col xs (Ok u) = Written g h row col xs
WriteLeaves g h row col xs (Err e) = h ≡ g
