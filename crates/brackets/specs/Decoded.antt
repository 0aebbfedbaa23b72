-- The marks of a sheet in a list, row by row. Assumes nothing.
use Rattle.std.specs.Prelude.{◌≡◌, ℕ, ◌+◌, ◌*◌, ◌<◌, List, length}
use Rattle.sheets.specs.Grids.{Grid, at}

-- the list has the marks of the first n rows
abbrev pub Decodes : {M : Type 0} → Grid M → ℕ → List M → Type 0
Decodes g n xs = (i j : ℕ) → i < n → j < g.cols → g.cell i j ≡ at xs (i * g.cols + j)

-- the list has the mark of each cell, and no more
pub record Decoded {M : Type 0} (g : Grid M) (xs : List M) : Type 0 where
  pub long : length xs ≡ g.rows * g.cols
  pub marks : Decodes g g.rows xs
