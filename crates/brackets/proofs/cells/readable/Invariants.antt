use Rattle.std.proofs.Common.{◌≡◌, ℕ, ◌<◌, false}
use Rattle.sheets.specs.Grids.{is_dead}
use Rattle.brackets.specs.Lines.{parts_on}
use Rattle.brackets.specs.Cells.{cell_along}
use Rattle.brackets.proofs.cells.readable.Given as goal

abbrev pub invariant-loop-k : goal.invariant-loop-k
invariant-loop-k g l = (l.rest ≡ parts_on l.k l.line) × ((k : ℕ) → k < l.k → is_dead (cell_along g.M.CodedMark.decoded g.M.Spelled.spelled l.line k) ≡ false)
