use Rattle.std.proofs.Common.{◌≡◌, ℕ, ◌<◌}
use Rattle.sheets.specs.Grids.{at}
use Rattle.brackets.specs.Lines.{parts_on}
use Rattle.brackets.specs.Cells.{cell_along}
use Rattle.brackets.proofs.cells.fill.Given as goal

abbrev pub invariant-loop-slot : goal.invariant-loop-slot
invariant-loop-slot g l = (l.rest ≡ parts_on l.slot-index l.line) × ((k : ℕ) → k < l.slot-index → cell_along g.M.CodedMark.decoded g.M.Spelled.spelled l.line k ≡ at l.out k)
