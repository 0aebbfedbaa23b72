use Rattle.std.proofs.Common.{◌≡◌, ◌*◌, ◌≤◌, false, length}
use Rattle.sheets.specs.Copies.{broken_rows}
use Rattle.terrain.specs.Cells.{place}
use Rattle.brackets.specs.Writes.{row_lines}
use Rattle.brackets.proofs.measuring.rows_length.Given as goal

abbrev pub invariant-loop-i : goal.invariant-loop-i
invariant-loop-i g l = (broken_rows (g.S.Sheet.meaning l.sheet) (place 0 0) (g.S.Sheet.meaning l.sheet).cols l.i ≡ false) × (l.len ≡ length (row_lines g.M.Spelled.spelled (g.S.Sheet.meaning l.sheet) l.i)) × (l.len ≤ 14342 * l.i)
