use Rattle.brackets.specs.Writes.{Put, row_lines}
use Rattle.brackets.proofs.writing.put_rows.Given as goal

abbrev pub invariant-loop-i : goal.invariant-loop-i
invariant-loop-i g l = Put l.initial.out l.out l.from (row_lines g.M.Spelled.spelled (g.S.Sheet.meaning l.sheet) l.i) l.at
