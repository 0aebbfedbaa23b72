use Rattle.std.proofs.Common.{take}
use Rattle.brackets.specs.Writes.{Put, blanked}
use Rattle.brackets.proofs.writing.put_marks.Given as goal

abbrev pub invariant-loop-mark : goal.invariant-loop-mark
invariant-loop-mark g l = Put l.initial.out l.out l.from (blanked g.M.Spelled.spelled (take l.mark-index l.marks)) l.at
