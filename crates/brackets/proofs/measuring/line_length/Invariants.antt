use Rattle.std.proofs.Common.{◌≡◌, ◌+◌, ◌*◌, ◌≤◌, length, take}
use Rattle.brackets.specs.Writes.{blanked}
use Rattle.brackets.proofs.measuring.line_length.Given as goal

abbrev pub invariant-loop-mark : goal.invariant-loop-mark
invariant-loop-mark g l = (l.len ≡ 6 + length (blanked g.M.Spelled.spelled (take l.mark-index l.marks))) × (l.len ≤ 6 + 7 * l.mark-index)
