use Rattle.std.proofs.Common.{◌≡◌}
use Rattle.brackets.specs.Lines.{lines_on}
use Rattle.brackets.specs.Cells.{in_text}
use Rattle.brackets.specs.Decoded.{Decodes}
use Rattle.brackets.proofs.decoding.decode_rows.Given as goal

abbrev pub invariant-loop-i : goal.invariant-loop-i
invariant-loop-i g l = (l.rest ≡ lines_on l.i l.bytes) × Decodes (in_text g.M.CodedMark.decoded g.M.Spelled.spelled l.rows l.cols l.bytes) l.i l.marks
