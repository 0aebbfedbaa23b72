use Rattle.std.proofs.Common.{◌≡◌, vec_items}
use Rattle.brackets.specs.Lines.{lines_on, row_starts}
use Rattle.brackets.proofs.making.row_starts.Given as goal

abbrev pub invariant-loop-k : goal.invariant-loop-k
invariant-loop-k l = (l.rest ≡ lines_on l.k l.bytes) × (vec_items l.starts ≡ row_starts l.k l.bytes)
