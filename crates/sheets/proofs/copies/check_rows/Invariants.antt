use Rattle.std.proofs.Common.{◌≡◌, false, length}
use Rattle.sheets.specs.Copies.{broken_rows}
use Rattle.sheets.proofs.copies.check_rows.Given as goal

abbrev pub invariant-loop-i : goal.invariant-loop-i
invariant-loop-i g l = broken_rows (g.S.Sheet.meaning l.source) l.from (length l.initial.run) l.i ≡ false
