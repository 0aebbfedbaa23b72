use Rattle.std.proofs.Common.{◌-◌}
use Rattle.texts.specs.Parts.{row}
use Rattle.texts.proofs.Going.{Going}
use Rattle.texts.proofs.Rows.{still}
use Rattle.texts.proofs.cursor.Cursor.row.Given as goal

abbrev pub invariant-loop-k : goal.invariant-loop-k
invariant-loop-k g l = Going (row g.M.Spelled.spelled l.cols) l.self (still g.M.Spelled.spelled (l.cols - l.k)) l.at
