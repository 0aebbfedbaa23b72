use Rattle.std.proofs.Common.{◌-◌}
use Rattle.texts.specs.Parts.{body}
use Rattle.texts.proofs.Going.{Going}
use Rattle.texts.proofs.cursor.Cursor.body.Given as goal

abbrev pub invariant-loop-k : goal.invariant-loop-k
invariant-loop-k g l = Going (body g.M.Spelled.spelled l.sides.rows l.sides.cols) l.fn.self (body g.M.Spelled.spelled (l.sides.rows - l.k) l.sides.cols) l.at
