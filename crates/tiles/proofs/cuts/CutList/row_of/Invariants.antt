use Rattle.std.proofs.Common.{◌≡◌, ◌+◌}
use Rattle.tiles.specs.Plans.{plan_of}
use Rattle.tiles.specs.Bandings.{row_base}
use Rattle.tiles.proofs.cuts.CutList.row_of.Given as goal

abbrev pub invariant-loop-i : goal.invariant-loop-i
invariant-loop-i l = row_base (plan_of l.self) l.i + l.left ≡ l.number
