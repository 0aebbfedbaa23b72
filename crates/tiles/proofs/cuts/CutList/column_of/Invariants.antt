use Rattle.std.proofs.Common.{◌≡◌, ◌+◌, ◌*◌}
use Rattle.tiles.specs.Plans.{plan_of, abreast}
use Rattle.tiles.specs.Mouths.{mouth_base}
use Rattle.tiles.specs.Bandings.{row_base}
use Rattle.tiles.proofs.cuts.CutList.column_of.Given as goal

abbrev pub invariant-loop-j : goal.invariant-loop-j
invariant-loop-j l = mouth_base (plan_of l.self) (l.i * abreast (plan_of l.self) + l.j) + l.left ≡ row_base (plan_of l.self) l.i + l.before
