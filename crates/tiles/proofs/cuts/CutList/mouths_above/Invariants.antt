use Rattle.std.proofs.Common.{◌≡◌}
use Rattle.tiles.specs.Plans.{plan_of}
use Rattle.tiles.specs.Bandings.{row_base}
use Rattle.tiles.proofs.cuts.CutList.mouths_above.Given as goal

abbrev pub invariant-loop-i : goal.invariant-loop-i
invariant-loop-i l = l.sum ≡ row_base (plan_of l.self) l.i
