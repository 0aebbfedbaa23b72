use Rattle.std.proofs.Common.{◌≡◌, ◌+◌, ◌*◌}
use Rattle.tiles.specs.Plans.{plan_of, abreast}
use Rattle.tiles.specs.Mouths.{mouth_base}
use Rattle.tiles.proofs.cuts.CutList.mouths_before.Given as goal

abbrev pub invariant-loop-k : goal.invariant-loop-k
invariant-loop-k l = l.sum ≡ mouth_base (plan_of l.self) (l.i * abreast (plan_of l.self) + l.k)
