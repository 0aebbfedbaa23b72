use Rattle.std.proofs.Common.{◌≡◌, ◌+◌, length, ap, arith}
use Rattle.tiles.specs.Plans.{plan_of}
use Rattle.tiles.specs.Bandings.{row_base}
use Rattle.tiles.proofs.Numberings.{row_none}
use Rattle.tiles.proofs.cuts.CutList.row_of.Goals as goal

pub loop-i-init : goal.loop-i-init
loop-i-init c = omega (arith, row_none (plan_of c.args.self.now))
