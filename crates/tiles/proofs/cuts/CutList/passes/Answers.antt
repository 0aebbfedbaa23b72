use Rattle.std.proofs.Common.{arith}
use Rattle.tiles.specs.Plans.{plan_of}
use Rattle.tiles.proofs.Tilings.{lawful_plan}
use Rattle.tiles.specs.Plans.{tiles}
use Rattle.tiles.proofs.Numberings.{base_many}
use Rattle.tiles.proofs.cuts.CutList.passes.Goals as goal

pub overflow_sub-result : goal.overflow_sub-result
overflow_sub-result c =
    let p = plan_of c.args.self.now in
    omega (arith, base_many p (tiles p) (lawful_plan c.args.self.now) (omega arith), c.mouths.ensures.value, c.tiles.ensures.value)
