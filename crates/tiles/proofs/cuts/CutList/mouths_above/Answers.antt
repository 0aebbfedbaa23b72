use Rattle.std.proofs.Common.{◌≡◌, ◌+◌, sym, ap, ◌∙◌, arith}
use Rattle.tiles.specs.Plans.{plan_of}
use Rattle.tiles.proofs.Tilings.{lawful_plan}
use Rattle.tiles.specs.Bandings.{row_base}
use Rattle.tiles.proofs.Numberings.{row_none, row_small}
use Rattle.tiles.proofs.cuts.CutList.mouths_above.Goals as goal

pub loop-i-init : goal.loop-i-init
loop-i-init c = sym (row_none (plan_of c.args.self.now))

pub overflow_add-sum : goal.overflow_add-sum
overflow_add-sum c =
    let p = plan_of c.args.self.now in
    omega (arith, c.row_mouths-sum.ensures, c.loop-i.invariant, row_small p (c.loop-i.i + 1) (lawful_plan c.args.self.now) (omega arith))
