use Rattle.std.proofs.Common.{◌≡◌, ◌+◌, ◌*◌, sym, ap, ◌∙◌, arith}
use Rattle.tiles.specs.Plans.{plan_of, abreast}
use Rattle.tiles.proofs.Tilings.{lawful_plan}
use Rattle.tiles.specs.Plans.{height, width}
use Rattle.tiles.specs.Mouths.{mouth_base, border}
use Rattle.tiles.proofs.Numberings.{row_start, base_column, column_small}
use Rattle.tiles.proofs.cuts.CutList.mouths_before.Goals as goal

-- one tile further
next : (c : goal.After-mouths-sum) → let p = plan_of c.args.self.now in c.loop-k.sum + c.mouths-sum.result ≡ mouth_base p (c.args.i * abreast p + (c.loop-k.k + 1))
next c =
    let p = plan_of c.args.self.now in
    omega (arith, base_column p c.args.i c.loop-k.k (omega (arith, c.requires, c.loop-k-test.true)), c.loop-k.invariant, c.mouths-sum.ensures, ap (λ a. border (height a) (width a)) c.block.ensures)

pub overflow_add-sum : goal.overflow_add-sum
overflow_add-sum c =
    let p = plan_of c.args.self.now in
    omega (arith, next c, column_small p c.args.i (c.loop-k.k + 1) (lawful_plan c.args.self.now) (omega (arith, c.requires)) (omega (arith, c.requires, c.loop-k-test.true)))

pub loop-k-preserved : goal.loop-k-preserved
loop-k-preserved c = next c
