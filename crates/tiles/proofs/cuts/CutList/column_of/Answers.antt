use Rattle.std.proofs.Common.{◌≡◌, ◌+◌, ◌*◌, ap, arith}
use Rattle.tiles.specs.Plans.{plan_of, abreast}
use Rattle.tiles.specs.Plans.{height, width}
use Rattle.tiles.specs.Mouths.{border, mouth_base}
use Rattle.tiles.proofs.Numberings.{row_start, row_over, base_column, tile_mouths_lem}
use Rattle.tiles.proofs.cuts.CutList.column_of.Goals as goal

pub returns-then-left-here : goal.returns-then-left-here
returns-then-left-here c =
    let p = plan_of c.args.self.now in
    record {
      exists = omega (arith, c.loop-j-test.true, c.bands-j-end.ensures);
      number = c.loop-j.invariant;
      below = omega (arith, c.if-left-here.true, c.mouths-here.ensures, ap (λ a. border (height a) (width a)) c.block.ensures, tile_mouths_lem p c.args.i c.loop-j.j (omega (arith, c.loop-j-test.true, c.bands-j-end.ensures)));
    }

pub loop-j-preserved : goal.loop-j-preserved
loop-j-preserved c =
    let p = plan_of c.args.self.now in
    omega (arith, c.loop-j.invariant, c.if-left-here.false, c.mouths-here.ensures, ap (λ a. border (height a) (width a)) c.block.ensures, base_column p c.args.i c.loop-j.j (omega (arith, c.loop-j-test.true, c.bands-j-end.ensures)))
