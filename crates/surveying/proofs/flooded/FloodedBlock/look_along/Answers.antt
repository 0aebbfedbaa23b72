use Rattle.std.proofs.Common.{◌≡◌, subst, arith}
use Rattle.terrain.specs.Terrains.{kind_of}
use Rattle.tiles.specs.Plans.{area_of}
use Rattle.surveying.specs.Turns.{GoesOn}
use Rattle.surveying.proofs.flooded.FloodedBlock.look_along.Goals as goal

pub look-count-requires : goal.look-count-requires
look-count-requires g c =
    let turn = c.requires.turn in
    record {
      slices = omega (arith, c.requires.slices, c.loop-cell.auto.labels);
      from = c.requires.from;
      mouth = c.requires.mouth;
      near = c.requires.near.1 c.loop-cell.cell c.loop-cell.auto.cell c.loop-cell-test.true;
      turn = (turn.0, turn.1, c.loop-cell.invariant turn.0 turn.1 turn.2);
    }

pub loop-cell-preserved : goal.loop-cell-preserved
loop-cell-preserved g c = λ C q T. c.look-count.ensures C q (c.loop-cell.invariant C q T)

pub returns : goal.returns
returns g c =
    let r = c.args in
    let end : c.loop-cell.cell ≡ r.end = omega (arith, c.loop-cell.auto.cell-end c.requires.near.0, c.loop-cell-test.false) in
    subst (λ b. GoesOn (kind_of g.M.Order g.M.Mark.lowest) (area_of r.self.now.block) r.self.now.levels.now r.self.now.origins.now r.first r.from r.start r.labels.now r.passes.now r.count b c.loop-cell.labels c.loop-cell.passes c.loop-cell.count) end c.loop-cell.invariant
