use Rattle.std.proofs.Common.{sym, arith}
use Rattle.marks.specs.Orders.{OrderLaws}
use Rattle.terrain.specs.Terrains.{kind_of}
use Rattle.tiles.specs.Plans.{area_of}
use Rattle.surveying.proofs.Turning.{origin_in_lem, mouth_some, near_run, jump_first, jump_left, jump_right, jump_last}
use Rattle.surveying.proofs.flooded.FloodedBlock.look_around.Goals as goal

pub mouth_of-requires : goal.mouth_of-requires
mouth_of-requires g c =
    let κ = kind_of g.M.Order g.M.Mark.lowest in
    let O : OrderLaws κ.leb = record { total = g.met.M.Order.total; transitive = g.met.M.Order.transitive; antisymmetric = g.met.M.Order.antisymmetric } in
    let r = c.args in
    origin_in_lem κ O (area_of r.self.now.block) r.self.now.levels.now r.self.now.origins.now c.requires.turn.0 r.from.node r.from.origin c.requires.from.inside c.requires.from.origin

pub returns-in_default : goal.returns-in_default
returns-in_default g c =
    let κ = kind_of g.M.Order g.M.Mark.lowest in
    let O : OrderLaws κ.leb = record { total = g.met.M.Order.total; transitive = g.met.M.Order.transitive; antisymmetric = g.met.M.Order.antisymmetric } in
    let r = c.args in
    λ C q T. absurd (mouth_some κ O (area_of r.self.now.block) r.self.now.levels.now r.self.now.origins.now C r.from.node r.from.origin c.requires.from.inside c.requires.from.origin (sym c.in_default.ensures))

pub loop-near-init : goal.loop-near-init
loop-near-init g c =
    let κ = kind_of g.M.Order g.M.Mark.lowest in
    let O : OrderLaws κ.leb = record { total = g.met.M.Order.total; transitive = g.met.M.Order.transitive; antisymmetric = g.met.M.Order.antisymmetric } in
    let r = c.args in
    λ C q T. jump_first κ O (area_of r.self.now.block) r.self.now.levels.now r.self.now.origins.now C q r.first r.from r.labels.now r.passes.now r.count c.width-width.result c.saturating_sub-near.result c.width-width.ensures c.saturating_sub-near.ensures T

pub look_along-count-requires : goal.look_along-count-requires
look_along-count-requires g c =
    let κ = kind_of g.M.Order g.M.Mark.lowest in
    let O : OrderLaws κ.leb = record { total = g.met.M.Order.total; transitive = g.met.M.Order.transitive; antisymmetric = g.met.M.Order.antisymmetric } in
    let r = c.args in
    let turn = c.requires.turn in
    record {
      slices = omega (arith, c.requires.slices, c.loop-near.auto.labels);
      from = c.requires.from;
      mouth = sym c.in-Some.ensures;
      near = near_run (area_of r.self.now.block) r.from.node c.width-width.result c.height.result c.saturating_sub-near.result c.min-near-end.result c.saturating_sub-left.result c.min-right.result c.loop-near.near
          c.width-width.ensures c.height.ensures c.requires.from.inside c.saturating_sub-near.ensures c.min-near-end.ensures c.saturating_sub-left.ensures c.min-right.ensures c.loop-near.auto.near c.loop-near-test.true;
      turn = (
        turn.0,
        turn.1,
        jump_left κ O (area_of r.self.now.block) r.self.now.levels.now r.self.now.origins.now turn.0 turn.1 r.first r.from c.loop-near.labels c.loop-near.passes c.loop-near.count c.width-width.result c.saturating_sub-left.result c.loop-near.near c.width-width.ensures c.saturating_sub-left.ensures (c.loop-near.invariant turn.0 turn.1 turn.2),
      );
    }

pub loop-near-preserved : goal.loop-near-preserved
loop-near-preserved g c =
    let κ = kind_of g.M.Order g.M.Mark.lowest in
    let O : OrderLaws κ.leb = record { total = g.met.M.Order.total; transitive = g.met.M.Order.transitive; antisymmetric = g.met.M.Order.antisymmetric } in
    let r = c.args in
    λ C q T. jump_right κ O (area_of r.self.now.block) r.self.now.levels.now r.self.now.origins.now C q r.first r.from c.look_along-count.new.labels c.look_along-count.new.passes c.look_along-count.result c.width-width.result c.min-right.result c.loop-near.near c.width-width.ensures c.min-right.ensures
    (c.look_along-count.ensures C q (jump_left κ O (area_of r.self.now.block) r.self.now.levels.now r.self.now.origins.now C q r.first r.from c.loop-near.labels c.loop-near.passes c.loop-near.count c.width-width.result c.saturating_sub-left.result c.loop-near.near c.width-width.ensures c.saturating_sub-left.ensures (c.loop-near.invariant C q T)))

pub returns : goal.returns
returns g c =
    let κ = kind_of g.M.Order g.M.Mark.lowest in
    let O : OrderLaws κ.leb = record { total = g.met.M.Order.total; transitive = g.met.M.Order.transitive; antisymmetric = g.met.M.Order.antisymmetric } in
    let r = c.args in
    λ C q T. jump_last κ O (area_of r.self.now.block) r.self.now.levels.now r.self.now.origins.now C q r.first r.from c.loop-near.labels c.loop-near.passes c.loop-near.count c.width-width.result c.height.result c.min-near-end.result c.loop-near.near c.width-width.ensures c.height.ensures c.min-near-end.ensures c.loop-near-test.false (c.loop-near.invariant C q T)
