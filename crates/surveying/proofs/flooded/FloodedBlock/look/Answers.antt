use Rattle.std.proofs.Common.{◌<◌, length, get_or, Some, None, sym, ap, ◌∙◌, arith, rules}
use Rattle.std.proofs.lemmas.List.{get_or_default}
use Rattle.std.proofs.lemmas.Bool.{both_ways}
use Rattle.flood.proofs.Counts.{some_same, none_some}
use Rattle.marks.specs.Orders.{OrderLaws}
use Rattle.terrain.specs.Terrains.{kind_of}
use Rattle.tiles.specs.Plans.{area_of}
use Rattle.surveying.proofs.Turning.{origin_some, origin_in_lem, mouth_some, mouth_below, turn_passes, turn_room, turn_joins}
use Rattle.surveying.proofs.flooded.FloodedBlock.look.Goals as goal

pub returns-in_default : goal.returns-in_default
returns-in_default g c =
    let κ = kind_of g.M.Order g.M.Mark.lowest in
    let O : OrderLaws κ.leb = record { total = g.met.M.Order.total; transitive = g.met.M.Order.transitive; antisymmetric = g.met.M.Order.antisymmetric } in
    let r = c.args in
    λ C q T. turn_passes κ O (area_of r.self.now.block) r.self.now.levels.now r.self.now.origins.now C q r.first r.from r.cell r.labels.now r.passes.now r.count
    (λ U. absurd (origin_some κ O (area_of r.self.now.block) r.self.now.levels.now r.self.now.origins.now C r.cell c.requires.near.inside c.in_default.is)) T

pub returns-then-origin-from : goal.returns-then-origin-from
returns-then-origin-from g c =
    let κ = kind_of g.M.Order g.M.Mark.lowest in
    let O : OrderLaws κ.leb = record { total = g.met.M.Order.total; transitive = g.met.M.Order.transitive; antisymmetric = g.met.M.Order.antisymmetric } in
    let r = c.args in
    λ C q T. turn_passes κ O (area_of r.self.now.block) r.self.now.levels.now r.self.now.origins.now C q r.first r.from r.cell r.labels.now r.passes.now r.count
    (λ U. c.requires.from.origin ∙ ap Some (sym c.if-origin-from.true) ∙ sym c.in-Some.is) T

pub offset_bounds-self-cell-2 : goal.offset_bounds-self-cell-2
offset_bounds-self-cell-2 g c =
    let inside : c.args.cell < length c.args.self.now.levels.now = omega (arith, c.requires.near.inside, c.args.self.now.leveled) in search rules

pub returns-in_default-levels : goal.returns-in_default-levels
returns-in_default-levels g c =
    let κ = kind_of g.M.Order g.M.Mark.lowest in
    let O : OrderLaws κ.leb = record { total = g.met.M.Order.total; transitive = g.met.M.Order.transitive; antisymmetric = g.met.M.Order.antisymmetric } in
    let r = c.args in
    let inside : r.cell < length r.self.now.levels.now = omega (arith, c.requires.near.inside, c.args.self.now.leveled) in
    let is = get_or_default r.self.now.levels.now r.cell None _ inside ∙ c.in_default-levels.is in
    λ C q T. turn_passes κ O (area_of r.self.now.block) r.self.now.levels.now r.self.now.origins.now C q r.first r.from r.cell r.labels.now r.passes.now r.count
    (λ U. absurd (none_some (get_or r.self.now.levels.now r.cell None) U.lower is U.at_d)) T

pub returns-then-not-at_most : goal.returns-then-not-at_most
returns-then-not-at_most g c =
    let κ = kind_of g.M.Order g.M.Mark.lowest in
    let O : OrderLaws κ.leb = record { total = g.met.M.Order.total; transitive = g.met.M.Order.transitive; antisymmetric = g.met.M.Order.antisymmetric } in
    let r = c.args in
    let inside : r.cell < length r.self.now.levels.now = omega (arith, c.requires.near.inside, c.args.self.now.leveled) in
    let is = get_or_default r.self.now.levels.now r.cell None _ inside ∙ c.in-Some-levels.is in
    λ C q T. turn_passes κ O (area_of r.self.now.block) r.self.now.levels.now r.self.now.origins.now C q r.first r.from r.cell r.labels.now r.passes.now r.count
    (λ U.
    let low = some_same (get_or r.self.now.levels.now r.cell None) U.lower c.in-Some-levels.level U.at_d is in
    let high = some_same (get_or r.self.now.levels.now r.from.node None) U.upper r.from.level U.at_c c.requires.from.level in
    absurd (both_ways (κ.leb c.in-Some-levels.level r.from.level) (sym c.if-not-at_most.ensures)
    ((λ i. κ.leb (sym low i) (sym high i)) ∙ U.under))) T

pub mouth_of-requires : goal.mouth_of-requires
mouth_of-requires g c =
    let κ = kind_of g.M.Order g.M.Mark.lowest in
    let O : OrderLaws κ.leb = record { total = g.met.M.Order.total; transitive = g.met.M.Order.transitive; antisymmetric = g.met.M.Order.antisymmetric } in
    let r = c.args in
    origin_in_lem κ O (area_of r.self.now.block) r.self.now.levels.now r.self.now.origins.now c.requires.turn.0 r.cell c.in-Some.origin c.requires.near.inside c.in-Some.is

pub returns-in_default-mouth_of : goal.returns-in_default-mouth_of
returns-in_default-mouth_of g c =
    let κ = kind_of g.M.Order g.M.Mark.lowest in
    let O : OrderLaws κ.leb = record { total = g.met.M.Order.total; transitive = g.met.M.Order.transitive; antisymmetric = g.met.M.Order.antisymmetric } in
    let r = c.args in
    λ C q T. absurd (mouth_some κ O (area_of r.self.now.block) r.self.now.levels.now r.self.now.origins.now C r.cell c.in-Some.origin c.requires.near.inside c.in-Some.is (sym c.in_default-mouth_of.ensures))

pub join-requires : goal.join-requires
join-requires g c =
    let κ = kind_of g.M.Order g.M.Mark.lowest in
    let O : OrderLaws κ.leb = record { total = g.met.M.Order.total; transitive = g.met.M.Order.transitive; antisymmetric = g.met.M.Order.antisymmetric } in
    let r = c.args in
    let a = area_of r.self.now.block in
    let turn = c.requires.turn in
    let inside : r.cell < length r.self.now.levels.now = omega (arith, c.requires.near.inside, c.args.self.now.leveled) in
    let is = get_or_default r.self.now.levels.now r.cell None _ inside ∙ c.in-Some-levels.is in
    let to = sym c.in-Some-mouth_of.ensures in
    record {
      labels = (
        mouth_below κ O a r.self.now.levels.now r.self.now.origins.now turn.0 r.first _ _ r.labels.now r.passes.now r.count turn.2 r.from.origin r.x c.requires.mouth,
        mouth_below κ O a r.self.now.levels.now r.self.now.origins.now turn.0 r.first _ _ r.labels.now r.passes.now r.count turn.2 c.in-Some.origin c.in-Some-mouth_of.y to,
        c.requires.slices,
      );
      room = turn_room κ O a r.self.now.levels.now r.self.now.origins.now turn.0 turn.1 r.first r.from c.requires.from r.cell c.in-Some.origin c.in-Some-levels.level c.requires.near c.in-Some.is c.if-origin-from.false is (sym c.if-not-at_most.ensures)
          r.x c.in-Some-mouth_of.y c.requires.mouth to r.labels.now r.passes.now r.count turn.2;
    }

pub returns : goal.returns
returns g c =
    let κ = kind_of g.M.Order g.M.Mark.lowest in
    let O : OrderLaws κ.leb = record { total = g.met.M.Order.total; transitive = g.met.M.Order.transitive; antisymmetric = g.met.M.Order.antisymmetric } in
    let r = c.args in
    let inside : r.cell < length r.self.now.levels.now = omega (arith, c.requires.near.inside, c.args.self.now.leveled) in
    let is = get_or_default r.self.now.levels.now r.cell None _ inside ∙ c.in-Some-levels.is in
    λ C q T. turn_joins κ O (area_of r.self.now.block) r.self.now.levels.now r.self.now.origins.now C q r.first r.from c.requires.from r.cell c.in-Some.origin c.in-Some-levels.level c.requires.near c.in-Some.is c.if-origin-from.false is (sym c.if-not-at_most.ensures)
    r.x c.in-Some-mouth_of.y c.requires.mouth (sym c.in-Some-mouth_of.ensures) r.labels.now r.passes.now r.count T c.join.new.labels c.join.new.passes c.join.result c.join.ensures
