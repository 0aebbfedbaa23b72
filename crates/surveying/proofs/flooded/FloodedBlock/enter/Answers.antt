use Rattle.std.proofs.Common.{◌<◌, length, None, refl, ◌∙◌, arith}
use Rattle.std.proofs.lemmas.List.{get_or_default}
use Rattle.flood.proofs.Accepted.{put_accepted}
use Rattle.flood.specs.Heaps.{contents}
use Rattle.marks.specs.Orders.{OrderLaws}
use Rattle.terrain.specs.Terrains.{kind_of}
use Rattle.tiles.specs.Plans.{area_of}
use Rattle.surveying.proofs.Turning.{origin_some, level_some}
use Rattle.surveying.proofs.Waiting.{lined_past, lined_more}
use Rattle.surveying.proofs.flooded.FloodedBlock.enter.Goals as goal

pub returns-in_default : goal.returns-in_default
returns-in_default g c =
    let κ = kind_of g.M.Order g.M.Mark.lowest in
    let O : OrderLaws κ.leb = record { total = g.met.M.Order.total; transitive = g.met.M.Order.transitive; antisymmetric = g.met.M.Order.antisymmetric } in
    let r = c.args in
    let a = area_of r.self.now.block in
    let inside : r.node < length r.self.now.levels.now = omega (arith, c.requires.slices, c.args.self.now.leveled) in
    let is = get_or_default r.self.now.levels.now r.node None _ inside ∙ c.in_default.is in
    record {
      heap = (omega (arith, c.requires.heap.0), c.requires.heap.1);
      lined = lined_past κ O a r.self.now.levels.now r.self.now.origins.now r.node (contents r.heap.now) (λ C d N. absurd (level_some κ O a r.self.now.levels.now r.self.now.origins.now C r.node c.requires.slices is)) c.requires.lined;
    }

pub returns-in_default-origins : goal.returns-in_default-origins
returns-in_default-origins g c =
    let κ = kind_of g.M.Order g.M.Mark.lowest in
    let O : OrderLaws κ.leb = record { total = g.met.M.Order.total; transitive = g.met.M.Order.transitive; antisymmetric = g.met.M.Order.antisymmetric } in
    let r = c.args in
    let a = area_of r.self.now.block in
    record {
      heap = (omega (arith, c.requires.heap.0), c.requires.heap.1);
      lined = lined_past κ O a r.self.now.levels.now r.self.now.origins.now r.node (contents r.heap.now) (λ C d N. absurd (origin_some κ O a r.self.now.levels.now r.self.now.origins.now C r.node c.requires.slices c.in_default-origins.is)) c.requires.lined;
    }

pub returns : goal.returns
returns g c =
    let κ = kind_of g.M.Order g.M.Mark.lowest in
    let O : OrderLaws κ.leb = record { total = g.met.M.Order.total; transitive = g.met.M.Order.transitive; antisymmetric = g.met.M.Order.antisymmetric } in
    let r = c.args in
    let a = area_of r.self.now.block in
    let h = r.heap.now in
    let h' = c.put.new.self in
    let inside : r.node < length r.self.now.levels.now = omega (arith, c.requires.slices, c.args.self.now.leveled) in
    let is = get_or_default r.self.now.levels.now r.node None _ inside ∙ c.in-Some.is in
    let did = put_accepted h (record { level = c.in-Some.level; node = r.node; origin = c.in-Some-origins.origin }) c.put.result h' (omega (arith, c.requires.heap.0, c.requires.heap.1, c.requires.slices)) c.put.ensures.told c.put.ensures.leaves in
    record {
      heap = (omega (arith, did.1, c.requires.heap.0), omega (arith, did.2, c.requires.heap.1));
      lined = lined_more κ O a r.self.now.levels.now r.self.now.origins.now r.node (record { level = c.in-Some.level; node = r.node; origin = c.in-Some-origins.origin }) (contents h) (contents h') refl (record { inside = c.requires.slices; level = is; origin = c.in-Some-origins.is }) did.0 c.requires.lined;
    }
