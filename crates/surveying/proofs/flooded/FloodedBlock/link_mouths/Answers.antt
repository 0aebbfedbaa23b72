use Rattle.std.proofs.Common.{◌≡◌, true, ◌∷◌, sym, ap, ◌∙◌, subst, arith}
use Rattle.std.proofs.ByRecursion.{All-weaker, all_shuffled}
use Rattle.std.proofs.lemmas.List.{nil_from_length}
use Rattle.flood.specs.Entries.{before}
use Rattle.flood.proofs.Accepted.{before_level}
use Rattle.flood.specs.Heaps.{contents}
use Rattle.marks.specs.Orders.{OrderLaws}
use Rattle.terrain.specs.Terrains.{kind_of}
use Rattle.tiles.specs.Plans.{area_of, height, width}
use Rattle.tiles.specs.Mouths.{border, tile_mouths}
use Rattle.seams.specs.Joins.{Unjoined}
use Rattle.surveying.specs.Turns.{Stands, Besides, Sofar}
use Rattle.surveying.proofs.Waiting.{so_begins, turn_begins, turn_ends}
use Rattle.surveying.proofs.flooded.FloodedBlock.link_mouths.Goals as goal

pub loop-from-init : goal.loop-from-init
loop-from-init g c =
    let κ = kind_of g.M.Order g.M.Mark.lowest in
    let O : OrderLaws κ.leb = record { total = g.met.M.Order.total; transitive = g.met.M.Order.transitive; antisymmetric = g.met.M.Order.antisymmetric } in
    let r = c.args in
    let a = area_of r.self.now.block in (
      c.line_up.ensures.stands,
      λ C.
          let many : tile_mouths C.plan C.tile ≡ border (height a) (width a) = ap (λ b. border (height b) (width b)) C.area in
          so_begins κ O a r.self.now.levels.now r.self.now.origins.now C r.first (contents c.line_up.new.heap) c.unjoin.new.labels r.passes.now (subst (λ n. Unjoined n c.unjoin.new.labels) (c.requires.labels.0 ∙ sym many) c.unjoin.ensures) (c.requires.passes ∙ sym many) c.line_up.ensures,
    )

pub look_around-count-requires : goal.look_around-count-requires
look_around-count-requires g c =
    let κ = kind_of g.M.Order g.M.Mark.lowest in
    let O : OrderLaws κ.leb = record { total = g.met.M.Order.total; transitive = g.met.M.Order.transitive; antisymmetric = g.met.M.Order.antisymmetric } in
    let r = c.args in
    let a = area_of r.self.now.block in
    let l = c.loop-from in
    let C = c.requires.flooded in
    let out = c.in-Some.ensures in
    let x = c.in-Some.from in
    let q' = contents c.take.new.self in
    record {
      slices = omega (arith, c.requires.labels.1, l.auto.labels);
      from = (all_shuffled (Stands κ a r.self.now.levels.now r.self.now.origins.now) (contents l.heap) (x ∷ q') out.leaves.0 l.invariant.0).0;
      turn = (C, q', turn_begins κ O a r.self.now.levels.now r.self.now.origins.now C r.first x (contents l.heap) q' l.labels l.passes l.count out.leaves.0 (l.invariant.1 C));
    }

pub loop-from-preserved : goal.loop-from-preserved
loop-from-preserved g c =
    let κ = kind_of g.M.Order g.M.Mark.lowest in
    let O : OrderLaws κ.leb = record { total = g.met.M.Order.total; transitive = g.met.M.Order.transitive; antisymmetric = g.met.M.Order.antisymmetric } in
    let r = c.args in
    let a = area_of r.self.now.block in
    let l = c.loop-from in
    let out = c.in-Some.ensures in
    let x = c.in-Some.from in
    let q = contents l.heap in
    let q' = contents c.take.new.self in
    let least = (all_shuffled (λ y. before κ.leb x y ≡ true) q (x ∷ q') out.leaves.0 out.least).1 in (
      (all_shuffled (Stands κ a r.self.now.levels.now r.self.now.origins.now) q (x ∷ q') out.leaves.0 l.invariant.0).1,
      λ C. turn_ends κ O a r.self.now.levels.now r.self.now.origins.now C r.first x q' c.look_around-count.new.labels c.look_around-count.new.passes c.look_around-count.result
          (All-weaker (λ y. before κ.leb x y ≡ true) (λ y. κ.leb x.level y.level ≡ true) (λ y. before_level κ.leb x y) q' least)
          (c.look_around-count.ensures C q' (turn_begins κ O a r.self.now.levels.now r.self.now.origins.now C r.first x q q' l.labels l.passes l.count out.leaves.0 (l.invariant.1 C))),
    )

pub returns : goal.returns
returns g c =
    let κ = kind_of g.M.Order g.M.Mark.lowest in
    let r = c.args in
    let a = area_of r.self.now.block in
    let l = c.loop-from in
    let none = nil_from_length (contents l.heap) c.in_default.ensures.leaves.0 in
    λ C. subst (λ q. Sofar κ a r.self.now.levels.now r.self.now.origins.now C r.first (Besides κ a r.self.now.levels.now r.self.now.origins.now q) q l.labels l.passes l.count) none (l.invariant.1 C)
