use Rattle.std.proofs.Common.{◌≡◌, ◌<◌, true, length, Some, sym, refl, ◌∙◌, arith, length-take, rules}
use Rattle.std.proofs.ByRecursion.{All-weaker}
use Rattle.std.proofs.lemmas.List.{length-set}
use Rattle.flood.specs.Heaps.{contents}
use Rattle.flood.specs.Entries.{before}
use Rattle.flood.proofs.Accepted.{before_level}
use Rattle.flood.proofs.Places.{half_placed, half_apart, single_left, single_long}
use Rattle.flood.proofs.queue.Queue.take.Goals as goal

pub bounds-origins-x : goal.bounds-origins-x
bounds-origins-x g c = (single_left c.in_ok-x.x (contents c.take.new.self) c.args.self.now.single c.in_ok-x.ensures.leaves.0).2

pub offset_bounds-origins-x : goal.offset_bounds-origins-x
offset_bounds-origins-x g c =
    let low : c.in_ok-x.x.node < length c.args.self.now.origins.now = (single_left c.in_ok-x.x (contents c.take.new.self) c.args.self.now.single c.in_ok-x.ensures.leaves.0).2 in search rules

pub follow-requires : goal.follow-requires
follow-requires g c =
    let s = c.args.self.now in
    let h' = c.take.new.self in
    let x = c.in_ok-x.x in
    let did = c.in_ok-x.ensures.leaves in
    let left = single_left x (contents h') s.single did.0 in
    record {
      single = single_long (length-set s.origins.now x.node (Some x.origin)) left.0;
      half = λ on. half_apart s.origins.now (contents h') h'.path.foot h'.path.head x.node (Some x.origin) left.1 (half_placed s.origins.now s.heap.now h' (s.right on) did.3);
    }

pub invariant_of-self-2 : goal.invariant_of-self-2
invariant_of-self-2 g c =
    let s = c.args.self.now in
    let x = c.in_ok-x.x in
    record {
      single = single_long (c.follow.ensures.kept.long ∙ length-set s.origins.now x.node (Some x.origin)) (single_left x (contents c.take.new.self) s.single c.in_ok-x.ensures.leaves.0).0;
      right = c.follow.ensures.placed;
    }

pub returns-clause-leaves : goal.returns-clause-leaves
returns-clause-leaves g c =
    let le = g.M.Order.leb in
    let h = c.args.self.now.heap.now in
    let x = c.in_ok-x.x in
    let did = c.in_ok-x.ensures in
    let whole : length (contents h) ≡ h.len = simp length-take (omega (arith, h.within)) in (
      did.leaves.0,
      All-weaker (λ y. before le x y ≡ true) (λ y. le x.level y.level ≡ true) (λ y. before_level le x y) (contents h) did.least,
      sym whole ∙ did.leaves.1,
      did.leaves.2,
      c.follow.ensures.kept,
    )
