use Rattle.flood.specs.Heaps.{contents}
use Rattle.flood.proofs.Accepted.{put_accepted}
use Rattle.flood.proofs.Places.{half_placed, single_joined, single_long}
use Rattle.flood.proofs.queue.Queue.put.Goals as goal

pub follow-requires : goal.follow-requires
follow-requires g c =
    let s = c.args.self.now in
    let h' = c.put.new.self in
    let did = put_accepted s.heap.now c.args.x c.put.result h' c.requires.room c.put.ensures.told c.put.ensures.leaves in
    record {
      single = single_joined c.args.x (contents h') s.single c.requires.fresh.0 c.requires.fresh.1 did.0;
      half = λ on. half_placed s.origins.now s.heap.now h' (s.right on) did.3;
    }

pub invariant_of-self : goal.invariant_of-self
invariant_of-self g c =
    let s = c.args.self.now in
    let h' = c.put.new.self in
    let did = put_accepted s.heap.now c.args.x c.put.result h' c.requires.room c.put.ensures.told c.put.ensures.leaves in
    record {
      single = single_long c.follow.ensures.kept.long (single_joined c.args.x (contents h') s.single c.requires.fresh.0 c.requires.fresh.1 did.0);
      right = c.follow.ensures.placed;
    }
