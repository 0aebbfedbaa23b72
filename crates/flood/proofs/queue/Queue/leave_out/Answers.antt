use Rattle.std.proofs.Common.{None}
use Rattle.std.proofs.lemmas.List.{length-set}
use Rattle.flood.specs.Heaps.{contents}
use Rattle.flood.proofs.Places.{placed_apart, single_long}
use Rattle.flood.proofs.queue.Queue.leave_out.Goals as goal

pub invariant_of-self : goal.invariant_of-self
invariant_of-self g c =
    let s = c.args.self.now in
    record { single = single_long (length-set s.origins.now c.args.node None) s.single; right = λ on. placed_apart s.origins.now (contents s.heap.now) c.args.node None c.requires.0 (s.right on) }
