use Rattle.std.proofs.Common.{◌≡◌}
use Rattle.flood.specs.Of.{graph_of}
use Rattle.flood.specs.Queues.{waiting}
use Rattle.flood.specs.State.{Filling}
use Rattle.flood.specs.Turns.{turns, Roomy, Stays}
use Rattle.flood.proofs.engine.start.Given as goal

abbrev pub invariant-loop-node : goal.invariant-loop-node
invariant-loop-node g l =
    let n = g.G.Ground.nodes l.ground in
    Stays n l.initial.levels l.initial.queue l.levels l.queue
    × Roomy n l.levels l.queue
    × (turns l.node l.levels l.queue ≡ l.node)
    × Filling (graph_of g.G.Mark.Order g.G.Ground l.ground) l.node l.levels l.queue.origins.now (waiting l.queue)
