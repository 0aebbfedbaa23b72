use Rattle.std.proofs.Common.{◌≡◌, ◌-◌, length}
use Rattle.flood.specs.Of.{graph_of}
use Rattle.flood.specs.Turns.{turns, Within, Stays}
use Rattle.flood.proofs.engine.spread.Given as goal

abbrev pub invariant-loop-from : goal.invariant-loop-from
invariant-loop-from g l =
    let n = g.G.Ground.nodes l.ground in
    Stays n l.initial.levels l.initial.queue l.levels l.queue
    × (turns n l.levels l.queue ≡ turns n l.initial.levels l.initial.queue)
    × Within (graph_of g.G.Mark.Order g.G.Ground l.ground) l.from l.place l.levels l.queue

abbrev pub decreases-loop-from : goal.decreases-loop-from
decreases-loop-from g l = length (g.G.Ground.crossings l.ground l.from.node) - l.place
