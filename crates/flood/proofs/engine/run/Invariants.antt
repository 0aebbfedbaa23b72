use Rattle.flood.specs.Of.{graph_of}
use Rattle.flood.specs.Turns.{turns, Between, Stays}
use Rattle.flood.proofs.engine.run.Given as goal

abbrev pub invariant-loop-from : goal.invariant-loop-from
invariant-loop-from g l =
    Stays (g.G.Ground.nodes l.ground) l.initial.levels l.initial.queue l.levels l.queue
    × Between (graph_of g.G.Mark.Order g.G.Ground l.ground) l.levels l.queue

abbrev pub decreases-loop-from : goal.decreases-loop-from
decreases-loop-from g l = turns (g.G.Ground.nodes l.ground) l.levels l.queue
