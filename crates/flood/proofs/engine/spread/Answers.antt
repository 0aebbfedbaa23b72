use Rattle.std.proofs.Common.{arith}
use Rattle.flood.proofs.Laws.{lawful_of}
use Rattle.flood.proofs.Spread.{over}
use Rattle.flood.proofs.engine.spread.Goals as goal

pub overflow_add-place : goal.overflow_add-place
overflow_add-place g c = omega (arith, c.cross.ensures.done.0 c.loop-from-test.true, (g.G.Ground.laws c.args.ground.now).short c.args.from.node)

pub returns-clause-state : goal.returns-clause-state
returns-clause-state g c =
    let m = g.met.G.Mark.Order in
    let laws = lawful_of g.G.Mark.Order g.G.Ground c.args.ground.now m.total m.transitive m.antisymmetric in
    let last = c.cross.ensures in
    (last.state.0, last.state.1, over laws c.loop-from.place (rw c.loop-from-test.false at last.state.2) (last.done.1 c.loop-from-test.false))
