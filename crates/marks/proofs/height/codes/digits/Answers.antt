use Rattle.std.proofs.Common.{refl, arith}
use Rattle.marks.proofs.Endings.{ending_none, ending_more, ending_all, ending_room}
use Rattle.marks.proofs.height.codes.digits.Goals as goal

pub loop-rest-init : goal.loop-rest-init
loop-rest-init c = ending_none _ _ c.ranges.n.fits refl

pub loop-rest-preserved : goal.loop-rest-preserved
loop-rest-preserved c = ending_more _ _ _ _ c.loop-rest.invariant c.loop-rest-test.true

pub returns : goal.returns
returns c = record {
  value = ending_all _ _ _ _ c.loop-rest.invariant (omega arith);
  room = ending_room _ _ _ _ c.loop-rest.invariant;
}

pub overflow_sub-start : goal.overflow_sub-start
overflow_sub-start c = ending_room _ _ _ _ c.loop-rest.invariant
