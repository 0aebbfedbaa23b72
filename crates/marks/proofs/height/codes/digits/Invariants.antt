use Rattle.marks.proofs.Endings.{Ending}
use Rattle.marks.proofs.height.codes.digits.Given as goal

abbrev pub invariant-loop-rest : goal.invariant-loop-rest
invariant-loop-rest l = Ending l.n l.rest l.start l.bytes

abbrev pub decreases-loop-rest : goal.decreases-loop-rest
decreases-loop-rest l = l.rest
