use Rattle.settling.specs.Grounds.{Kept}
use Rattle.settling.proofs.sills.keep_sills.Given as goal

abbrev pub invariant-loop-k : goal.invariant-loop-k
invariant-loop-k g l = Kept l.initial.mouths l.levels l.k l.mouths
