use Rattle.std.proofs.Common.{◌-◌}
use Rattle.inputs.proofs.Listing.{Listed}
use Rattle.inputs.proofs.line.side_cuts.Given as goal

abbrev pub invariant-loop-more : goal.invariant-loop-more
invariant-loop-more l = Listed l.fn.from l.places l.count l.more l.at

abbrev pub decreases-loop-more : goal.decreases-loop-more
decreases-loop-more l = 31 - l.count
