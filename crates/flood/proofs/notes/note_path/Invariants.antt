use Rattle.flood.specs.Heaps.{contents}
use Rattle.flood.specs.Places.{Kept}
use Rattle.flood.proofs.Places.{LeftAbove}
use Rattle.flood.proofs.notes.note_path.Given as goal

abbrev pub invariant-loop-place : goal.invariant-loop-place
invariant-loop-place g l = Kept l.initial.origins l.origins (contents l.heap) × LeftAbove l.origins (contents l.heap) l.place l.path.head

abbrev pub decreases-loop-place : goal.decreases-loop-place
decreases-loop-place g l = l.place
