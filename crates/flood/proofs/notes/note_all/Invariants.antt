use Rattle.flood.specs.Heaps.{contents}
use Rattle.flood.specs.Places.{Kept}
use Rattle.flood.proofs.Places.{PlacedBelow}
use Rattle.flood.proofs.notes.note_all.Given as goal

abbrev pub invariant-loop-place : goal.invariant-loop-place
invariant-loop-place g l = Kept l.initial.origins l.origins (contents l.heap) × PlacedBelow l.origins (contents l.heap) l.place
