use Rattle.std.proofs.Common.{◌≡◌, ◌<◌, ◌≤◌, length, set}
use Rattle.flood.proofs.Sifts.{Risen, Climbed}
use Rattle.flood.proofs.sift.rise.Given as goal

abbrev pub invariant-loop-at : goal.invariant-loop-at
invariant-loop-at g l =
    (l.«at» ≤ l.initial.«at») × (l.initial.«at» < length l.initial.slots) × (length l.slots ≡ length l.initial.slots)
    × Risen g.E.Order.leb g.met.E.Order.transitive l.initial.slots l.initial.«at» (set l.slots l.«at» l.x) l.«at»
    × Climbed l.initial.slots l.initial.«at» (set l.slots l.«at» l.x) l.«at»

abbrev pub decreases-loop-at : goal.decreases-loop-at
decreases-loop-at g l = l.«at»
