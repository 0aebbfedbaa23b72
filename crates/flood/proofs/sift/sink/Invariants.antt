use Rattle.std.proofs.Common.{◌≡◌, ◌-◌, ◌<◌, length, set}
use Rattle.flood.proofs.Sifts.{Sunk}
use Rattle.flood.specs.Orders.{Moves}
use Rattle.flood.proofs.sift.sink.Given as goal

abbrev pub invariant-loop-at : goal.invariant-loop-at
invariant-loop-at g l =
    (length l.slots ≡ length l.initial.slots) × (l.«at» < length l.initial.slots)
    × Sunk g.E.Order.leb g.met.E.Order.transitive l.initial.slots l.len (set l.slots l.«at» l.x) l.«at»
    × Moves l.initial.slots (set l.slots l.«at» l.x) l.len l.«at» 0

abbrev pub decreases-loop-at : goal.decreases-loop-at
decreases-loop-at g l = l.len - l.«at»
