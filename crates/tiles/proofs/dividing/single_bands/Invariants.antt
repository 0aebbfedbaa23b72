use Rattle.tiles.proofs.Scans.{Scanned}
use Rattle.tiles.proofs.dividing.single_bands.Given as goal

abbrev pub invariant-loop-c : goal.invariant-loop-c
invariant-loop-c l = Scanned l.side l.cuts l.last l.single l.c-index
