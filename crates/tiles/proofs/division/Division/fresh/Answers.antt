use Rattle.std.proofs.Common.{refl, arith}
use Rattle.tiles.proofs.Scans.{one_cell}
use Rattle.tiles.proofs.division.Division.fresh.Goals as goal

pub invariant_of-result : goal.invariant_of-result
invariant_of-result c = record { sided = refl; held = omega arith; rules = refl; counted = one_cell }
