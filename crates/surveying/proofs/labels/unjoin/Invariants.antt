use Rattle.std.proofs.Common.{◌≡◌, ℕ, ◌<◌}
use Rattle.seams.specs.Joins.{label}
use Rattle.surveying.proofs.labels.unjoin.Given as goal

abbrev pub invariant-loop-k : goal.invariant-loop-k
invariant-loop-k l = (x : ℕ) → x < l.k → label l.labels x ≡ x
