use Rattle.std.proofs.Common.{◌≡◌, ℕ, ◌<◌, ◌≤◌, cond, eqb}
use Rattle.seams.specs.Joins.{label}
use Rattle.surveying.proofs.labels.relabel.Given as goal

abbrev pub invariant-loop-label : goal.invariant-loop-label
invariant-loop-label l =
    ((x : ℕ) → x < l.label-index → label l.labels x ≡ cond (eqb (label l.initial.labels x) l.old) l.new (label l.initial.labels x))
    × ((x : ℕ) → l.label-index ≤ x → label l.labels x ≡ label l.initial.labels x)
