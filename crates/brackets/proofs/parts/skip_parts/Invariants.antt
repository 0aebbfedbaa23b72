use Rattle.std.proofs.Common.{◌≡◌}
use Rattle.brackets.specs.Lines.{parts_on}
use Rattle.brackets.proofs.parts.skip_parts.Given as goal

abbrev pub invariant-loop-k : goal.invariant-loop-k
invariant-loop-k l = l.rest ≡ parts_on l.k l.text
