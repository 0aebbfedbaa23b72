use Rattle.std.proofs.Common.{◌+◌, ◌≤◌, unwrap_or, IfSome}
use Rattle.grammar.specs.Decimals.{Part}
use Rattle.grammar.proofs.natural.Given as goal

abbrev pub invariant-loop-i : goal.invariant-loop-i
invariant-loop-i l = Part l.max l.at l.bytes (l.at + l.i) (unwrap_or l.n 0) × IfSome l.n (λ n. 1 ≤ n)
