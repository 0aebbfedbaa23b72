use Rattle.std.proofs.Common.{◌≡◌, ◌+◌, ◌≤◌, ◌++◌, length, take, drop}
use Rattle.grammar.proofs.literal.Given as goal

abbrev pub invariant-loop-i : goal.invariant-loop-i
invariant-loop-i l = (1 ≤ l.i → l.at + l.i ≤ length l.bytes) × (drop l.at l.bytes ≡ take l.i l.word ++ drop (l.at + l.i) l.bytes)
