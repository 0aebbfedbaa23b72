use Rattle.std.proofs.Common.{refl}
use Rattle.grammar.proofs.Words.{word_lost}
use Rattle.grammar.proofs.literal.Goals as goal

pub returns-then-not-stands : goal.returns-then-not-stands
returns-then-not-stands c = word_lost _ _ _ _ _ refl c.loop-i.invariant.1 c.loop-i-test.true (λ inside. c.stands.ensures.other c.if-not-stands.true inside)
