use Rattle.std.proofs.Common.{length, drop, ap, ◌+◌, ◌∙◌, arith}
use Rattle.texts.proofs.Fronts.{front_long}
use Rattle.brackets.proofs.parts.next_part.Goals as goal

pub behind-requires : goal.behind-requires
behind-requires c = omega (arith, ap length c.written.ensures, front_long c.args.text.now)

pub returns : goal.returns
returns c = c.behind.ensures ∙ ap (λ w. drop (length w + 1) c.args.text.now) c.written.ensures
