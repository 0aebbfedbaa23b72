use Rattle.std.proofs.Common.{take, length, unwrap_or, ap, ◌∙◌}
use Rattle.texts.proofs.Fronts.{front_is}
use Rattle.texts.proofs.tokens.unbroken.Goals as goal

pub returns : goal.returns
returns c = ap (λ n. take n c.args.bytes.now) (c.unwrap_or.ensures ∙ ap (λ r. unwrap_or r (length c.args.bytes.now)) c.separator.ensures) ∙ front_is c.args.bytes.now
