use Rattle.std.proofs.Common.{refl, ap, ◌∙◌}
use Rattle.grammar.proofs.Words.{behind_is}
use Rattle.brackets.proofs.parts.behind.Goals as goal

pub returns : goal.returns
returns c = ap (λ w. w.now) c.unwrap_or.ensures ∙ behind_is c.args.text.now _ c.get.result _ refl c.get.ensures.lookup.0
