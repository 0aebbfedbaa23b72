use Rattle.std.proofs.Common.{sym, ap, ◌∙◌}
use Rattle.brackets.specs.Lines.{past_part}
use Rattle.brackets.proofs.Steps.{parts_more}
use Rattle.brackets.proofs.parts.skip_parts.Goals as goal

pub loop-k-preserved : goal.loop-k-preserved
loop-k-preserved c = c.next_part-rest.ensures ∙ ap past_part c.loop-k.invariant ∙ sym (parts_more c.loop-k.k c.args.text.now)
