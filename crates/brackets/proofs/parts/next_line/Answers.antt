use Rattle.std.proofs.Common.{length, drop, unwrap_or, refl, ap, ◌+◌, ◌==◌, ◌∙◌}
use Rattle.grammar.proofs.Words.{behind_is}
use Rattle.texts.proofs.Fronts.{found_place}
use Rattle.brackets.proofs.Steps.{line_place}
use Rattle.brackets.proofs.parts.next_line.Goals as goal

pub returns : goal.returns
returns c =
    let bs = c.args.text.now in
    let end = c.unwrap_or-end.ensures ∙ ap (λ r. unwrap_or r (length bs)) c.line_end.ensures ∙ found_place (λ b. b == 10) bs in
    ap (λ w. w.now) c.unwrap_or.ensures ∙ behind_is bs _ c.get.result _ refl c.get.ensures.lookup.0 ∙ ap (λ n. drop (n + 1) bs) end ∙ line_place bs
