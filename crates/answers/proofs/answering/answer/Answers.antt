use Rattle.std.proofs.Common.{sym, refl, subst, arith}
use Rattle.grammar.specs.Grammars.{LongestShared}
use Rattle.inputs.specs.Inputs.{inputs, either}
use Rattle.answers.specs.Answers.{heights, classes, no_input}
use Rattle.answers.proofs.OfKind.{either_longest}
use Rattle.answers.proofs.answering.answer.Goals as goal

pub returns-in-Err-read_input : goal.returns-in-Err-read_input
returns-in-Err-read_input c =
    let h = c.in-Err.ensures in
    let k = c.in-Err-read_input.ensures in
    let bs = c.args.bytes.now in
    let H = inputs heights.word heights.spelled in
    let K = inputs classes.word classes.spelled in
    no_input (omega arith) h.0 k.0 c.max.result
    (subst (LongestShared (either H K) bs) (sym c.max.ensures) (either_longest H K bs c.in-Err.first c.in-Err-read_input.second h.1 k.1))
    refl
