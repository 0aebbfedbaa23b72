use Rattle.std.proofs.Common.{length, drop, ap, ◌+◌, ◌∙◌, arith}
use Rattle.texts.proofs.Fronts.{front_long}
use Rattle.brackets.specs.Cells.{mark_of}
use Rattle.brackets.proofs.Found.{Coding, mark_is}
use Rattle.brackets.proofs.cells.split_mark.Given as given
use Rattle.brackets.proofs.cells.split_mark.Goals as goal

laws : (g : given.Over) → Coding g.M.CodedMark.coded g.M.CodedMark.decoded g.M.Spelled.spelled
laws g = let m = g.met.M.CodedMark in record { narrow = m.narrow; encodes = m.encodes; distinct = m.distinct }

pub behind-requires : goal.behind-requires
behind-requires g c = omega (arith, ap length c.written-word.ensures, front_long c.args.line.now)

pub returns-clause-mark : goal.returns-clause-mark
returns-clause-mark g c = mark_is _ _ _ (laws g) c.written-word.result.now c.from_spelling.result c.from_spelling.ensures ∙ ap (mark_of g.M.CodedMark.decoded g.M.Spelled.spelled) c.written-word.ensures

pub returns-clause-rest : goal.returns-clause-rest
returns-clause-rest g c = c.behind.ensures ∙ ap (λ w. drop (length w + 1) c.args.line.now) c.written-word.ensures
