use Rattle.std.proofs.Common.{sym, ap}
use Rattle.texts.proofs.Rows.{Spelling}
use Rattle.brackets.proofs.Found.{Coding}
use Rattle.brackets.proofs.Back.{text_back}
use Rattle.brackets.proofs.text.Text.new.Given as given
use Rattle.brackets.proofs.text.Text.new.Goals as goal

spelling : (g : given.Over) → Spelling g.M.Spelled.spelled
spelling g = let m = g.met.M.CodedMark in record { one = g.M.Mark.lowest; distinct = m.distinct; clear = m.clear }

coding : (g : given.Over) → Coding g.M.CodedMark.coded g.M.CodedMark.decoded g.M.Spelled.spelled
coding g = let m = g.met.M.CodedMark in record { narrow = m.narrow; encodes = m.encodes; distinct = m.distinct }

pub returns : goal.returns
returns g c =
    let t = c.in_ok-sides.ensures.told in
    text_back g.M.Spelled.named g.met.M.CodedMark.whole g.M.CodedMark.coded g.M.CodedMark.decoded g.M.Spelled.spelled (spelling g) (coding g) c.args.bytes.now t.0 t.1 c.in_ok-sides.sides.rows c.in_ok-sides.sides.cols (ap (λ s. s.0) (sym t.2)) (ap (λ s. s.1) (sym t.2))
