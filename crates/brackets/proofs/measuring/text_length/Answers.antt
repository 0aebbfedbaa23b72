use Rattle.std.proofs.Common.{◌≡◌, ◌+◌, [], ◌∷◌, length, sym, ap, ◌∙◌, arith}
use Rattle.std.proofs.lemmas.Bool.{le-ltb}
use Rattle.marks.specs.Refusals.{accepted}
use Rattle.sheets.proofs.Checks.{passed, passes, answer}
use Rattle.texts.specs.Texts.{head_line, text_of}
use Rattle.brackets.proofs.Puts.{text_long}
use Rattle.brackets.proofs.measuring.text_length.Goals as goal

pub returns : goal.returns
returns g c =
    let m = g.S.Sheet.meaning c.args.sheet.now in
    let word = g.M.Spelled.named in
    let s = c.sides-sides.ensures in
    let p = passed _ _ [] _ _ c.in_ok-lines.ensures.told in
    let lines = answer _ _ p.1 in
    let head : c.head_length.result ≡ length (head_line word m.rows m.cols) = c.head_length.ensures.value ∙ (λ i. length (head_line word (s.rows i) (s.cols i))) in
    let all : c.head_length.result + c.in_ok-lines.lines + 2 ≡ length (text_of word g.M.Spelled.spelled m) = (λ i. head i + lines i + 2) ∙ sym (text_long word g.M.Spelled.spelled m) in
    record {
      told = passes _ _ (_ ∷ []) _ _ (le-ltb (length c.args.scratch.now) m.cols (omega (arith, s.cols))) (passes _ _ [] _ _ p.0 (ap accepted all));
      scratch = tt;
    }
