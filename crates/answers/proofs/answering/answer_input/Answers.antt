use Rattle.std.proofs.Common.{◌≡◌, ℕ, ◌-◌, ◌*◌, ◌≤◌, Bool, true, false, List, Ok, length, take, subst, sym, refl, ap, ◌∙◌, ⊎_elim, arith}
use Rattle.std.proofs.lemmas.Result.{err_from_is_err_and}
use Rattle.sheets.specs.Layouts.{flat}
use Rattle.texts.specs.Texts.{TextOf}
use Rattle.texts.proofs.Rows.{Spelling}
use Rattle.texts.proofs.Whole.{one_sheet}
use Rattle.brackets.specs.Cells.{in_text}
use Rattle.brackets.proofs.Back.{text_back}
use Rattle.brackets.proofs.Found.{Coding}
use Rattle.brackets.proofs.Decodings.{text_decoded}
use Rattle.inputs.specs.Cuts.{cuts_of}
use Rattle.inputs.specs.Inputs.{ReadsInput}
use Rattle.inputs.specs.declared.input.Input.{Input}
use Rattle.answers.specs.Printed.{coded_of}
use Rattle.answers.proofs.Outcome.{is_made, flat_live, readable_live}
use Rattle.answers.proofs.OfKind.{is_text, read_again, all_passed, printed_answer}
use Rattle.answers.proofs.answering.answer_input.Given as given
use Rattle.answers.proofs.answering.answer_input.Goals as goal

spelling : (g : given.Over) → Spelling g.M.Spelled.spelled
spelling g = let m = g.met.M.CodedMark in record { one = g.M.Mark.lowest; distinct = m.distinct; clear = m.clear }

coding : (g : given.Over) → Coding g.M.CodedMark.coded g.M.CodedMark.decoded g.M.Spelled.spelled
coding g = let m = g.met.M.CodedMark in record { narrow = m.narrow; encodes = m.encodes; distinct = m.distinct }

-- what the beginning of an input says is the sheet whose text it is
said : (g : given.Over) (bs : List ℕ) (i : Input) (r : ReadsInput g.M.Spelled.named g.M.Spelled.spelled bs (Ok i)) → TextOf g.M.Spelled.named g.M.Spelled.spelled (take (i.end - 0) bs) (in_text g.M.CodedMark.decoded g.M.Spelled.spelled i.sides.rows i.sides.cols (take (i.end - 0) bs))
said g bs i r =
    let first = is_text g.M.Spelled.named g.M.Spelled.spelled bs r.0 (cuts_of i.down) (cuts_of i.across) r.1 i.end r.4 in
    text_back g.M.Spelled.named g.met.M.CodedMark.whole g.M.CodedMark.coded g.M.CodedMark.decoded g.M.Spelled.spelled (spelling g) (coding g) (take (i.end - 0) bs) r.0 first i.sides.rows i.sides.cols r.2 r.3

not_both : (b : Bool) → b ≡ false → b ≡ true → ⊥
not_both b n y = let z : true ≡ false = sym y ∙ n in let w : ◌≡◌ {A = ℕ} 0 1 = cc in omega arith

-- a raster over the marks of the text is made
pub returns-in_err-source : goal.returns-in_err-source
returns-in_err-source g c =
    let s = c.args.input.sides in
    absurd (is_made s.rows s.cols (length c.as_mut_slice.result.now) (s.rows * s.cols) (tt {0}) s.rows_side s.cols_side (ap length c.as_mut_slice.ensures.value ∙ c.in_ok-marks.ensures.long) _ _ c.in_err-source.ensures.told)

pub print_sheet-requires : goal.print_sheet-requires
print_sheet-requires g c = let s = c.in_ok-source.source in flat_live s.rows s.cols s.cells.now s.long

-- only want of memory refuses the marks of a text: no cell of it is dead
pub returns-in_err-marks : goal.returns-in_err-marks
returns-in_err-marks g c =
    let i = c.args.input in
    let bs = c.args.bytes.now in
    let h = c.requires.0 in
    let live = readable_live (in_text g.M.CodedMark.decoded g.M.Spelled.spelled i.sides.rows i.sides.cols (take (i.end - 0) bs)) (said g bs i c.requires).readable in
    let p = err_from_is_err_and c.from_residual-in_err-marks.result c.from_residual-in_err-marks.ensures.1 in
    let want = ⊎_elim (λ n. n) (λ d. absurd (not_both _ live d.1)) c.in_err-marks.ensures in
    printed_answer (coded_of g.M.Order g.M.Mark.lowest g.M.Spelled) bs h (cuts_of i.down) (cuts_of i.across) c.requires.1
    (all_passed h h i.sides.rows i.sides.cols (cuts_of i.down) (cuts_of i.across) (record { rows = refl; cols = refl; cells = λ k j hk hj. refl }) c.requires.2 c.requires.3 (subst (λ n. n ≤ 4096) c.cells.ensures c.if-cells-gt-MOST_CELLS.false) c.in_ok-check_cuts.ensures)
    c.from_residual-in_err-marks.result (rw (p.1, p.2) want)

pub returns : goal.returns
returns g c =
    let word = g.M.Spelled.named in
    let f = g.M.Spelled.spelled in
    let i = c.args.input in
    let bs = c.args.bytes.now in
    let s = c.in_ok-source.source in
    let made = c.in_ok-source.ensures.made in
    let h = flat s.rows s.cols s.cells.now in
    let down = cuts_of i.down in
    let across = cuts_of i.across in
    let first = is_text word f bs c.requires.0 down across c.requires.1 i.end c.requires.4 in
    let t : TextOf word f (take (i.end - 0) bs) h = text_decoded word f (take (i.end - 0) bs) (in_text g.M.CodedMark.decoded f i.sides.rows i.sides.cols (take (i.end - 0) bs)) _ (said g bs i c.requires) c.in_ok-marks.ensures s.rows s.cols s.cells.now made.0 made.1 (made.2 ∙ c.as_mut_slice.ensures.value) in
    let same = one_sheet word f (spelling g) c.requires.0 h (take (i.end - 0) bs) first t in
    printed_answer (coded_of g.M.Order g.M.Mark.lowest g.M.Spelled) bs h down across
    (read_again word f bs c.requires.0 down across c.requires.1 i.end c.requires.4 h t)
    (all_passed c.requires.0 h i.sides.rows i.sides.cols down across same c.requires.2 c.requires.3 (subst (λ n. n ≤ 4096) c.cells.ensures c.if-cells-gt-MOST_CELLS.false) c.in_ok-check_cuts.ensures)
    c.print_sheet.result c.print_sheet.ensures
