use Rattle.std.proofs.Common.{◌∙◌, zero-add, arith}
use Rattle.std.proofs.lemmas.Result.{err_from_is_err_and}
use Rattle.texts.proofs.Rows.{Spelling}
use Rattle.inputs.proofs.Together.{sheet_lost, line_lost, more_behind, all_read}
use Rattle.inputs.proofs.reader.read_input.Given as given
use Rattle.inputs.proofs.reader.read_input.Goals as goal

laws : (g : given.Over) → Spelling g.M.Spelled.spelled
laws g = let m = g.met.M.CodedMark in record { one = g.M.Mark.lowest; distinct = m.distinct; clear = m.clear }

pub returns-in_err-head : goal.returns-in_err-head
returns-in_err-head g c =
    let p = err_from_is_err_and c.from_residual.result c.from_residual.ensures.1 in
    rw (p.1, p.2) (sheet_lost _ _ (laws g) _ _ c.in_err-head.ensures)

pub returns-in_err-down : goal.returns-in_err-down
returns-in_err-down g c =
    let p = err_from_is_err_and c.from_residual-in_err-down.result c.from_residual-in_err-down.ensures.1 in
    let h = c.in_ok-head.ensures in
    rw (p.1, p.2) (line_lost _ _ (laws g) c.args.bytes.now h.0 _ h.1 c.new.result c.new.ensures.bytes c.new.ensures.at _ c.in_err-down.ensures)

pub returns-then-end-bytes : goal.returns-then-end-bytes
returns-then-end-bytes g c =
    let h = c.in_ok-head.ensures in
    rw c.place-end.ensures (more_behind _ _ (laws g) c.args.bytes.now h.0 _ h.1 c.new.result c.new.ensures.bytes c.new.ensures.at _ _ c.in_ok-down.rest c.in_ok-down.ensures (omega (arith, c.place-end.ensures)))

pub returns : goal.returns
returns g c =
    let h = c.in_ok-head.ensures in
    (h.0, all_read _ _ (laws g) c.args.bytes.now h.0 _ h.1 c.new.result c.new.ensures.bytes c.new.ensures.at _ _ c.in_ok-down.rest c.in_ok-down.ensures (omega (arith, c.place-end.ensures)), h.2, h.3, h.1.place ∙ zero-add _)
