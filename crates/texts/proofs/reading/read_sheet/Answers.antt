use Rattle.std.proofs.Common.{arith}
use Rattle.std.proofs.lemmas.Result.{err_from_is_err_and}
use Rattle.texts.proofs.Rows.{Spelling}
use Rattle.texts.proofs.Ends.{head_lost, rows_lost, rows_found}
use Rattle.texts.proofs.reading.read_sheet.Given as given
use Rattle.texts.proofs.reading.read_sheet.Goals as goal

laws : (g : given.Over) → Spelling g.M.Spelled.spelled
laws g = let m = g.met.M.CodedMark in record { one = g.M.Mark.lowest; distinct = m.distinct; clear = m.clear }

pub returns-in_err-sides : goal.returns-in_err-sides
returns-in_err-sides g c =
    let p = err_from_is_err_and c.from_residual.result c.from_residual.ensures.1 in
    rw (p.1, p.2) (head_lost _ _ (laws g) c.args.bytes.now c.new.result (omega (arith, c.new.ensures.at)) c.new.ensures.bytes _ c.in_err-sides.ensures)

pub returns-in_err-body : goal.returns-in_err-body
returns-in_err-body g c =
    let p = err_from_is_err_and c.from_residual-in_err-body.result c.from_residual-in_err-body.ensures.1 in
    rw (p.1, p.2) (rows_lost _ _ (laws g) c.args.bytes.now c.new.result (omega (arith, c.new.ensures.at)) c.new.ensures.bytes c.in_ok-sides.sides c.in_ok-sides.lines c.in_ok-sides.ensures _ c.in_err-body.ensures)

pub returns : goal.returns
returns g c =
    let k = c.in_ok-body.ensures in
    rows_found _ _ (laws g) c.args.bytes.now c.new.result (omega (arith, c.new.ensures.at)) c.new.ensures.bytes c.in_ok-sides.sides c.in_ok-sides.lines c.in_ok-sides.ensures k.0 c.in_ok-body.field-0 _ c.place-end.ensures k.1
