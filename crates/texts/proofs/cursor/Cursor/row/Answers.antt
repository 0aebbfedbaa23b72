use Rattle.std.proofs.Common.{◌-◌, ◌+◌, arith}
use Rattle.std.proofs.lemmas.Result.{err_from_is_err_and}
use Rattle.texts.proofs.Rows.{Spelling, row_begun, row_none, row_more, row_lost, last_lost, last_found}
use Rattle.texts.proofs.Going.{going_end}
use Rattle.texts.proofs.cursor.Cursor.row.Given as given
use Rattle.texts.proofs.cursor.Cursor.row.Goals as goal

laws : (g : given.Over) → Spelling g.M.Spelled.spelled
laws g = let m = g.met.M.CodedMark in record { one = g.M.Mark.lowest; distinct = m.distinct; clear = m.clear }

pub returns-in_err-at : goal.returns-in_err-at
returns-in_err-at g c =
    let p = err_from_is_err_and c.from_residual.result c.from_residual.ensures.1 in
    rw (p.1, p.2) (row_none _ (laws g) _ c.args.self _ c.in_err-at.ensures)

pub loop-k-init : goal.loop-k-init
loop-k-init g c = let k = c.in_ok-at.ensures in row_begun _ (laws g) c.args.cols c.args.self k.0 _ k.1

pub returns-in_err-at-2 : goal.returns-in_err-at-2
returns-in_err-at-2 g c =
    let p = err_from_is_err_and c.from_residual-in_err-at-2.result c.from_residual-in_err-at-2.ensures.1 in
    rw (p.1, p.2) (row_lost _ (laws g) _ c.args.self _ _ c.loop-k.invariant (c.args.cols - (c.loop-k.k + 1)) (omega arith) _ c.in_err-at-2.ensures)

pub loop-k-preserved : goal.loop-k-preserved
loop-k-preserved g c =
    let k = c.in_ok-at-2.ensures in
    row_more _ (laws g) c.args.cols c.args.self _ _ c.loop-k.invariant (c.args.cols - (c.loop-k.k + 1)) (omega arith) k.0 _ k.1

pub returns-in_err-mark : goal.returns-in_err-mark
returns-in_err-mark g c =
    let p = err_from_is_err_and c.from_residual-in_err-mark.result c.from_residual-in_err-mark.ensures.1 in
    rw (p.1, p.2) (last_lost _ (laws g) _ c.args.self _ _ c.loop-k.invariant (omega arith) _ c.in_err-mark.ensures)

pub returns : goal.returns
returns g c =
    let k = c.in_ok-mark.ensures in
    going_end (last_found _ (laws g) c.args.cols c.args.self _ _ c.loop-k.invariant (omega arith) k.0 _ k.1) _ c.word-2.ensures
