use Rattle.std.proofs.lemmas.Result.{err_from_is_err_and}
use Rattle.inputs.proofs.Lines.{lost0, lost1, lost2, lost3, lost4, found4}
use Rattle.inputs.proofs.line.cut_line.Goals as goal

pub returns-in_err-word : goal.returns-in_err-word
returns-in_err-word c =
    let p = err_from_is_err_and c.from_residual.result c.from_residual.ensures.1 in
    rw (p.1, p.2) (lost0 c.args.from _ c.in_err-word.ensures)

pub returns-in_err-down : goal.returns-in_err-down
returns-in_err-down c =
    let p = err_from_is_err_and c.from_residual-in_err-down.result c.from_residual-in_err-down.ensures.1 in
    let h0 = c.in_ok-word.ensures in
    rw (p.1, p.2) (lost1 c.args.from _ c.in_ok-word.field-0 h0.1 _ c.in_err-down.ensures)

pub returns-in_err-word-2 : goal.returns-in_err-word-2
returns-in_err-word-2 c =
    let p = err_from_is_err_and c.from_residual-in_err-word-2.result c.from_residual-in_err-word-2.ensures.1 in
    let h0 = c.in_ok-word.ensures in
    rw (p.1, p.2) (lost2 c.args.from _ c.in_ok-word.field-0 h0.1 _ c.in_ok-down.middle c.in_ok-down.ensures _ c.in_err-word-2.ensures)

pub returns-in_err-across : goal.returns-in_err-across
returns-in_err-across c =
    let p = err_from_is_err_and c.from_residual-in_err-across.result c.from_residual-in_err-across.ensures.1 in
    let h0 = c.in_ok-word.ensures in
    let h2 = c.in_ok-word-2.ensures in
    rw (p.1, p.2) (lost3 c.args.from _ c.in_ok-word.field-0 h0.1 _ c.in_ok-down.middle c.in_ok-down.ensures _ c.in_ok-word-2.field-0 h2.1 _ c.in_err-across.ensures)

pub returns-in_err-word-3 : goal.returns-in_err-word-3
returns-in_err-word-3 c =
    let p = err_from_is_err_and c.from_residual-in_err-word-3.result c.from_residual-in_err-word-3.ensures.1 in
    let h0 = c.in_ok-word.ensures in
    let h2 = c.in_ok-word-2.ensures in
    rw (p.1, p.2) (lost4 c.args.from _ c.in_ok-word.field-0 h0.1 _ c.in_ok-down.middle c.in_ok-down.ensures _ c.in_ok-word-2.field-0 h2.1 _ c.in_ok-across.last c.in_ok-across.ensures _ c.in_err-word-3.ensures)

pub returns : goal.returns
returns c =
    let h0 = c.in_ok-word.ensures in
    let h2 = c.in_ok-word-2.ensures in
    let h4 = c.in_ok-word-3.ensures in
    found4 c.args.from _ c.in_ok-word.field-0 h0.1 _ c.in_ok-down.middle c.in_ok-down.ensures _ c.in_ok-word-2.field-0 h2.1 _ c.in_ok-across.last c.in_ok-across.ensures _ c.in_ok-word-3.field-0 h4.1
