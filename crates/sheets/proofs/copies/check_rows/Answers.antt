use Rattle.std.proofs.Common.{◌≡◌, ◌+◌, false, [], ◌∷◌, length, sym, ap, ◌∙◌, arith}
use Rattle.std.proofs.lemmas.Result.{err_from_is_err_and}
use Rattle.sheets.specs.Runs.{outside, broken}
use Rattle.sheets.proofs.Checks.{fits_run, past, carried}
use Rattle.sheets.proofs.Rectangles.{rows_broken}
use Rattle.sheets.proofs.copies.check_rows.Goals as goal

pub returns-in_err-read : goal.returns-in_err-read
returns-in_err-read g c =
    let m = g.S.Sheet.meaning c.args.source.now in
    let row = c.args.from.row + c.loop-i.i in
    let col = c.args.from.col in
    let p = err_from_is_err_and c.from_residual.result c.from_residual.ensures.1 in
    let inside : outside m row col (length c.loop-i.run) ≡ false = fits_run m.rows m.cols row col _ (omega arith) (omega (arith, c.loop-i.auto.run)) in
    let told = past _ _ (_ ∷ []) _ _ inside c.in_err-read.ensures.told in
    rw (p.1, p.2) (carried _ _ _ _ _ [] _ _ (λ b. rows_broken m c.args.from _ c.args.height c.loop-i.i c.loop-i-test.true (ap (broken m row col) (sym c.loop-i.auto.run) ∙ b)) told)
