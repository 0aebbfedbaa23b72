use Rattle.std.proofs.Common.{inl, inr, refl, arith}
use Rattle.std.proofs.lemmas.Result.{err_from_is_err_and}
use Rattle.inputs.proofs.Marks.{cut_lost, cut_stop, cut_found}
use Rattle.inputs.proofs.line.cut.Goals as goal

pub returns-in_err-cut : goal.returns-in_err-cut
returns-in_err-cut c =
    let p = err_from_is_err_and c.from_residual.result c.from_residual.ensures.1 in
    let lost = c.in_err-cut.ensures in
    rw (p.1, p.2) (cut_lost _ _ _ _ (lost (omega arith) 41 (inr (inr refl))) (λ some. lost (omega arith) 32 (inl (inl refl))))

pub returns-in_err-more : goal.returns-in_err-more
returns-in_err-more c =
    let p = err_from_is_err_and c.from_residual-in_err-more.result c.from_residual-in_err-more.ensures.1 in
    rw (p.1, p.2) (cut_stop _ c.args.from _ c.in_ok-cut.stop c.in_ok-cut.ensures _ c.in_err-more.ensures)

pub returns : goal.returns
returns c = cut_found _ c.args.from _ c.in_ok-cut.stop c.in_ok-cut.ensures _ c.in_ok-more.next c.in_ok-more.ensures
