use Rattle.std.proofs.Common.{refl, subst}
use Rattle.std.proofs.lemmas.Result.{err_from_is_err_and}
use Rattle.inputs.proofs.Listing.{Listed, first_lost, listed_none, cut_not_there, listed_more, listed_all}
use Rattle.inputs.proofs.line.side_cuts.Goals as goal

pub returns-in_err-more : goal.returns-in_err-more
returns-in_err-more c =
    let p = err_from_is_err_and c.from_residual.result c.from_residual.ensures.1 in
    rw (p.1, p.2) (first_lost c.args.from _ c.in_err-more.ensures)

pub loop-more-init : goal.loop-more-init
loop-more-init c = listed_none c.args.from _ c.in_ok-more.more c.in_ok-more.at refl c.in_ok-more.ensures

pub returns-in_err-places : goal.returns-in_err-places
returns-in_err-places c =
    let p = err_from_is_err_and c.from_residual-in_err-places.result c.from_residual-in_err-places.ensures.1 in
    let s = subst (λ v. Listed c.args.from c.loop-more.places c.loop-more.count v c.loop-more.at) c.loop-more-test.true c.loop-more.invariant in
    rw (p.1, p.2) (cut_not_there c.args.from _ c.loop-more.count c.loop-more.at s _ c.in_err-places.ensures)

pub loop-more-preserved : goal.loop-more-preserved
loop-more-preserved c =
    let s = subst (λ v. Listed c.args.from c.loop-more.places c.loop-more.count v c.loop-more.at) c.loop-more-test.true c.loop-more.invariant in
    listed_more c.args.from c.loop-more.places c.loop-more.count c.loop-more.at s _ _ c.in_ok-places.field-0-2 c.in_ok-places.ensures

pub returns : goal.returns
returns c = listed_all c.args.from c.loop-more.places c.loop-more.count c.loop-more.more c.loop-more.at c.loop-more-test.false c.loop-more.invariant
