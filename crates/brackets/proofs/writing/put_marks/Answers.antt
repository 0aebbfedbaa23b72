use Rattle.std.proofs.Common.{length, ap, ◌∙◌, subst, arith}
use Rattle.std.proofs.lemmas.List.{take_all}
use Rattle.brackets.specs.Writes.{Put, blanked}
use Rattle.brackets.proofs.Puts.{put_none, put_long, blanked_room, mark_put}
use Rattle.brackets.proofs.writing.put_marks.Goals as goal

pub loop-mark-init : goal.loop-mark-init
loop-mark-init g c = put_none _ _ (omega arith)

pub put-at-requires : goal.put-at-requires
put-at-requires g c =
    let s = c.loop-mark.invariant in
    omega (arith, s.place, put_long _ _ _ _ _ s, blanked_room g.M.Spelled.spelled c.args.marks.now c.loop-mark.mark-index c.mark-item.result c.loop-mark-test.true c.mark-item.is)

pub put-at-requires-in-loop-mark : goal.put-at-requires-in-loop-mark
put-at-requires-in-loop-mark g c =
    let s = c.loop-mark.invariant in
    let p = c.put-at.ensures in
    let w = ap length (c.as_bytes.ensures ∙ c.spelling.ensures) in
    omega (arith, s.place, p.place, put_long _ _ _ _ _ s, put_long _ _ _ _ _ p, blanked_room g.M.Spelled.spelled c.args.marks.now c.loop-mark.mark-index c.mark-item.result c.loop-mark-test.true c.mark-item.is)

pub loop-mark-preserved : goal.loop-mark-preserved
loop-mark-preserved g c = mark_put g.M.Spelled.spelled c.args.marks.now c.loop-mark.mark-index c.mark-item.result c.loop-mark-test.true c.mark-item.is _ _ _ _ _ _ _ _ c.loop-mark.invariant c.put-at.ensures _ (c.as_bytes.ensures ∙ c.spelling.ensures) c.put-at-in-loop-mark.ensures

pub returns : goal.returns
returns g c = subst (λ xs. Put c.args.out.now c.loop-mark.out c.args.from (blanked g.M.Spelled.spelled xs) c.loop-mark.at) (take_all c.loop-mark.mark-index c.args.marks.now (omega arith)) c.loop-mark.invariant
