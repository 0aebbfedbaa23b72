use Rattle.std.proofs.Common.{Bool, true, false, cond, Some, None, ◌≡◌, sym, refl, ap, ◌∙◌, arith}
use Rattle.std.proofs.lemmas.List.{get_or_read}
use Rattle.std.specs.Bool.{then_some}
use Rattle.terrain.specs.CellLaws.{drain_none, drain_by}
use Rattle.terrain.proofs.ground.meaning.CellGroundGround.drain.Goals as goal

pub returns-in_err-mark : goal.returns-in_err-mark
returns-in_err-mark g c =
    let s = c.args.self.now in
    c.from_residual.ensures ∙ sym (drain_none _ _ s.sides.rows s.sides.cols _ c.args.node (omega (arith, s.long, c.in_err-mark.ensures.lookup)))

some_if : {X : Type 0} (b : Bool) (x : X) → then_some b x ≡ cond b (Some x) None
some_if true x = refl
some_if false x = refl

pub returns : goal.returns
returns g c =
    let s = c.args.self.now in
    let l = c.in_ok-mark.ensures.lookup in
    let mark = get_or_read s.marks.now c.args.node c.in_ok-mark.field-0.now (omega arith) l.1 g.M.Mark.lowest in
    c.then_some.ensures ∙ some_if c.on_edge.result _ ∙ ap (λ x. cond c.on_edge.result (Some x) None) mark
    ∙ sym (drain_by g.M.Order.leb g.M.Mark.lowest s.sides.rows s.sides.cols s.marks.now c.args.node c.on_edge.result (omega (arith, s.long)) (sym c.on_edge.ensures))
