use Rattle.std.proofs.Common.{◌-◌, ◌+◌, sym, subst, arith}
use native.Mathlib.Nat.{sub-zero}
use Rattle.std.proofs.lemmas.Result.{err_from_is_err_and}
use Rattle.texts.specs.Parts.{body}
use Rattle.texts.proofs.Going.{Going, going_none}
use Rattle.texts.proofs.Rows.{Spelling, body_more, body_lost, body_end}
use Rattle.texts.proofs.cursor.Cursor.body.Given as given
use Rattle.texts.proofs.cursor.Cursor.body.Goals as goal

laws : (g : given.Over) → Spelling g.M.Spelled.spelled
laws g = let m = g.met.M.CodedMark in record { one = g.M.Mark.lowest; distinct = m.distinct; clear = m.clear }

pub loop-k-init : goal.loop-k-init
loop-k-init g c =
    let b = body g.M.Spelled.spelled c.args.sides.rows c.args.sides.cols in
    subst (λ n. Going b c.args.self (body g.M.Spelled.spelled n c.args.sides.cols) c.args.self) (sym (sub-zero c.args.sides.rows)) (going_none b c.args.self)

pub returns-in_err-at : goal.returns-in_err-at
returns-in_err-at g c =
    let p = err_from_is_err_and c.from_residual.result c.from_residual.ensures.1 in
    rw (p.1, p.2) (body_lost _ (laws g) _ _ c.args.self _ _ c.loop-k.invariant (c.args.sides.rows - (c.loop-k.k + 1)) (omega arith) _ c.in_err-at.ensures)

pub loop-k-preserved : goal.loop-k-preserved
loop-k-preserved g c =
    let k = c.in_ok-at.ensures in
    body_more _ (laws g) c.args.sides.rows c.args.sides.cols c.args.self _ _ c.loop-k.invariant (c.args.sides.rows - (c.loop-k.k + 1)) (omega arith) k.0 _ k.1

pub returns : goal.returns
returns g c = body_end _ (laws g) _ _ c.args.self _ _ c.loop-k.invariant (omega arith) _ c.word.ensures
