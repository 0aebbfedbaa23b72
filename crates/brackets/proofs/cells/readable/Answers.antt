use Rattle.std.proofs.Common.{◌≡◌, false, Option, Some, None, sym, refl, ap, ◌∙◌, arith, below_more}
use mathlib.Core.Bool.{not}
use Rattle.std.specs.Option.{is_some}
use Rattle.sheets.specs.Grids.{is_dead, cell_of}
use Rattle.brackets.specs.Lines.{past_part}
use Rattle.brackets.specs.Cells.{cell_along}
use Rattle.brackets.proofs.Steps.{parts_more}
use Rattle.brackets.proofs.Found.{along_at}
use Rattle.brackets.proofs.cells.readable.Goals as goal

-- a cell is dead where there is no mark
dead_none : {M : Type 0} (o : Option M) → is_dead (cell_of o) ≡ not (is_some o)
dead_none None = refl
dead_none (Some m) = refl

pub loop-k-init : goal.loop-k-init
loop-k-init g c = (refl, λ k h. absurd (omega arith))

pub returns-then-is_none : goal.returns-then-is_none
returns-then-is_none g c =
    let here = along_at g.M.CodedMark.decoded g.M.Spelled.spelled c.args.line.now c.loop-k.k _ c.loop-k.invariant.0 ∙ ap cell_of (sym c.split_mark-mark.ensures.mark) in
    (c.loop-k.k, c.loop-k-test.true, ap is_dead here ∙ dead_none c.split_mark-mark.result.0 ∙ ap not c.if-is_none.ensures)

pub loop-k-preserved : goal.loop-k-preserved
loop-k-preserved g c =
    let here = along_at g.M.CodedMark.decoded g.M.Spelled.spelled c.args.line.now c.loop-k.k _ c.loop-k.invariant.0 ∙ ap cell_of (sym c.split_mark-mark.ensures.mark) in (
      c.split_mark-mark.ensures.rest ∙ ap past_part c.loop-k.invariant.0 ∙ sym (parts_more c.loop-k.k c.args.line.now),
      below_more (λ k. is_dead (cell_along g.M.CodedMark.decoded g.M.Spelled.spelled c.args.line.now k) ≡ false) c.loop-k.k c.loop-k.invariant.1 (ap is_dead here ∙ dead_none c.split_mark-mark.result.0 ∙ ap not c.if-is_none.ensures),
    )

pub returns : goal.returns
returns g c = λ k h. c.loop-k.invariant.1 k (omega arith)
