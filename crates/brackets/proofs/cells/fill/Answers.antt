use Rattle.std.proofs.Common.{ℕ, sym, refl, ap, ◌∙◌, arith}
use Rattle.sheets.specs.Grids.{Cell, cell_of}
use Rattle.sheets.proofs.Marks.{at_fill}
use Rattle.brackets.specs.Lines.{past_part}
use Rattle.brackets.specs.Cells.{cell_along}
use Rattle.brackets.proofs.Steps.{parts_more}
use Rattle.brackets.proofs.Found.{along_at}
use Rattle.brackets.proofs.cells.fill.Goals as goal

pub loop-slot-init : goal.loop-slot-init
loop-slot-init g c = (refl, λ k h. absurd (omega arith))

pub loop-slot-preserved : goal.loop-slot-preserved
loop-slot-preserved g c =
    let C : ℕ → Cell g.row.M.Denot = cell_along g.M.CodedMark.decoded g.M.Spelled.spelled c.args.line.now in
    let i = c.loop-slot.slot-index in
    let split = c.split_mark-mark.ensures in
    let here = along_at g.M.CodedMark.decoded g.M.Spelled.spelled c.args.line.now i _ c.loop-slot.invariant.0 ∙ ap cell_of (sym split.mark) in (
      split.rest ∙ ap past_part c.loop-slot.invariant.0 ∙ sym (parts_more i c.args.line.now),
      at_fill C c.loop-slot.out i c.in-Some.mark c.loop-slot.invariant.1 (omega (arith, c.loop-slot.auto.out, c.loop-slot-test.true)) (here ∙ ap cell_of c.in-Some.is),
    )

pub returns : goal.returns
returns g c = λ k h. c.loop-slot.invariant.1 k (omega arith)
