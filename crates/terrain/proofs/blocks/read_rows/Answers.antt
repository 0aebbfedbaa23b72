use Rattle.std.proofs.Common.{◌≡◌, ◌+◌, ◌-◌, ◌*◌, ◌≤◌, false, [], ◌∷◌, length, sym, ap, ◌∙◌, arith}
use borrow.Rule.Slice.PartMut.{mid_of}
use Rattle.std.proofs.lemmas.Result.{err_from_is_err_and}
use Rattle.sheets.specs.Runs.{outside, broken}
use Rattle.sheets.proofs.Checks.{fits_run, passed, past, carried}
use Rattle.sheets.proofs.Rectangles.{rows_more, rows_broken}
use Rattle.terrain.proofs.Rows.{row_end, block_more, part_length}
use Rattle.terrain.proofs.blocks.read_rows.Goals as goal

pub loop-i-preserved : goal.loop-i-preserved
loop-i-preserved g c =
    let m = g.S.Sheet.meaning c.args.source.now in
    let w = c.args.extent.width in
    let i = c.loop-i.i in
    let inside : i * w + w ≤ length c.loop-i.marks = omega (arith, row_end c.args.extent.height w i c.loop-i-test.true, c.requires.long, c.loop-i.auto.marks) in
    let long = part_length c.loop-i.marks (i * w) w inside in
    let told = c.in_ok-read.ensures.told in
    let leaves = c.in_ok-read.ensures.leaves in
    let whole = (passed _ _ [] _ _ (passed _ _ (_ ∷ []) _ _ told).1).0 in (
      rows_more m c.args.from w i c.loop-i.invariant.0 (ap (broken m (c.args.from.row + i) c.args.from.col) (sym long) ∙ whole),
      block_more m c.args.from w _ i c.loop-i.marks c.read.new.out c.loop-i.invariant.1 inside (leaves.0 ∙ long) leaves.1,
    )

pub returns-in_err-read-clause-told : goal.returns-in_err-read-clause-told
returns-in_err-read-clause-told g c =
    let m = g.S.Sheet.meaning c.args.source.now in
    let w = c.args.extent.width in
    let i = c.loop-i.i in
    let row = c.args.from.row + i in
    let col = c.args.from.col in
    let within : i * w + w ≤ length c.loop-i.marks = omega (arith, row_end c.args.extent.height w i c.loop-i-test.true, c.requires.long, c.loop-i.auto.marks) in
    let long = part_length c.loop-i.marks (i * w) w within in
    let p = err_from_is_err_and c.from_residual.result c.from_residual.ensures.1 in
    let inside : outside m row col (length (mid_of (i * w) (i * w + w - i * w) c.loop-i.marks)) ≡ false = fits_run m.rows m.cols row col _ (omega arith) (omega (arith, long)) in
    let told = past _ _ (_ ∷ []) _ _ inside c.in_err-read.ensures.told in
    rw (p.1, p.2) (carried _ _ _ _ _ [] _ _ (λ b. rows_broken m c.args.from w c.args.extent.height i c.loop-i-test.true (ap (broken m row col) (sym long) ∙ b)) told)
