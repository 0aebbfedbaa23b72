use Rattle.std.proofs.Common.{◌≡◌, ◌+◌, ◌-◌, ◌*◌, ◌≤◌, length, take, drop, ap, ◌∙◌, arith}
use Rattle.terrain.proofs.Rows.{row_end, row_holds, part_length}
use Rattle.sheets.specs.Layouts.{flat}
use Rattle.sheets.proofs.Rectangles.{copied_more}
use Rattle.terrain.specs.Cells.{place}
use Rattle.terrain.proofs.blocks.write_rows.Goals as goal

pub loop-i-preserved : goal.loop-i-preserved
loop-i-preserved g c =
    let h = c.args.extent.height in
    let w = c.args.extent.width in
    let i = c.loop-i.i in
    let ms = c.args.marks.now in
    let inside : i * w + w ≤ length ms = omega (arith, row_end h w i c.loop-i-test.true, c.requires.long) in
    let long = part_length ms (i * w) w inside in
    let short : i * w + w - i * w ≡ w = omega arith in
    let done = c.in_ok-write.ensures in (
      copied_more (flat h w ms) (place 0 0) _ _ _ c.args.to i w _ c.loop-i.invariant.0 long (omega arith) (omega arith) (λ k hk. row_holds h w i ms _ c.loop-i-test.true c.requires.long (ap (λ n. take n (drop (i * w) ms)) short) k (omega (arith, long))) done.leaves,
      done.loans ∙ c.loop-i.invariant.1,
    )
