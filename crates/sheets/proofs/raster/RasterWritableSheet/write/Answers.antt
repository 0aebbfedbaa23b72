use Rattle.std.proofs.Common.{length, arith}
use Rattle.sheets.proofs.Spans.{part_written}
use Rattle.sheets.proofs.Starts.{started}
use Rattle.sheets.proofs.raster.RasterWritableSheet.write.Goals as goal

pub overwrite-requires : goal.overwrite-requires
overwrite-requires g c =
    let s = c.args.self.now in
    let t = started c.sides.result s.rows s.cols c.args.row c.args.col (length c.args.marks.now) _ c.sides.ensures.rows c.sides.ensures.cols c.in_ok-from.ensures in
    omega (arith, s.long, t.ends)

pub returns-clause-leaves : goal.returns-clause-leaves
returns-clause-leaves g c =
    let s = c.args.self.now in
    let t = started c.sides.result s.rows s.cols c.args.row c.args.col (length c.args.marks.now) _ c.sides.ensures.rows c.sides.ensures.cols c.in_ok-from.ensures in
    rw c.overwrite.ensures (part_written s.rows s.cols s.cells.now c.args.marks.now c.args.row c.args.col _ t.is t.run_in (omega (arith, s.long, t.ends)))
