use Rattle.std.proofs.Common.{◌+◌, arith}
use Rattle.tiles.specs.Plans.{plan_of}
use Rattle.tiles.proofs.Tilings.{lawful_plan}
use Rattle.tiles.proofs.Tilings.{side_below}
use Rattle.tiles.proofs.Bands.{band_read, start_below}
use Rattle.tiles.proofs.cuts.CutList.block.Goals as goal

pub invariant_of-result : goal.invariant_of-result
invariant_of-result c =
    let p = plan_of c.args.self.now in
    let l = lawful_plan c.args.self.now in
    let rows = band_read p.rows p.down c.args.i _ _ l.down (omega (arith, c.requires)) c.start.ensures c.start-2.ensures in
    let cols = band_read p.cols p.across c.args.j _ _ l.across (omega (arith, c.requires)) c.start-3.ensures c.start-4.ensures in
    record {
      tall = rows.rises;
      wide = cols.rises;
      low = omega (arith, c.start-2.ensures, start_below p.rows p.down (c.args.i + 1) l.down, side_below p.rows l.rows);
      near = omega (arith, c.start-4.ensures, start_below p.cols p.across (c.args.j + 1) l.across, side_below p.cols l.cols);
    }
