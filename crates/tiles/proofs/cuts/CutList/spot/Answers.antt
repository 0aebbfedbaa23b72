use Rattle.std.proofs.Common.{ap, ◌∙◌, arith}
use Rattle.tiles.specs.Rules.{start}
use Rattle.tiles.specs.Plans.{plan_of}
use Rattle.tiles.proofs.Bands.{band_few, band_low}
use Rattle.tiles.proofs.Tilings.{lawful_plan, tile_number, tile_small, spot_is}
use Rattle.tiles.proofs.cuts.CutList.spot.Goals as goal

pub overflow_add-result : goal.overflow_add-result
overflow_add-result c =
    let p = plan_of c.args.self.now in
    omega (arith, tile_small p c.band_of-i.result c.band_of-j.result _ (lawful_plan c.args.self.now) (omega (arith, c.band_of-i.ensures, band_few p.down c.args.row)) (omega (arith, c.band_of-j.ensures, band_few p.across c.args.col)) c.bands.ensures)

pub overflow_mul-result : goal.overflow_mul-result
overflow_mul-result c = let whole = overflow_add-result c in omega arith

pub overflow_sub-result : goal.overflow_sub-result
overflow_sub-result c =
    let p = plan_of c.args.self.now in
    omega (arith, c.start.ensures, ap (start p.rows p.down) c.band_of-i.ensures, band_low p.rows p.down c.args.row)

pub overflow_sub-result-2 : goal.overflow_sub-result-2
overflow_sub-result-2 c =
    let p = plan_of c.args.self.now in
    omega (arith, c.start-2.ensures, ap (start p.cols p.across) c.band_of-j.ensures, band_low p.cols p.across c.args.col)

pub returns : goal.returns
returns c =
    let p = plan_of c.args.self.now in
    spot_is p c.args.row c.args.col _ _ _ c.if-row-self.false c.if-col-self.false
    (tile_number p c.args.row c.args.col _ _ _ c.band_of-i.ensures c.band_of-j.ensures c.bands.ensures)
    (c.start.ensures ∙ ap (start p.rows p.down) c.band_of-i.ensures)
    (c.start-2.ensures ∙ ap (start p.cols p.across) c.band_of-j.ensures)
