use Rattle.std.proofs.Common.{◌+◌, Some, None, sym, ap, ◌∙◌, arith}
use Rattle.tiles.specs.Plans.{plan_of, tiles}
use Rattle.tiles.proofs.Bands.{band_few}
use Rattle.tiles.proofs.Tilings.{lawful_plan}
use Rattle.tiles.proofs.Numberings.{base_small}
use Rattle.tiles.proofs.Indices.{number_here, number_below}
use Rattle.tiles.proofs.cuts.CutList.mouth_number.Goals as goal

pub block-requires : goal.block-requires
block-requires c =
    let p = plan_of c.args.self.now in
    (omega (arith, c.band_of-i.ensures, band_few p.down c.args.row), omega (arith, c.band_of-j.ensures, band_few p.across c.args.col))

pub returns-in_err-index : goal.returns-in_err-index
returns-in_err-index c =
    c.from_residual.ensures
    ∙ number_here (plan_of c.args.self.now) c.args.row c.args.col _ _ _ None c.band_of-i.ensures c.band_of-j.ensures c.block.ensures c.in_err-index.ensures

pub returns : goal.returns
returns c =
    let p = plan_of c.args.self.now in
    ap (λ n. Some (n + c.in_ok-index.index)) c.mouths_before.ensures
    ∙ number_here p c.args.row c.args.col _ _ _ (Some c.in_ok-index.index) c.band_of-i.ensures c.band_of-j.ensures c.block.ensures c.in_ok-index.ensures

pub overflow_add-result : goal.overflow_add-result
overflow_add-result c =
    let p = plan_of c.args.self.now in
    omega (arith, number_below p c.args.row c.args.col _ (sym (returns c)), base_small p (tiles p) (lawful_plan c.args.self.now) (omega arith))
