use Rattle.std.proofs.Common.{arith}
use Rattle.tiles.specs.Plans.{plan_of}
use Rattle.tiles.proofs.Tilings.{lawful_plan, tile_small}
use Rattle.tiles.proofs.Indices.{mouth_found, mouth_tile, mouth_there}
use Rattle.tiles.proofs.cuts.CutList.mouth.Goals as goal

pub returns-in_err-row : goal.returns-in_err-row
returns-in_err-row c =
    let there = mouth_there (plan_of c.args.self.now) _ _ _ _ _ c.in_ok-j.ensures c.block.ensures in
    rw c.from_residual-in_err-row.ensures (absurd (omega (arith, there, c.in_err-row.ensures)))

pub returns : goal.returns
returns c =
    let p = plan_of c.args.self.now in
    let l = lawful_plan c.args.self.now in (
      mouth_found p _ _ _ _ _ _ _ _ l c.in_ok-i.ensures c.in_ok-j.ensures c.block.ensures c.in_ok-row.ensures,
      mouth_tile p _ _ _ _ _ _ _ _ l c.in_ok-j.ensures c.block.ensures c.in_ok-row.ensures c.bands.ensures,
    )
