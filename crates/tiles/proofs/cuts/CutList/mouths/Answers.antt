use Rattle.std.proofs.Common.{ap, ◌∙◌}
use Rattle.tiles.specs.Plans.{plan_of}
use Rattle.tiles.proofs.Tilings.{lawful_plan}
use Rattle.tiles.specs.Bandings.{row_base}
use Rattle.tiles.proofs.Seams.{numbered}
use Rattle.tiles.proofs.cuts.CutList.mouths.Goals as goal

pub returns : goal.returns
returns c =
    let p = plan_of c.args.self.now in
    record { value = c.mouths_above.ensures ∙ ap (row_base p) c.bands.ensures; laws = numbered p (lawful_plan c.args.self.now) }
