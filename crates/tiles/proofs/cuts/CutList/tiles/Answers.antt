use Rattle.std.proofs.Common.{◌+◌, ◌*◌, length, ap, ◌∙◌}
use Rattle.tiles.specs.Plans.{plan_of}
use Rattle.tiles.proofs.Tilings.{lawful_plan}
use Rattle.tiles.proofs.Tilings.{tiled}
use Rattle.tiles.proofs.cuts.CutList.tiles.Goals as goal

pub returns : goal.returns
returns c =
    let p = plan_of c.args.self.now in
    record { value = ap (λ n. n * c.bands-2.result) c.bands.ensures ∙ ap (λ n. (length p.down + 1) * n) c.bands-2.ensures; laws = tiled p (lawful_plan c.args.self.now) }
