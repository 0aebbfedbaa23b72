use Rattle.std.proofs.Common.{◌≡◌, ◌≤◌, length, ap, ◌∙◌, rules, arith}
use Rattle.round.specs.Rounds.{missing_below, is_surveyed}
use Rattle.round.proofs.Missing.{some_false}
use Rattle.round.proofs.rounds.Round.tiles_missing.Goals as goal

pub returns : goal.returns
returns c =
    let long : length c.args.self.now.surveyed ≡ 1024 = search rules in
    let enough : c.tiles.result ≤ length c.args.self.now.surveyed = omega (arith, long, c.tiles.ensures.laws.few, c.tiles.ensures.value) in
    c.contains.ensures.value
    ∙ some_false c.args.self.now.surveyed c.tiles.result enough
    ∙ ap (missing_below (is_surveyed c.args.self.now)) c.tiles.ensures.value
