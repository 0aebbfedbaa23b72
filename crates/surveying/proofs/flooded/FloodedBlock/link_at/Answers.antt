use Rattle.std.proofs.Common.{◌≡◌, ◌+◌, ◌-◌, ◌≤◌, length, arith, rules}
use borrow.Author.Rules.{scaled_fits≤}
use Rattle.terrain.specs.Terrains.{kind_of}
use Rattle.terrain.proofs.Rows.{part_length}
use Rattle.tiles.specs.Plans.{area_of}
use Rattle.surveying.proofs.Charting.{linked_part}
use Rattle.surveying.proofs.flooded.FloodedBlock.link_at.Goals as goal

pub offset_bounds-passes-start : goal.offset_bounds-passes-start
offset_bounds-passes-start g c =
    let low : c.args.start ≤ length c.args.passes.now = omega (arith, c.requires.passes) in search (rules, scaled_fits≤)

pub returns : goal.returns
returns g c = λ C.
    let r = c.args in
    let n = length r.labels.now - 1 in
    let part = part_length r.passes.now r.start n c.requires.passes in
    let long : length c.link_mouths.new.passes ≡ r.start + n - r.start = omega (arith, part, c.link_mouths.auto.passes) in
    linked_part (kind_of g.M.Order g.M.Mark.lowest) (area_of r.self.now.block) r.self.now.levels.now r.self.now.origins.now C r.first r.start (r.start + n - r.start) c.link_mouths.result c.link_mouths.new.labels r.passes.now c.link_mouths.new.passes (omega (arith, c.requires.passes)) long (c.link_mouths.ensures C)
