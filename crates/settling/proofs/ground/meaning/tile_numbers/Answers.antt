use Rattle.std.proofs.Common.{◌≡◌, ℕ, ◌+◌, ◌<◌, ◌≤◌, ap, add-one, arith}
use Rattle.marks.specs.Refusals.{accepted, checked}
use Rattle.tiles.specs.Plans.{Plan, Lawful, plan_of, tiles, tile_checks}
use Rattle.tiles.specs.Mouths.{mouth_base, tile_mouths}
use Rattle.tiles.proofs.Tilings.{lawful_plan}
use Rattle.tiles.proofs.Numberings.{base_next}
use Rattle.tables.proofs.Reading.{tile_told, records}
use Rattle.settling.proofs.ground.meaning.tile_numbers.Goals as goal

-- the number behind the last, by what the two calls told of the tile
ends : (p : Plan) → Lawful p → (t first count : ℕ) → t < tiles p → accepted first ≡ checked (tile_checks p t) (mouth_base p t) → accepted count ≡ checked (tile_checks p t) (tile_mouths p t) → (first + count ≤ 262144) × (first + count ≡ mouth_base p (t + 1))
ends p law t first count h e f =
    let is-first = tile_told p t first (mouth_base p t) h e in
    let is-count = tile_told p t count (tile_mouths p t) h f in
    ((records p law t first count h is-first is-count).few, omega (arith, is-first, is-count, base_next p t, ap (mouth_base p) (add-one t)))

pub overflow_add-result : goal.overflow_add-result
overflow_add-result c = omega (arith, (ends (plan_of c.args.cuts.now) (lawful_plan c.args.cuts.now) c.args.tile _ _ c.requires c.in-Ok-Ok.ensures.told c.in-Ok-Ok.ensures'.told).0)

pub returns-clause-end : goal.returns-clause-end
returns-clause-end c = (ends (plan_of c.args.cuts.now) (lawful_plan c.args.cuts.now) c.args.tile _ _ c.requires c.in-Ok-Ok.ensures.told c.in-Ok-Ok.ensures'.told).1
