use Rattle.std.proofs.Common.{◌≡◌, ◌-◌, [], length, sym, ap, ◌∙◌, arith}
use Rattle.marks.specs.Orders.{OrderLaws}
use Rattle.marks.specs.Refusals.{accepted}
use Rattle.sheets.proofs.Checks.{passes, passed}
use Rattle.flood.specs.Calls.{short}
use Rattle.terrain.specs.Terrains.{kind_of}
use Rattle.tiles.specs.Plans.{plan_of, area_of, tile_at, height, width}
use Rattle.tiles.specs.Mouths.{border, mouth_base, tile_mouths}
use Rattle.tiles.proofs.Tilings.{lawful_plan}
use Rattle.surveying.specs.Blocks.{dead_in}
use Rattle.surveying.specs.Turns.{cells_of}
use Rattle.surveying.proofs.Charting.{tile_is, sides_cut, tile_inside, flooded_tile, chart_done, tables_long, room_short}
use Rattle.surveying.proofs.survey.chart.Goals as goal

pub flood_block-requires : goal.flood_block-requires
flood_block-requires g c =
    let p = plan_of c.args.cuts.now in
    let t = c.args.tile in
    let m = g.S.Sheet.meaning c.args.source.now in
    let b = c.in_ok-block.block in
    let is = tile_is p t (area_of b) (tile_at p t) c.requires.tile c.in_ok-block.ensures.told in
    record {
      inside = tile_inside p m t (area_of b) (lawful_plan c.args.cuts.now) (sides_cut p m c.requires.sides) is b.tall b.wide;
      marks = c.requires.marks ∙ sym (ap cells_of is);
      room = ap (λ z. short (cells_of z) c.args.scratch.levels.now c.args.scratch.origins.now c.args.scratch.heap.now) is ∙ c.requires.room;
    }

pub keep_marks-requires : goal.keep_marks-requires
keep_marks-requires g c =
    let p = plan_of c.args.cuts.now in
    let t = c.args.tile in
    let b = c.in_ok-block.block in
    let is = tile_is p t (area_of b) (tile_at p t) c.requires.tile c.in_ok-block.ensures.told in
    let is-first = tile_is p t c.in_ok-first.first (mouth_base p t) c.requires.tile c.in_ok-first.ensures.told in
    let long = tables_long p t c.in_ok-first.first (length c.args.mouths.now) (length c.args.passes.now) (lawful_plan c.args.cuts.now) c.requires.tile is-first c.requires.tables in
    let many : border (height (area_of b)) (width (area_of b)) ≡ tile_mouths p t = ap (λ z. border (height z) (width z)) is in
    record { marks = c.flood_block.auto.marks ∙ c.requires.marks ∙ sym (ap cells_of is); room = omega (arith, many, long.mouths) }

pub overflow_sub-first : goal.overflow_sub-first
overflow_sub-first g c =
    let p = plan_of c.args.cuts.now in
    let t = c.args.tile in
    let is-first = tile_is p t c.in_ok-first.first (mouth_base p t) c.requires.tile c.in_ok-first.ensures.told in
    (tables_long p t c.in_ok-first.first (length c.args.mouths.now) (length c.args.passes.now) (lawful_plan c.args.cuts.now) c.requires.tile is-first c.requires.tables).low

pub invariant_of-flooded : goal.invariant_of-flooded
invariant_of-flooded g c =
    let p = plan_of c.args.cuts.now in
    let t = c.args.tile in
    let b = c.in_ok-block.block in
    let is = tile_is p t (area_of b) (tile_at p t) c.requires.tile c.in_ok-block.ensures.told in
    let room = room_short (cells_of (area_of b)) c.args.scratch.levels.now c.args.scratch.origins.now c.args.scratch.heap.now (ap (λ z. short (cells_of z) c.args.scratch.levels.now c.args.scratch.origins.now c.args.scratch.heap.now) is ∙ c.requires.room) in
    record { leveled = omega (arith, room.0, c.flood_block.auto.levels); origined = omega (arith, room.1, c.flood_block.auto.origins) }

pub link_at-count-requires : goal.link_at-count-requires
link_at-count-requires g c =
    let κ = kind_of g.S.Mark.Order g.S.Mark.Mark.lowest in
    let p = plan_of c.args.cuts.now in
    let t = c.args.tile in
    let m = g.S.Sheet.meaning c.args.source.now in
    let law = lawful_plan c.args.cuts.now in
    let b = c.in_ok-block.block in
    let is = tile_is p t (area_of b) (tile_at p t) c.requires.tile c.in_ok-block.ensures.told in
    let is-first = tile_is p t c.in_ok-first.first (mouth_base p t) c.requires.tile c.in_ok-first.ensures.told in
    let long = tables_long p t c.in_ok-first.first (length c.args.mouths.now) (length c.args.passes.now) law c.requires.tile is-first c.requires.tables in
    let many : border (height (area_of b)) (width (area_of b)) ≡ tile_mouths p t = ap (λ z. border (height z) (width z)) is in
    let room = room_short (cells_of (area_of b)) c.args.scratch.levels.now c.args.scratch.origins.now c.args.scratch.heap.now (ap (λ z. short (cells_of z) c.args.scratch.levels.now c.args.scratch.origins.now c.args.scratch.heap.now) is ∙ c.requires.room) in
    record {
      slices = omega (arith, room.2, c.flood_block.auto.heap);
      labels = (c.requires.labels ∙ sym many, omega (arith, c.requires.labels, long.few), omega (arith, c.requires.labels, long.some));
      passes = omega (arith, c.requires.labels, long.passes);
      flooded = flooded_tile κ m p t (area_of b) c.flood_block.new.marks c.flood_block.new.levels c.flood_block.new.origins law (sides_cut p m c.requires.sides) c.requires.tile is c.in_ok-flood_block.ensures.leaves;
    }

pub returns : goal.returns
returns g c =
    let κ = kind_of g.S.Mark.Order g.S.Mark.Mark.lowest in
    let O : OrderLaws κ.leb = record { total = g.met.S.Mark.Order.total; transitive = g.met.S.Mark.Order.transitive; antisymmetric = g.met.S.Mark.Order.antisymmetric } in
    let p = plan_of c.args.cuts.now in
    let t = c.args.tile in
    let m = g.S.Sheet.meaning c.args.source.now in
    let b = c.in_ok-block.block in
    let is = tile_is p t (area_of b) (tile_at p t) c.requires.tile c.in_ok-block.ensures.told in
    let is-first = tile_is p t c.in_ok-first.first (mouth_base p t) c.requires.tile c.in_ok-first.ensures.told in
    let long = c.flood_block.auto.marks ∙ c.requires.marks ∙ sym (ap cells_of is) in
    let done = chart_done κ O m p t (area_of b) c.flood_block.new.marks c.flood_block.new.levels c.flood_block.new.origins (lawful_plan c.args.cuts.now) (sides_cut p m c.requires.sides) c.requires.tile is c.in_ok-flood_block.ensures.leaves
    c.in_ok-first.first c.link_at-count.result is-first c.args.mouths.now c.keep_marks.new.mouths c.args.passes.now c.link_at-count.new.passes long c.keep_marks.ensures c.link_at-count.ensures in
    record {
      told = passes (dead_in m (tile_at p t)) 7 [] (tile_mouths p t - 1) (accepted c.link_at-count.result) (sym (ap (dead_in m) is) ∙ (passed (dead_in m (area_of b)) 7 [] tt tt c.in_ok-flood_block.ensures.told).0) (ap accepted done.0);
      leaves = done.1;
    }
