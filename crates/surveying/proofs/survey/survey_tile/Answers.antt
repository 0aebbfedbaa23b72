use Rattle.std.proofs.Common.{◌≡◌, false, ◌*◌, ◌≤◌, length, sym, refl, ap, ◌∙◌, arith, rules}
use Rattle.std.proofs.lemmas.Bool.{lt-leb}
use Rattle.std.proofs.lemmas.List.{length-take-le}
use Rattle.flood.specs.Calls.{short}
use Rattle.tiles.specs.Plans.{plan_of, area_of, tiles, tile_at, height, width}
use Rattle.tiles.specs.Mouths.{border}
use Rattle.surveying.specs.Checks.{other_sides}
use Rattle.surveying.specs.Turns.{cells_of}
use Rattle.surveying.proofs.Charting.{tile_is}
use Rattle.surveying.proofs.Telling.{tile_found, roomy, scratch_left, tells_rest}
use Rattle.surveying.proofs.survey.survey_tile.Goals as goal

pub slice_bounds-scratch-end : goal.slice_bounds-scratch-end
slice_bounds-scratch-end g c =
    let a = area_of c.in_ok-block.block in
    let room = roomy (cells_of a) (border (height a) (width a)) c.args.scratch.now c.if-is_short.ensures in
    let same : c.height.result * c.width.result ≡ cells_of a = (λ i. c.height.ensures i * c.width.ensures i) in
    let low : c.height.result * c.width.result ≤ length c.args.scratch.now.marks.now = omega (arith, same, room.marks) in search rules

pub slice_bounds-scratch-end-6 : goal.slice_bounds-scratch-end-6
slice_bounds-scratch-end-6 g c =
    let a = area_of c.in_ok-block.block in
    let room = roomy (cells_of a) (border (height a) (width a)) c.args.scratch.now c.if-is_short.ensures in
    let low : c.mouths.result ≤ length c.args.scratch.now.joins.now = omega (arith, c.mouths.ensures, room.joins) in search rules

pub chart-requires : goal.chart-requires
chart-requires g c =
    let p = plan_of c.args.cuts.now in
    let t = c.args.tile in
    let a = area_of c.in_ok-block.block in
    let found = tile_found p t a c.in_ok-block.ensures.told in
    let is = tile_is p t a (tile_at p t) found c.in_ok-block.ensures.told in
    let room = roomy (cells_of a) (border (height a) (width a)) c.args.scratch.now c.if-is_short.ensures in
    let same : c.height.result * c.width.result ≡ cells_of a = (λ i. c.height.ensures i * c.width.ensures i) in
    record {
      tile = found;
      tables = sym c.if-tables_short.ensures;
      sides = search rules;
      marks = length-take-le (c.height.result * c.width.result) c.args.scratch.now.marks.now (omega (arith, same, room.marks)) ∙ same ∙ ap cells_of is;
      room = ap (λ z. short (cells_of z) c.args.scratch.now.levels.now c.args.scratch.now.origins.now c.args.scratch.now.heap.now) (sym is) ∙ room.cells;
      labels = length-take-le c.mouths.result c.args.scratch.now.joins.now (omega (arith, c.mouths.ensures, room.joins)) ∙ c.mouths.ensures ∙ ap (λ z. border (height z) (width z)) is;
    }

pub returns : goal.returns
returns g c =
    let p = plan_of c.args.cuts.now in
    let t = c.args.tile in
    let m = g.S.Sheet.meaning c.args.source.now in
    let a = area_of c.in_ok-block.block in
    let found = tile_found p t a c.in_ok-block.ensures.told in
    let is = tile_is p t a (tile_at p t) found c.in_ok-block.ensures.told in
    let same : false ≡ other_sides p m = search rules in
    record {
      told = tells_rest p m t (length c.args.mouths.now) (length c.args.passes.now) c.args.scratch.now (lt-leb (tiles p) t found) c.if-tables_short.ensures same a is c.if-is_short.ensures _ c.chart.ensures.told;
      leaves = c.chart.ensures.leaves;
      scratch = scratch_left _ _ _ _ c.chart.result c.chart.ensures.told;
      loans = record { marks = refl; levels = refl; origins = refl; heap = refl; joins = refl };
    }
