use Rattle.std.proofs.Common.{rules, ◌≡◌, ◌+◌, ◌-◌, ◌*◌, ◌<◌, length, get_or, Some, None, ap, ◌∙◌, arith}
use Rattle.std.proofs.lemmas.List.{get_or_read}
use Rattle.tiles.specs.Plans.{area_of}
use Rattle.tiles.specs.Mouths.{mouth_index}
use Rattle.tiles.proofs.Indices.{index_apart}
use Rattle.tables.specs.Records.{mouth_with}
use Rattle.surveying.specs.Blocks.{cell_number}
use Rattle.surveying.proofs.Marking.{number_in}
use Rattle.surveying.proofs.blocks.mouth_record.Goals as goal

pub offset_bounds-marks-number : goal.offset_bounds-marks-number
offset_bounds-marks-number g c =
    let b = c.args.block.now in
    let y = c.unwrap-row.result.0 in
    let at : mouth_index (area_of b) y c.unwrap-row.result.1 ≡ Some c.args.index = search rules in
    let n = number_in (area_of b) y c.unwrap-row.result.1 c.args.index at in
    let same = ap (λ w. (y - b.top) * w) c.width.ensures in
    omega (arith, n.2, same, c.requires.marks)

pub bounds-marks-number : goal.bounds-marks-number
bounds-marks-number g c =
    let b = c.args.block.now in
    let y = c.unwrap-row.result.0 in
    let at : mouth_index (area_of b) y c.unwrap-row.result.1 ≡ Some c.args.index = search rules in
    let n = number_in (area_of b) y c.unwrap-row.result.1 c.args.index at in
    let same = ap (λ w. (y - b.top) * w) c.width.ensures in
    omega (arith, n.2, same, c.requires.marks)

pub returns : goal.returns
returns g c = λ i j at.
    let b = c.args.block.now in
    let xs = c.args.marks.now in
    let y = c.unwrap-row.result.0 in
    let z = c.unwrap-row.result.1 in
    let here : mouth_index (area_of b) y z ≡ Some c.args.index = search rules in
    let n = number_in (area_of b) y z c.args.index here in
    let same = ap (λ w. (y - b.top) * w + (z - b.left)) c.width.ensures in
    let one = index_apart (area_of b) y z i j c.args.index here at in
    let inside : (y - b.top) * c.width.result + (z - b.left) < length xs = omega (arith, n.2, same, c.requires.marks) in
    let read = get_or_read xs ((y - b.top) * c.width.result + (z - b.left)) c.index-marks-number.result inside c.index-marks-number.is g.M.Mark.lowest in
    ap (λ m. mouth_with m None)
    (read ∙ ap (λ k. get_or xs k g.M.Mark.lowest) same ∙ (λ s. get_or xs (cell_number (area_of b) (one.0 s) (one.1 s)) g.M.Mark.lowest))
