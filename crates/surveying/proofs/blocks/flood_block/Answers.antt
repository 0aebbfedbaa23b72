use Rattle.std.proofs.Common.{◌≡◌, ◌*◌, ◌≤◌, false, [], length, sym, ap, ◌∙◌, arith}
use Rattle.marks.specs.Refusals.{told}
use Rattle.sheets.proofs.Checks.{passes}
use Rattle.flood.specs.Calls.{short}
use Rattle.terrain.specs.Terrains.{kind_of}
use Rattle.tiles.specs.Plans.{area_of}
use Rattle.surveying.specs.Blocks.{dead_in}
use Rattle.surveying.specs.Turns.{cells_of}
use Rattle.surveying.proofs.Marking.{floods, none_dead, flooded_left}
use Rattle.surveying.proofs.blocks.flood_block.Goals as goal

pub returns : goal.returns
returns g c =
    let κ = kind_of g.S.Mark.Order g.S.Mark.Mark.lowest in
    let m = g.S.Sheet.meaning c.args.source.now in
    let b = c.args.block.now in
    let h = c.height.result in
    let w = c.width.result in
    let same : h * w ≡ cells_of (area_of b) = (λ i. c.height.ensures i * c.width.ensures i) in
    let tall : (1 ≤ h) × (h ≤ 2048) = (omega (arith, c.height.ensures, b.tall), omega (arith, c.height.ensures, b.low)) in
    let wide : (1 ≤ w) × (w ≤ 2048) = (omega (arith, c.width.ensures, b.wide), omega (arith, c.width.ensures, b.near)) in
    let long : length c.read_block.new.marks ≡ h * w = c.read_block.auto.marks ∙ c.requires.marks ∙ sym same in
    let room : short (h * w) c.args.levels.now c.args.origins.now c.args.heap.now ≡ false = ap (λ n. short n c.args.levels.now c.args.origins.now c.args.heap.now) same ∙ c.requires.room in
    record {
      told = passes (dead_in m (area_of b)) 7 [] tt (told c.flood_cells.result) (none_dead κ m (area_of b) h w c.height.ensures c.width.ensures (length c.args.marks.now) c.in_ok-read_block.ensures.told)
          (c.flood_cells.ensures.told ∙ floods h w (length c.read_block.new.marks) c.args.levels.now c.args.origins.now c.args.heap.now tall wide long room);
      leaves = flooded_left κ m (area_of b) h w c.height.ensures c.width.ensures c.read_block.new.marks _ _ _ _ _ _ c.flood_cells.result c.in_ok-read_block.ensures.leaves c.flood_cells.ensures.leaves c.flood_cells.ensures.origins;
    }
