use Rattle.std.proofs.Common.{◌≤◌}
use Rattle.flood.specs.Heaps.{contents, room}
use Rattle.terrain.specs.Terrains.{kind_of}
use Rattle.tiles.specs.Plans.{area_of}
use Rattle.surveying.specs.Turns.{cells_of, Lined}
use Rattle.surveying.proofs.flooded.FloodedBlock.line_up.Given as goal

abbrev pub invariant-loop-node : goal.invariant-loop-node
invariant-loop-node g l =
    (l.heap.len ≤ l.node)
    × (cells_of (area_of l.self.block) ≤ room l.heap)
    × Lined (kind_of g.M.Order g.M.Mark.lowest) (area_of l.self.block) l.self.levels.now l.self.origins.now l.node (contents l.heap)
