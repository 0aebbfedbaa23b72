use Rattle.std.proofs.Common.{◌*◌}
use Rattle.terrain.specs.Terrains.{kind_of}
use Rattle.tiles.specs.Plans.{area_of, width}
use Rattle.surveying.specs.Turns.{GoesOn}
use Rattle.surveying.proofs.flooded.FloodedBlock.look_around.Given as goal

abbrev pub invariant-loop-near : goal.invariant-loop-near
invariant-loop-near g l =
    GoesOn (kind_of g.M.Order g.M.Mark.lowest) (area_of l.self.block) l.self.levels.now l.self.origins.now l.first l.from 0 l.initial.labels l.initial.passes l.initial.count (l.near * width (area_of l.self.block)) l.labels l.passes l.count
