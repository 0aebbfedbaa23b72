use Rattle.terrain.specs.Terrains.{kind_of}
use Rattle.tiles.specs.Plans.{area_of}
use Rattle.surveying.specs.Turns.{GoesOn}
use Rattle.surveying.proofs.flooded.FloodedBlock.look_along.Given as goal

abbrev pub invariant-loop-cell : goal.invariant-loop-cell
invariant-loop-cell g l =
    GoesOn (kind_of g.M.Order g.M.Mark.lowest) (area_of l.self.block) l.self.levels.now l.self.origins.now l.first l.from l.start l.initial.labels l.initial.passes l.initial.count l.cell l.labels l.passes l.count
