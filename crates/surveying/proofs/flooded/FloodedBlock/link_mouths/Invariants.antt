use Rattle.std.proofs.Common.{length}
use Rattle.std.specs.List.{AllByRecursion}
use Rattle.flood.specs.Heaps.{contents}
use Rattle.terrain.specs.Terrains.{kind_of}
use Rattle.tiles.specs.Plans.{area_of}
use Rattle.surveying.specs.Turns.{Flooded, Besides, Stands, Sofar}
use Rattle.surveying.proofs.flooded.FloodedBlock.link_mouths.Given as goal

abbrev pub invariant-loop-from : goal.invariant-loop-from
invariant-loop-from g l =
    let κ = kind_of g.M.Order g.M.Mark.lowest in
    let a = area_of l.self.block in
    AllByRecursion (Stands κ a l.self.levels.now l.self.origins.now) (contents l.heap)
    × ((C : Flooded κ a l.self.levels.now l.self.origins.now) → Sofar κ a l.self.levels.now l.self.origins.now C l.first (Besides κ a l.self.levels.now l.self.origins.now (contents l.heap)) (contents l.heap) l.labels l.passes l.count)

abbrev pub decreases-loop-from : goal.decreases-loop-from
decreases-loop-from g l = length (contents l.heap)
