use Rattle.terrain.specs.Terrains.{kind_of}
use Rattle.tiles.specs.Plans.{area_of}
use Rattle.surveying.proofs.Marking.{Marked}
use Rattle.surveying.proofs.blocks.keep_marks.Given as goal

abbrev pub invariant-loop-index : goal.invariant-loop-index
invariant-loop-index g l = Marked (kind_of g.M.Order g.M.Mark.lowest) (area_of l.block) l.marks l.index l.mouth-items
