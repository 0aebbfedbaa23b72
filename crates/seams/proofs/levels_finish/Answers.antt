use Rattle.terrain.specs.Terrains.{kind_of}
use Rattle.seams.proofs.Theorems.{levels_finish}
use Rattle.seams.proofs.levels_finish.Goals as goal

pub returns : goal.returns
returns g c =
    levels_finish (kind_of g.M.Order g.M.Mark.lowest) (record { total = g.met.M.Order.total; transitive = g.met.M.Order.transitive; antisymmetric = g.met.M.Order.antisymmetric })
