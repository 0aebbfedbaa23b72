use Rattle.terrain.specs.Terrains.{kind_of}
use Rattle.seams.proofs.Theorems.{mouths_settle}
use Rattle.seams.proofs.mouths_settle.Goals as goal

pub returns : goal.returns
returns g c =
    mouths_settle (kind_of g.M.Order g.M.Mark.lowest) (record { total = g.met.M.Order.total; transitive = g.met.M.Order.transitive; antisymmetric = g.met.M.Order.antisymmetric })
