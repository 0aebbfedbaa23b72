use Rattle.terrain.specs.Terrains.{kind_of}
use Rattle.seams.proofs.Theorems.{surveys_end}
use Rattle.seams.proofs.surveys_end.Goals as goal

pub returns : goal.returns
returns g c =
    surveys_end (kind_of g.M.Order g.M.Mark.lowest) (record { total = g.met.M.Order.total; transitive = g.met.M.Order.transitive; antisymmetric = g.met.M.Order.antisymmetric })
