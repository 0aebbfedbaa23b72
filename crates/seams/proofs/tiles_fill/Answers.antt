use Rattle.terrain.specs.Terrains.{kind_of}
use Rattle.seams.proofs.Theorems.{tiles_fill}
use Rattle.seams.proofs.tiles_fill.Goals as goal

pub returns : goal.returns
returns g c =
    tiles_fill (kind_of g.M.Order g.M.Mark.lowest) (record { total = g.met.M.Order.total; transitive = g.met.M.Order.transitive; antisymmetric = g.met.M.Order.antisymmetric })
