use Rattle.terrain.specs.Terrains.{kind_of}
use Rattle.terrain.proofs.Floods.{levels_left, origins_left}
use Rattle.terrain.proofs.levels.flood_cells.Goals as goal

pub returns-clause-leaves : goal.returns-clause-leaves
returns-clause-leaves g c =
    let made = c.in_ok-ground.ensures.made in
    levels_left (kind_of g.M.Order g.M.Mark.lowest) (record { total = g.met.M.Order.total; transitive = g.met.M.Order.transitive; antisymmetric = g.met.M.Order.antisymmetric }) c.args.rows c.args.cols c.args.marks.now _ _ _ _ _ _ _ _ _ made.0 made.1 made.2 c.flood.result c.flood.ensures.leaves

pub returns-clause-origins : goal.returns-clause-origins
returns-clause-origins g c =
    let made = c.in_ok-ground.ensures.made in
    origins_left (kind_of g.M.Order g.M.Mark.lowest) (record { total = g.met.M.Order.total; transitive = g.met.M.Order.transitive; antisymmetric = g.met.M.Order.antisymmetric }) c.args.rows c.args.cols c.args.marks.now _ _ _ _ _ _ _ _ _ made.0 made.1 made.2 c.flood.result c.flood.ensures.leaves
