use Rattle.terrain.specs.Terrains.{kind_of}
use Rattle.terrain.proofs.Fillings.{sills_fill}
use Rattle.terrain.proofs.fill.fill_sheet.Goals as goal

pub returns-then-ne-clause-surface : goal.returns-then-ne-clause-surface
returns-then-ne-clause-surface g c = sills_fill (kind_of g.S.Mark.Order g.S.Mark.Mark.lowest) (record { total = g.met.S.Mark.Order.total; transitive = g.met.S.Mark.Order.transitive; antisymmetric = g.met.S.Mark.Order.antisymmetric }) (g.S.Sheet.meaning c.args.source.now)

pub returns-then-is_short-clause-surface : goal.returns-then-is_short-clause-surface
returns-then-is_short-clause-surface g c = sills_fill (kind_of g.S.Mark.Order g.S.Mark.Mark.lowest) (record { total = g.met.S.Mark.Order.total; transitive = g.met.S.Mark.Order.transitive; antisymmetric = g.met.S.Mark.Order.antisymmetric }) (g.S.Sheet.meaning c.args.source.now)

pub returns-clause-surface : goal.returns-clause-surface
returns-clause-surface g c = sills_fill (kind_of g.S.Mark.Order g.S.Mark.Mark.lowest) (record { total = g.met.S.Mark.Order.total; transitive = g.met.S.Mark.Order.transitive; antisymmetric = g.met.S.Mark.Order.antisymmetric }) (g.S.Sheet.meaning c.args.source.now)
