use Rattle.std.proofs.Common.{[], ap, ◌∙◌}
use Rattle.marks.specs.Orders.{OrderLaws}
use Rattle.marks.specs.Refusals.{accepted}
use Rattle.sheets.proofs.Checks.{passes}
use Rattle.terrain.specs.Terrains.{kind_of}
use Rattle.terrain.proofs.Fillings.{Done, done_from, none_dead, sheet_filled, raised_count}
use Rattle.terrain.proofs.fill.fill.Goals as goal

pub returns-clause-told : goal.returns-clause-told
returns-clause-told g c =
    let κ = kind_of g.S.Mark.Order g.S.Mark.Mark.lowest in
    let O : OrderLaws κ.leb = record { total = g.met.S.Mark.Order.total; transitive = g.met.S.Mark.Order.transitive; antisymmetric = g.met.S.Mark.Order.antisymmetric } in
    let m = g.S.Sheet.meaning c.args.source.now in
    let h = g.T.Sheet.meaning c.args.target.now in
    let h' = g.T.Sheet.meaning c.write_block.new.target in
    let xs = c.read_block.new.marks in
    let ys = c.raise-raised.new.marks in
    let ls = c.flood_cells.new.levels in
    let is-rows = c.sides-rows.ensures.rows in
    let is-cols = c.sides-rows.ensures.cols in
    let done : Done κ m h h' xs ys ls = done_from κ m h h' xs ys ls c.sides-rows.result.rows c.sides-rows.result.cols is-rows is-cols (c.read_block.auto.marks ∙ c.requires.marks) c.raise-raised.auto.marks c.in_ok-read_block.ensures.leaves c.in_ok-flood_cells.ensures.leaves.0 c.raise-raised.ensures.marks c.in_ok-write_block.ensures.leaves in
    passes _ 7 [] _ _ (none_dead m c.sides-rows.result.rows c.sides-rows.result.cols _ is-rows is-cols c.in_ok-read_block.ensures.told) (ap accepted (c.raise-raised.ensures.count ∙ raised_count κ O g.met.S.Mark.Mark.least m h h' xs ys ls done))

pub returns-clause-leaves : goal.returns-clause-leaves
returns-clause-leaves g c =
    let κ = kind_of g.S.Mark.Order g.S.Mark.Mark.lowest in
    let O : OrderLaws κ.leb = record { total = g.met.S.Mark.Order.total; transitive = g.met.S.Mark.Order.transitive; antisymmetric = g.met.S.Mark.Order.antisymmetric } in
    let m = g.S.Sheet.meaning c.args.source.now in
    let h = g.T.Sheet.meaning c.args.target.now in
    let h' = g.T.Sheet.meaning c.write_block.new.target in
    let xs = c.read_block.new.marks in
    let ys = c.raise-raised.new.marks in
    let ls = c.flood_cells.new.levels in
    let is-rows = c.sides-rows.ensures.rows in
    let is-cols = c.sides-rows.ensures.cols in
    let done : Done κ m h h' xs ys ls = done_from κ m h h' xs ys ls c.sides-rows.result.rows c.sides-rows.result.cols is-rows is-cols (c.read_block.auto.marks ∙ c.requires.marks) c.raise-raised.auto.marks c.in_ok-read_block.ensures.leaves c.in_ok-flood_cells.ensures.leaves.0 c.raise-raised.ensures.marks c.in_ok-write_block.ensures.leaves in
    sheet_filled κ O g.met.S.Mark.Mark.least m h h' xs ys ls done
