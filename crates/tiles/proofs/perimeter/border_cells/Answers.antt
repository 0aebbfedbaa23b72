use Rattle.std.proofs.Common.{sym, ap, ◌∙◌, arith}
use Rattle.tiles.specs.Mouths.{border}
use Rattle.tiles.proofs.Borders.{border_row, border_column, border_ring}
use Rattle.tiles.proofs.perimeter.border_cells.Goals as goal

pub returns-then-h-eq1 : goal.returns-then-h-eq1
returns-then-h-eq1 c = sym (ap (λ h. border h c.args.sides.cols) c.if-h-eq1.true ∙ border_row c.args.sides.cols)

pub returns-then-w-eq1 : goal.returns-then-w-eq1
returns-then-w-eq1 c = sym (ap (border c.args.sides.rows) c.if-w-eq1.true ∙ border_column c.args.sides.rows)

pub returns : goal.returns
returns c = sym (border_ring c.args.sides.rows c.args.sides.cols (omega arith) (omega arith))
