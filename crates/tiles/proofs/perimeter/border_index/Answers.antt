use Rattle.std.proofs.Common.{sym, arith}
use Rattle.tiles.proofs.Borders.{index_is, border_top, border_bottom, border_left, border_right, first_row, in_column, on_left, on_bottom, on_right}
use Rattle.tiles.proofs.perimeter.border_index.Goals as goal

pub returns-then-y-eq0 : goal.returns-then-y-eq0
returns-then-y-eq0 c =
    let e = c.if-y-eq0.true in
    sym (index_is c.args.sides.rows c.args.sides.cols c.args.y c.args.x _ (border_top _ _ _ c.args.x e) (first_row _ _ _ c.args.x e))

pub returns-then-w-eq1 : goal.returns-then-w-eq1
returns-then-w-eq1 c =
    sym (index_is c.args.sides.rows c.args.sides.cols c.args.y c.args.x _ (border_left _ _ c.args.y c.args.x (omega arith)) (in_column c.args.sides.rows c.args.sides.cols _ c.args.x c.if-w-eq1.true (omega arith)))

pub returns-then-x-eq0 : goal.returns-then-x-eq0
returns-then-x-eq0 c =
    let e = c.if-x-eq0.true in
    sym (index_is c.args.sides.rows c.args.sides.cols c.args.y c.args.x _ (border_left _ _ c.args.y _ e) (on_left c.args.sides.rows c.args.sides.cols c.args.y c.args.x (omega arith) (omega arith) (omega arith) e))

pub returns-then-y-h : goal.returns-then-y-h
returns-then-y-h c =
    let e = c.if-y-h.true in
    sym (index_is c.args.sides.rows c.args.sides.cols c.args.y c.args.x _ (border_bottom _ _ _ c.args.x e) (on_bottom c.args.sides.rows c.args.sides.cols c.args.y c.args.x (omega arith) (omega arith) e))

pub returns-then-x-w : goal.returns-then-x-w
returns-then-x-w c =
    sym (index_is c.args.sides.rows c.args.sides.cols c.args.y c.args.x _ (border_right _ _ c.args.y c.args.x c.if-x-w.true) (on_right c.args.sides.rows c.args.sides.cols c.args.y c.args.x (omega arith) (omega arith) (omega arith) c.if-x-w.true))
