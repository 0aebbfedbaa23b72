use Rattle.std.proofs.Common.{◌≡◌, ℕ, ◌+◌, ◌-◌, ◌*◌, ◌/◌, ◌<◌, ◌≤◌, refl, ap, ◌∙◌, arith}
use Rattle.tiles.specs.Mouths.{border}
use Rattle.tiles.proofs.Borders.{index_is, two_rows, border_column, border_ring, border_top, border_bottom, border_left, border_right, first_row, in_column, on_left, on_bottom, on_right}
use Rattle.tiles.proofs.perimeter.border_place.Goals as goal

pub returns-then-index-w : goal.returns-then-index-w
returns-then-index-w c =
    let h = c.args.sides.rows in
    let w = c.args.sides.cols in
    let k = c.args.index in
    record { inside = (omega arith, omega arith); value = index_is h w 0 k k (border_top h w 0 k refl) (first_row h w 0 k refl) }

pub returns-then-w-eq1 : goal.returns-then-w-eq1
returns-then-w-eq1 c =
    let h = c.args.sides.rows in
    let w = c.args.sides.cols in
    let k = c.args.index in
    let all : border h w ≡ h = ap (border h) c.if-w-eq1.true ∙ border_column h in
    record { inside = (omega arith, omega arith); value = index_is h w k 0 k (border_left h w k 0 refl) (in_column h w k 0 c.if-w-eq1.true (omega arith)) }

pub overflow_sub-h : goal.overflow_sub-h
overflow_sub-h c = two_rows c.args.sides.rows c.args.sides.cols c.args.index (omega arith) (omega arith) (omega arith)

pub overflow_sub-result-then-past-h : goal.overflow_sub-result-then-past-h
overflow_sub-result-then-past-h c = two_rows c.args.sides.rows c.args.sides.cols c.args.index (omega arith) (omega arith) (omega arith)

pub returns-then-past-h : goal.returns-then-past-h
returns-then-past-h c =
    let h = c.args.sides.rows in
    let w = c.args.sides.cols in
    let k = c.args.index in
    let tall : 2 ≤ h = two_rows h w k (omega arith) (omega arith) (omega arith) in
    let all : border h w ≡ 2 * (h + w) - 4 = border_ring h w tall (omega arith) in
    let last : h - 1 + 1 ≡ h = omega arith in
    record { inside = (omega arith, omega arith); value = index_is h w (h - 1) _ k (border_bottom h w (h - 1) _ last) (omega (arith, on_bottom h w (h - 1) (k - w - 2 * (h - 2)) (omega arith) (omega arith) last)) }

pub returns-then-past-eq0 : goal.returns-then-past-eq0
returns-then-past-eq0 c =
    let h = c.args.sides.rows in
    let w = c.args.sides.cols in
    let k = c.args.index in
    let tall : 2 ≤ h = two_rows h w k (omega arith) (omega arith) (omega arith) in
    let y : ℕ = 1 + (k - w) / 2 in
    let down : y + 1 < h = omega arith in
    record { inside = (omega arith, omega arith); value = index_is h w y 0 k (border_left h w y 0 refl) (omega (arith, on_left h w y 0 (omega arith) (omega arith) (omega arith) refl)) }

pub returns-else-past-eq0 : goal.returns-else-past-eq0
returns-else-past-eq0 c =
    let h = c.args.sides.rows in
    let w = c.args.sides.cols in
    let k = c.args.index in
    let tall : 2 ≤ h = two_rows h w k (omega arith) (omega arith) (omega arith) in
    let y : ℕ = 1 + (k - w) / 2 in
    let down : y + 1 < h = omega arith in
    let last : w - 1 + 1 ≡ w = omega arith in
    record { inside = (omega arith, omega arith); value = index_is h w y (w - 1) k (border_right h w y (w - 1) last) (omega (arith, on_right h w y (w - 1) (omega arith) (omega arith) down last)) }
