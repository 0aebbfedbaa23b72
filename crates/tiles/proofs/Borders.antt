-- Counting the border cells of a rectangle. Assumes nothing.
use Rattle.std.proofs.Common.{◌≡◌, ℕ, zero, suc, ◌+◌, ◌-◌, ◌*◌, ◌<◌, ◌≤◌, true, false, cond, ◌||◌, eqb, ◌⊎◌, Some, None, refl, ap, ◌∙◌, ⊎_elim, arith}
use Rattle.std.proofs.lemmas.Bool.{eq-eqb, ne_eqb, or_left, or_right, cond-true, cases_order, cases_Bool}
use Rattle.tiles.specs.Mouths.{on_border, border_in_row, border_above, border_before, border}
use Rattle.tiles.proofs.Rising.{rising, crossed}

-- which cells lie on the border
pub border_top : (h w y x : ℕ) → y ≡ 0 → on_border h w y x ≡ true
border_top h w y x e = rw (eq-eqb y 0 e)

pub border_bottom : (h w y x : ℕ) → y + 1 ≡ h → on_border h w y x ≡ true
border_bottom h w y x e = or_left _ _ (or_right (eqb y 0) _ (eq-eqb (y + 1) h e))

pub border_left : (h w y x : ℕ) → x ≡ 0 → on_border h w y x ≡ true
border_left h w y x e = or_right (eqb y 0 || eqb (y + 1) h) _ (or_left _ _ (eq-eqb x 0 e))

pub border_right : (h w y x : ℕ) → x + 1 ≡ w → on_border h w y x ≡ true
border_right h w y x e = or_right (eqb y 0 || eqb (y + 1) h) _ (or_right (eqb x 0) _ (eq-eqb (x + 1) w e))

pub inner : (h w y x : ℕ) → (y ≡ 0 → ⊥) → (y + 1 ≡ h → ⊥) → (x ≡ 0 → ⊥) → (x + 1 ≡ w → ⊥) → on_border h w y x ≡ false
inner h w y x a b c d = rw (ne_eqb y 0 a, ne_eqb (y + 1) h b, ne_eqb x 0 c, ne_eqb (x + 1) w d)

-- one more cell of a row
row_yes : (h w y x : ℕ) → on_border h w y x ≡ true → border_in_row h w y (suc x) ≡ border_in_row h w y x + 1
unfolding border_in_row
row_yes h w y x e = ap (λ b. border_in_row h w y x + cond b 1 0) e

row_no : (h w y x : ℕ) → on_border h w y x ≡ false → border_in_row h w y (suc x) ≡ border_in_row h w y x + 0
unfolding border_in_row
row_no h w y x e = ap (λ b. border_in_row h w y x + cond b 1 0) e

row_none : (h w y : ℕ) → border_in_row h w y 0 ≡ 0
unfolding border_in_row
row_none h w y = refl

pub above_none : (h w : ℕ) → border_above h w 0 ≡ 0
unfolding border_above
above_none h w = refl

pub above_more : (h w y : ℕ) → border_above h w (suc y) ≡ border_above h w y + border_in_row h w y w
unfolding border_above
above_more h w y = refl

-- the first and the last row are full
full : (h w y x : ℕ) → ((x : ℕ) → on_border h w y x ≡ true) → border_in_row h w y x ≡ x
full h w y zero e = row_none h w y
full h w y (suc x) e = omega (arith, row_yes h w y x (e x), full h w y x e)

pub full_top : (h w y x : ℕ) → y ≡ 0 → border_in_row h w y x ≡ x
full_top h w y x e = full h w y x (λ x. border_top h w y x e)

pub full_bottom : (h w y x : ℕ) → y + 1 ≡ h → border_in_row h w y x ≡ x
full_bottom h w y x e = full h w y x (λ x. border_bottom h w y x e)

-- a row between has its first cell and its last
pub mid_some : (h w y x : ℕ) → 1 ≤ y → y + 1 < h → 1 ≤ x → x < w → border_in_row h w y x ≡ 1
mid_some h w y zero a b c d = absurd (omega arith)
mid_some h w y (suc zero) a b c d = omega (arith, row_yes h w y 0 (border_left h w y 0 refl), row_none h w y)
mid_some h w y (suc (suc x)) a b c d =
    omega (arith, row_no h w y (suc x) (inner h w y (suc x) (λ e. omega arith) (λ e. omega arith) (λ e. omega arith) (λ e. omega arith)), mid_some h w y (suc x) a b (omega arith) (omega arith))

pub mid_all : (h w y : ℕ) → 1 ≤ y → y + 1 < h → 2 ≤ w → border_in_row h w y w ≡ 2
mid_all h zero y a b c = absurd (omega arith)
mid_all h (suc w) y a b c =
    omega (arith, row_yes h (suc w) y w (border_right h (suc w) y w (omega arith)), mid_some h (suc w) y w a b (omega arith) (omega arith))

-- a rectangle of one column is all border
pub above_column : (h y : ℕ) → border_above h 1 y ≡ y
above_column h zero = above_none h 1
above_column h (suc y) = omega (arith, above_more h 1 y, above_column h y, row_yes h 1 y 0 (border_left h 1 y 0 refl), row_none h 1 y)

-- the first row is full, and each row between has two
pub above_mid : (h w y : ℕ) → 2 ≤ w → y + 2 ≤ h → border_above h w (suc y) ≡ w + 2 * y
above_mid h w zero a b = omega (arith, above_more h w 0, above_none h w, full_top h w 0 w refl)
above_mid h w (suc y) a b = omega (arith, above_more h w (suc y), above_mid h w y a (omega arith), mid_all h w (suc y) (omega arith) (omega arith) a)

pub border_row : (w : ℕ) → border 1 w ≡ w
border_row w = omega (arith, above_more 1 w 0, above_none 1 w, full_top 1 w 0 w refl)

pub border_column : (h : ℕ) → border h 1 ≡ h
border_column h = above_column h h

pub border_ring : (h w : ℕ) → 2 ≤ h → 2 ≤ w → border h w ≡ 2 * (h + w) - 4
border_ring zero w a b = absurd (omega arith)
border_ring (suc zero) w a b = absurd (omega arith)
border_ring (suc (suc g)) w a b =
    omega (arith, above_more (suc (suc g)) w (suc g), above_mid (suc (suc g)) w g b (omega arith), full_bottom (suc (suc g)) w (suc g) w (omega arith))

-- the counts rise
row_rises : (h w y : ℕ) (x z : ℕ) → x ≤ z → border_in_row h w y x ≤ border_in_row h w y z
unfolding border_in_row
row_rises h w y = rising (border_in_row h w y) (λ n. omega arith)

pub above_rises : (h w : ℕ) (y z : ℕ) → y ≤ z → border_above h w y ≤ border_above h w z
above_rises h w = rising (border_above h w) (λ n. omega (arith, above_more h w n))

-- a border cell counts before every later cell
right_of : (h w y x z : ℕ) → on_border h w y x ≡ true → x < z → border_before h w y x < border_before h w y z
right_of h w y x z e lt = omega (arith, row_yes h w y x e, row_rises h w y (suc x) z lt)

below_it : (h w y x z : ℕ) → on_border h w y x ≡ true → x < w → y < z → border_before h w y x < border_above h w z
below_it h w y x z e lt down = omega (arith, right_of h w y x w e lt, above_more h w y, above_rises h w (suc y) z down)

pub before_below : (h w y x : ℕ) → on_border h w y x ≡ true → y < h → x < w → border_before h w y x < border h w
before_below h w y x e down lt = below_it h w y x h e lt down

pub before_reading : (h w y x k z : ℕ) → on_border h w y x ≡ true → x < w → (y < k) ⊎ ((y ≡ k) × (x < z)) → border_before h w y x < border_before h w k z
before_reading h w y x k z e lx later = ⊎_elim
    (λ down. omega (arith, below_it h w y x k e lx down))
    (λ right. omega (arith, right_of h w y x z e right.1, ap (λ v. border_before h w v z) right.0))
    later

-- so no two border cells have the same number
pub before_apart : (h w y x k z : ℕ) → on_border h w y x ≡ true → on_border h w k z ≡ true → x < w → z < w → border_before h w y x ≡ border_before h w k z → (y ≡ k) × (x ≡ z)
before_apart h w y x k z a b lx lz same =
    ⊎_elim
    (λ ey. ⊎_elim (λ ex. (ey, ex)) (⊎_elim
    (λ lt. absurd (omega (arith, right_of h w y x z a lt, ap (λ v. border_before h w v z) ey)))
    (λ lt. absurd (omega (arith, right_of h w k z x b lt, ap (λ v. border_before h w v x) ey)))) (cases_order x z))
    (⊎_elim
    (λ lt. absurd (omega (arith, below_it h w y x k a lx lt)))
    (λ lt. absurd (omega (arith, below_it h w k z y b lz lt))))
    (cases_order y k)

-- how many come before a border cell
pub first_row : (h w y x : ℕ) → y ≡ 0 → border_before h w y x ≡ x
first_row h w y x e = omega (arith, full_top h w y x e, ap (border_above h w) e, above_none h w)

pub in_column : (h w y x : ℕ) → w ≡ 1 → x < w → border_before h w y x ≡ y
in_column h w y x e lt =
    let none : x ≡ 0 = omega arith in
    omega (arith, ap (λ v. border_above h v y) e, above_column h y, ap (border_in_row h w y) none, row_none h w y)

above_it : (h w y : ℕ) → 2 ≤ w → 1 ≤ y → y < h → border_above h w y ≡ w + 2 * (y - 1)
above_it h w zero a b c = absurd (omega arith)
above_it h w (suc y) a b c = omega (arith, above_mid h w y a (omega arith))

pub on_left : (h w y x : ℕ) → 2 ≤ w → 1 ≤ y → y < h → x ≡ 0 → border_before h w y x ≡ w + 2 * (y - 1)
on_left h w y x a b c e = omega (arith, above_it h w y a b c, ap (border_in_row h w y) e, row_none h w y)

pub on_bottom : (h w y x : ℕ) → 2 ≤ w → 1 ≤ y → y + 1 ≡ h → border_before h w y x ≡ w + 2 * (y - 1) + x
on_bottom h w y x a b e = omega (arith, above_it h w y a b (omega arith), full_bottom h w y x e)

pub on_right : (h w y x : ℕ) → 2 ≤ w → 1 ≤ y → y + 1 < h → x + 1 ≡ w → border_before h w y x ≡ w + 2 * (y - 1) + 1
on_right h w y x a b c e = omega (arith, above_it h w y a b (omega arith), mid_some h w y x b c (omega arith) (omega arith))

-- what an index is
pub index_is : (h w y x k : ℕ) → on_border h w y x ≡ true → border_before h w y x ≡ k → cond (on_border h w y x) (Some (border_before h w y x)) None ≡ Some k
index_is h w y x k e same = cond-true (on_border h w y x) _ _ e ∙ ap Some same

-- a rectangle with a border cell past its first row has more than one row
pub two_rows : (h w k : ℕ) → 1 ≤ h → w ≤ k → k < border h w → 2 ≤ h
two_rows zero w k a b c = absurd (omega arith)
two_rows (suc zero) w k a b c = absurd (omega (arith, border_row w))
two_rows (suc (suc h)) w k a b c = omega arith

-- every number below the count is that of a border cell
pub found_cell : (h w k : ℕ) → k < border h w → (y : ℕ) × (x : ℕ) × (y < h) × (x < w) × (on_border h w y x ≡ true) × (border_before h w y x ≡ k)
found_cell h w k lt =
    let r = crossed (border_above h w) k h (omega (arith, above_none h w)) lt in
    let c = crossed (border_in_row h w r.0) (k - border_above h w r.0) w (omega (arith, row_none h w r.0)) (omega (arith, above_more h w r.0, r.3, r.2)) in
    ⊎_elim
    (λ e. (r.0, c.0, r.1, c.1, e, omega (arith, row_yes h w r.0 c.0 e, c.2, c.3, r.2)))
    (λ e. absurd (omega (arith, row_no h w r.0 c.0 e, c.2, c.3)))
    (cases_Bool (on_border h w r.0 c.0))
