-- The listed neighbours of a cell are the cells that touch it. Assumes nothing.
use Rattle.std.specs.Prelude.{◌≡◌, ℕ, zero, suc, ◌+◌, ◌-◌, ◌*◌, ◌<◌, ◌≤◌, Bool, true, false, cond, ◌⊎◌, ◌≢◌, nat_lt, refl}
use Rattle.std.proofs.Common.{ap, ap₂, ◌∙◌, inl, inr, ⊎_elim, arith, ltb-true, ltb-false, lt-ltb, le-ltb}
use Rattle.std.proofs.lemmas.Bool.{cases_lt}
use Rattle.sheets.specs.declared.copies.Place.{Place}
use Rattle.terrain.specs.Cells.{place, Touches, InSheet}
use Rattle.terrain.specs.Neighbours.{begin, span, down, right, centre, beside, degree, neighbour}

-- a product with at most three, without a product
abbrev pub Few : ℕ → ℕ → ℕ → Type 0
Few b w p = ((b ≡ 0) × (p ≡ 0)) ⊎ (((b ≡ 1) × (p ≡ w)) ⊎ (((b ≡ 2) × (p ≡ w + w)) ⊎ ((b ≡ 3) × (p ≡ w + w + w))))

pub few : (b w : ℕ) → b ≤ 3 → Few b w (b * w)
few zero w h = inl (refl, omega arith)
few (suc zero) w h = inr (inl (refl, omega arith))
few (suc (suc zero)) w h = inr (inr (inl (refl, omega arith)))
few (suc (suc (suc zero))) w h = inr (inr (inr (refl, omega arith)))
few (suc (suc (suc (suc b)))) w h = absurd (omega arith)

-- the row d and the column r that the place k of a block stands for
abbrev pub At : ℕ → ℕ → ℕ → ℕ → Type 0
At w k d r = ((k < w) × (d ≡ 0) × (r ≡ k)) ⊎ (((w ≤ k) × (k < w + w) × (d ≡ 1) × (r ≡ k - w)) ⊎ ((w + w ≤ k) × (d ≡ 2) × (r ≡ k - (w + w))))

pub at : (w k : ℕ) → At w k (down w k) (right w k)
at w k = go (nat_lt k w) (nat_lt k (w + w)) refl refl
  where
    go : (x y : Bool) → nat_lt k w ≡ x → nat_lt k (w + w) ≡ y → At w k (down w k) (right w k)
    go true y p q = inl (ltb-true k w p, ap (λ b. cond b 0 (cond (nat_lt k (w + w)) 1 2)) p, ap (λ b. cond b k (cond (nat_lt k (w + w)) (k - w) (k - (w + w)))) p)
    go false true p q = inr (inl (ltb-false k w p, ltb-true k (w + w) q, ap₂ (λ b c. cond b 0 (cond c 1 2)) p q, ap₂ (λ b c. cond b k (cond c (k - w) (k - (w + w)))) p q))
    go false false p q = inr (inr (ltb-false k (w + w) q, ap₂ (λ b c. cond b 0 (cond c 1 2)) p q, ap₂ (λ b c. cond b k (cond c (k - w) (k - (w + w)))) p q))

-- which place of a block of h rows a row d and a column r are, and that another place is another row or column
within : (h w k p d r : ℕ) → Few h w p → At w k d r → k < p → (d < h) × (r < w)
within h w k p d r f s lt = (omega arith, omega arith)

apart : (w a b q k d r : ℕ) → Few a w q → At w k d r → b < w → (k ≢ q + b) → d ≡ a → r ≢ b
apart w a b q k d r f s lt n e g = n (omega arith)

pub beside_low : (c k : ℕ) → k < c → beside c k ≡ k
beside_low c k h = ap (λ b. cond b k (k + 1)) (lt-ltb k c h)

pub beside_high : (c k : ℕ) → c ≤ k → beside c k ≡ k + 1
beside_high c k h = ap (λ b. cond b k (k + 1)) (le-ltb k c h)

-- what is known of a block around a cell that lies in a sheet
pub record Block (rows cols i j : ℕ) : Type 0 where
  pub tall : (1 ≤ span rows i) × (span rows i ≤ 3) × (begin i + span rows i ≤ rows) × (begin i + span rows i ≤ i + 2)
  pub wide : (1 ≤ span cols j) × (span cols j ≤ 3) × (begin j + span cols j ≤ cols) × (begin j + span cols j ≤ j + 2)
  pub above : (begin i ≤ i) × (i ≤ begin i + 1) × (i < begin i + span rows i)
  pub before : (begin j ≤ j) × (j ≤ begin j + 1) × (j < begin j + span cols j)

pub block : (rows cols i j : ℕ) → i < rows → j < cols → Block rows cols i j
block rows cols i j h k = record {
  tall = (omega arith, omega arith, omega arith, omega arith);
  wide = (omega arith, omega arith, omega arith, omega arith);
  above = (omega arith, omega arith, omega arith);
  before = (omega arith, omega arith, omega arith);
}

beside_cases : (c k : ℕ) → ((k < c) × (beside c k ≡ k)) ⊎ ((c ≤ k) × (beside c k ≡ k + 1))
beside_cases c k = ⊎_elim (λ h. inl (h, beside_low c k h)) (λ h. inr (h, beside_high c k h)) (cases_lt k c)

-- two places with one row and one column are one
row_of : {c d : Place} → c ≡ d → c.row ≡ d.row
row_of e = ap (λ p. p.row) e

col_of : {c d : Place} → c ≡ d → c.col ≡ d.col
col_of e = ap (λ p. p.col) e

same_place : {c d : Place} → c.row ≡ d.row → c.col ≡ d.col → c ≡ d
same_place p q = λ i. place (p i) (q i)

neighbour_is : (cols i j k k' d r x y : ℕ) → beside (centre cols i j) k ≡ k' → down (span cols j) k' ≡ d → right (span cols j) k' ≡ r → begin i + d ≡ x → begin j + r ≡ y → neighbour cols i j k ≡ place x y
neighbour_is cols i j k k' d r x y e is-d is-r is_x is_y =
    let row : begin i + down (span cols j) (beside (centre cols i j) k) ≡ x = ap (λ n. begin i + down (span cols j) n) e ∙ ap (λ n. begin i + n) is-d ∙ is_x in
    let col : begin j + right (span cols j) (beside (centre cols i j) k) ≡ y = ap (λ n. begin j + right (span cols j) n) e ∙ ap (λ n. begin j + n) is-r ∙ is_y in
    λ m. place (row m) (col m)

module _ (rows cols i j : ℕ) (in_row : i < rows) (in_col : j < cols) where
  -- each listed neighbour lies in the sheet and touches the cell
  pub neighbour_touches : (k : ℕ) → k < degree rows cols i j → InSheet rows cols (neighbour cols i j k) × Touches (place i j) (neighbour cols i j k)
  neighbour_touches k lt =
      let B = block rows cols i j in_row in_col in
      let k' : ℕ = beside (centre cols i j) k in
      let area : Few (span rows i) (span cols j) (span rows i * span cols j) = few (span rows i) (span cols j) B.tall.1 in
      let mid : Few (i - begin i) (span cols j) ((i - begin i) * span cols j) = few (i - begin i) (span cols j) (omega arith) in
      let way = beside_cases (centre cols i j) k in
      let less : k' < span rows i * span cols j = omega arith in
      let other : k' ≡ (i - begin i) * span cols j + (j - begin j) → ⊥ = λ e. omega arith in
      let s = at (span cols j) k' in
      let inside = within (span rows i) (span cols j) k' (span rows i * span cols j) (down (span cols j) k') (right (span cols j) k') area s less in
      let differs = apart (span cols j) (i - begin i) (j - begin j) ((i - begin i) * span cols j) k' (down (span cols j) k') (right (span cols j) k') mid s (omega (arith, B.before)) other in (
        (omega (arith, B.tall, inside.0), omega (arith, B.wide, inside.1)),
        (
          omega (arith, B.above),
          omega (arith, B.above, B.tall, inside.0),
          omega (arith, B.before),
          omega (arith, B.before, B.wide, inside.1),
          λ e. differs (omega (arith, row_of e)) (omega (arith, col_of e)),
        ),
      )

  -- each cell of the sheet that touches the cell is listed
  pub touch_neighbour : (c : Place) → InSheet rows cols c → Touches (place i j) c → (k : ℕ) × (k < degree rows cols i j) × (neighbour cols i j k ≡ c)
  touch_neighbour c inside t =
      let B = block rows cols i j in_row in_col in
      let d : ℕ = c.row - begin i in
      let r : ℕ = c.col - begin j in
      let area : Few (span rows i) (span cols j) (span rows i * span cols j) = few (span rows i) (span cols j) B.tall.1 in
      let mid : Few (i - begin i) (span cols j) ((i - begin i) * span cols j) = few (i - begin i) (span cols j) (omega arith) in
      let low : Few d (span cols j) (d * span cols j) = few d (span cols j) (omega (arith, t)) in
      let k' : ℕ = d * span cols j + r in
      let less : k' < span rows i * span cols j = omega (arith, t, inside) in
      let other : k' ≡ centre cols i j → ⊥ = λ e. t.4 (same_place (omega (arith, t, inside, e)) (omega (arith, t, inside, e))) in
      let s = at (span cols j) k' in
      let is-d : down (span cols j) k' ≡ d = omega (arith, t, inside) in
      let is-r : right (span cols j) k' ≡ r = omega (arith, t, inside) in
      let back : (k : ℕ) → beside (centre cols i j) k ≡ k' → neighbour cols i j k ≡ c = λ k e.
      neighbour_is cols i j k k' d r c.row c.col e is-d is-r (omega (arith, t)) (omega (arith, t)) in
      ⊎_elim
      (λ (h : k' < centre cols i j). (k', omega arith, back k' (beside_low (centre cols i j) k' h)))
      (λ (h : centre cols i j ≤ k').
      let more : centre cols i j ≤ k' - 1 = omega (arith, λ (e : k' ≡ centre cols i j). other e) in
      (k' - 1, omega arith, back (k' - 1) (beside_high (centre cols i j) (k' - 1) more ∙ omega arith)))
      (cases_lt k' (centre cols i j))
