-- The mouths of a lawful plan, numbered tile after tile. Assumes nothing.
use Rattle.std.proofs.Common.{◌≡◌, ℕ, zero, suc, ◌+◌, ◌-◌, ◌*◌, ◌<◌, ◌≤◌, List, length, refl, ap, ◌∙◌, ⊎_elim, add-zero, add-mul, one-mul, zero-mul, add-one, arith}
use Rattle.std.proofs.lemmas.Nat.{mul-le}
use Rattle.std.proofs.lemmas.Bool.{cases_eq}
use Rattle.tiles.specs.Rules.{start, band_size, singles}
use Rattle.tiles.specs.Plans.{Plan, Lawful, abreast, tiles, tile_at, crossing, height, width}
use Rattle.tiles.specs.Mouths.{border, tile_mouths, mouth_base}
use Rattle.tiles.specs.Bandings.{row_base}
use Rattle.tiles.proofs.Rising.{rising}
use Rattle.tiles.proofs.Borders.{border_row, border_column, border_ring, border_top, before_below}
use Rattle.tiles.proofs.Bands.{band, start_past, singles_yes, singles_no, singles_few}
use Rattle.tiles.proofs.Tilings.{at_crossing, tall_band, wide_band, tiles_few}

-- one tile further
pub base_none : (p : Plan) → mouth_base p 0 ≡ 0
unfolding mouth_base
base_none p = refl

pub base_next : (p : Plan) (t : ℕ) → mouth_base p (suc t) ≡ mouth_base p t + tile_mouths p t
unfolding mouth_base
base_next p t = refl

pub base_more : (p : Plan) (t : ℕ) → mouth_base p (t + 1) ≡ mouth_base p t + tile_mouths p t
base_more p t = ap (mouth_base p) (add-one t) ∙ base_next p t

pub base_step : (p : Plan) (n : ℕ) → mouth_base p n ≤ mouth_base p (suc n)
base_step p n = omega (arith, base_next p n)

pub base_rises : (p : Plan) (s t : ℕ) → s ≤ t → mouth_base p s ≤ mouth_base p t
base_rises p = rising (mouth_base p) (base_step p)

-- the border of a rectangle of at most 64 rows and columns
pub border_few : (h w : ℕ) → 1 ≤ h → 1 ≤ w → border h w ≤ 2 * (h + w)
border_few h w a b = ⊎_elim
    (λ e. omega (arith, ap (λ k. border k w) e, border_row w))
    (λ f. ⊎_elim (λ e. omega (arith, ap (border h) e, border_column h)) (λ g. omega (arith, border_ring h w (omega arith) (omega arith))) (cases_eq w 1))
    (cases_eq h 1)

pub border_some : (h w : ℕ) → 1 ≤ h → 1 ≤ w → 1 ≤ border h w
border_some h w a b = omega (arith, before_below h w 0 0 (border_top h w 0 0 refl) (omega arith) (omega arith))

pub mouths_few : (p : Plan) (t : ℕ) → Lawful p → t < tiles p → tile_mouths p t ≤ 256
mouths_few p t l lt =
    let a = tall_band p t l lt in
    let b = wide_band p t l in
    omega (arith, border_few (height (tile_at p t)) (width (tile_at p t)) (omega (arith, a.rises)) (omega (arith, b.rises)), a.near, b.near, a.rises, b.rises)

pub mouths_some : (p : Plan) (t : ℕ) → Lawful p → t < tiles p → 1 ≤ tile_mouths p t
mouths_some p t l lt =
    border_some (height (tile_at p t)) (width (tile_at p t)) (omega (arith, (tall_band p t l lt).rises)) (omega (arith, (wide_band p t l).rises))

pub base_few : (p : Plan) (t : ℕ) → Lawful p → t ≤ tiles p → mouth_base p t ≤ 256 * t
base_few p zero l le = omega (arith, base_none p)
base_few p (suc t) l le = omega (arith, base_next p t, base_few p t l (omega arith), mouths_few p t l (omega arith))

pub base_many : (p : Plan) (t : ℕ) → Lawful p → t ≤ tiles p → t ≤ mouth_base p t
base_many p zero l le = omega arith
base_many p (suc t) l le = omega (arith, base_next p t, base_many p t l (omega arith), mouths_some p t l (omega arith))

-- along a band of rows
pub base_across : (p : Plan) (i j : ℕ) → j < abreast p → mouth_base p (i * abreast p + suc j) ≡ mouth_base p (i * abreast p + j) + border (band_size p.rows p.down i) (band_size p.cols p.across j)
base_across p i j lt =
    let e : i * abreast p + suc j ≡ suc (i * abreast p + j) = omega arith in
    ap (mouth_base p) e ∙ base_next p (i * abreast p + j) ∙ ap (λ a. mouth_base p (i * abreast p + j) + border (height a) (width a)) (at_crossing p i j lt)

pub base_column : (p : Plan) (i j : ℕ) → j < abreast p → mouth_base p (i * abreast p + (j + 1)) ≡ mouth_base p (i * abreast p + j) + border (height (crossing p i j)) (width (crossing p i j))
base_column p i j lt = ap (λ n. mouth_base p (i * abreast p + n)) (add-one j) ∙ base_across p i j lt

pub tile_mouths_lem : (p : Plan) (i j : ℕ) → j < abreast p → tile_mouths p (i * abreast p + j) ≡ border (height (crossing p i j)) (width (crossing p i j))
tile_mouths_lem p i j lt = ap (λ a. border (height a) (width a)) (at_crossing p i j lt)

-- a band of one row is all mouths
pub line_across : (p : Plan) (i j : ℕ) → Lawful p → band_size p.rows p.down i ≡ 1 → j ≤ abreast p → mouth_base p (i * abreast p + j) ≡ mouth_base p (i * abreast p) + start p.cols p.across j
line_across p i zero l e le = let none : i * abreast p + 0 ≡ i * abreast p = omega arith in omega (arith, ap (mouth_base p) none)
line_across p i (suc j) l e le =
    let w : ℕ = band_size p.cols p.across j in
    omega (arith, base_across p i j (omega arith), line_across p i j l e (omega arith), ap (λ h. border h w) e, border_row w, (band p.cols p.across j l.across (omega arith)).rises)

-- in a higher band two rows are full, and in each between a tile has two mouths, and one if it is one column wide
between_single : (side j g : ℕ) (cs : List ℕ) → band_size side cs j ≡ 1 → (2 * suc j - singles side cs (suc j)) * g ≡ (2 * j - singles side cs j) * g + g
between_single side j g cs one =
    let e : 2 * suc j - singles side cs (suc j) ≡ 2 * j - singles side cs j + 1 =
    omega (arith, singles_yes side cs j one, ap (singles side cs) (add-one j), singles_few side cs j) in
    ap (λ n. n * g) e ∙ add-mul (2 * j - singles side cs j) 1 g ∙ ap (λ n. (2 * j - singles side cs j) * g + n) (one-mul g)

between_wide : (side j g : ℕ) (cs : List ℕ) → (band_size side cs j ≡ 1 → ⊥) → (2 * suc j - singles side cs (suc j)) * g ≡ (2 * j - singles side cs j) * g + 2 * g
between_wide side j g cs more =
    let e : 2 * suc j - singles side cs (suc j) ≡ 2 * j - singles side cs j + 2 =
    omega (arith, singles_no side cs j more, ap (singles side cs) (add-one j), singles_few side cs j) in
    ap (λ n. n * g) e ∙ add-mul (2 * j - singles side cs j) 2 g

pub ring_across : (p : Plan) (i j : ℕ) → Lawful p → 2 ≤ band_size p.rows p.down i → j ≤ abreast p → mouth_base p (i * abreast p + j) ≡ mouth_base p (i * abreast p) + (2 * start p.cols p.across j + (2 * j - singles p.cols p.across j) * (band_size p.rows p.down i - 2))
ring_across p i zero l e le =
    let none : i * abreast p + 0 ≡ i * abreast p = omega arith in
    let few : 0 - singles p.cols p.across 0 ≡ 0 = omega arith in
    omega (arith, ap (mouth_base p) none, ap (λ n. n * (band_size p.rows p.down i - 2)) few, zero-mul (band_size p.rows p.down i - 2))
ring_across p i (suc j) l e le =
    let h : ℕ = band_size p.rows p.down i in
    let w : ℕ = band_size p.cols p.across j in
    let b = band p.cols p.across j l.across (omega arith) in
    let here = base_across p i j (omega arith) in
    let so_far = ring_across p i j l e (omega arith) in
    ⊎_elim
    (λ one. omega (arith, here, so_far, b.rises, between_single p.cols j (h - 2) p.across one, ap (border h) one, border_column h))
    (λ more. omega (arith, here, so_far, b.rises, between_wide p.cols j (h - 2) p.across more, border_ring h w e (omega (arith, b.rises, more))))
    (cases_eq w 1)

-- so the mouths of a whole band of rows
pub row_end : (p : Plan) (i : ℕ) → (i + 1) * abreast p ≡ i * abreast p + abreast p
row_end p i = add-mul i 1 (abreast p) ∙ ap (λ n. i * abreast p + n) (one-mul (abreast p))

pub line_row : (p : Plan) (i : ℕ) → Lawful p → band_size p.rows p.down i ≡ 1 → mouth_base p ((i + 1) * abreast p) ≡ mouth_base p (i * abreast p) + p.cols
line_row p i l e =
    omega (arith, ap (mouth_base p) (row_end p i), line_across p i (abreast p) l e (omega arith), start_past p.cols p.across (abreast p) (omega arith))

pub ring_row : (p : Plan) (i : ℕ) → Lawful p → 2 ≤ band_size p.rows p.down i → mouth_base p ((i + 1) * abreast p) ≡ mouth_base p (i * abreast p) + (2 * p.cols + (2 * abreast p - singles p.cols p.across (abreast p)) * (band_size p.rows p.down i - 2))
ring_row p i l e =
    omega (arith, ap (mouth_base p) (row_end p i), ring_across p i (abreast p) l e (omega arith), start_past p.cols p.across (abreast p) (omega arith))

pub row_none : (p : Plan) → row_base p 0 ≡ 0
row_none p = ap (mouth_base p) (zero-mul (abreast p)) ∙ base_none p

pub row_start : (p : Plan) (i : ℕ) → mouth_base p (i * abreast p + 0) ≡ row_base p i
row_start p i = ap (mouth_base p) (add-zero (i * abreast p))

pub row_over : (p : Plan) (i : ℕ) → row_base p (i + 1) ≡ mouth_base p (i * abreast p + abreast p)
row_over p i = ap (mouth_base p) (row_end p i)

-- all numbers are small
pub base_small : (p : Plan) (t : ℕ) → Lawful p → t ≤ tiles p → mouth_base p t ≤ 262144
base_small p t l le = omega (arith, base_few p t l le, tiles_few p l)

pub row_small : (p : Plan) (i : ℕ) → Lawful p → i ≤ length p.down + 1 → row_base p i ≤ 262144
row_small p i l le = base_small p (i * abreast p) l (mul-le i (abreast p) (length p.down + 1) (abreast p) le (omega arith))

pub column_small : (p : Plan) (i j : ℕ) → Lawful p → i ≤ length p.down → j ≤ abreast p → mouth_base p (i * abreast p + j) ≤ 262144
column_small p i j l li lj = omega (arith, base_rises p (i * abreast p + j) (i * abreast p + abreast p) (omega arith), row_over p i, row_small p (i + 1) l (omega arith))
