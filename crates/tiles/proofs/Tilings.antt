-- The tiles of a lawful plan cover the sheet. Assumes nothing.
use Rattle.std.proofs.Common.{◌≡◌, ℕ, suc, ◌+◌, ◌-◌, ◌*◌, ◌/◌, ◌%◌, ◌<◌, ◌≤◌, true, false, ◌&&◌, ltb, leb, length, Some, sym, ap, ◌∙◌, ⊎_elim, suc-mul, zero-mul, arith}
use Rattle.std.proofs.lemmas.Bool.{ltb-true, ltb-false, leb-true, lt-ltb, le-leb, and_parts, and_from, or_parts, cond-true, cases_lt}
use Rattle.std.proofs.lemmas.Nat.{div-mul-add, mod-mul-add, div-add-mod', mul-add-lt, mul-le, div_below, mod_below}
use Rattle.tiles.specs.declared.cuts.CutList.{CutList}
use Rattle.tiles.specs.declared.places.Spot.{Spot}
use Rattle.tiles.specs.Rules.{side_outside, start, band_of}
use Rattle.tiles.specs.Plans.{Plan, Lawful, Area, plan_of, abreast, tiles, tile_at, tile_of, crossing, holds, on_sheet, spot_of}
use Rattle.tiles.specs.Laws.{Tiled}
use Rattle.tiles.proofs.Bands.{Band, band, band_few, band_low, band_high, band_is, lawful_few, start_below, start_past}

-- the plan of a cut list keeps the rules
pub lawful_plan : (c : CutList) → Lawful (plan_of c)
lawful_plan c = record { rows = c.rows.sided; cols = c.cols.sided; down = c.rows.rules; across = c.cols.rules }

pub side_below : (n : ℕ) → side_outside n ≡ false → n ≤ 2048
side_below n e = ltb-false 2048 n (or_parts (ltb n 1) (ltb 2048 n) e).1

-- a tile's number gives its bands, and these give its number
pub tile_down : (p : Plan) (i j : ℕ) → j < abreast p → (i * abreast p + j) / abreast p ≡ i
tile_down p i j lt = div-mul-add i (abreast p) j lt

pub tile_across : (p : Plan) (i j : ℕ) → j < abreast p → (i * abreast p + j) % abreast p ≡ j
tile_across p i j lt = mod-mul-add i (abreast p) j lt

pub tile_split : (p : Plan) (t : ℕ) → t / abreast p * abreast p + t % abreast p ≡ t
tile_split p t = div-add-mod' t (abreast p)

pub tile_below : (p : Plan) (i j : ℕ) → i ≤ length p.down → j < abreast p → i * abreast p + j < tiles p
tile_below p i j le lt = omega (arith, mul-add-lt i (abreast p) j (length p.down + 1) (omega arith) lt)

pub down_few : (p : Plan) (t : ℕ) → t < tiles p → t / abreast p ≤ length p.down
down_few p t lt = omega (arith, div_below t (abreast p) (length p.down + 1) (omega arith) lt)

pub across_few : (p : Plan) (t : ℕ) → t % abreast p ≤ length p.across
across_few p t = omega (arith, mod_below t (abreast p) (omega arith))

pub at_crossing : (p : Plan) (i j : ℕ) → j < abreast p → tile_at p (i * abreast p + j) ≡ crossing p i j
at_crossing p i j lt = ap (λ k. crossing p k ((i * abreast p + j) % abreast p)) (tile_down p i j lt) ∙ ap (crossing p i) (tile_across p i j lt)

-- the bands that cross in a tile
pub tall_band : (p : Plan) (t : ℕ) → Lawful p → t < tiles p → Band (tile_at p t).top (tile_at p t).bottom
tall_band p t l lt = band p.rows p.down (t / abreast p) l.down (down_few p t lt)

pub wide_band : (p : Plan) (t : ℕ) → Lawful p → Band (tile_at p t).left (tile_at p t).right
wide_band p t l = band p.cols p.across (t % abreast p) l.across (across_few p t)

-- a cell in an area
pub record Held (a : Area) (i j : ℕ) : Type 0 where
  pub above : a.top ≤ i
  pub below : i < a.bottom
  pub before : a.left ≤ j
  pub behind : j < a.right

pub held : (a : Area) (i j : ℕ) → holds a i j ≡ true → Held a i j
held a i j e =
    let p = and_parts (leb a.top i && ltb i a.bottom) (leb a.left j && ltb j a.right) e in
    let r = and_parts (leb a.top i) (ltb i a.bottom) p.0 in
    let c = and_parts (leb a.left j) (ltb j a.right) p.1 in
    record { above = leb-true _ _ r.0; below = ltb-true _ _ r.1; before = leb-true _ _ c.0; behind = ltb-true _ _ c.1 }

pub holding : (a : Area) (i j : ℕ) → Held a i j → holds a i j ≡ true
holding a i j h =
    and_from (leb a.top i && ltb i a.bottom) (leb a.left j && ltb j a.right)
    (and_from (leb a.top i) (ltb i a.bottom) (le-leb _ _ h.above) (lt-ltb _ _ h.below))
    (and_from (leb a.left j) (ltb j a.right) (le-leb _ _ h.before) (lt-ltb _ _ h.behind))

-- the tile of a cell
pub column_of : (p : Plan) (j : ℕ) → band_of p.across j < abreast p
column_of p j = omega (arith, band_few p.across j)

pub tile_exists : (p : Plan) (i j : ℕ) → tile_of p i j < tiles p
tile_exists p i j = tile_below p (band_of p.down i) (band_of p.across j) (band_few p.down i) (column_of p j)

pub tile_at_lem : (p : Plan) (i j : ℕ) → tile_at p (tile_of p i j) ≡ crossing p (band_of p.down i) (band_of p.across j)
tile_at_lem p i j = at_crossing p (band_of p.down i) (band_of p.across j) (column_of p j)

pub tile_holds : (p : Plan) (i j : ℕ) → i < p.rows → j < p.cols → holds (tile_at p (tile_of p i j)) i j ≡ true
tile_holds p i j li lj =
    ap (λ a. holds a i j) (tile_at_lem p i j)
    ∙ holding (crossing p (band_of p.down i) (band_of p.across j)) i j (record {
      above = band_low p.rows p.down i;
      below = band_high p.rows p.down i li;
      before = band_low p.cols p.across j;
      behind = band_high p.cols p.across j lj;
    })

pub tile_once : (p : Plan) (i j t : ℕ) → Lawful p → holds (tile_at p t) i j ≡ true → t ≡ tile_of p i j
tile_once p i j t l e =
    let h = held (tile_at p t) i j e in
    let d : t / abreast p ≡ band_of p.down i = band_is p.rows p.down (t / abreast p) i l.down h.above h.below in
    let a : t % abreast p ≡ band_of p.across j = band_is p.cols p.across (t % abreast p) j l.across h.before h.behind in
    sym (tile_split p t) ∙ ap (λ k. k * abreast p + t % abreast p) d ∙ ap (λ k. band_of p.down i * abreast p + k) a

pub tile_within : (p : Plan) (i j t : ℕ) → Lawful p → holds (tile_at p t) i j ≡ true → (i < p.rows) × (j < p.cols)
tile_within p i j t l e =
    let h = held (tile_at p t) i j e in (
      omega (arith, h.below, start_below p.rows p.down (suc (t / abreast p)) l.down),
      omega (arith, h.behind, start_below p.cols p.across (suc (t % abreast p)) l.across),
    )

pub tiles_few : (p : Plan) → Lawful p → tiles p ≤ 1024
tiles_few p l =
    omega (arith, mul-le (length p.down + 1) (abreast p) 32 32 (omega (arith, lawful_few p.rows p.down l.down)) (omega (arith, lawful_few p.cols p.across l.across)))

pub tiles_some : (p : Plan) → 1 ≤ tiles p
tiles_some p = omega (arith, mul-le 1 1 (length p.down + 1) (abreast p) (omega arith) (omega arith))

-- the bands of a tile, by divisions as the code has them
pub tile_bands : (p : Plan) (t m n : ℕ) → t < m → m ≡ tiles p → n ≡ abreast p → (t / n ≤ length p.down) × (t % n ≤ length p.across)
tile_bands p t m n lt em en =
    (omega (arith, down_few p t (omega arith), ap (λ k. t / k) en), omega (arith, across_few p t, ap (λ k. t % k) en))

pub tile_number : (p : Plan) (row col i j n : ℕ) → i ≡ band_of p.down row → j ≡ band_of p.across col → n ≡ abreast p → i * n + j ≡ tile_of p row col
tile_number p row col i j n ei ej en =
    ap (λ k. k * n + j) ei ∙ ap (λ k. band_of p.down row * k + j) en ∙ ap (λ k. band_of p.down row * abreast p + k) ej

pub tile_small : (p : Plan) (i j n : ℕ) → Lawful p → i ≤ length p.down → j ≤ length p.across → n ≡ abreast p → i * n + j < 1024
tile_small p i j n l li lj en = omega (arith, ap (λ k. i * k) en, tile_below p i j li (omega arith), tiles_few p l)

-- the spot of a cell of the sheet
abbrev spot_at : ℕ → ℕ → ℕ → Spot
spot_at t y x = record { tile = t; row = y; col = x }

pub spot_is : (p : Plan) (row col t a b : ℕ) → row < p.rows → col < p.cols → t ≡ tile_of p row col → a ≡ start p.rows p.down (band_of p.down row) → b ≡ start p.cols p.across (band_of p.across col) → Some (spot_at t (row - a) (col - b)) ≡ spot_of p row col
spot_is p row col t a b lr lc et ea eb =
    let top : a ≡ (tile_at p (tile_of p row col)).top = ea ∙ sym (ap (λ (x : Area). x.top) (tile_at_lem p row col)) in
    let left : b ≡ (tile_at p (tile_of p row col)).left = eb ∙ sym (ap (λ (x : Area). x.left) (tile_at_lem p row col)) in
    ap (λ n. Some (spot_at n (row - a) (col - b))) et
    ∙ ap (λ n. Some (spot_at (tile_of p row col) (row - n) (col - b))) top
    ∙ ap (λ n. Some (spot_at (tile_of p row col) (row - (tile_at p (tile_of p row col)).top) (col - n))) left
    ∙ sym (cond-true (on_sheet p row col) _ _ (and_from (ltb row p.rows) (ltb col p.cols) (lt-ltb row p.rows lr) (lt-ltb col p.cols lc)))

-- the next tile lies to the right, or begins the band below
pub next_beside : (p : Plan) (t : ℕ) → (tile_at p t).right < p.cols → tile_at p (t + 1) ≡ crossing p (t / abreast p) (suc (t % abreast p))
next_beside p t lt =
    let i = t / abreast p in
    let j = t % abreast p in
    let more : suc j < abreast p = ⊎_elim (λ h. omega arith) (λ h. absurd (omega (arith, lt, start_past p.cols p.across (suc j) (omega arith)))) (cases_lt j (length p.across)) in
    let e : t + 1 ≡ i * abreast p + suc j = omega (arith, tile_split p t) in
    ap (tile_at p) e ∙ at_crossing p i (suc j) more

pub next_below : (p : Plan) (t : ℕ) → Lawful p → (tile_at p t).right ≡ p.cols → tile_at p (t + 1) ≡ crossing p (suc (t / abreast p)) 0
next_below p t l end =
    let i = t / abreast p in
    let j = t % abreast p in
    let last : suc j ≡ abreast p = ⊎_elim
    (λ h. absurd (omega (arith, end, (band p.cols p.across (suc j) l.across (omega arith)).rises, start_below p.cols p.across (suc (suc j)) l.across)))
    (λ h. omega (arith, across_few p t))
    (cases_lt j (length p.across)) in
    let e : t + 1 ≡ suc i * abreast p + 0 = omega (arith, tile_split p t, suc-mul i (abreast p)) in
    ap (tile_at p) e ∙ at_crossing p (suc i) 0 (omega arith)

first_tile : (p : Plan) → tile_at p 0 ≡ crossing p 0 0
first_tile p =
    let e : 0 ≡ 0 * abreast p + 0 = omega (arith, zero-mul (abreast p)) in
    ap (tile_at p) e ∙ at_crossing p 0 0 (omega arith)

pub tiled : (p : Plan) → Lawful p → Tiled p
tiled p l = record {
  some = tiles_some p;
  few = tiles_few p l;
  exists = λ i j _ _. tile_exists p i j;
  covers = λ i j li lj. tile_holds p i j li lj;
  once = λ i j t _ e. tile_once p i j t l e;
  within = λ i j t _ e. tile_within p i j t l e;
  tall = λ t lt. let b = tall_band p t l lt in (omega (arith, b.rises), omega (arith, b.near));
  wide = λ t lt. let b = wide_band p t l in (omega (arith, b.rises), omega (arith, b.near));
  corner = (ap (λ (a : Area). a.top) (first_tile p), ap (λ (a : Area). a.left) (first_tile p));
  beside = λ t lt e. (ap (λ (a : Area). a.top) (next_beside p t e), ap (λ (a : Area). a.left) (next_beside p t e));
  below = λ t lt e. (ap (λ (a : Area). a.top) (next_below p t l e), ap (λ (a : Area). a.left) (next_below p t l e));
}
