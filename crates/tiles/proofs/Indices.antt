-- Mouth numbers and cells go round. Assumes nothing.
use Rattle.std.proofs.Common.{◌≡◌, ℕ, suc, ◌+◌, ◌-◌, ◌*◌, ◌<◌, ◌≤◌, Bool, true, false, cond, length, Some, None, Option, sym, refl, ap, ◌∙◌, inl, inr, ⊎_elim, add-one, arith}
use Rattle.std.proofs.lemmas.Bool.{and_parts, and_from, cond-true}
use Rattle.tiles.specs.Rules.{band_of}
use Rattle.tiles.specs.Plans.{Plan, Lawful, Area, abreast, tiles, tile_at, tile_of, crossing, holds, height, width}
use Rattle.tiles.specs.Mouths.{on_border, border_before, border, mouth_in, mouth_index, mouth_base, mouths, mouth_number, is_mouth, after}
use Rattle.tiles.specs.Bandings.{row_base, InRow, InTile}
use Rattle.tiles.specs.Laws.{Before}
use Rattle.tiles.proofs.Rising.{crossed, one_step}
use Rattle.tiles.proofs.Borders.{before_below, before_apart, before_reading, found_cell}
use Rattle.tiles.proofs.Tilings.{Held, held, holding, tile_once, tile_exists, tile_at_lem, at_crossing}
use Rattle.tiles.proofs.Numberings.{base_none, base_next, base_step, base_rises, tile_mouths_lem}

cond_some : (b : Bool) (x k : ℕ) → cond b (Some x) None ≡ Some k → (b ≡ true) × (x ≡ k)
cond_some true x k e = (refl, cc)
cond_some false x k e = let z : ◌≡◌ {A = ℕ} 0 1 = cc in absurd (omega arith)

after_some : (n a : ℕ) (o : Option ℕ) → after n o ≡ Some a → (k : ℕ) × (o ≡ Some k) × (n + k ≡ a)
after_some n a None e = let z : ◌≡◌ {A = ℕ} 0 1 = cc in absurd (omega arith)
after_some n a (Some k) e = (k, refl, cc)

-- what an index says of its cell
pub record Indexed (a : Area) (i j k : ℕ) : Type 0 where
  pub cell : Held a i j
  pub edge : on_border (height a) (width a) (i - a.top) (j - a.left) ≡ true
  pub count : border_before (height a) (width a) (i - a.top) (j - a.left) ≡ k

pub indexed : (a : Area) (i j k : ℕ) → mouth_index a i j ≡ Some k → Indexed a i j k
indexed a i j k e =
    let s = cond_some (mouth_in a i j) _ k e in
    let b = and_parts (holds a i j) (on_border (height a) (width a) (i - a.top) (j - a.left)) s.0 in
    record { cell = held a i j b.0; edge = b.1; count = s.1 }

pub index_of : (a : Area) (i j k : ℕ) → Indexed a i j k → mouth_index a i j ≡ Some k
index_of a i j k x =
    cond-true (mouth_in a i j) _ _ (and_from (holds a i j) (on_border (height a) (width a) (i - a.top) (j - a.left)) (holding a i j x.cell) x.edge)
    ∙ ap Some x.count

pub index_below : (a : Area) (i j k : ℕ) → mouth_index a i j ≡ Some k → k < border (height a) (width a)
index_below a i j k e =
    let x = indexed a i j k e in
    let h = x.cell in
    omega (arith, before_below (height a) (width a) (i - a.top) (j - a.left) x.edge (omega arith) (omega arith), x.count)

pub index_apart : (a : Area) (i j m n k : ℕ) → mouth_index a i j ≡ Some k → mouth_index a m n ≡ Some k → (i ≡ m) × (j ≡ n)
index_apart a i j m n k e f =
    let x = indexed a i j k e in
    let y = indexed a m n k f in
    let g = x.cell in
    let h = y.cell in
    let same = before_apart (height a) (width a) (i - a.top) (j - a.left) (m - a.top) (n - a.left) x.edge y.edge (omega arith) (omega arith) (x.count ∙ sym y.count) in
    (omega (arith, same.0), omega (arith, same.1))

pub index_found : (a : Area) (k : ℕ) → k < border (height a) (width a) → (i : ℕ) × (j : ℕ) × (mouth_index a i j ≡ Some k)
index_found a k lt =
    let c = found_cell (height a) (width a) k lt in
    let row : a.top + c.0 - a.top ≡ c.0 = omega arith in
    let col : a.left + c.1 - a.left ≡ c.1 = omega arith in (
      a.top + c.0,
      a.left + c.1,
      index_of a (a.top + c.0) (a.left + c.1) k (record {
        cell = record { above = omega arith; below = omega (arith, c.2); before = omega arith; behind = omega (arith, c.3) };
        edge = ap (λ y. on_border (height a) (width a) y (a.left + c.1 - a.left)) row ∙ ap (on_border (height a) (width a) c.0) col ∙ c.4;
        count = ap (λ y. border_before (height a) (width a) y (a.left + c.1 - a.left)) row ∙ ap (border_before (height a) (width a) c.0) col ∙ c.5;
      }),
    )

-- a mouth's number is its tile's first and its index there
pub number_index : (p : Plan) (i j a : ℕ) → mouth_number p i j ≡ Some a → (k : ℕ) × (mouth_index (tile_at p (tile_of p i j)) i j ≡ Some k) × (mouth_base p (tile_of p i j) + k ≡ a)
number_index p i j a e = after_some (mouth_base p (tile_of p i j)) a (mouth_index (tile_at p (tile_of p i j)) i j) e

pub index_tile : (p : Plan) (t i j k : ℕ) → Lawful p → mouth_index (tile_at p t) i j ≡ Some k → t ≡ tile_of p i j
index_tile p t i j k l e = tile_once p i j t l (holding (tile_at p t) i j (indexed (tile_at p t) i j k e).cell)

pub index_number : (p : Plan) (t i j k : ℕ) → Lawful p → mouth_index (tile_at p t) i j ≡ Some k → mouth_number p i j ≡ Some (mouth_base p t + k)
index_number p t i j k l e =
    ap (λ s. after (mouth_base p s) (mouth_index (tile_at p s) i j)) (sym (index_tile p t i j k l e)) ∙ ap (after (mouth_base p t)) e

-- the numbers of a tile's mouths
pub record Between (p : Plan) (t a : ℕ) : Type 0 where
  pub low : mouth_base p t ≤ a
  pub high : a < mouth_base p (suc t)

pub number_between : (p : Plan) (i j a : ℕ) → mouth_number p i j ≡ Some a → Between p (tile_of p i j) a
number_between p i j a e =
    let s = number_index p i j a e in
    let t = tile_of p i j in
    let b = index_below (tile_at p t) i j s.0 s.1 in
    record { low = omega (arith, s.2); high = omega (arith, s.2, base_next p t, b) }

pub number_below : (p : Plan) (i j a : ℕ) → mouth_number p i j ≡ Some a → a < mouths p
number_below p i j a e =
    omega (arith, (number_between p i j a e).high, base_rises p (suc (tile_of p i j)) (tiles p) (tile_exists p i j))

-- every number below the count is that of one cell
pub number_found : (p : Plan) (a : ℕ) → Lawful p → a < mouths p → (i : ℕ) × (j : ℕ) × (mouth_number p i j ≡ Some a)
number_found p a l lt =
    let s = crossed (mouth_base p) a (tiles p) (omega (arith, base_none p)) lt in
    let c = index_found (tile_at p s.0) (a - mouth_base p s.0) (omega (arith, base_next p s.0, s.2, s.3)) in
    let back : mouth_base p s.0 + (a - mouth_base p s.0) ≡ a = omega (arith, s.2) in
    (c.0, c.1, index_number p s.0 c.0 c.1 _ l c.2 ∙ ap Some back)

pub number_apart : (p : Plan) (i j m n a : ℕ) → mouth_number p i j ≡ Some a → mouth_number p m n ≡ Some a → (i ≡ m) × (j ≡ n)
number_apart p i j m n a e f =
    let x = number_index p i j a e in
    let y = number_index p m n a f in
    let b = number_between p i j a e in
    let c = number_between p m n a f in
    let same : tile_of p m n ≡ tile_of p i j = one_step (mouth_base p) (base_step p) a (tile_of p m n) (tile_of p i j) c.low c.high b.low b.high in
    let index : y.0 ≡ x.0 = omega (arith, x.2, y.2, ap (mouth_base p) same) in
    index_apart (tile_at p (tile_of p i j)) i j m n x.0 x.1 (ap (λ t. mouth_index (tile_at p t) m n) (sym same) ∙ y.1 ∙ ap Some index)

pub mouth_number_lem : (p : Plan) (i j : ℕ) → is_mouth p i j ≡ true → (a : ℕ) × (mouth_number p i j ≡ Some a)
mouth_number_lem p i j e =
    let t = tile_of p i j in
    let a = tile_at p t in
    let k = border_before (height a) (width a) (i - a.top) (j - a.left) in
    (mouth_base p t + k, ap (after (mouth_base p t)) (cond-true (mouth_in a i j) (Some k) None e))

pub number_mouth : (p : Plan) (i j a : ℕ) → mouth_number p i j ≡ Some a → is_mouth p i j ≡ true
number_mouth p i j a e = let x = number_index p i j a e in (cond_some (mouth_in (tile_at p (tile_of p i j)) i j) _ x.0 x.1).0

pub number_owner : (p : Plan) (i j a t : ℕ) → mouth_number p i j ≡ Some a → mouth_base p t ≤ a → a < mouth_base p (t + 1) → t ≡ tile_of p i j
number_owner p i j a t e low high =
    let b = number_between p i j a e in
    one_step (mouth_base p) (base_step p) a t (tile_of p i j) low (omega (arith, high, ap (mouth_base p) (add-one t))) b.low b.high

-- in a tile the numbers follow the reading order
index_reading : (a : Area) (i j k l m n : ℕ) → mouth_index a i j ≡ Some m → mouth_index a k l ≡ Some n → Before i j k l → m < n
index_reading a i j k l m n e f before =
    let x = indexed a i j m e in
    let y = indexed a k l n f in
    let g = x.cell in
    let h = y.cell in
    let down = before_reading (height a) (width a) (i - a.top) (j - a.left) (k - a.top) (l - a.left) x.edge (omega arith) in
    ⊎_elim
    (λ lt. omega (arith, x.count, y.count, down (inl (omega arith))))
    (λ same. omega (arith, x.count, y.count, down (inr (omega (arith, same.0), omega (arith, same.1)))))
    before

pub number_reading : (p : Plan) (i j k l a b : ℕ) → mouth_number p i j ≡ Some a → mouth_number p k l ≡ Some b → tile_of p i j ≡ tile_of p k l → Before i j k l → a < b
number_reading p i j k l a b e f same before =
    let x = number_index p i j a e in
    let y = number_index p k l b f in
    let t = tile_of p i j in
    omega (arith, x.2, y.2, ap (mouth_base p) same, index_reading (tile_at p t) i j k l x.0 y.0 x.1 (ap (λ s. mouth_index (tile_at p s) k l) same ∙ y.1) before)

-- the number of a cell, by the area where its bands cross
pub number_here : (p : Plan) (row col i j : ℕ) (a : Area) (o : Option ℕ) → i ≡ band_of p.down row → j ≡ band_of p.across col → a ≡ crossing p i j → o ≡ mouth_index a row col → after (mouth_base p (i * abreast p + j)) o ≡ mouth_number p row col
number_here p row col i j a o ei ej ea eo =
    ap (after (mouth_base p (i * abreast p + j))) eo
    ∙ ap (λ x. after (mouth_base p (i * abreast p + j)) (mouth_index x row col)) ea
    ∙ ap (λ k. after (mouth_base p (k * abreast p + j)) (mouth_index (crossing p k j) row col)) ei
    ∙ ap (λ k. after (mouth_base p (band_of p.down row * abreast p + k)) (mouth_index (crossing p (band_of p.down row) k) row col)) ej
    ∙ ap (λ x. after (mouth_base p (tile_of p row col)) (mouth_index x row col)) (sym (tile_at_lem p row col))

-- the cell of a number, by its band of rows, its band of columns and its index
index_there : (p : Plan) (row col i j k : ℕ) (a : Area) → j ≤ length p.across → a ≡ crossing p i j → mouth_index a row col ≡ Some k → mouth_index (tile_at p (i * abreast p + j)) row col ≡ Some k
index_there p row col i j k a le ea ek =
    ap (λ x. mouth_index x row col) (at_crossing p i j (omega arith)) ∙ ap (λ x. mouth_index x row col) (sym ea) ∙ ek

pub mouth_found : (p : Plan) (b row col i j n k : ℕ) (a : Area) → Lawful p → InRow p b i n → InTile p (row_base p i + n) i j k → a ≡ crossing p i j → mouth_index a row col ≡ Some k → mouth_number p row col ≡ Some b
mouth_found p b row col i j n k a l r t ea ek =
    index_number p (i * abreast p + j) row col k l (index_there p row col i j k a t.exists ea ek) ∙ ap Some (t.number ∙ r.number)

pub mouth_tile : (p : Plan) (b row col i j k m : ℕ) (a : Area) → Lawful p → InTile p b i j k → a ≡ crossing p i j → mouth_index a row col ≡ Some k → m ≡ abreast p → i * m + j ≡ tile_of p row col
mouth_tile p b row col i j k m a l t ea ek em =
    ap (λ x. i * x + j) em ∙ index_tile p (i * abreast p + j) row col k l (index_there p row col i j k a t.exists ea ek)

pub mouth_there : (p : Plan) (b i j k : ℕ) (a : Area) → InTile p b i j k → a ≡ crossing p i j → k < border (height a) (width a)
mouth_there p b i j k a t ea =
    omega (arith, t.below, tile_mouths_lem p i j (omega (arith, t.exists)), ap (λ x. border (height x) (width x)) ea)
