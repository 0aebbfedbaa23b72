-- Cells on the sheet's edge and on both sides of a seam are mouths. Assumes nothing.
use Rattle.std.proofs.Common.{◌≡◌, ℕ, suc, ◌+◌, ◌-◌, ◌*◌, ◌<◌, true, ◌⊎◌, List, sym, ap, ◌∙◌, inl, inr, ⊎_elim, one-mul, mul-one, add-one, arith}
use Rattle.std.proofs.lemmas.Bool.{and_from, cases_eq, cases_lt}
use Rattle.tiles.specs.Rules.{lawful, start, band_of}
use Rattle.tiles.specs.Plans.{Plan, Lawful, abreast, tile_at, tile_of, crossing, holds, height, width}
use Rattle.tiles.specs.Mouths.{on_border, border, mouth_in, mouth_base, is_mouth}
use Rattle.tiles.specs.Laws.{Near, Numbered}
use Rattle.tiles.proofs.Borders.{border_top, border_bottom, border_left, border_right, border_row, border_column, border_ring}
use Rattle.tiles.proofs.Bands.{band_low, band_high, band_is, start_below}
use Rattle.tiles.proofs.Tilings.{tile_at_lem, tile_exists, tile_holds}
use Rattle.tiles.proofs.Numberings.{base_none, base_more, base_many, mouths_some}
use Rattle.tiles.proofs.Indices.{number_between, number_below, number_found, number_apart, number_owner, number_reading, mouth_number_lem, number_mouth}

-- a place is the first or the last of its band
abbrev pub BandEnd : ℕ → List ℕ → ℕ → Type 0
BandEnd side cs i = (i ≡ start side cs (band_of cs i)) ⊎ (i + 1 ≡ start side cs (suc (band_of cs i)))

-- by the tile where its bands cross
mouth_here : (p : Plan) (i j : ℕ) → i < p.rows → j < p.cols → on_border (height (crossing p (band_of p.down i) (band_of p.across j))) (width (crossing p (band_of p.down i) (band_of p.across j))) (i - start p.rows p.down (band_of p.down i)) (j - start p.cols p.across (band_of p.across j)) ≡ true → is_mouth p i j ≡ true
mouth_here p i j li lj e =
    ap (λ a. mouth_in a i j) (tile_at_lem p i j)
    ∙ and_from (holds (crossing p (band_of p.down i) (band_of p.across j)) i j) _ (ap (λ a. holds a i j) (sym (tile_at_lem p i j)) ∙ tile_holds p i j li lj) e

pub mouth_down : (p : Plan) (i j : ℕ) → i < p.rows → j < p.cols → BandEnd p.rows p.down i → is_mouth p i j ≡ true
mouth_down p i j li lj e =
    let low = band_low p.rows p.down i in
    let a = crossing p (band_of p.down i) (band_of p.across j) in
    mouth_here p i j li lj (⊎_elim
    (λ first. border_top (height a) (width a) (i - a.top) (j - a.left) (omega (arith, first)))
    (λ last. border_bottom (height a) (width a) (i - a.top) (j - a.left) (omega (arith, last, low)))
    e)

pub mouth_across : (p : Plan) (i j : ℕ) → i < p.rows → j < p.cols → BandEnd p.cols p.across j → is_mouth p i j ≡ true
mouth_across p i j li lj e =
    let low = band_low p.cols p.across j in
    let a = crossing p (band_of p.down i) (band_of p.across j) in
    mouth_here p i j li lj (⊎_elim
    (λ first. border_left (height a) (width a) (i - a.top) (j - a.left) (omega (arith, first)))
    (λ last. border_right (height a) (width a) (i - a.top) (j - a.left) (omega (arith, last, low)))
    e)

-- the ends of a side are ends of its bands
pub end_of_side : (side : ℕ) (cs : List ℕ) (i : ℕ) → lawful side cs ≡ true → i < side → (i ≡ 0) ⊎ (i + 1 ≡ side) → BandEnd side cs i
end_of_side side cs i l lt e = ⊎_elim
    (λ first. inl (omega (arith, band_low side cs i)))
    (λ last. inr (omega (arith, band_high side cs i lt, start_below side cs (suc (band_of cs i)) l)))
    e

-- neighbours in different bands are at the ends of these
next_bands : (side : ℕ) (cs : List ℕ) (i k : ℕ) → lawful side cs ≡ true → k < side → k ≡ i + 1 → (band_of cs i ≡ band_of cs k → ⊥) → BandEnd side cs i × BandEnd side cs k
next_bands side cs i k l lt e apart =
    let li = band_low side cs i in
    let hi = band_high side cs i (omega arith) in
    let lk = band_low side cs k in
    let hk = band_high side cs k lt in (
      ⊎_elim
          (λ more. absurd (apart (band_is side cs (band_of cs i) k l (omega (arith, li)) (omega (arith, more)))))
          (λ end. inr (omega (arith, end, hi)))
          (cases_lt (i + 1) (start side cs (suc (band_of cs i)))),
      ⊎_elim
          (λ more. inl (omega (arith, more, lk)))
          (λ less. absurd (apart (sym (band_is side cs (band_of cs k) i l less (omega (arith, hk))))))
          (cases_lt i (start side cs (band_of cs k))),
    )

pub near_bands : (side : ℕ) (cs : List ℕ) (i k : ℕ) → lawful side cs ≡ true → i < side → k < side → Near i k → (band_of cs i ≡ band_of cs k → ⊥) → BandEnd side cs i × BandEnd side cs k
near_bands side cs i k l li lk near apart = ⊎_elim
    (λ e. absurd (apart (ap (band_of cs) e)))
    (λ ne. ⊎_elim
    (λ lt. next_bands side cs i k l lk (omega (arith, near.1)) apart)
    (λ ge. let b = next_bands side cs k i l li (omega (arith, near.0, ne)) (λ e. apart (sym e)) in (b.1, b.0))
    (cases_lt i k))
    (cases_eq i k)

pub edge_mouth : (p : Plan) (i j : ℕ) → Lawful p → i < p.rows → j < p.cols → ((i ≡ 0) ⊎ (i + 1 ≡ p.rows)) ⊎ ((j ≡ 0) ⊎ (j + 1 ≡ p.cols)) → is_mouth p i j ≡ true
edge_mouth p i j l li lj e = ⊎_elim
    (λ r. mouth_down p i j li lj (end_of_side p.rows p.down i l.down li r))
    (λ c. mouth_across p i j li lj (end_of_side p.cols p.across j l.across lj c))
    e

pub seam_mouths : (p : Plan) (i j k n : ℕ) → Lawful p → i < p.rows → j < p.cols → k < p.rows → n < p.cols → Near i k → Near j n → (tile_of p i j ≡ tile_of p k n → ⊥) → (is_mouth p i j ≡ true) × (is_mouth p k n ≡ true)
seam_mouths p i j k n l li lj lk ln ni nj apart = ⊎_elim
    (λ same.
    let b = near_bands p.cols p.across j n l.across lj ln nj (λ e. apart (ap (λ d. d * abreast p + band_of p.across j) same ∙ ap (λ c. band_of p.down k * abreast p + c) e)) in
    (mouth_across p i j li lj b.0, mouth_across p k n lk ln b.1))
    (λ other.
    let b = near_bands p.rows p.down i k l.down li lk ni other in
    (mouth_down p i j li lj b.0, mouth_down p k n lk ln b.1))
    (cases_eq (band_of p.down i) (band_of p.down k))

-- a tile of one row or one column is all mouths
line_mouths : (h w : ℕ) → (h ≡ 1) ⊎ (w ≡ 1) → border h w ≡ h * w
line_mouths h w e = ⊎_elim
    (λ one. ap (λ k. border k w) one ∙ border_row w ∙ sym (one-mul w) ∙ ap (λ k. k * w) (sym one))
    (λ one. ap (border h) one ∙ border_column h ∙ sym (mul-one h) ∙ ap (λ k. h * k) (sym one))
    e

pub numbered : (p : Plan) → Lawful p → Numbered p
numbered p l = record {
  line = λ t lt e. line_mouths (height (tile_at p t)) (width (tile_at p t)) e;
  ring = λ t lt a b. border_ring (height (tile_at p t)) (width (tile_at p t)) a b;
  some = λ t lt. mouths_some p t l lt;
  first = base_none p;
  next = λ t. base_more p t;
  pass = λ t lt. omega (arith, base_more p t, base_many p t l (omega arith), mouths_some p t l lt);
  interval = λ i j a e. let b = number_between p i j a e in (tile_exists p i j, b.low, omega (arith, b.high, ap (mouth_base p) (add-one (tile_of p i j))), number_below p i j a e);
  owner = λ i j a t e low high. number_owner p i j a t e low high;
  reading = λ i j k n a b e f same before. number_reading p i j k n a b e f same before;
  found = λ a lt. number_found p a l lt;
  single = λ i j k n a e f. number_apart p i j k n a e f;
  mouth = λ i j e. mouth_number_lem p i j e;
  only = λ i j a e. number_mouth p i j a e;
  edge = λ i j li lj e. edge_mouth p i j l li lj e;
  seam = λ i j k n li lj lk ln ni nj apart. seam_mouths p i j k n l li lj lk ln ni nj apart;
}
