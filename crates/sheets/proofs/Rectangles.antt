-- Rectangles that hold a dead cell or none, and rectangles that are copied row by row. Assumes nothing.
use Rattle.std.proofs.Common.{◌≡◌, ℕ, zero, suc, ◌+◌, ◌<◌, ◌≤◌, true, false, ltb, List, length, sym, ap, ◌∙◌, ⊎_elim, add-one, arith}
use Rattle.std.proofs.lemmas.Bool.{or_parts, or_from, or_left, or_right, ltb-false, cases_eq}
use Rattle.sheets.specs.declared.copies.Place.{Place}
use Rattle.sheets.specs.declared.copies.Extent.{Extent}
use Rattle.sheets.specs.Grids.{Grid}
use Rattle.sheets.specs.Runs.{broken, Holds, Written}
use Rattle.sheets.specs.Copies.{exceeds, broken_rows, Copied}

-- a rectangle that stays within the sides
pub rectangle_fits : (rows cols : ℕ) (p : Place) (e : Extent) → exceeds rows cols p e ≡ false → (p.row + e.height ≤ rows) × (p.col + e.width ≤ cols)
rectangle_fits rows cols p e h =
    let q = or_parts (ltb rows (p.row + e.height)) (ltb cols (p.col + e.width)) h in
    (ltb-false rows (p.row + e.height) q.0, ltb-false cols (p.col + e.width) q.1)

module _ {M : Type 0} (g : Grid M) (p : Place) (w : ℕ) where
  -- no row of an unbroken rectangle is broken
  pub rows_whole : (n : ℕ) → broken_rows g p w n ≡ false → (k : ℕ) → k < n → broken g (p.row + k) p.col w ≡ false
  rows_whole zero e k h = absurd (omega arith)
  rows_whole (suc n) e k h =
      let q = or_parts (broken g (p.row + n) p.col w) (broken_rows g p w n) e in
      ⊎_elim (λ s. ap (λ l. broken g (p.row + l) p.col w) s ∙ q.0) (λ ne. rows_whole n q.1 k (omega arith)) (cases_eq k n)

  -- a rectangle with a broken row is broken
  pub rows_broken : (n k : ℕ) → k < n → broken g (p.row + k) p.col w ≡ true → broken_rows g p w n ≡ true
  rows_broken zero k h e = absurd (omega arith)
  rows_broken (suc n) k h e =
      let b = broken g (p.row + n) p.col w in
      ⊎_elim (λ s. or_left b (broken_rows g p w n) (ap (λ l. broken g (p.row + l) p.col w) (sym s) ∙ e)) (λ ne. or_right b (broken_rows g p w n) (rows_broken n k (omega arith) e)) (cases_eq k n)

  -- one more row that is not broken
  pub rows_more : (n : ℕ) → broken_rows g p w n ≡ false → broken g (p.row + n) p.col w ≡ false → broken_rows g p w (n + 1) ≡ false
  rows_more n e b = ap (broken_rows g p w) (add-one n) ∙ or_from (broken g (p.row + n) p.col w) (broken_rows g p w n) b e

-- one more row that is copied
module _ {M : Type 0} (g : Grid M) (p : Place) (h h' h'' : Grid M) (q : Place) (n w : ℕ) (ys : List M) (so_far : Copied g p h h' q n w) (long : length ys ≡ w) (row_in : q.row + n < h.rows) (run_in : q.col + w ≤ h.cols) where
  pub copied_more : Holds g (p.row + n) p.col ys → Written h' h'' (q.row + n) q.col ys → Copied g p h h'' q (n + 1) w
  copied_more read wrote =
      record {
        rows = wrote.rows ∙ so_far.rows;
        cols = wrote.cols ∙ so_far.cols;
        new = λ i j hi hj.
            ⊎_elim
            (λ s. ap (λ l. h''.cell (q.row + l) (q.col + j)) s ∙ wrote.run j (omega arith) ∙ sym (read j (omega arith)) ∙ ap (λ l. g.cell (p.row + l) (p.col + j)) (sym s))
            (λ ne.
            wrote.rest (q.row + i) (q.col + j) (omega (arith, so_far.rows)) (omega (arith, so_far.cols)) (λ within. ne (omega (arith, within.0)))
            ∙ so_far.new i j (omega arith) hj)
            (cases_eq i n);
        rest = λ i j hi hj out.
            wrote.rest i j (omega (arith, so_far.rows)) (omega (arith, so_far.cols)) (λ within. out (omega (arith, within.0), omega (arith, within.0), within.1, omega (arith, within.2)))
            ∙ so_far.rest i j hi hj (λ over. out (over.0, omega (arith, over.1), over.2, over.3));
      }
