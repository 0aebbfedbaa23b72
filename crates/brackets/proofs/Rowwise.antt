-- A sheet that is read row by row. Assumes nothing.
use Rattle.std.proofs.Common.{◌≡◌, ℕ, ◌+◌, ◌<◌, ◌≤◌, false, ltb, List, [], ◌∷◌, ◌++◌, length, sym, ap, ◌∙◌, zero-add, arith, length-append}
use Rattle.std.proofs.lemmas.Bool.{ltb-false, le-ltb}
use Rattle.marks.specs.Refusals.{accepted, refused, checked}
use Rattle.sheets.specs.Grids.{Grid}
use Rattle.sheets.specs.Runs.{outside, broken, Holds, read_told}
use Rattle.sheets.specs.Copies.{broken_rows}
use Rattle.terrain.specs.Fills.{dead_in}
use Rattle.terrain.specs.Cells.{place}
use Rattle.sheets.proofs.Checks.{fits_run, passed, past, passes, carried, answer, not_refused}
use Rattle.sheets.proofs.Rectangles as rectangles
use Rattle.texts.specs.Texts.{head_line, text_of}
use Rattle.brackets.specs.Writes.{row_lines, line_of, length_told, writing_told}
use Rattle.brackets.proofs.Puts.{line_is, rows_more, text_long}

-- row i of a sheet, read whole
module _ {M : Type 0} (g : Grid M) (i n : ℕ) (long : n ≡ g.cols) where
  same_row : broken g (0 + i) 0 g.cols ≡ broken g i 0 n
  same_row = ap (λ k. broken g k 0 g.cols) (zero-add i) ∙ ap (broken g i 0) (sym long)

  pub more_alive : broken_rows g (place 0 0) g.cols i ≡ false → accepted tt ≡ read_told g i 0 n → broken_rows g (place 0 0) g.cols (i + 1) ≡ false
  more_alive sofar told = rectangles.rows_more g (place 0 0) g.cols i sofar (same_row ∙ (passed _ _ [] _ _ (passed _ _ (_ ∷ []) _ _ told).1).0)

  module _ (inside : i < g.rows) where
    fits : outside g i 0 n ≡ false
    fits = fits_run g.rows g.cols i 0 n inside (omega arith)

    pub dead_told : {X : Type 0} (x : X) (m p : ℕ) → refused m p ≡ read_told g i 0 n → refused m p ≡ checked ((dead_in g, 7) ∷ []) x
    dead_told x m p told = carried _ _ _ _ _ [] _ _ (λ b. rectangles.rows_broken g (place 0 0) g.cols g.rows i inside (same_row ∙ b)) (past _ _ (_ ∷ []) _ _ fits told)

    -- of a sheet without dead cells no read is refused
    pub never_refused : (m p : ℕ) → dead_in g ≡ false → refused m p ≡ read_told g i 0 n → ⊥
    never_refused m p whole told = not_refused m p (tt {0}) (past (dead_in g) 7 [] (tt {0}) (refused m p) whole (dead_told (tt {0}) m p told))

-- the lines of the rows read so far, one more
pub more_long : {M : Type 0} (f : M → List ℕ) (g : Grid M) (i len k : ℕ) (xs : List M) → length xs ≡ g.cols → Holds g i 0 xs → len ≡ length (row_lines f g i) → k ≡ length (line_of f xs) → len + k ≡ length (row_lines f g (i + 1))
more_long f g i len k xs long held e is =
    omega (arith, ap length (rows_more f g i), length-append (row_lines f g i) (line_of f xs), ap (λ w. length (row_lines f g i ++ w)) (line_is f g i xs long held))

-- what an accepted measurement says
pub record Measured {M : Type 0} (word : List ℕ) (f : M → List ℕ) (g : Grid M) (room len : ℕ) : Type 0 where
  pub short : ltb room g.cols ≡ false
  pub wide : g.cols ≤ room
  pub live : dead_in g ≡ false
  pub is : len ≡ length (text_of word f g)
  pub parts : len ≡ length (head_line word g.rows g.cols) + length (row_lines f g g.rows) + 2

module _ {M : Type 0} (word : List ℕ) (f : M → List ℕ) (g : Grid M) (room len : ℕ) where
  pub measured : accepted len ≡ length_told word f g room → Measured word f g room len
  measured told =
      let p = passed (ltb room g.cols) 5 ((dead_in g, 7) ∷ []) len (length (text_of word f g)) told in
      let q = passed (dead_in g) 7 [] len (length (text_of word f g)) p.1 in
      let is = answer len (length (text_of word f g)) q.1 in
      record { short = p.0; wide = ltb-false room g.cols p.0; live = q.0; is = is; parts = is ∙ text_long word f g }

  pub written_told : Measured word f g room len → (space end : ℕ) → len ≤ space → end ≡ length (text_of word f g) → accepted end ≡ writing_told word f g room space
  written_told m space end fits e =
      let n = length (text_of word f g) in
      passes (ltb room g.cols) 5 ((dead_in g, 7) ∷ (ltb space n, 9) ∷ []) n (accepted end) m.short
      (passes (dead_in g) 7 ((ltb space n, 9) ∷ []) n (accepted end) m.live
      (passes (ltb space n) 9 [] n (accepted end) (le-ltb space n (omega (arith, m.is))) (ap accepted e)))
