-- The marks of a text's rows, put into a list one row behind the other. Assumes nothing.
use Rattle.std.proofs.Common.{◌≡◌, ℕ, ◌+◌, ◌*◌, ◌<◌, ◌≤◌, true, List, length, sym, ap, ◌∙◌, subst, ⊎_elim, zero-add, arith}
use borrow.Rule.Slice.PartMut.{put_mid}
use Rattle.std.proofs.lemmas.Bool.{cases_eq}
use Rattle.sheets.specs.Grids.{Grid, is_dead, at}
use Rattle.sheets.specs.Layouts.{flat}
use Rattle.sheets.specs.Runs.{broken}
use Rattle.sheets.proofs.Marks.{at_before, at_part}
use Rattle.sheets.proofs.Rectangles as rectangles
use Rattle.sheets.proofs.Spans.{broken_by}
use Rattle.terrain.specs.Cells.{place}
use Rattle.terrain.specs.Fills.{dead_in}
use Rattle.terrain.proofs.Rows.{row_end}
use Rattle.texts.specs.Texts.{TextOf}
use Rattle.texts.proofs.Whole.{text_same}
use Rattle.brackets.specs.Decoded.{Decodes, Decoded}

-- one more row
pub decodes_more : {M : Type 0} (g : Grid M) (n i : ℕ) (xs ys : List M) → Decodes g i xs → i * g.cols + g.cols ≤ length xs → length ys ≡ g.cols → ((k : ℕ) → k < g.cols → g.cell i k ≡ at ys k) → Decodes g (i + 1) (put_mid (i * g.cols) n xs ys)
decodes_more g n i xs ys sofar inside long row k j hk hj = ⊎_elim
    (λ (e : k ≡ i). ap (λ l. g.cell l j) e ∙ row j hj ∙ sym (at_part (i * g.cols) n xs ys (omega arith) j (omega arith)) ∙ ap (λ l. at (put_mid (i * g.cols) n xs ys) (l * g.cols + j)) (sym e))
    (λ (ne : k ≡ i → ⊥). let less : k < i = omega arith in
    sofar k j less hj ∙ sym (at_before (i * g.cols) n xs ys (omega arith) (k * g.cols + j) (omega (arith, row_end i g.cols k less))))
    (cases_eq k i)

-- a sheet with a dead cell
pub dead_here : {M : Type 0} (g : Grid M) (i k : ℕ) → i < g.rows → k < g.cols → is_dead (g.cell i k) ≡ true → dead_in g ≡ true
dead_here g i k hi hk e = rectangles.rows_broken g (place 0 0) g.cols g.rows i hi (ap (λ l. broken g l 0 g.cols) (zero-add i) ∙ broken_by g i 0 g.cols k hk (ap (λ l. is_dead (g.cell i l)) (zero-add k) ∙ e))

-- the text of a sheet is that of the marks in the list
pub text_decoded : {M : Type 0} (word : List ℕ) (f : M → List ℕ) (bs : List ℕ) (g : Grid M) (xs : List M) → TextOf word f bs g → Decoded g xs → (rows cols : ℕ) (ys : List M) → rows ≡ g.rows → cols ≡ g.cols → ys ≡ xs → TextOf word f bs (flat rows cols ys)
text_decoded word f bs g xs t d rows cols ys er ec ey = subst (TextOf word f bs) (λ k. flat (sym er k) (sym ec k) (sym ey k)) (record {
  sided = record { rows = t.sided.rows; cols = t.sided.cols };
  readable = λ i j hi hj. let m = t.readable i j hi hj in (m.0, sym (same i j hi hj) ∙ m.1);
  is = t.is ∙ text_same f word g.rows g.cols g.cell (flat g.rows g.cols xs).cell same;
})
  where
    same : (i j : ℕ) → i < g.rows → j < g.cols → g.cell i j ≡ (flat g.rows g.cols xs).cell i j
    same = d.marks
