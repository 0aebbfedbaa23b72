-- Runs of the cells of a text. Assumes nothing.
use Rattle.std.proofs.Common.{◌≡◌, ℕ, suc, ◌+◌, ◌<◌, true, false, List, length, Option, sym, ap, ◌∙◌}
use Rattle.sheets.specs.Grids.{is_dead, cell_of, at}
use Rattle.sheets.specs.Runs.{broken, Holds}
use Rattle.sheets.proofs.Spans.{unbroken, broken_by}
use Rattle.texts.specs.Tokens.{front}
use Rattle.brackets.specs.Lines.{lines_on, parts_on}
use Rattle.brackets.specs.Cells.{mark_of, cell_along, in_text}
use Rattle.brackets.proofs.Steps.{parts_add}

-- line is row `row`, and from begins with its cell in column `col`
module _ {M : Type 0} (decoded : ℕ → Option M) (f : M → List ℕ) (rows cols : ℕ) (bs : List ℕ) (row col : ℕ) (line first from : List ℕ) (el : line ≡ lines_on (suc row) bs) (e₁ : first ≡ parts_on 2 line) (e₂ : from ≡ parts_on col first) where
  along : (k : ℕ) → (in_text decoded f rows cols bs).cell row (col + k) ≡ cell_along decoded f from k
  along k =
      let there : first ≡ parts_on 2 (lines_on (suc row) bs) = e₁ ∙ ap (parts_on 2) el in
      ap (λ w. cell_of (mark_of decoded f (front w))) (parts_add col k (parts_on 2 (lines_on (suc row) bs)) ∙ ap (λ w. parts_on k (parts_on col w)) (sym there) ∙ ap (parts_on k) (sym e₂))

  pub run_alive : (n : ℕ) → ((k : ℕ) → k < n → is_dead (cell_along decoded f from k) ≡ false) → broken (in_text decoded f rows cols bs) row col n ≡ false
  run_alive n h = unbroken (in_text decoded f rows cols bs) row col n (λ k lt. ap is_dead (along k) ∙ h k lt)

  pub run_dead : (n k : ℕ) → k < n → is_dead (cell_along decoded f from k) ≡ true → broken (in_text decoded f rows cols bs) row col n ≡ true
  run_dead n k lt e = broken_by (in_text decoded f rows cols bs) row col n k lt (ap is_dead (along k) ∙ e)

  pub run_held : (xs : List M) → ((k : ℕ) → k < length xs → cell_along decoded f from k ≡ at xs k) → Holds (in_text decoded f rows cols bs) row col xs
  run_held xs h k lt = along k ∙ h k lt
