-- Where an accepted run begins and ends in memory. Assumes nothing.
use Rattle.std.proofs.Common.{◌≡◌, ℕ, ◌+◌, ◌*◌, ◌<◌, ◌≤◌, false, [], ◌∷◌, ◌∙◌, arith}
use Rattle.marks.specs.Refusals.{accepted, checked}
use Rattle.sheets.specs.declared.sides.Sides.{Sides}
use Rattle.sheets.specs.Runs.{overruns}
use Rattle.sheets.proofs.Checks.{passed, answer, run_fits}
use Rattle.sheets.proofs.Places.{run_end}

-- a run of n cells that lies within the sides begins at a place
pub record Started (rows cols row col n from : ℕ) : Type 0 where
  pub inside : overruns rows cols row col n ≡ false
  pub row_in : row < rows
  pub run_in : col + n ≤ cols
  pub is : from ≡ row * cols + col
  pub ends : from + n ≤ rows * cols

started_here : (rows cols row col n from : ℕ) → accepted from ≡ checked ((overruns rows cols row col n, 6) ∷ []) (row * cols + col) → Started rows cols row col n from
started_here rows cols row col n from e =
    let p = passed (overruns rows cols row col n) 6 [] from (row * cols + col) e in
    let f = run_fits rows cols row col n p.0 in
    let s = answer from (row * cols + col) p.1 in
    record { inside = p.0; row_in = f.0; run_in = f.1; is = s; ends = omega (arith, run_end rows cols row col n f.0 f.1) }

-- the same, where the sides asked are the sheet's
pub started : (s : Sides) (rows cols row col n from : ℕ) → s.rows ≡ rows → s.cols ≡ cols → accepted from ≡ checked ((overruns s.rows s.cols row col n, 6) ∷ []) (row * s.cols + col) → Started rows cols row col n from
started s rows cols row col n from is-rows is-cols e = started_here rows cols row col n from (e ∙ (λ i. checked ((overruns (is-rows i) (is-cols i) row col n, 6) ∷ []) (row * is-cols i + col)))
