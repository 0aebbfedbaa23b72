-- Where the cell of a row and a column lies in memory. Assumes nothing.
use Rattle.std.proofs.Common.{◌≡◌, ℕ, ◌+◌, ◌-◌, ◌*◌, ◌/◌, ◌%◌, ◌<◌, ◌≤◌, sym, ap, ◌∙◌, mul-le-mul_right, add-mul, one-mul, arith}
use Rattle.std.proofs.lemmas.Nat.{div-mul-add, mod-mul-add}
use Rattle.sheets.specs.Runs.{Within}

-- a run of a row ends within the whole
pub run_end : (rows cols row col n : ℕ) → row < rows → col + n ≤ cols → row * cols + col + n ≤ rows * cols
run_end rows cols row col n h k =
    let next : row + 1 ≤ rows = omega arith in
    omega (arith, mul-le-mul_right cols next, add-mul row 1 cols, one-mul cols)

-- one place is of one row and one column
pub one_place : (cols i j row l : ℕ) → j < cols → l < cols → i * cols + j ≡ row * cols + l → (i ≡ row) × (j ≡ l)
one_place cols i j row l h k e = (
  sym (div-mul-add i cols j h) ∙ ap (λ x. x / cols) e ∙ div-mul-add row cols l k,
  sym (mod-mul-add i cols j h) ∙ ap (λ x. x % cols) e ∙ mod-mul-add row cols l k,
)

-- a cell that is not of a run does not lie between the run's places
pub apart : (cols row col n i j : ℕ) → col + n ≤ cols → j < cols → (Within row col n i j → ⊥) → row * cols + col ≤ i * cols + j → i * cols + j < row * cols + col + n → ⊥
apart cols row col n i j fits h out p q =
    let l : ℕ = i * cols + j - row * cols in
    let back : i * cols + j ≡ row * cols + l = omega arith in
    let same = one_place cols i j row l h (omega arith) back in
    out (same.0, omega (arith, same.1), omega (arith, same.1))
