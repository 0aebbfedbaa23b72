-- What a copy of a rectangle from one sheet into another does. Assumes nothing.
use Rattle.std.specs.Prelude.{◌≡◌, ℕ, zero, suc, ◌+◌, ◌<◌, ◌≤◌, Bool, true, false, ◌||◌, List, [], ◌∷◌, length, Ok, Err, Result, nat_lt}
use Rattle.marks.specs.declared.refusal.Refusal.{Refusal}
use Rattle.marks.specs.Refusals.{Told, checked}
use Rattle.sheets.specs.declared.copies.Place.{Place}
use Rattle.sheets.specs.declared.copies.Extent.{Extent}
use Rattle.sheets.specs.Grids.{Grid}
use Rattle.sheets.specs.Runs.{broken}

-- the rectangle of an extent whose first cell is at a place leaves the sides
abbrev pub exceeds : ℕ → ℕ → Place → Extent → Bool
exceeds rows cols p e = nat_lt rows (p.row + e.height) || nat_lt cols (p.col + e.width)

-- such a rectangle leaves the grid
abbrev pub leaving : {M : Type 0} → Grid M → Place → Extent → Bool
leaving g p e = exceeds g.rows g.cols p e

-- some cell of the first n rows of a rectangle is dead
abbrev pub broken_rows : {M : Type 0} → Grid M → Place → ℕ → ℕ → Bool
broken_rows g p width zero = false
broken_rows g p width (suc n) = broken g (p.row + n) p.col width || broken_rows g p width n

-- a copy from place p of g to place q of h is refused before anything is read: a rectangle leaves its sheet
abbrev pub misplaced : {M : Type 0} → Grid M → Place → Grid M → Place → Extent → Bool
misplaced g p h q e = leaving g p e || leaving h q e

-- what a copy tells, where the scratch has `room` places
abbrev pub copy_told : {M : Type 0} → Grid M → Place → Grid M → Place → Extent → ℕ → Told (Unit {0})
copy_told g p h q e room = checked ((misplaced g p h q e, 6) ∷ (nat_lt room e.width, 5) ∷ (broken_rows g p e.width e.height, 7) ∷ []) tt

-- the cell in row i and column j is in the first n rows of the rectangle at a place
abbrev pub Covered : Place → ℕ → ℕ → ℕ → ℕ → Type 0
Covered q n width i j = (q.row ≤ i) × (i < q.row + n) × (q.col ≤ j) × (j < q.col + width)

-- h' is h with the first n rows of g's rectangle at p copied to q, and with no other change
pub record Copied {M : Type 0} (g : Grid M) (p : Place) (h h' : Grid M) (q : Place) (n width : ℕ) : Type 0 where
  pub rows : h'.rows ≡ h.rows
  pub cols : h'.cols ≡ h.cols
  pub new : (i j : ℕ) → i < n → j < width → h'.cell (q.row + i) (q.col + j) ≡ g.cell (p.row + i) (p.col + j)
  pub rest : (i j : ℕ) → i < h.rows → j < h.cols → (Covered q n width i j → ⊥) → h'.cell i j ≡ h.cell i j

-- what a copy leaves of the grid h: accepted, h with the rectangle copied; refused, h
abbrev pub CopyLeaves : {M : Type 0} → Grid M → Place → Grid M → Grid M → Place → Extent → Result (Unit {0}) Refusal → Type 0
CopyLeaves g p h h' q e (Ok u) = Copied g p h h' q e.height e.width
CopyLeaves g p h h' q e (Err r) = h' ≡ h

-- what a copy leaves of the scratch: the length; and where it refused before reading, all
pub record ScratchLeft {M : Type 0} (early : Bool) (before after : List M) : Type 0 where
  pub long : length after ≡ length before
  pub same : early ≡ true → after ≡ before
