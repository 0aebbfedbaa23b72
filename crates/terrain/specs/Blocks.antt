-- Reading and writing a rectangle of a sheet at once, its cells row by row in a list of marks. Assumes nothing.
use Rattle.std.specs.Prelude.{◌≡◌, ℕ, ◌+◌, ◌*◌, ◌<◌, Bool, not, List, [], ◌∷◌, Ok, Err, Result, ◌==◌, ◌≢◌}
use Rattle.marks.specs.declared.refusal.Refusal.{Refusal}
use Rattle.marks.specs.Refusals.{Told, checked, number}
use Rattle.sheets.specs.declared.copies.Place.{Place}
use Rattle.sheets.specs.declared.copies.Extent.{Extent}
use Rattle.sheets.specs.Copies.{leaving, broken_rows, Copied}
use Rattle.sheets.specs.Grids.{Grid, at}
use Rattle.sheets.specs.Layouts.{flat}
use Rattle.terrain.specs.Cells.{place}

-- the list has the marks of the rectangle
abbrev pub HoldsBlock : {M : Type 0} → Grid M → Place → Extent → List M → Type 0
HoldsBlock g p e xs = (i j : ℕ) → i < e.height → j < e.width → g.cell (p.row + i) (p.col + j) ≡ at xs (i * e.width + j)

-- the list has not as many marks as the rectangle
abbrev pub misfits : Extent → ℕ → Bool
misfits e len = not (len == e.height * e.width)

-- what a read of a rectangle into a list tells
abbrev pub read_block_told : {M : Type 0} → Grid M → Place → Extent → ℕ → Told (Unit {0})
read_block_told g p e len = checked ((leaving g p e, 6) ∷ (misfits e len, 4) ∷ (broken_rows g p e.width e.height, 7) ∷ []) tt

-- what it leaves in the list: accepted, the rectangle's marks; refused for a dead cell, anything; else what it held
abbrev pub ReadBlockLeaves : {M : Type 0} → Grid M → Place → Extent → List M → List M → Result (Unit {0}) Refusal → Type 0
ReadBlockLeaves g p e before after (Ok u) = HoldsBlock g p e after
ReadBlockLeaves g p e before after (Err r) = (number r ≢ 7) → after ≡ before

-- what a write of a rectangle from a list tells
abbrev pub write_block_told : {M : Type 0} → Grid M → Place → Extent → ℕ → Told (Unit {0})
write_block_told g p e len = checked ((leaving g p e, 6) ∷ (misfits e len, 4) ∷ []) tt

-- what it leaves of the sheet: accepted, the rectangle has the list's marks and nothing else changed; refused, what it held
abbrev pub WriteBlockLeaves : {M : Type 0} → Grid M → Grid M → Place → Extent → List M → Result (Unit {0}) Refusal → Type 0
WriteBlockLeaves h h' q e xs (Ok u) = Copied (flat e.height e.width xs) (place 0 0) h h' q e.height e.width
WriteBlockLeaves h h' q e xs (Err r) = h' ≡ h
