-- A sheet and what filling it must give, as lists of marks. Assumes nothing.
use Rattle.std.specs.Prelude.{ℕ, List, negsuc, int_le}
use Rattle.std.proofs.Common.{lit<}
use Rattle.sheets.specs.Layouts.{flat}
use Rattle.marks.specs.declared.height.Height.{Height}
use Rattle.marks.specs.declared.class.Class.{Class}
use Rattle.marks.specs.declared.class.Class.TheVariants.{Void}
use Rattle.marks.specs.Classes.{below}
use Rattle.sheets.specs.declared.copies.Place.{Place}
use Rattle.terrain.specs.Cells.{InSheet}
use Rattle.terrain.specs.Terrains.{Kind}
use Rattle.terrain.specs.Fills.{Finished}

-- heights, by their decimetres
abbrev pub heights : Kind Height
heights = record { leb = λ x y. int_le x.dm y.dm; void = record { dm = negsuc 32767; fits = lit< tt } }

-- care classes, in their rising order
abbrev pub classes : Kind Class
classes = record { leb = below; void = Void }

-- a sheet, and what it must hold once it is filled, both row by row
pub record Case (M : Type 0) : Type 0 where
  pub rows : ℕ
  pub cols : ℕ
  pub marks : List M
  pub finished : List M

-- each cell of the filled sheet is finished: void where the sheet is void, elsewhere its sill
abbrev pub Holds : {M : Type 0} → Kind M → Case M → Type 0
Holds κ c = (p : Place) → InSheet c.rows c.cols p → Finished κ (flat c.rows c.cols c.marks) (flat c.rows c.cols c.finished) p
