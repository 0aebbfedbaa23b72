-- What is printed for a sheet. Assumes nothing.
use Rattle.std.specs.Prelude.{◌≡◌, ℕ, List, [], ◌∷◌, ◌++◌, codes, decimal}
use Rattle.marks.specs.declared.order.Order as order
use Rattle.marks.specs.declared.kind.Spelled as spelling
use Rattle.sheets.specs.Grids.{Grid}
use Rattle.terrain.specs.Terrains.{Kind, kind_of}
use Rattle.terrain.specs.Fills.{FilledSheet, raised}
use Rattle.texts.specs.Texts.{text_of}

-- a kind of mark with its word and its spellings
pub record Coded (M : Type 0) : Type 0 where
  pub kind : Kind M
  pub word : List ℕ
  pub spelled : M → List ℕ

-- those of a type of marks
abbrev pub coded_of : {M : Type 0} → order.Ghosts M → M → spelling.Ghosts M → Coded M
coded_of o void s = record { kind = kind_of o void; word = s.named; spelled = s.spelled }

-- the last line: how many cells rose
abbrev pub raised_line : ℕ → List ℕ
raised_line n = codes "(raised " ++ (decimal n ++ (41 ∷ 10 ∷ []))

-- out is what is printed for the sheet g: the text of the sheet whose cells are void where g is void, and elsewhere their
-- sills in g; and then how many of them rose
pub record Printed {M : Type 0} (κ : Coded M) (g : Grid M) (out : List ℕ) : Type 0 where
  pub sheet : Grid M
  pub filled : FilledSheet κ.kind g g sheet
  pub is : out ≡ text_of κ.word κ.spelled sheet ++ raised_line (raised κ.kind g sheet)
