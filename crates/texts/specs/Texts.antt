-- The bracket text of a sheet. Assumes nothing.
use Rattle.std.specs.Prelude.{◌≡◌, ℕ, ◌<◌, List, [], ◌∷◌, ◌++◌, map, Ok, Err, codes, decimal, Result}
use Rattle.std.specs.List.{range_with_len}
use Rattle.marks.specs.Refusals.{Told, accepted, refused}
use Rattle.sheets.specs.Grids.{Cell, mark, dead, Grid, Sided}
use Rattle.grammar.specs.Grammars.{Grammar, LongestShared, Found, Lost}
use Rattle.texts.specs.declared.heading.Heading.{Heading}

-- words with single blanks between them
abbrev pub spaced : List (List ℕ) → List ℕ
spaced [] = []
spaced (w ∷ []) = w
spaced (w ∷ x ∷ ws) = w ++ (32 ∷ spaced (x ∷ ws))

-- lines, one behind the other
abbrev pub together : List (List ℕ) → List ℕ
together [] = []
together (w ∷ ws) = w ++ together ws

-- the spelling of a cell's mark
abbrev pub spell : {M : Type 0} → (M → List ℕ) → Cell M → List ℕ
spell f (mark m) = f m
spell f dead = []

-- the first line: `(sheet`, the kind's word and the sides
abbrev pub head_line : List ℕ → ℕ → ℕ → List ℕ
head_line word rows cols = spaced (codes "(sheet" ∷ word ∷ decimal rows ∷ decimal cols ∷ []) ++ (10 ∷ [])

-- the line of row i: `(row`, its spellings, and `)` with no blank before it
abbrev pub row_line : {M : Type 0} → (M → List ℕ) → Grid M → ℕ → List ℕ
row_line f g i = spaced (codes "(row" ∷ map (λ j. spell f (g.cell i j)) (range_with_len 0 g.cols)) ++ (41 ∷ 10 ∷ [])

-- the text of a sheet, by its kind's word and spellings: the first line, the lines of its rows, and a line `)`
unfoldable pub text_of : {M : Type 0} → List ℕ → (M → List ℕ) → Grid M → List ℕ
text_of word f g = head_line word g.rows g.cols ++ (together (map (row_line f g) (range_with_len 0 g.rows)) ++ (41 ∷ 10 ∷ []))

-- each cell of the sheet has a mark
abbrev pub Readable : {M : Type 0} → Grid M → Type 0
Readable {M = M} g = (i j : ℕ) → i < g.rows → j < g.cols → (m : M) × (g.cell i j ≡ mark m)

-- the accepted texts of a kind: those of sheets with sides from 1 to 2,048 in which each cell can be read
abbrev pub texts : {M : Type 0} → List ℕ → (M → List ℕ) → Grammar (Grid M)
texts word f = record { valid = λ g. Sided g × Readable g; text = text_of word f }

-- the bytes are the text of the sheet g
pub record TextOf {M : Type 0} (word : List ℕ) (f : M → List ℕ) (bs : List ℕ) (g : Grid M) : Type 0 where
  pub sided : Sided g
  pub readable : Readable g
  pub is : bs ≡ text_of word f g

-- the bytes are an accepted text
abbrev pub AcceptedText : {M : Type 0} → List ℕ → (M → List ℕ) → List ℕ → Type 0
AcceptedText {M = M} word f bs = (g : Grid M) × TextOf word f bs g

-- the same sides, and the same cells within them
pub record SameSheet {M : Type 0} (g h : Grid M) : Type 0 where
  pub rows : g.rows ≡ h.rows
  pub cols : g.cols ≡ h.cols
  pub cells : (i j : ℕ) → i < g.rows → j < g.cols → g.cell i j ≡ h.cell i j

-- what a reader of a whole text tells: the sides of the sheet whose text it is; or 8 and the length of the longest
-- beginning that the bytes share with any accepted text
abbrev pub CheckTold : {M : Type 0} → List ℕ → (M → List ℕ) → List ℕ → Told (ℕ × ℕ) → Type 0
CheckTold {M = M} word f bs (accepted s) = (g : Grid M) × TextOf word f bs g × (s ≡ (g.rows, g.cols))
CheckTold word f bs (refused n p) = (n ≡ 8) × (AcceptedText word f bs → ⊥) × LongestShared (texts word f) bs p

-- what a reader of a text that more may follow answers: the sides of the sheet with whose text the bytes begin, and where
-- that ends; or the place at which the bytes part from every accepted text
abbrev pub ReadsSheet : {M : Type 0} → List ℕ → (M → List ℕ) → List ℕ → Result Heading ℕ → Type 0
ReadsSheet {M = M} word f bs (Ok h) = (g : Grid M) × Found (texts word f) 0 bs g h.end × (g.rows ≡ h.sides.rows) × (g.cols ≡ h.sides.cols)
ReadsSheet word f bs (Err p) = Lost (texts word f) 0 bs p

-- two sheets with one text are one sheet
abbrev pub OneTextOneSheet : {M : Type 0} → List ℕ → (M → List ℕ) → Type 0
OneTextOneSheet {M = M} word f = (g h : Grid M) (bs : List ℕ) → TextOf word f bs g → TextOf word f bs h → SameSheet g h
