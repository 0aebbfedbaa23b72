-- What the cells of a text hold. Assumes nothing.
use Rattle.std.specs.Prelude.{◌≡◌, ℕ, zero, suc, ◌^◌, Bool, true, false, cond, ◌&&◌, ◌⊎◌, List, [], ◌∷◌, Some, None, Option, ◌==◌}
use Rattle.sheets.specs.Grids.{Cell, cell_of, Grid}
use Rattle.marks.specs.Refusals.{Told, accepted, refused}
use Rattle.texts.specs.Tokens.{front}
use Rattle.texts.specs.Texts.{AcceptedText, TextOf, CheckTold}
use Rattle.brackets.specs.Lines.{lines_on, parts_on}

-- the same bytes
abbrev pub same : List ℕ → List ℕ → Bool
same [] [] = true
same [] (y ∷ ys) = false
same (x ∷ xs) [] = false
same (x ∷ xs) (y ∷ ys) = x == y && same xs ys

-- a mark that has the spelling w
abbrev pub spells : {M : Type 0} → (M → List ℕ) → List ℕ → Option M → Bool
spells f w None = false
spells f w (Some m) = same (f m) w

-- the mark with a code below n that has the spelling w, if there is one
unfoldable pub mark_below : {M : Type 0} → (ℕ → Option M) → (M → List ℕ) → ℕ → List ℕ → Option M
mark_below decoded f zero w = None
mark_below decoded f (suc n) w = cond (spells f w (decoded n)) (decoded n) (mark_below decoded f n w)

-- the mark that has the spelling w, if there is one: every mark has a code of 16 bits
unfoldable pub mark_of : {M : Type 0} → (ℕ → Option M) → (M → List ℕ) → List ℕ → Option M
mark_of decoded f w = mark_below decoded f (2 ^ 16) w

-- the cell at place k of a line of cells: its part k
abbrev pub cell_along : {M : Type 0} → (ℕ → Option M) → (M → List ℕ) → List ℕ → ℕ → Cell M
cell_along decoded f bs k = cell_of (mark_of decoded f (front (parts_on k bs)))

-- what the text bs says of so many rows and columns: row i is the line behind the first and i others, and in it the cells
-- stand behind two parts, an empty one before the bracket and the word `row`
abbrev pub in_text : {M : Type 0} → (ℕ → Option M) → (M → List ℕ) → ℕ → ℕ → List ℕ → Grid M
in_text decoded f rows cols bs = record { rows = rows; cols = cols; cell = λ i j. cell_along decoded f (parts_on 2 (lines_on (suc i) bs)) j }

-- what making a sheet of a text tells: the sheet whose text the bytes are; or 8, with the place, if they are no sheet's
-- text; or 27, if they are, and there was no memory
abbrev pub TextTold : {M : Type 0} → List ℕ → (M → List ℕ) → List ℕ → Told (Grid M) → Type 0
TextTold word f bs (accepted g) = TextOf word f bs g
TextTold word f bs (refused n p) = ((n ≡ 27) × (p ≡ 0) × AcceptedText word f bs) ⊎ CheckTold word f bs (refused n p)
