-- The program's input. Assumes nothing.
use Rattle.std.specs.Prelude.{◌≡◌, ℕ, ◌⊎◌, List, ◌++◌, length, Ok, Err, Result}
use Rattle.std.proofs.Common.{inl, inr}
use Rattle.grammar.specs.Grammars.{Grammar, LongestShared, seq}
use Rattle.sheets.specs.Grids.{Grid, Sided}
use Rattle.texts.specs.Texts.{text_of, Readable, texts}
use Rattle.inputs.specs.Cuts.{UpTo, cuts_line, cuts_lines, cuts_of}
use Rattle.inputs.specs.declared.input.Input.{Input}

-- the value of an input: a sheet, its row cuts and its column cuts
abbrev pub InputOf : Type 0 → Type 0
InputOf M = Grid M × (List ℕ × List ℕ)

-- the accepted inputs of a kind: the text of a sheet, and then a line of cuts
abbrev pub inputs : {M : Type 0} → List ℕ → (M → List ℕ) → Grammar (InputOf M)
inputs word f = seq (texts word f) (λ _. cuts_lines)

-- the bytes are an input: the text of the sheet g and the line of these cuts
pub record Reading {M : Type 0} (word : List ℕ) (f : M → List ℕ) (bs : List ℕ) (g : Grid M) (down across : List ℕ) : Type 0 where
  pub sided : Sided g
  pub readable : Readable g
  pub down_fits : UpTo 31 down
  pub across_fits : UpTo 31 across
  pub is : bs ≡ text_of word f g ++ cuts_line down across

-- the bytes are an input of a kind
abbrev pub IsInput : {M : Type 0} → List ℕ → (M → List ℕ) → List ℕ → Type 0
IsInput {M = M} word f bs = (g : Grid M) × (down : List ℕ) × (across : List ℕ) × Reading word f bs g down across

-- what a reader of an input of a kind answers: its sheet's sides, where the sheet's text ends, and its cuts; or the length
-- of the longest beginning that the bytes share with any such input
abbrev pub ReadsInput : {M : Type 0} → List ℕ → (M → List ℕ) → List ℕ → Result Input ℕ → Type 0
ReadsInput {M = M} word f bs (Ok i) = (g : Grid M) × Reading word f bs g (cuts_of i.down) (cuts_of i.across) × (g.rows ≡ i.sides.rows) × (g.cols ≡ i.sides.cols) × (i.end ≡ length (text_of word f g))
ReadsInput word f bs (Err p) = (IsInput word f bs → ⊥) × LongestShared (inputs word f) bs p

-- what is written in one way or in another
abbrev pub either : {A B : Type 0} → Grammar A → Grammar B → Grammar (A ⊎ B)
either {A = A} {B = B} K L = record { valid = valid; text = text }
  where
    valid : A ⊎ B → Type 0
    valid (inl a) = K.valid a
    valid (inr b) = L.valid b

    text : A ⊎ B → List ℕ
    text (inl a) = K.text a
    text (inr b) = L.text b
