-- The line of cuts. Assumes nothing.
use Rattle.std.specs.Prelude.{ℕ, zero, suc, ◌≤◌, List, [], ◌∷◌, ◌++◌, take, Ok, Err, codes, decimal, Result}
use Rattle.grammar.specs.Grammars.{Grammar}
use Rattle.texts.specs.Texts.{spaced}
use Rattle.texts.specs.Cursors.{Behind, LostAt}
use Rattle.texts.specs.declared.cursor.Cursor.{Cursor}
use Rattle.brackets.specs.Writes.{blanked}
use Rattle.inputs.specs.declared.cuts.Cuts.{Cuts}

-- at most n cuts, each from 1 to 2,047
abbrev pub UpTo : ℕ → List ℕ → Type 0
UpTo n [] = Unit {0}
UpTo zero (c ∷ cs) = ⊥
UpTo (suc n) (c ∷ cs) = ((1 ≤ c) × (c ≤ 2047)) × UpTo n cs

-- the cuts of one side in brackets: a word and the cuts, each behind a blank
abbrev pub bracketed : List ℕ → List ℕ → List ℕ
bracketed word cs = 40 ∷ (word ++ (blanked decimal cs ++ (41 ∷ [])))

-- the line of cuts: `(cuts (down 3 7) (across))` and a line end
abbrev pub cuts_line : List ℕ → List ℕ → List ℕ
cuts_line down across = spaced (codes "(cuts" ∷ bracketed (codes "down") down ∷ bracketed (codes "across") across ∷ []) ++ (41 ∷ 10 ∷ [])

-- the lines of cuts that are accepted: at most 31 each way
abbrev pub cuts_lines : Grammar (List ℕ × List ℕ)
cuts_lines = record { valid = λ z. UpTo 31 z.0 × UpTo 31 z.1; text = λ z. cuts_line z.0 z.1 }

-- the cuts that a list of them holds
abbrev pub cuts_of : Cuts → List ℕ
cuts_of c = take c.count c.places

-- what a reader of a line of cuts at c answers: the cuts, and the cursor behind the line; or where the bytes part from every
-- such line
abbrev pub ReadsCuts : Cursor → Result (Cuts × Cuts × Cursor) ℕ → Type 0
ReadsCuts c (Ok l) = Behind cuts_lines c (cuts_of l.0, cuts_of l.1) l.2
ReadsCuts c (Err p) = LostAt cuts_lines c p
