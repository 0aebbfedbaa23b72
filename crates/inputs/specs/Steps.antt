-- The cuts of one side as a reader meets them: a blank or a bracket tells whether one more follows. Assumes nothing.
use Rattle.std.specs.Prelude.{◌≡◌, ℕ, ◌≤◌, Bool, true, false, cond, List, [], ◌∷◌, ◌++◌, Ok, Err, codes, decimal, Result}
use Rattle.grammar.specs.Grammars.{Grammar, lit, seq}
use Rattle.texts.specs.Cursors.{Behind, LostAt}
use Rattle.texts.specs.declared.cursor.Cursor.{Cursor}
use Rattle.brackets.specs.Writes.{blanked}
use Rattle.inputs.specs.declared.cuts.Cuts.{Cuts}
use Rattle.inputs.specs.Cuts.{UpTo, cuts_of}

-- a blank if a cut follows, else a bracket
abbrev pub mark : Bool → ℕ
mark more = cond more 32 41

-- such a byte, where n cuts more may follow
abbrev pub marks : ℕ → Grammar Bool
marks n = record { valid = λ more. more ≡ true → 1 ≤ n; text = λ more. mark more ∷ [] }

-- a cut and such a byte
abbrev pub cut : ℕ → Grammar (ℕ × Bool)
cut n = record { valid = λ z. ((1 ≤ z.0) × (z.0 ≤ 2047)) × (z.1 ≡ true → 1 ≤ n); text = λ z. decimal z.0 ++ (mark z.1 ∷ []) }

-- the cuts of one side, and the bracket that ends them
abbrev pub cuts : Grammar (List ℕ)
cuts = record { valid = UpTo 31; text = λ cs. blanked decimal cs ++ (41 ∷ []) }

-- what follows a blank, where at most n cuts may follow, or a bracket
abbrev pub Follows : ℕ → Bool → List ℕ → Type 0
Follows n true [] = ⊥
Follows n true (c ∷ cs) = UpTo n (c ∷ cs)
Follows n false [] = Unit {0}
Follows n false (c ∷ cs) = ⊥

-- its bytes
abbrev pub tail : List ℕ → List ℕ
tail [] = []
tail (c ∷ cs) = decimal c ++ (blanked decimal cs ++ (41 ∷ []))

abbrev pub follow : ℕ → Bool → Grammar (List ℕ)
follow n more = record { valid = Follows n more; text = tail }

-- the line of cuts by its parts
abbrev pub LineOf : Type 0
LineOf = (Unit {0}) × (List ℕ × ((Unit {0}) × (List ℕ × (Unit {0}))))

abbrev pub line : Grammar LineOf
line = seq (lit (codes "(cuts (down")) (λ _. seq cuts (λ _. seq (lit (codes " (across")) (λ _. seq cuts (λ _. lit (41 ∷ 10 ∷ [])))))

-- what a reader of such a byte, of a cut, and of the cuts of one side answers
abbrev pub ReadsMark : ℕ → Cursor → Result (Bool × Cursor) ℕ → Type 0
ReadsMark n c (Ok s) = Behind (marks n) c s.0 s.1
ReadsMark n c (Err p) = LostAt (marks n) c p

abbrev pub ReadsCut : ℕ → Cursor → Result (ℕ × Bool × Cursor) ℕ → Type 0
ReadsCut n c (Ok s) = Behind (cut n) c (s.0, s.1) s.2
ReadsCut n c (Err p) = LostAt (cut n) c p

abbrev pub ReadsSide : Cursor → Result (Cuts × Cursor) ℕ → Type 0
ReadsSide c (Ok r) = Behind cuts c (cuts_of r.0) r.1
ReadsSide c (Err p) = LostAt cuts c p
