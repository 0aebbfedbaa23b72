-- The text of a sheet by its parts, as a reader meets them. Assumes nothing.
use Rattle.std.specs.Prelude.{ℕ, ◌-◌, List, [], ◌∷◌, codes}
use Rattle.grammar.specs.Grammars.{Grammar, all_by, lit, ended, seq, rep}
use Rattle.grammar.specs.Decimals.{naturals}

-- the value of a row: all marks but the last, and the last
abbrev pub RowOf : Type 0 → Type 0
RowOf M = (Unit {0}) × (List M × (M × (Unit {0})))

-- the line of a row of c marks
abbrev pub row : {M : Type 0} → (M → List ℕ) → ℕ → Grammar (RowOf M)
row f c = seq (lit (codes "(row ")) (λ _. seq (rep (c - 1) (ended (all_by f) 32)) (λ _. seq (ended (all_by f) 41) (λ _. lit (10 ∷ []))))

-- r rows and the last line
abbrev pub body : {M : Type 0} → (M → List ℕ) → ℕ → ℕ → Grammar (List (RowOf M) × (Unit {0}))
body f r c = seq (rep r (row f c)) (λ _. lit (41 ∷ 10 ∷ []))

-- a side and the byte that ends it
abbrev pub sides : ℕ → Grammar ℕ
sides t = ended (naturals 2048) t

-- the value of a first line: the two sides, behind what is the same in every first line of the kind
abbrev pub HeadOf : Type 0
HeadOf = (Unit {0}) × ((Unit {0}) × ((Unit {0}) × (ℕ × ℕ)))

-- the first line
abbrev pub head : List ℕ → Grammar HeadOf
head word = seq (lit (codes "(sheet ")) (λ _. seq (lit word) (λ _. seq (lit (32 ∷ [])) (λ _. seq (sides 32) (λ _. sides 10))))

-- the value of a whole text
abbrev pub WholeOf : Type 0 → Type 0
WholeOf M = HeadOf × (List (RowOf M) × (Unit {0}))

-- the whole text: the first line, and as many rows and columns as it says
abbrev pub whole : {M : Type 0} → List ℕ → (M → List ℕ) → Grammar (WholeOf M)
whole word f = seq (head word) (λ h. body f h.1.1.1.0 h.1.1.1.1)
