-- Reading on from a place in a text. Assumes nothing.
use Rattle.std.specs.Prelude.{◌≡◌, ℕ, ◌+◌, ◌≤◌, length, drop, decimal, Ok, Err, Result}
use Rattle.grammar.specs.Grammars.{Grammar, Found, Lost, ended}
use Rattle.grammar.specs.Decimals.{naturals}
use Rattle.marks.specs.Spellings.{Separator}
use Rattle.texts.specs.Tokens.{front}
use Rattle.texts.specs.declared.cursor.Cursor.{Cursor}

-- what stands at c begins with the text of a, and d stands behind that
pub record Behind {A : Type 0} (K : Grammar A) (c : Cursor) (a : A) (d : Cursor) : Type 0 where
  pub same : d.bytes.now ≡ c.bytes.now
  pub found : Found K c.at (drop c.at c.bytes.now) a d.at

-- what stands at c parts from every text at the place p
abbrev pub LostAt : {A : Type 0} → Grammar A → Cursor → ℕ → Type 0
LostAt K c p = Lost K c.at (drop c.at c.bytes.now) p

-- the answer of a reader at c: the cursor behind a text, or where the bytes part from every text
abbrev pub ReadsOn : {A : Type 0} → Grammar A → Cursor → Result Cursor ℕ → Type 0
ReadsOn {A = A} K c (Ok d) = (a : A) × Behind K c a d
ReadsOn K c (Err p) = LostAt K c p

-- the word at c is the number n, and d stands behind it
pub record Numbered (max : ℕ) (c : Cursor) (n : ℕ) (d : Cursor) : Type 0 where
  pub same : d.bytes.now ≡ c.bytes.now
  pub least : 1 ≤ n
  pub most : n ≤ max
  pub whole : front (drop c.at c.bytes.now) ≡ decimal n
  pub place : d.at ≡ c.at + length (decimal n)

-- the answer of a reader of a number at c: the number, and the cursor behind it; or, where there are numbers at all, where
-- the bytes part from every number and the byte that ends it
abbrev pub ReadsNumber : ℕ → Cursor → Result (ℕ × Cursor) ℕ → Type 0
ReadsNumber max c (Ok s) = Numbered max c s.0 s.1
ReadsNumber max c (Err p) = 1 ≤ max → (t : ℕ) → Separator t → LostAt (ended (naturals max) t) c p
