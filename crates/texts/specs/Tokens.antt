-- The parts of a text: words, numbers and brackets. Assumes nothing.
use Rattle.std.specs.Prelude.{ℕ, Bool, cond, ◌&&◌, ◌||◌, List, [], ◌∷◌, Some, None, Option, ◌==◌, nat_le}
use Rattle.texts.specs.declared.tokens.Token.{Token}
use Rattle.texts.specs.declared.tokens.Token.TheVariants.{Word, Number, Open, Close}

-- a blank or a line end
abbrev pub spacing : ℕ → Bool
spacing b = b == 32 || b == 10

-- a blank, a line end or a bracket
abbrev pub separates : ℕ → Bool
separates b = spacing b || (b == 40 || b == 41)

-- a minus or a digit
abbrev pub numeric : ℕ → Bool
numeric b = b == 45 || (nat_le 48 b && nat_le b 57)

-- the bytes before the first blank, line end or bracket
abbrev pub front : List ℕ → List ℕ
front [] = []
front (b ∷ bs) = cond (separates b) [] (b ∷ front bs)

-- a part of a text: the bytes of a word or of a number, or a bracket
pub data Part : Type 0 where
  word : List ℕ → Part
  number : List ℕ → Part
  opening : Part
  closing : Part

-- the part whose first byte is b, and whose bytes are w if it is a word or a number; a blank or a line end begins none
abbrev pub begun_by : ℕ → List ℕ → Option Part
begun_by b w = cond (spacing b) None (cond (b == 40) (Some opening) (cond (b == 41) (Some closing) (cond (numeric b) (Some (number w)) (Some (word w)))))

-- the part that a text begins with
abbrev pub part_of : List ℕ → Option Part
part_of [] = None
part_of (b ∷ bs) = begun_by b (front (b ∷ bs))

-- what a token shows
abbrev pub shown : Option Token → Option Part
shown None = None
shown (Some (Word w)) = Some (word w.now)
shown (Some (Number w)) = Some (number w.now)
shown (Some Open) = Some opening
shown (Some Close) = Some closing
