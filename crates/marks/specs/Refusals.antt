-- The numbers of the refusals, and what a call tells its caller. Assumes nothing.
use Rattle.std.specs.Prelude.{ℕ, Bool, cond, List, [], ◌∷◌, ◌++◌, Ok, Err, Result, codes, decimal}
use Rattle.marks.specs.declared.refusal.Refusal.{Refusal}
use Rattle.marks.specs.declared.refusal.Refusal.TheVariants.{Size, CutRule, NoSuchTile, WrongLength, ScratchShort, Outside, DeadCell, Text, BufferShort, TileSurveyed, RoundSettled, TilesMissing, RoundOpen, HeapFull, NoLowering, NoMemory}

-- the number that users know a refusal by
abbrev pub number : Refusal → ℕ
number Size = 1
number CutRule = 2
number NoSuchTile = 3
number WrongLength = 4
number ScratchShort = 5
number Outside = 6
number DeadCell = 7
number (Text p) = 8
number BufferShort = 9
number TileSurveyed = 21
number RoundSettled = 22
number TilesMissing = 23
number RoundOpen = 24
number HeapFull = 25
number NoLowering = 26
number NoMemory = 27

-- the byte place of a text's refusal, and 0 of any other
abbrev pub placed : Refusal → ℕ
placed Size = 0
placed CutRule = 0
placed NoSuchTile = 0
placed WrongLength = 0
placed ScratchShort = 0
placed Outside = 0
placed DeadCell = 0
placed (Text p) = p
placed BufferShort = 0
placed TileSurveyed = 0
placed RoundSettled = 0
placed TilesMissing = 0
placed RoundOpen = 0
placed HeapFull = 0
placed NoLowering = 0
placed NoMemory = 0

-- as it is printed: (refused 8 17)
abbrev pub refusal_text : Refusal → List ℕ
refusal_text r = codes "(refused " ++ decimal (number r) ++ codes " " ++ decimal (placed r) ++ codes ")"

-- what a call tells: its answer, or the number and the place of its refusal
pub data Told (X : Type 0) : Type 0 where
  accepted : X → Told X
  refused : ℕ → ℕ → Told X

-- what the result of a call tells
abbrev pub told : {X : Type 0} → Result X Refusal → Told X
told (Ok x) = accepted x
told (Err e) = refused (number e) (placed e)

-- the checks of a call in their order, each with whether it fails and the number of its refusal: the first that fails
-- refuses, and where none fails the call answers
abbrev pub checked : {X : Type 0} → List (Bool × ℕ) → X → Told X
checked [] x = accepted x
checked (c ∷ cs) x = cond c.0 (refused c.1 0) (checked cs x)

-- what is told of an answer, where only a part or a meaning of it is spoken of
abbrev pub answered : {X Y : Type 0} → (X → Y) → Told X → Told Y
answered f (accepted x) = accepted (f x)
answered f (refused n p) = refused n p

-- the call was accepted
abbrev pub Accepted : {X : Type 0} → Told X → Type 0
Accepted (accepted x) = Unit {0}
Accepted (refused n p) = ⊥
