-- The program's answer to its input. Assumes nothing.
use Rattle.std.specs.Prelude.{◌≡◌, ℕ, ◌*◌, ◌<◌, ◌≤◌, ◌⊎◌, List, [], ◌∷◌, length, negsuc, codes, int_le, nat_lt}
use Rattle.std.proofs.Common.{lit<}
use Rattle.grammar.specs.Grammars.{LongestShared}
use Rattle.marks.specs.Classes.{below, letter_of}
use Rattle.marks.specs.Refusals.{Told, accepted, refused, checked, answered}
use Rattle.marks.specs.Spellings.{spelled_z}
use Rattle.marks.specs.declared.class.Class.{Class}
use Rattle.marks.specs.declared.class.Class.TheVariants.{Void}
use Rattle.marks.specs.declared.height.Height.{Height}
use Rattle.sheets.specs.Grids.{Grid}
use Rattle.tiles.specs.Rules.{cut_checks}
use Rattle.inputs.specs.Inputs.{inputs, Reading, IsInput, either}
use Rattle.answers.specs.Printed.{Coded, Printed}

-- heights, with their word and spellings
abbrev pub heights : Coded Height
heights = record { kind = record { leb = λ x y. int_le x.dm y.dm; void = record { dm = negsuc 32767; fits = lit< tt } }; word = codes "height"; spelled = λ x. spelled_z x.dm }

-- classes, with theirs
abbrev pub classes : Coded Class
classes = record { kind = record { leb = below; void = Void }; word = codes "class"; spelled = λ x. letter_of x ∷ [] }

-- an answer prints what is to be printed for the sheet g
abbrev pub Prints : {M : Type 0} → Coded M → Grid M → Told (List ℕ) → Type 0
Prints κ g (accepted out) = Printed κ g out
Prints κ g (refused n p) = Unit {0}

-- the answer to an input that was read, with the sheet g: refused by 1 above 4,096 cells, then as a cut list of such sides and
-- cuts would be; else what is printed
pub record Answered {M : Type 0} (κ : Coded M) (g : Grid M) (down across : List ℕ) (t : Told (List ℕ)) : Type 0 where
  pub checks : answered (λ _. tt {0}) t ≡ checked ((nat_lt 4096 (g.rows * g.cols), 1) ∷ cut_checks g.rows down g.cols across) tt
  pub prints : Prints κ g t

-- such an input passes these checks, and there was no memory to print what is to be printed
pub record Unprinted {M : Type 0} (g : Grid M) (down across : List ℕ) (t : Told (List ℕ)) : Type 0 where
  pub checks : accepted (tt {0}) ≡ checked ((nat_lt 4096 (g.rows * g.cols), 1) ∷ cut_checks g.rows down g.cols across) tt
  pub refusal : t ≡ refused 27 0

-- the bytes are an input of a kind, and the answer is the one to it, or says that there was no memory for that
abbrev pub AnsweredAs : {M : Type 0} → Coded M → List ℕ → Told (List ℕ) → Type 0
AnsweredAs {M = M} κ bytes t = (g : Grid M) × (down : List ℕ) × (across : List ℕ) × Reading κ.word κ.spelled bytes g down across × (Unprinted g down across t ⊎ Answered κ g down across t)

-- the answer to bytes: refused by 1 above 60,000 of them; then by 8, at the length of the longest beginning that they share with
-- any input of either kind, if they are none; else as above
pub data Answer (bytes : List ℕ) (t : Told (List ℕ)) : Type 0 where
  too_long : 60000 < length bytes → t ≡ refused 1 0 → Answer bytes t
  no_input : length bytes ≤ 60000 → (IsInput heights.word heights.spelled bytes → ⊥) → (IsInput classes.word classes.spelled bytes → ⊥) → (p : ℕ) → LongestShared (either (inputs heights.word heights.spelled) (inputs classes.word classes.spelled)) bytes p → t ≡ refused 8 p → Answer bytes t
  of_heights : length bytes ≤ 60000 → AnsweredAs heights bytes t → Answer bytes t
  of_classes : length bytes ≤ 60000 → AnsweredAs classes bytes t → Answer bytes t
