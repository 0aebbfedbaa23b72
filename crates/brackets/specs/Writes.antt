-- Writing the text of a sheet. Assumes nothing.
use Rattle.std.specs.Prelude.{◌≡◌, ℕ, ◌+◌, ◌≤◌, Bool, ◌⊎◌, List, [], ◌∷◌, ◌++◌, map, length, take, drop, Ok, Err, codes, Vec, vec_items, Result, nat_lt}
use Rattle.std.specs.declared.alloc.Global.{Global}
use Rattle.std.specs.List.{range_with_len}
use Rattle.marks.specs.declared.refusal.Refusal.{Refusal}
use Rattle.marks.specs.Refusals.{Told, accepted, refused, checked, number, placed}
use Rattle.marks.specs.declared.refusal.Refusal.TheVariants.{NoMemory}
use Rattle.terrain.specs.Fills.{dead_in}
use Rattle.sheets.specs.Grids.{Grid}
use Rattle.texts.specs.Texts.{together, row_line, text_of}

-- the lines of the first n rows
abbrev pub row_lines : {M : Type 0} → (M → List ℕ) → Grid M → ℕ → List ℕ
row_lines f g n = together (map (row_line f g) (range_with_len 0 n))

-- some marks, with a blank before each
abbrev pub blanked : {M : Type 0} → (M → List ℕ) → List M → List ℕ
blanked f [] = []
blanked f (m ∷ ms) = 32 ∷ (f m ++ blanked f ms)

-- the line of some marks
abbrev pub line_of : {M : Type 0} → (M → List ℕ) → List M → List ℕ
line_of f ms = codes "(row" ++ (blanked f ms ++ (41 ∷ 10 ∷ []))

-- what is asked before a sheet's text is made, where the scratch has `room` places: 5 if a row does not fit in it, 7 for a dead cell
abbrev pub text_checks : {M : Type 0} → Grid M → ℕ → List (Bool × ℕ)
text_checks g room = (nat_lt room g.cols, 5) ∷ (dead_in g, 7) ∷ []

-- what the length of a sheet's text tells
abbrev pub length_told : {M : Type 0} → List ℕ → (M → List ℕ) → Grid M → ℕ → Told ℕ
length_told word f g room = checked (text_checks g room) (length (text_of word f g))

-- what writing a sheet's text tells, where the buffer has `space` bytes: as above, and then 9 if the text does not fit in it
abbrev pub writing_told : {M : Type 0} → List ℕ → (M → List ℕ) → Grid M → ℕ → ℕ → Told ℕ
writing_told word f g room space = checked (text_checks g room ++ ((nat_lt space (length (text_of word f g)), 9) ∷ [])) (length (text_of word f g))

-- what writing leaves in the buffer: accepted, the text, and behind it what stood there; refused, what it held
abbrev pub WritingLeaves : {M : Type 0} → List ℕ → (M → List ℕ) → Grid M → List ℕ → List ℕ → Result ℕ Refusal → Type 0
WritingLeaves word f g before after (Ok n) = after ≡ text_of word f g ++ drop (length (text_of word f g)) before
WritingLeaves word f g before after (Err e) = after ≡ before

-- what the text of a sheet in memory tells: refused as its length is; else the text, or 27 where there was no memory for it
abbrev pub MemoryTold : {M : Type 0} → List ℕ → (M → List ℕ) → Grid M → ℕ → Result (Vec ℕ Global) Refusal → Type 0
MemoryTold word f g room (Ok v) = accepted (vec_items v) ≡ checked (text_checks g room) (text_of word f g)
MemoryTold word f g room (Err e) =
    (refused (number e) (placed e) ≡ checked (text_checks g room) (text_of word f g))
    ⊎ ((e ≡ NoMemory) × (accepted (tt {0}) ≡ checked (text_checks g room) tt))

-- scratch is unchanged after 5, and free otherwise
abbrev pub ScratchKept : {M X : Type 0} → List M → List M → Result X Refusal → Type 0
ScratchKept before after (Ok x) = Unit {0}
ScratchKept before after (Err e) = number e ≡ 5 → after ≡ before

-- w stands from at on, and all else is as it was
pub record Put (before after : List ℕ) (at : ℕ) (w : List ℕ) (end : ℕ) : Type 0 where
  pub is : after ≡ take at before ++ (w ++ drop end before)
  pub place : end ≡ at + length w
  pub within : end ≤ length before
