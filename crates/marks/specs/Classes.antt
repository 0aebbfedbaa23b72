-- The codes and the letters of the classes. Assumes nothing.
use Rattle.std.specs.Prelude.{◌≡◌, ◌≢◌, ℕ, zero, suc, Bool, Some, None, Option, Result, MatchResult, nat_le}
use Rattle.marks.specs.declared.class.Class.{Class}
use Rattle.marks.specs.declared.class.UnknownLetter.{UnknownLetter}
use Rattle.marks.specs.declared.class.Class.TheVariants.{Void, Open, Strip, Moist, Wet, Peat, Kept}

-- the code of a class, which also gives its order
abbrev pub rank : Class → ℕ
rank Void = 0
rank Open = 1
rank Strip = 2
rank Moist = 3
rank Wet = 4
rank Peat = 5
rank Kept = 6

-- the class of a code, if there is one
abbrev pub ranked : ℕ → Option Class
ranked zero = Some Void
ranked (suc zero) = Some Open
ranked (suc (suc zero)) = Some Strip
ranked (suc (suc (suc zero))) = Some Moist
ranked (suc (suc (suc (suc zero)))) = Some Wet
ranked (suc (suc (suc (suc (suc zero))))) = Some Peat
ranked (suc (suc (suc (suc (suc (suc zero)))))) = Some Kept
ranked (suc (suc (suc (suc (suc (suc (suc n))))))) = None

-- the first is at most the second
abbrev pub below : Class → Class → Bool
below x y = nat_le (rank x) (rank y)

-- the letter of a class, as the code of a character: . o s m w p k
abbrev pub letter_of : Class → ℕ
letter_of Void = 46
letter_of Open = 111
letter_of Strip = 115
letter_of Moist = 109
letter_of Wet = 119
letter_of Peat = 112
letter_of Kept = 107

-- the result is the class that the letter spells, or the letter where it spells none
abbrev pub Lettered : ℕ → Result Class UnknownLetter → Type 0
Lettered letter r = MatchResult r (λ class. letter_of class ≡ letter) (λ e. (e.0 ≡ letter) × ((class : Class) → letter_of class ≢ letter))
