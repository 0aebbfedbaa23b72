-- Letters that spell no class. Assumes nothing.
use Rattle.std.proofs.Common.{◌≡◌, ◌≢◌, ℕ, false, Ok, Err, Result}
use Rattle.std.specs.Prelude.{is_ok}
use Rattle.marks.specs.Classes.{letter_of, Lettered}
use Rattle.marks.specs.declared.class.Class.{Class}
use Rattle.marks.specs.declared.class.UnknownLetter.{UnknownLetter}

pub unlettered : (l : ℕ) (r : Result Class UnknownLetter) → Lettered l r → is_ok r ≡ false → (x : Class) → letter_of x ≢ l
unlettered l (Ok k) is none x = absurd (cc)
unlettered l (Err e) is none x = is.1 x
