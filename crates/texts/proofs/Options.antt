-- A value that is asked for by `ok_or`. Assumes nothing.
use Rattle.std.proofs.Common.{◌≡◌, ℕ, Ok, Err, Some, None, Option, refl, ap, arith}
use Rattle.std.specs.Option.{ok_or}

pub was_none : {A : Type 0} (r : Option A) (e p : ℕ) → ok_or r e ≡ Err p → (r ≡ None) × (e ≡ p)
was_none None e p is = (refl, (cc))
was_none (Some a) e p is = let z : ◌≡◌ {A = ℕ} 0 1 = cc in absurd (omega arith)

pub was_some : {A : Type 0} (r : Option A) (e : ℕ) (a : A) → ok_or r e ≡ Ok a → r ≡ Some a
was_some None e a is = let z : ◌≡◌ {A = ℕ} 0 1 = cc in absurd (omega arith)
was_some (Some b) e a is = let same : b ≡ a = cc in ap Some same
