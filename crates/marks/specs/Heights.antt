-- The codes of heights. Assumes nothing.
use Rattle.std.specs.Prelude.{◌≡◌, ℕ, ◌^◌, Bool, true, false, cond, ℤ, Some, None, Option, nat_lt, refl}
use Rattle.std.specs.Int.Signed.{mag}
use Rattle.std.proofs.Common.{ltb-true, of_z, to_z}
use Rattle.std.specs.Int.{w16}
use Rattle.marks.specs.declared.height.Height.{Height}

-- the 16 bits of z, by two's complement
abbrev pub bits16 : ℤ → ℕ
bits16 z = of_z w16 z

-- the height of z decimetres, if there is one
unfoldable pub with_dm : (z : ℤ) (b : Bool) → nat_lt (mag z) (2 ^ 15) ≡ b → Option Height
with_dm z true e = Some (record { dm = z; fits = ltb-true (mag z) (2 ^ 15) e })
with_dm z false e = None

-- the height that has the code c, if there is one
unfoldable pub height_of : ℕ → Option Height
height_of c = cond (nat_lt c (2 ^ 16)) (with_dm (to_z w16 c) (nat_lt (mag (to_z w16 c)) (2 ^ 15)) refl) None
