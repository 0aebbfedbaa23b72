-- Two heights of one number are one height, and its bits tell the number. Assumes nothing.
use Rattle.std.specs.Prelude.{◌≡◌, ℕ, ◌^◌, ◌<◌, Bool, true, false, cond, ltb, ℤ, pos, negsuc, Some, None, int_le, nat_lt, refl}
use Rattle.std.proofs.Common.{ap, sym, ◌∙◌, arith, ltb-true, ltb-false, lt-ltb, to_z}
use mathlib.Core.HLevel.{is_prop→PathP}
use Rattle.std.proofs.Math.Bridge.{le_prop}
use Rattle.std.specs.Int.Signed.{mag}
use Rattle.std.specs.Int.{w16}
use Rattle.std.proofs.lemmas.Int.{ints, to_z-of_z, of_z-to_z}
use Rattle.marks.specs.Heights.{bits16, with_dm, height_of}
use Rattle.marks.specs.declared.height.Height.{Height}

pub same_height : (x y : Height) → x.dm ≡ y.dm → x ≡ y
same_height x y e = λ i. record { dm = e i; fits = is_prop→PathP (λ k. mag (e k) < 2 ^ 15) (λ k. le_prop) x.fits y.fits i }

pub le_z_antisym : (a b : ℤ) → int_le a b ≡ true → int_le b a ≡ true → a ≡ b
le_z_antisym a b h k = grind (arith, ints)

pub bits_apart : (a b : ℤ) → mag a < 2 ^ 15 → mag b < 2 ^ 15 → bits16 a ≡ bits16 b → a ≡ b
bits_apart a b f g e = sym (to_z-of_z w16 a (record { sfits = f })) ∙ ap (to_z w16) e ∙ to_z-of_z w16 b (record { sfits = g })

pub bits_small : (z : ℤ) → mag z < 2 ^ 15 → bits16 z < 2 ^ 16
bits_small (pos n) h = omega arith
bits_small (negsuc n) h = omega arith

-- a height of z decimetres is the one that is made of z
with_dm_lem : (z : ℤ) (b : Bool) (e : ltb (mag z) (2 ^ 15) ≡ b) (h : Height) → h.dm ≡ z → with_dm z b e ≡ Some h
unfolding with_dm
with_dm_lem z true e h is = ap Some (same_height _ h (sym is))
with_dm_lem z false e h is = absurd (omega (arith, ltb-false (mag z) (2 ^ 15) e, h.fits, ap mag is))

with_dm_is : (z : ℤ) (b : Bool) (e : ltb (mag z) (2 ^ 15) ≡ b) (h : Height) → with_dm z b e ≡ Some h → h.dm ≡ z
unfolding with_dm
with_dm_is z true e h is = let k : record { dm = z; fits = ltb-true (mag z) (2 ^ 15) e } ≡ h = cc in sym (ap (λ x. x.dm) k)
with_dm_is z false e h is = let n : ◌≡◌ {A = ℕ} 0 1 = cc in absurd (omega arith)

pub height_of_code : (c : ℕ) (h : Height) → c < 2 ^ 16 → h.dm ≡ to_z w16 c → height_of c ≡ Some h
unfolding height_of
height_of_code c h small is = ap (λ b. cond b (with_dm (to_z w16 c) (nat_lt (mag (to_z w16 c)) (2 ^ 15)) refl) None) (lt-ltb c (2 ^ 16) small) ∙ with_dm_lem (to_z w16 c) (nat_lt (mag (to_z w16 c)) (2 ^ 15)) refl h is

pub height_encodes : (x : Height) → bits16 x.dm < 2 ^ 16 → height_of (bits16 x.dm) ≡ Some x
height_encodes x small = height_of_code (bits16 x.dm) x small (sym (to_z-of_z w16 x.dm (record { sfits = x.fits })))

pub height_decodes : (c : ℕ) (x : Height) → height_of c ≡ Some x → bits16 x.dm ≡ c
unfolding height_of
height_decodes c x is = by (nat_lt c (2 ^ 16)) refl is
  where
    by : (b : Bool) → nat_lt c (2 ^ 16) ≡ b → cond b (with_dm (to_z w16 c) (nat_lt (mag (to_z w16 c)) (2 ^ 15)) refl) None ≡ Some x → bits16 x.dm ≡ c
    by true e k = ap bits16 (with_dm_is (to_z w16 c) (nat_lt (mag (to_z w16 c)) (2 ^ 15)) refl x k) ∙ of_z-to_z w16 c (ltb-true c (2 ^ 16) e)
    by false e k = let n : ◌≡◌ {A = ℕ} 0 1 = cc in absurd (omega arith)
