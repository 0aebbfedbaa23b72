-- Orders by one key and then by another. Assumes nothing.
use Rattle.std.specs.Prelude.{◌≡◌, ℕ, Bool, true, false, nat_le, refl}
use Rattle.std.proofs.Common.{arith}
use Rattle.std.proofs.lemmas.Bool.{both_ways, leb-true, le-leb}
use Rattle.flood.specs.Entries.{lexical}

pub opened : (less more then : Bool) → lexical less more then ≡ true → (less ≡ true) × (more ≡ true → then ≡ true)
opened true true then h = (refl, λ e. h)
opened true false then h = (refl, λ e. absurd (both_ways false refl e))
opened false more then h = absurd (both_ways false refl h)

closed : (less more then : Bool) → less ≡ true → (more ≡ true → then ≡ true) → lexical less more then ≡ true
closed true true then a b = b refl
closed true false then a b = refl
closed false more then a b = absurd (both_ways false refl a)

-- if two orders are transitive, so is the order by a key of the first and then by the second
pub lexical_transitive : {A : Type 0} (le : A → A → Bool) → ((x y z : A) → le x y ≡ true → le y z ≡ true → le x z ≡ true)
    → (a b c : A) (ab bc ac : Bool) → (ab ≡ true → bc ≡ true → ac ≡ true)
    → lexical (le a b) (le b a) ab ≡ true → lexical (le b c) (le c b) bc ≡ true → lexical (le a c) (le c a) ac ≡ true
lexical_transitive le tr a b c ab bc ac rest p q =
    let p' = opened (le a b) (le b a) ab p in
    let q' = opened (le b c) (le c b) bc q in
    closed (le a c) (le c a) ac (tr a b c p'.0 q'.0)
    (λ ca. rest (p'.1 (tr b c a q'.0 ca)) (q'.1 (tr c a b ca p'.0)))

pub leb_transitive : (x y z : ℕ) → nat_le x y ≡ true → nat_le y z ≡ true → nat_le x z ≡ true
leb_transitive x y z p q = let a = leb-true x y p in let b = leb-true y z q in le-leb x z (omega arith)
