-- What an order by a test is, and the higher of two. Assumes nothing.
use Rattle.std.specs.Prelude.{◌≡◌, Bool, true, false, cond}

-- leb x y says that x is at most y: any two compare, and the order is transitive and antisymmetric
pub record OrderLaws {M : Type 0} (leb : M → M → Bool) : Type 0 where
  pub total : (x y : M) → leb x y ≡ false → leb y x ≡ true
  pub transitive : (x y z : M) → leb x y ≡ true → leb y z ≡ true → leb x z ≡ true
  pub antisymmetric : (x y : M) → leb x y ≡ true → leb y x ≡ true → x ≡ y

-- the higher of two
abbrev pub highest : {M : Type 0} → (M → M → Bool) → M → M → M
highest leb a b = cond (leb a b) b a
