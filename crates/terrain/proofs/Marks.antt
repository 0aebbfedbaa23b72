-- The order of marks, and the higher of two. Assumes nothing.
use Rattle.std.proofs.Common.{◌≡◌, ℕ, ◌<◌, ◌≤◌, Bool, true, false, cond, min, max, refl, sym, ap, ◌∙◌, ap₂, ⊎_elim, arith}
use Rattle.std.proofs.lemmas.Bool.{cases_lt}
use Rattle.marks.specs.Orders.{OrderLaws, highest}

module _ {M : Type 0} {leb : M → M → Bool} (O : OrderLaws leb) where
  pub le_self : (a : M) → leb a a ≡ true
  le_self a = go (leb a a) refl
    where
      go : (x : Bool) → leb a a ≡ x → leb a a ≡ true
      go true e = e
      go false e = O.total a a e

  pub le_other : (a b : M) → leb a b ≡ false → leb b a ≡ true
  le_other a b e = O.total a b e

  pub le_higher_left : (a b : M) → leb a (highest leb a b) ≡ true
  le_higher_left a b = go (leb a b) refl
    where
      go : (x : Bool) → leb a b ≡ x → leb a (cond x b a) ≡ true
      go true e = e
      go false e = le_self a

  pub le_higher_right : (a b : M) → leb b (highest leb a b) ≡ true
  le_higher_right a b = go (leb a b) refl
    where
      go : (x : Bool) → leb a b ≡ x → leb b (cond x b a) ≡ true
      go true e = le_self b
      go false e = le_other a b e

  pub higher_le : (a b c : M) → leb a c ≡ true → leb b c ≡ true → leb (highest leb a b) c ≡ true
  higher_le a b c p q = elim (leb a b) as (λ x. leb (cond x b a) c ≡ true) [ true ↦ q | false ↦ p ]

  -- what the higher is at most, both are
  pub higher_le_left : (a b c : M) → leb (highest leb a b) c ≡ true → leb a c ≡ true
  higher_le_left a b c h = O.transitive _ _ _ (le_higher_left a b) h

  pub higher_le_right : (a b c : M) → leb (highest leb a b) c ≡ true → leb b c ≡ true
  higher_le_right a b c h = O.transitive _ _ _ (le_higher_right a b) h

  pub highest_swap : (a b : M) → highest leb a b ≡ highest leb b a
  highest_swap a b = go (leb a b) (leb b a) refl refl
    where
      go : (x y : Bool) → leb a b ≡ x → leb b a ≡ y → cond x b a ≡ cond y a b
      go true true p q = O.antisymmetric b a q p
      go true false p q = refl
      go false true p q = refl
      go false false p q = O.antisymmetric a b (O.total b a q) (O.total a b p)

-- the higher of the marks of two nodes, by the marks of all, that of the lower number first
pub higher_by : {M : Type 0} {leb : M → M → Bool} (O : OrderLaws leb) (f : ℕ → M) (u v : ℕ) (x y : M) → x ≡ f u → y ≡ f v → highest leb x y ≡ highest leb (f (min u v)) (f (max u v))
higher_by {leb = leb} O f u v x y p q = ap₂ (highest leb) p q ∙ ⊎_elim
    (λ (h : u < v).
    let low : min u v ≡ u = omega arith in
    let high : max u v ≡ v = omega arith in
    ap₂ (highest leb) (ap f (sym low)) (ap f (sym high)))
    (λ (h : v ≤ u).
    let low : min u v ≡ v = omega arith in
    let high : max u v ≡ u = omega arith in
    highest_swap O (f u) (f v) ∙ ap₂ (highest leb) (ap f (sym low)) (ap f (sym high)))
    (cases_lt u v)
