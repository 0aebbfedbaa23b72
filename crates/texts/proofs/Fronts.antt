-- The bytes before the first blank, line end or bracket. Assumes nothing.
use Rattle.std.proofs.Common.{◌≡◌, ℕ, ◌+◌, ◌≤◌, Bool, true, false, cond, ◌||◌, ltb, position, unwrap_or, one-add, List, [], ◌∷◌, ◌++◌, length, take, Some, None, sym, refl, ap, ◌∙◌, subst, inl, inr, ⊎_elim, arith}
use mathlib.Core.Bool.{not}
use Rattle.std.specs.List.{position_or_len}
use Rattle.std.proofs.lemmas.Bool.{ltb-false}
use Rattle.std.proofs.lemmas.List.Sums.{prefix_len-le-length}
use Rattle.std.proofs.lemmas.List.Folds.{length-prefix_len}
use Rattle.std.proofs.lemmas.Bool.Decides.{eqb_tells}
use Rattle.marks.specs.Spellings.{Separator}
use Rattle.texts.specs.Tokens.{separates, front}

-- the test tells a separator
pub separator_test : (b : ℕ) → Separator b → separates b ≡ true
separator_test b s =
    ⊎_elim
    (⊎_elim (λ e. ap separates e) (λ e. ap separates e))
    (⊎_elim (λ e. ap separates e) (λ e. ap separates e)) s

pub test_separator : (b : ℕ) → separates b ≡ true → Separator b
test_separator b e =
    ⊎_elim (λ p. inl (inl p.1)) (λ p.
    ⊎_elim (λ q. inl (inr q.1)) (λ q.
    ⊎_elim (λ r. inr (inl r.1)) (λ r.
    ⊎_elim (λ s. inr (inr s.1)) (λ s.
    let no : separates b ≡ false = (λ i. (p.0 i || q.0 i) || (r.0 i || s.0 i)) in
    let z : ◌≡◌ {A = ℕ} 0 1 = cc in absurd (omega arith))
    (eqb_tells b 41)) (eqb_tells b 40)) (eqb_tells b 10)) (eqb_tells b 32)

pub front_cons : (b : ℕ) (bs : List ℕ) → separates b ≡ false → front (b ∷ bs) ≡ b ∷ front bs
front_cons b bs e = ap (λ t. cond t [] (b ∷ front bs)) e

pub front_none : (b : ℕ) (bs : List ℕ) → separates b ≡ true → front (b ∷ bs) ≡ []
front_none b bs e = ap (λ t. cond t [] (b ∷ front bs)) e

-- the place of the first byte that passes, or the end
pub found_place : (p : ℕ → Bool) (bs : List ℕ) → unwrap_or (position p bs) (length bs) ≡ position_or_len p bs
found_place p bs = by (ltb (position_or_len p bs) (length bs)) refl
  where
    by : (t : Bool) → ltb (position_or_len p bs) (length bs) ≡ t → unwrap_or (cond t (Some (position_or_len p bs)) None) (length bs) ≡ position_or_len p bs
    by true e = refl
    by false e = omega (arith, ltb-false _ _ e, prefix_len-le-length (λ b. not (p b)) bs)

front_take : (bs : List ℕ) → take (position_or_len separates bs) bs ≡ front bs
front_take [] = refl
front_take (b ∷ bs) = by (separates b) (front_take bs)
  where
    by : (t : Bool) → take (position_or_len separates bs) bs ≡ front bs → take (cond (not t) (1 + position_or_len separates bs) 0) (b ∷ bs) ≡ cond t [] (b ∷ front bs)
    by true e = refl
    by false e = ap (λ n. take n (b ∷ bs)) (one-add (position_or_len separates bs)) ∙ ap (λ w. b ∷ w) e

pub front_is : (bs : List ℕ) → take (unwrap_or (position separates bs) (length bs)) bs ≡ front bs
front_is bs = ap (λ n. take n bs) (found_place separates bs) ∙ front_take bs

pub front_long : (bs : List ℕ) → length (front bs) ≤ length bs
front_long bs = omega (arith, ap length (sym (front_take bs)), length-prefix_len (λ b. not (separates b)) bs, prefix_len-le-length (λ b. not (separates b)) bs)

-- what follows the bytes before a separator is a separator, or nothing
abbrev pub Cut : List ℕ → Type 0
Cut v = (b : ℕ) (x : List ℕ) → v ≡ b ∷ x → Separator b

pub front_split : (bs : List ℕ) → (v : List ℕ) × (bs ≡ front bs ++ v) × Cut v
front_split [] = ([], refl, λ b x e. let z : ◌≡◌ {A = ℕ} 0 1 = cc in absurd (omega arith))
front_split (b ∷ bs) = by (separates b) refl (front_split bs)
  where
    by : (t : Bool) → separates b ≡ t → ((v : List ℕ) × (bs ≡ front bs ++ v) × Cut v) → (v : List ℕ) × (b ∷ bs ≡ front (b ∷ bs) ++ v) × Cut v
    by true e r = (b ∷ bs, sym (ap (λ w. w ++ (b ∷ bs)) (front_none b bs e)), λ c x is. let same : b ≡ c = cc in subst Separator same (test_separator b e))
    by false e r = (r.0, ap (λ w. b ∷ w) r.1 ∙ sym (ap (λ w. w ++ r.0) (front_cons b bs e)), r.2)

-- no separator stands before the first one
pub front_clear : (bs u w : List ℕ) (t : ℕ) → Separator t → front bs ≡ u ++ (t ∷ w) → ⊥
front_clear [] [] w t s e = let z : ◌≡◌ {A = ℕ} 0 1 = cc in omega arith
front_clear [] (x ∷ u) w t s e = let z : ◌≡◌ {A = ℕ} 0 1 = cc in omega arith
front_clear (b ∷ bs) u w t s e = by (separates b) refl (λ v. front_clear bs v w t s) u e
  where
    by : (r : Bool) → separates b ≡ r → ((v : List ℕ) → front bs ≡ v ++ (t ∷ w) → ⊥) → (u : List ℕ) → front (b ∷ bs) ≡ u ++ (t ∷ w) → ⊥
    by true is rec [] e = let none = front_none b bs is in let z : ◌≡◌ {A = ℕ} 0 1 = cc in omega arith
    by true is rec (x ∷ u) e = let none = front_none b bs is in let z : ◌≡◌ {A = ℕ} 0 1 = cc in omega arith
    by false is rec [] e =
        let some = sym (front_cons b bs is) ∙ e in
        let same : b ≡ t = cc in
        let yes = separator_test t s in
        let no : separates t ≡ false = ap separates (sym same) ∙ is in
        let z : ◌≡◌ {A = ℕ} 0 1 = cc in omega arith
    by false is rec (x ∷ u) e = let some = sym (front_cons b bs is) ∙ e in rec u (cc)
