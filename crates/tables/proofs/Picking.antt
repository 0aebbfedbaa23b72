-- Which answers are picked, and where. Assumes nothing.
use Rattle.std.proofs.Common.{◌≡◌, ℕ, zero, suc, ◌+◌, ◌-◌, ◌<◌, ◌≤◌, Bool, true, false, cond, ◌⊎◌, List, [], ◌∷◌, ◌++◌, length, Some, None, Option, sym, refl, ap, ◌∙◌, subst, inl, inr, ⊎_elim, add-one, arith}
use Rattle.std.specs.List.{slice_get}
use Rattle.std.proofs.lemmas.Bool.{cases_eq}
use Rattle.tables.specs.Picks.{front, picked, first}

pub none_some : {X : Type 0} (x : X) → None ≡ Some x → ⊥
none_some x p = let z : ◌≡◌ {A = ℕ} 0 1 = cc in omega arith

-- some answer, or none
pub answer : {X : Type 0} (o : Option X) → (o ≡ None) ⊎ ((x : X) × (o ≡ Some x))
answer None = inl refl
answer (Some x) = inr (x, refl)

module _ {X : Type 0} (f : ℕ → Option X) where
  -- one place more in front
  pub picked_none : (k n : ℕ) → f k ≡ None → picked f k (suc n) ≡ picked f (suc k) n
  unfolding picked
  picked_none k n e = ap (λ o. front o (picked f (suc k) n)) e

  pub picked_some : (k n : ℕ) (x : X) → f k ≡ Some x → picked f k (suc n) ≡ x ∷ picked f (suc k) n
  unfolding picked
  picked_some k n x e = ap (λ o. front o (picked f (suc k) n)) e

  pub picked_end : (k : ℕ) → picked f k 0 ≡ []
  unfolding picked
  picked_end k = refl

  -- no more are picked than places
  pub picked_short : (k n : ℕ) → length (picked f k n) ≤ n
  picked_short k zero = subst (λ xs. length xs ≤ 0) (sym (picked_end k)) (omega arith)
  picked_short k (suc n) = ⊎_elim
      (λ e. subst (λ xs. length xs ≤ suc n) (sym (picked_none k n e)) (omega (arith, picked_short (suc k) n)))
      (λ r. subst (λ xs. length xs ≤ suc n) (sym (picked_some k n r.0 r.1)) (omega (arith, picked_short (suc k) n)))
      (answer (f k))

  -- what is picked is an answer at one of the places
  pub picked_of : (k n j : ℕ) (x : X) → slice_get (picked f k n) j ≡ Some x → (i : ℕ) × (k ≤ i) × (i < k + n) × (f i ≡ Some x)
  picked_of k zero j x e = absurd (none_some x (sym (ap (λ xs. slice_get xs j) (picked_end k)) ∙ e))
  picked_of k (suc n) j x e = ⊎_elim
      (λ (is : f k ≡ None).
      let r = picked_of (suc k) n j x (ap (λ xs. slice_get xs j) (sym (picked_none k n is)) ∙ e) in
      (r.0, omega (arith, r.1), omega (arith, r.2), r.3))
      (λ (is : (y : X) × (f k ≡ Some y)). in_front j is.0 is.1 (ap (λ xs. slice_get xs j) (sym (picked_some k n is.0 is.1)) ∙ e) (picked_of (suc k) n))
      (answer (f k))
    where
      in_front : (j : ℕ) (y : X) → f k ≡ Some y → slice_get (y ∷ picked f (suc k) n) j ≡ Some x → ((j : ℕ) (x : X) → slice_get (picked f (suc k) n) j ≡ Some x → (i : ℕ) × (suc k ≤ i) × (i < suc k + n) × (f i ≡ Some x)) → (i : ℕ) × (k ≤ i) × (i < k + suc n) × (f i ≡ Some x)
      in_front zero y is h rest = (k, omega arith, omega arith, is ∙ h)
      in_front (suc j) y is h rest = let r = rest j x h in (r.0, omega (arith, r.1), omega (arith, r.2), r.3)

  -- and each answer at one of the places is picked
  pub of_picked : (k n i : ℕ) (x : X) → k ≤ i → i < k + n → f i ≡ Some x → (j : ℕ) × (slice_get (picked f k n) j ≡ Some x)
  of_picked k zero i x low high e = absurd (omega arith)
  of_picked k (suc n) i x low high e = ⊎_elim
      (λ (is : f k ≡ None). ⊎_elim
      (λ (here : i ≡ k). absurd (none_some x (sym is ∙ ap f (sym here) ∙ e)))
      (λ (later : suc k ≤ i). let r = of_picked (suc k) n i x later (omega arith) e in (r.0, ap (λ xs. slice_get xs r.0) (picked_none k n is) ∙ r.1))
      (split i k low))
      (λ (is : (y : X) × (f k ≡ Some y)). ⊎_elim
      (λ (here : i ≡ k). (0, ap (λ xs. slice_get xs 0) (picked_some k n is.0 is.1) ∙ sym is.1 ∙ ap f (sym here) ∙ e))
      (λ (later : suc k ≤ i). let r = of_picked (suc k) n i x later (omega arith) e in (suc r.0, ap (λ xs. slice_get xs (suc r.0)) (picked_some k n is.0 is.1) ∙ r.1))
      (split i k low))
      (answer (f k))
    where
      split : (i k : ℕ) → k ≤ i → (i ≡ k) ⊎ (suc k ≤ i)
      split i k h = ⊎_elim (λ (e : i ≡ k). inl e) (λ (n : i ≡ k → ⊥). inr (omega (arith, n))) (cases_eq i k)

-- the first number that passes a test passes it, if some does
pub first_passes : (p : ℕ → Bool) (k n i : ℕ) → k ≤ i → i < k + n → p i ≡ true → (first p k n < k + n) × (p (first p k n) ≡ true)
unfolding first
first_passes p k zero i low high e = absurd (omega arith)
first_passes p k (suc n) i low high e = go (p k) refl (first_passes p (suc k) n)
  where
    go : (b : Bool) → p k ≡ b → ((i : ℕ) → suc k ≤ i → i < suc k + n → p i ≡ true → (first p (suc k) n < suc k + n) × (p (first p (suc k) n) ≡ true)) → (first p k (suc n) < k + suc n) × (p (first p k (suc n)) ≡ true)
    go true is rest =
        let here : first p k (suc n) ≡ k = ap (λ b. cond b k (first p (suc k) n)) is in
        (omega (arith, here), ap p here ∙ is)
    go false is rest =
        let there : first p k (suc n) ≡ first p (suc k) n = ap (λ b. cond b k (first p (suc k) n)) is in
        let other : i ≡ k → ⊥ = λ h. (let z : true ≡ false = sym e ∙ ap p h ∙ is in absurd (true_false z)) in
        let r = rest i (omega (arith, other)) (omega arith) e in
        (omega (arith, there, r.0), ap p there ∙ r.1)
      where
        true_false : true ≡ false → ⊥
        true_false z = let q : ◌≡◌ {A = ℕ} 0 1 = cc in omega arith

-- what stands at a place of one list after another
pub nth_left : {X : Type 0} (xs ys : List X) (j : ℕ) (x : X) → slice_get xs j ≡ Some x → slice_get (xs ++ ys) j ≡ Some x
nth_left [] ys j x e = absurd (none_some x e)
nth_left (y ∷ xs) ys zero x e = e
nth_left (y ∷ xs) ys (suc j) x e = nth_left xs ys j x e

pub nth_right : {X : Type 0} (xs ys : List X) (j : ℕ) → slice_get (xs ++ ys) (length xs + j) ≡ slice_get ys j
nth_right {X} [] ys j = let e : length {A = X} [] + j ≡ j = omega arith in ap (slice_get ys) e
nth_right (y ∷ xs) ys j = let e : length (y ∷ xs) + j ≡ suc (length xs + j) = omega arith in ap (slice_get ((y ∷ xs) ++ ys)) e ∙ nth_right xs ys j

pub nth_either : {X : Type 0} (xs ys : List X) (j : ℕ) (x : X) → slice_get (xs ++ ys) j ≡ Some x → (slice_get xs j ≡ Some x) ⊎ ((i : ℕ) × (slice_get ys i ≡ Some x))
nth_either [] ys j x e = inr (j, e)
nth_either (y ∷ xs) ys zero x e = inl e
nth_either (y ∷ xs) ys (suc j) x e = nth_either xs ys j x e

-- A search for the answer at `place` among those picked from n places stands at the place k, and has `left` answers to pass.
pub record Passing {X : Type 0} (f : ℕ → Option X) (n place k left : ℕ) : Type 0 where
  pub same : slice_get (picked f 0 n) place ≡ slice_get (picked f k (n - k)) left
  pub long : length (picked f 0 n) + left ≡ place + length (picked f k (n - k))

module _ {X : Type 0} (f : ℕ → Option X) (n place : ℕ) where
  pub passing_start : Passing f n place 0 place
  passing_start =
      let e : n - 0 ≡ n = omega arith in
      record { same = ap (λ m. slice_get (picked f 0 m) place) (sym e); long = ap (λ m. length (picked f 0 m) + place) (sym e) ∙ omega arith }

  -- what is left at k, if there is a place there
  step : (k : ℕ) → k < n → picked f k (n - k) ≡ picked f k (suc (n - (k + 1)))
  step k h = let e : n - k ≡ suc (n - (k + 1)) = omega arith in ap (picked f k) e

  pub passing_none : (k left : ℕ) → k < n → f k ≡ None → Passing f n place k left → Passing f n place (k + 1) left
  passing_none k left h e s =
      let on : picked f k (n - k) ≡ picked f (k + 1) (n - (k + 1)) = step k h ∙ picked_none f k (n - (k + 1)) e ∙ ap (λ m. picked f m (n - (k + 1))) (sym (add-one k)) in
      record { same = s.same ∙ ap (λ xs. slice_get xs left) on; long = s.long ∙ ap (λ xs. place + length xs) on }

  on_some : (k : ℕ) (x : X) → k < n → f k ≡ Some x → picked f k (n - k) ≡ x ∷ picked f (k + 1) (n - (k + 1))
  on_some k x h e = step k h ∙ picked_some f k (n - (k + 1)) x e ∙ ap (λ m. x ∷ picked f m (n - (k + 1))) (sym (add-one k))

  pub passing_some : (k left : ℕ) (x : X) → k < n → f k ≡ Some x → 0 < left → Passing f n place k left → Passing f n place (k + 1) (left - 1)
  passing_some k left x h e more s =
      let on = on_some k x h e in
      let one : left ≡ suc (left - 1) = omega arith in
      record { same = s.same ∙ ap (λ xs. slice_get xs left) on ∙ ap (slice_get (x ∷ picked f (k + 1) (n - (k + 1)))) one; long = omega (arith, s.long, ap length on) }

  pub passing_found : (k left : ℕ) (x : X) → k < n → f k ≡ Some x → left ≡ 0 → Passing f n place k left → slice_get (picked f 0 n) place ≡ Some x
  passing_found k left x h e none s = s.same ∙ ap (λ xs. slice_get xs left) (on_some k x h e) ∙ ap (slice_get (x ∷ picked f (k + 1) (n - (k + 1)))) none

  pub passing_end : (k left : ℕ) → n ≤ k → Passing f n place k left → (length (picked f 0 n) + left ≡ place) × (slice_get (picked f 0 n) place ≡ None)
  passing_end k left h s =
      let e : n - k ≡ 0 = omega arith in
      let on : picked f k (n - k) ≡ [] = ap (picked f k) e ∙ picked_end f k in
      (omega (arith, s.long, ap length on), s.same ∙ ap (λ xs. slice_get xs left) on)
