-- The mark that has a spelling. Assumes nothing.
use Rattle.std.proofs.Common.{◌≡◌, ℕ, zero, suc, ◌^◌, ◌<◌, Bool, true, false, cond, ◌&&◌, List, [], ◌∷◌, Some, None, Option, sym, refl, ap, ◌∙◌, ⊎_elim, arith, MatchOption}
use Rattle.std.proofs.lemmas.Bool.{cases_eq}
use Rattle.std.proofs.lemmas.Bool.Decides.{eqb_tells}
use Rattle.sheets.specs.Grids.{cell_of}
use Rattle.texts.specs.Tokens.{front}
use Rattle.brackets.specs.Lines.{parts_on}
use Rattle.brackets.specs.Cells.{same, spells, mark_below, mark_of, cell_along}

-- the test tells equal bytes
pub same_is : (xs ys : List ℕ) → same xs ys ≡ true → xs ≡ ys
same_is [] [] e = refl
same_is [] (y ∷ ys) e = let z : ◌≡◌ {A = ℕ} 0 1 = cc in absurd (omega arith)
same_is (x ∷ xs) [] e = let z : ◌≡◌ {A = ℕ} 0 1 = cc in absurd (omega arith)
same_is (x ∷ xs) (y ∷ ys) e =
    ⊎_elim
    (λ p. let rest : xs ≡ ys = same_is xs ys (ap (λ t. t && same xs ys) (sym p.0) ∙ e) in let first = p.1 in λ i. first i ∷ rest i)
    (λ p. let no : false ≡ true = ap (λ t. t && same xs ys) (sym p.0) ∙ e in let z : ◌≡◌ {A = ℕ} 0 1 = cc in absurd (omega arith))
    (eqb_tells x y)

pub same_self : (xs : List ℕ) → same xs xs ≡ true
same_self [] = refl
same_self (x ∷ xs) = ⊎_elim (λ p. ap (λ t. t && same xs xs) p.0 ∙ same_self xs) (λ p. absurd (p.1 refl)) (eqb_tells x x)

module _ {M : Type 0} (decoded : ℕ → Option M) (f : M → List ℕ) (w : List ℕ) where
  -- what is found has the spelling
  pub below_spells : (n : ℕ) (x : M) → mark_below decoded f n w ≡ Some x → f x ≡ w
  unfolding mark_below
  below_spells zero x e = let z : ◌≡◌ {A = ℕ} 0 1 = cc in absurd (omega arith)
  below_spells (suc n) x e = by (decoded n) (spells f w (decoded n)) refl e (below_spells n x)
    where
      by : (o : Option M) (b : Bool) → spells f w o ≡ b → cond b o (mark_below decoded f n w) ≡ Some x → (mark_below decoded f n w ≡ Some x → f x ≡ w) → f x ≡ w
      by None true s e rec = let z : ◌≡◌ {A = ℕ} 0 1 = cc in absurd (omega arith)
      by (Some y) true s e rec = let is : y ≡ x = cc in ap f (sym is) ∙ same_is (f y) w s
      by o false s e rec = rec e

  -- a mark whose code is below n is found
  pub below_finds : ((x y : M) → f x ≡ f y → x ≡ y) → (x : M) (c : ℕ) → decoded c ≡ Some x → f x ≡ w → (n : ℕ) → c < n → mark_below decoded f n w ≡ Some x
  unfolding mark_below
  below_finds one x c e s zero h = absurd (omega arith)
  below_finds one x c e s (suc n) h = by (decoded n) (spells f w (decoded n)) refl refl (below_finds one x c e s n)
    where
      by : (o : Option M) (b : Bool) → decoded n ≡ o → spells f w o ≡ b → (c < n → mark_below decoded f n w ≡ Some x) → cond b o (mark_below decoded f n w) ≡ Some x
      by None true d t rec = let z : ◌≡◌ {A = ℕ} 0 1 = cc in absurd (omega arith)
      by (Some y) true d t rec = ap Some (one y x (same_is (f y) w t ∙ sym s))
      by o false d t rec =
          ⊎_elim
          (λ is.
          let here : o ≡ Some x = sym d ∙ ap decoded (sym is) ∙ e in
          let yes : spells f w o ≡ true = ap (spells f w) here ∙ ap (λ v. same v w) s ∙ same_self w in
          let z : ◌≡◌ {A = ℕ} 0 1 = cc in absurd (omega arith))
          (λ ne. rec (omega arith))
          (cases_eq c n)

-- what is asked of codes and spellings
pub record Coding {M : Type 0} (coded : M → ℕ) (decoded : ℕ → Option M) (f : M → List ℕ) : Type 0 where
  pub narrow : (x : M) → coded x < 2 ^ 16
  pub encodes : (x : M) → decoded (coded x) ≡ Some x
  pub distinct : (x y : M) → f x ≡ f y → x ≡ y

module _ {M : Type 0} (coded : M → ℕ) (decoded : ℕ → Option M) (f : M → List ℕ) (laws : Coding coded decoded f) (w : List ℕ) where
  pub mark_found : (x : M) → f x ≡ w → mark_of decoded f w ≡ Some x
  unfolding mark_of
  mark_found x e = below_finds decoded f w laws.distinct x (coded x) (laws.encodes x) e (2 ^ 16) (laws.narrow x)

  spelt : (y : M) → mark_of decoded f w ≡ Some y → f y ≡ w
  unfolding mark_of
  spelt y e = below_spells decoded f w (2 ^ 16) y e

  -- what a reader of spellings answers
  pub mark_is : (r : Option M) → MatchOption r ((x : M) → f x ≡ w → ⊥) (λ x. f x ≡ w) → r ≡ mark_of decoded f w
  mark_is (Some x) h = sym (mark_found x h)
  mark_is None h = by (mark_of decoded f w) refl
    where
      by : (o : Option M) → mark_of decoded f w ≡ o → None ≡ mark_of decoded f w
      by None e = sym e
      by (Some y) e = absurd (h y (spelt y e))

-- the cell at a place of a line
pub along_at : {M : Type 0} (decoded : ℕ → Option M) (f : M → List ℕ) (line : List ℕ) (k : ℕ) (rest : List ℕ) → rest ≡ parts_on k line → cell_along decoded f line k ≡ cell_of (mark_of decoded f (front rest))
along_at decoded f line k rest e = ap (λ w. cell_of (mark_of decoded f (front w))) (sym e)
