-- New marks, one by one, and how many rise. Assumes nothing.
use Rattle.std.proofs.Common.{◌≡◌, ℕ, zero, suc, ◌+◌, ◌<◌, Bool, cond, not, ◌&&◌, List, length, get_or, set, None, Option, sym, refl, ap, ◌∙◌, ap₂, ⊎_elim, add-one, arith, get_or-set_other, get_or-set_same}
use Rattle.std.proofs.lemmas.List.{get_or_default, get_or_read}
use Rattle.std.proofs.lemmas.Bool.{cases_eq}
use Rattle.terrain.specs.Cells.{count_below}
use Rattle.terrain.specs.Levels.{new_mark, rises, Raised, risen}
use Rattle.terrain.specs.Terrains.{Kind}

pub count_more : (p : ℕ → Bool) (n : ℕ) → count_below p (n + 1) ≡ cond (p n) 1 0 + count_below p n
count_more p n = ap (count_below p) (add-one n)

pub count_same : (p q : ℕ → Bool) (n : ℕ) → ((k : ℕ) → k < n → p k ≡ q k) → count_below p n ≡ count_below q n
count_same p q zero h = refl
count_same p q (suc n) h = ap₂ (λ b m. cond b 1 0 + m) (h n (omega arith)) (count_same p q n (λ k lt. h k (omega arith)))

module _ {M : Type 0} (κ : Kind M) (before xs : List M) (levels : List (Option M)) (k : ℕ) (e new : M) (l : Option M) (so_far : Raised κ before xs levels k) (inside : k < length xs) (within : k < length levels) (read : l ≡ get_or levels k l) (is : new ≡ new_mark κ (get_or xs k e) l) where
  old : (d : M) → get_or xs k e ≡ get_or before k d
  old d = get_or_default xs k e d inside ∙ so_far.1 k d (omega arith)

  is_new : (d : M) → new ≡ new_mark κ (get_or before k d) (get_or levels k None)
  is_new d = is ∙ ap₂ (new_mark κ) (old d) (get_or_read levels k l within read None)

  pub raised_more : Raised κ before (set xs k new) levels (k + 1)
  raised_more = (
    (λ j d lt. ⊎_elim
        (λ (q : j ≡ k). ap (λ i. get_or (set xs k new) i d) q ∙ get_or-set_same xs k new d inside ∙ is_new d ∙ ap (λ i. new_mark κ (get_or before i d) (get_or levels i None)) (sym q))
        (λ (ne : j ≡ k → ⊥). get_or-set_other xs k j new d ne ∙ so_far.0 j d (omega arith))
        (cases_eq j k)),
    λ j d ge. let ne : j ≡ k → ⊥ = λ q. omega arith in get_or-set_other xs k j new d ne ∙ so_far.1 j d (omega arith),
  )

  pub risen_more : (n : ℕ) → n ≡ risen κ before levels k → (b : Bool) → b ≡ (not (κ.leb (get_or xs k e) κ.void) && not (κ.leb new (get_or xs k e))) → cond b 1 0 + n ≡ risen κ before levels (k + 1)
  risen_more n count b test =
      ap₂ (λ x y. cond x 1 0 + y) (test ∙ ap₂ (λ x y. not (κ.leb x κ.void) && not (κ.leb y x)) (old κ.void) (is_new κ.void)) count
      ∙ sym (count_more (λ j. rises κ (get_or before j κ.void) (get_or levels j None)) k)
