use Rattle.std.proofs.Common.{◌≡◌, ℕ, zero, suc, ◌+◌, ◌<◌, List, [], ◌∷◌, length, get_or, take, drop, set, Some, None, Option, sym, refl, ap, ◌∙◌, ⊎_elim, arith, drop-drop, drop-set-lt}
use Rattle.std.proofs.lemmas.Bool.{cases_eq}
use Rattle.std.specs.List.{slice_get}
use Rattle.std.proofs.lemmas.Option.{slice_get_read}
use Rattle.std.proofs.lemmas.List.{get_or_read, get_or-take, length-take-le}
use Rattle.tables.specs.declared.records.MouthRecord.{MouthRecord}
use Rattle.tables.specs.Records.{mouth_with}
use Rattle.settling.specs.Grounds.{Kept}
use Rattle.settling.proofs.sills.keep_sills.Goals as goal

-- what stands elsewhere, and in the place that was written
nth_other : {X : Type 0} (xs : List X) (i k : ℕ) (x : X) → (i ≡ k → ⊥) → slice_get (set xs k x) i ≡ slice_get xs i
nth_other [] i k x h = refl
nth_other (y ∷ xs) zero zero x h = absurd (h refl)
nth_other (y ∷ xs) zero (suc k) x h = refl
nth_other (y ∷ xs) (suc i) zero x h = refl
nth_other (y ∷ xs) (suc i) (suc k) x h = nth_other xs i k x (λ e. h (ap suc e))

nth_here : {X : Type 0} (xs : List X) (k : ℕ) (x : X) → k < length xs → slice_get (set xs k x) k ≡ Some x
nth_here [] k x h = absurd (omega arith)
nth_here (y ∷ xs) zero x h = refl
nth_here (y ∷ xs) (suc k) x h = nth_here xs k x (omega arith)

-- one record more
more : {M : Type 0} (ms : List (MouthRecord M)) (ls : List (Option M)) (k : ℕ) (now : List (MouthRecord M)) (r : MouthRecord M) (l : Option M) → Kept ms ls k now → k < length now → r ≡ get_or now k r → l ≡ get_or ls k None → Kept ms ls (k + 1) (set now k (mouth_with r.mark l))
more ms ls k now r l s h read is = record {
  new = λ a q lt e. ⊎_elim
      (λ (here : a ≡ k).
      let stood : slice_get ms k ≡ slice_get now k = sym (behind_nth now ms k s.behind) in
      let same : r ≡ q = some_same r q (sym (slice_get_read now (length now) k r refl h read) ∙ sym stood ∙ ap (slice_get ms) (sym here) ∙ e) in
      ap (slice_get (set now k (mouth_with r.mark l))) here ∙ nth_here now k (mouth_with r.mark l) h ∙ (λ i. Some (mouth_with (same i).mark (is i))) ∙ ap (λ n. Some (mouth_with q.mark (get_or ls n None))) (sym here))
      (λ (other : a ≡ k → ⊥). nth_other now a k (mouth_with r.mark l) other ∙ s.new a q (omega (arith, other)) e)
      (cases_eq a k);
  behind = drop-set-lt (k + 1) now k (mouth_with r.mark l) (omega arith) ∙ drop_more now ms k s.behind;
}
  where
    some_same : {X : Type 0} (x y : X) → Some x ≡ Some y → x ≡ y
    some_same x y e = cc

    nth_drop : {X : Type 0} (xs : List X) (k : ℕ) → slice_get xs k ≡ slice_get (drop k xs) 0
    nth_drop [] zero = refl
    nth_drop [] (suc k) = refl
    nth_drop (x ∷ xs) zero = refl
    nth_drop (x ∷ xs) (suc k) = nth_drop xs k

    behind_nth : {X : Type 0} (xs ys : List X) (k : ℕ) → drop k xs ≡ drop k ys → slice_get xs k ≡ slice_get ys k
    behind_nth xs ys k e = nth_drop xs k ∙ ap (λ zs. slice_get zs 0) e ∙ sym (nth_drop ys k)

    drop_more : {X : Type 0} (xs ys : List X) (k : ℕ) → drop k xs ≡ drop k ys → drop (k + 1) xs ≡ drop (k + 1) ys
    drop_more xs ys k e = sym (drop-drop 1 k xs) ∙ ap (drop 1) e ∙ drop-drop 1 k ys

pub loop-k-preserved : goal.loop-k-preserved
loop-k-preserved g c =
    let all : length (take c.args.count c.args.levels.now) ≡ c.args.count = length-take-le c.args.count c.args.levels.now c.requires.1 in
    let here : c.loop-k.k < c.args.count = omega (arith, all, c.loop-k-test.true) in
    let lt : c.loop-k.k < length c.loop-k.mouths = omega (arith, c.loop-k.auto.mouths, c.requires, here) in
    let level = get_or_read (take c.args.count c.args.levels.now) c.loop-k.k c.level-item.result c.loop-k-test.true c.level-item.is None ∙ get_or-take c.args.count c.args.levels.now c.loop-k.k None here in
    rw (sym c.index-mouths-k.is) (more c.args.mouths.now c.args.levels.now c.loop-k.k c.loop-k.mouths c.index-mouths-k.result c.level-item.result c.loop-k.invariant lt c.index-mouths-k.is level)

pub returns : goal.returns
returns g c =
    let all : length (take c.args.count c.args.levels.now) ≡ c.args.count = length-take-le c.args.count c.args.levels.now c.requires.1 in
    let e : c.loop-k.k ≡ c.args.count = omega (arith, all, c.loop-k.auto.k-end, c.loop-k-test.false) in
    rw (sym e) c.loop-k.invariant
