-- What a chain of iterators picks is what is picked place after place. Assumes nothing.
use Rattle.std.proofs.Common.{◌≡◌, ℕ, zero, suc, ◌+◌, ◌≤◌, List, [], ◌∷◌, length, take, drop, Some, None, Option, sym, refl, ap, ◌∙◌, ap₂, add-one, arith}
use Rattle.std.specs.List.{slice_get, filter_map, cons_option, range_with_len}
use Rattle.tables.specs.Picks.{front, picked}

fronted : {X : Type 0} (o : Option X) (xs : List X) → cons_option o xs ≡ front o xs
fronted None xs = refl
fronted (Some x) xs = refl

-- over the numbers from k on
pub picked_range : {X : Type 0} (f : ℕ → Option X) (k n : ℕ) → filter_map f (range_with_len k n) ≡ picked f k n
unfolding picked
picked_range f k zero = refl
picked_range f k (suc n) = fronted (f k) (filter_map f (range_with_len (k + 1) n)) ∙ ap (front (f k)) (picked_range f (k + 1) n ∙ ap (λ m. picked f m n) (add-one k))

shifted : {X : Type 0} (f : ℕ → Option X) (k n : ℕ) → picked f (suc k) n ≡ picked (λ i. f (suc i)) k n
unfolding picked
shifted f k zero = refl
shifted f k (suc n) = ap (front (f (suc k))) (shifted f (suc k) n)

-- by answers that are the same
pub same : {X : Type 0} (f h : ℕ → Option X) → ((i : ℕ) → f i ≡ h i) → (k n : ℕ) → picked f k n ≡ picked h k n
unfolding picked
same f h e k zero = refl
same f h e k (suc n) = ap₂ front (e k) (same f h e (suc k) n)

-- over the first elements of a list
pub firsts : {X Y : Type 0} (h : Option X → Option Y) (xs : List X) (n : ℕ) → n ≤ length xs → filter_map (λ x. h (Some x)) (take n xs) ≡ picked (λ i. h (slice_get xs i)) 0 n
unfolding picked
firsts h xs zero le = refl
firsts h [] (suc n) le = absurd (omega arith)
firsts h (x ∷ xs) (suc n) le =
    fronted (h (Some x)) (filter_map (λ x. h (Some x)) (take n xs))
    ∙ ap (front (h (Some x))) (firsts h xs n (omega arith) ∙ sym (shifted (λ i. h (slice_get (x ∷ xs) i)) 0 n))

-- and behind them
pub dropped : {X : Type 0} (xs : List X) (b i : ℕ) → slice_get (drop b xs) i ≡ slice_get xs (b + i)
dropped xs zero i = let e : i ≡ 0 + i = omega arith in ap (slice_get xs) e
dropped [] (suc b) i = refl
dropped (x ∷ xs) (suc b) i = let e : suc (b + i) ≡ suc b + i = omega arith in dropped xs b i ∙ ap (slice_get (x ∷ xs)) e
