-- Functions of a number that rise. Assumes nothing.
use Rattle.std.proofs.Common.{◌≡◌, ℕ, zero, suc, ◌<◌, ◌≤◌, ap, ⊎_elim, arith}
use Rattle.std.proofs.lemmas.Bool.{cases_eq, cases_lt, cases_order}

pub rising : (f : ℕ → ℕ) → ((n : ℕ) → f n ≤ f (suc n)) → (a b : ℕ) → a ≤ b → f a ≤ f b
rising f step a zero le = let e : a ≡ 0 = omega arith in omega (arith, ap f e)
rising f step a (suc b) le =
    ⊎_elim (λ e. omega (arith, ap f e)) (λ ne. let h : a ≤ b = omega arith in omega (arith, rising f step a b h, step b)) (cases_eq a (suc b))

-- a number that such a function passes, it passes at one step
pub crossed : (f : ℕ → ℕ) (k n : ℕ) → f 0 ≤ k → k < f n → (m : ℕ) × (m < n) × (f m ≤ k) × (k < f (suc m))
crossed f k zero low high = absurd (omega arith)
crossed f k (suc n) low high = ⊎_elim
    (λ lt. let s = crossed f k n low lt in (s.0, omega (arith, s.1), s.2, s.3))
    (λ le. (n, omega arith, le, high))
    (cases_lt k (f n))

-- and at no other
pub one_step : (f : ℕ → ℕ) → ((n : ℕ) → f n ≤ f (suc n)) → (k m n : ℕ) → f m ≤ k → k < f (suc m) → f n ≤ k → k < f (suc n) → m ≡ n
one_step f step k m n a b c d = ⊎_elim (λ same. same) (⊎_elim
    (λ lt. absurd (omega (arith, rising f step (suc m) n lt)))
    (λ lt. absurd (omega (arith, rising f step (suc n) m lt))))
    (cases_order m n)
