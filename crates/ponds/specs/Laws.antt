-- The sample ground keeps the laws of a ground. Assumes nothing.
use Rattle.std.specs.Prelude.{◌≡◌, ℕ, zero, suc, ◌^◌, ◌<◌, length, Some, None, refl}
use Rattle.std.proofs.Common.{lit<}
use Rattle.std.specs.List.{AllByRecursion, slice_get}
use Rattle.flood.specs.Grounds.{Laws}
use Rattle.flood.proofs.Counts.{all_nth, none_some}
use Rattle.ponds.specs.Ponds.{joined, outlet}

module _ {M : Type 0} (low mid high : M) where
  -- a crossing of u leads to a node, and back
  abbrev Matched : ℕ → ℕ × M → Type 0
  Matched u p = (p.0 < 5) × ((k : ℕ) × (slice_get (joined low mid high p.0) k ≡ Some (u, p.1)))

  matched : (u : ℕ) → AllByRecursion (Matched u) (joined low mid high u)
  matched zero = ((lit< tt, (0, refl)), ((lit< tt, (0, refl)), tt))
  matched (suc zero) = ((lit< tt, (0, refl)), ((lit< tt, (1, refl)), ((lit< tt, (0, refl)), tt)))
  matched (suc (suc zero)) = ((lit< tt, (1, refl)), ((lit< tt, (1, refl)), tt))
  matched (suc (suc (suc zero))) = ((lit< tt, (2, refl)), tt)
  matched (suc (suc (suc (suc n)))) = tt

  few : (u : ℕ) → length (joined low mid high u) < 2 ^ 64
  few zero = lit< tt
  few (suc zero) = lit< tt
  few (suc (suc zero)) = lit< tt
  few (suc (suc (suc zero))) = lit< tt
  few (suc (suc (suc (suc n)))) = lit< tt

  inside : (u : ℕ) (d : M) → outlet low mid high u ≡ Some d → u < 5
  inside zero d is = lit< tt
  inside (suc zero) d is = lit< tt
  inside (suc (suc zero)) d is = lit< tt
  inside (suc (suc (suc zero))) d is = lit< tt
  inside (suc (suc (suc (suc n)))) d is = absurd (none_some None d refl is)

  pub pond_laws : Laws 5 (joined low mid high) (outlet low mid high)
  pond_laws = record {
    within = λ u j v w is. (all_nth (Matched u) (joined low mid high u) j (v, w) (matched u) is).0;
    back = λ u j v w is. (all_nth (Matched u) (joined low mid high u) j (v, w) (matched u) is).1;
    short = few;
    drained = inside;
  }
