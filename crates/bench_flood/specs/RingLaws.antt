-- A ring keeps the laws of a ground. Assumes nothing.
use Rattle.std.specs.Prelude.{◌≡◌, ℕ, ◌+◌, ◌-◌, ◌^◌, ◌<◌, ◌≤◌, Bool, true, false, cond, ltb, leb, List, [], length, Some, None, nat_le, nat_lt, slice_index_or}
use Rattle.std.proofs.Common.{sym, ap, subst, ◌∙◌, ⊎_elim, arith, lit<, ltb-true, leb-true, lt-ltb, le-ltb}
use Rattle.std.specs.List.{AllByRecursion, slice_get}
use Rattle.std.proofs.lemmas.Option.{slice_get_past}
use Rattle.std.proofs.lemmas.Bool.{cases_Bool, cases_lt, cond-true, cond-false, cond_both, le-leb}
use Rattle.flood.specs.Grounds.{Laws}
use Rattle.flood.proofs.Counts.{all_nth, none_some}
use Rattle.bench_flood.specs.Rings.{turn, whole, joins, ring_crossings, ring_drain}

-- on by s, in two cases
pub turn_on : (n s u : ℕ) → u < n - s → turn n s u ≡ u + s
turn_on n s u lt = cond-true (nat_lt u (n - s)) (u + s) (u - (n - s)) (lt-ltb u (n - s) lt)

pub turn_over : (n s u : ℕ) → n - s ≤ u → turn n s u ≡ u - (n - s)
turn_over n s u le = cond-false (nat_lt u (n - s)) (u + s) (u - (n - s)) (le-ltb u (n - s) le)

pub turn_inside : (n s u : ℕ) → s ≤ n → u < n → turn n s u < n
turn_inside n s u le lt = ⊎_elim (λ (h : u < n - s). omega (arith, turn_on n s u h)) (λ (h : n - s ≤ u). omega (arith, turn_over n s u h)) (cases_lt u (n - s))

-- on by s, and back
pub turn_back : (n s u : ℕ) → s ≤ n → u < n → turn n (n - s) (turn n s u) ≡ u
turn_back n s u le lt = ⊎_elim
    (λ (h : u < n - s). ap (turn n (n - s)) (turn_on n s u h) ∙ ⊎_elim
    (λ (k : u + s < n - (n - s)). absurd (omega arith))
    (λ (k : n - (n - s) ≤ u + s). let e : (u + s) - (n - (n - s)) ≡ u = omega arith in turn_over n (n - s) (u + s) k ∙ e)
    (cases_lt (u + s) (n - (n - s))))
    (λ (h : n - s ≤ u). ap (turn n (n - s)) (turn_over n s u h) ∙ ⊎_elim
    (λ (k : u - (n - s) < n - (n - s)). let e : (u - (n - s)) + (n - s) ≡ u = omega arith in turn_on n (n - s) (u - (n - s)) k ∙ e)
    (λ (k : n - (n - s) ≤ u - (n - s)). absurd (omega arith))
    (cases_lt (u - (n - s)) (n - (n - s))))
    (cases_lt u (n - s))

-- back by s, and on
pub turn_forth : (n s u : ℕ) → s ≤ n → u < n → turn n s (turn n (n - s) u) ≡ u
turn_forth n s u le lt =
    let twice : n - (n - s) ≡ s = omega arith in
    subst (λ t. turn n t (turn n (n - s) u) ≡ u) twice (turn_back n (n - s) u (omega arith) lt)

pub record Fitting (n near wide u : ℕ) : Type 0 where
  pub node : u < n
  pub short : near ≤ n
  pub long : wide ≤ n

pub whole_true : (n near wide u : ℕ) → Fitting n near wide u → whole n near wide u ≡ true
whole_true n near wide u f = rw (lt-ltb u n f.node, le-leb near n f.short) (le-leb wide n f.long)

pub whole_fits : (n near wide u : ℕ) → whole n near wide u ≡ true → Fitting n near wide u
whole_fits n near wide u h = ⊎_elim
    (λ (a : ltb u n ≡ true). ⊎_elim
    (λ (b : leb near n ≡ true).
    let c : leb wide n ≡ true = sym (cond-true (nat_le near n) (nat_le wide n) false b) ∙ sym (cond-true (nat_lt u n) (cond (nat_le near n) (nat_le wide n) false) false a) ∙ h in
    record { node = ltb-true u n a; short = leb-true near n b; long = leb-true wide n c })
    (λ (b : leb near n ≡ false). absurd (false_true (sym (cond-false (nat_le near n) (nat_le wide n) false b) ∙ sym (cond-true (nat_lt u n) (cond (nat_le near n) (nat_le wide n) false) false a) ∙ h)))
    (cases_Bool (nat_le near n)))
    (λ (a : ltb u n ≡ false). absurd (false_true (sym (cond-false (nat_lt u n) (cond (nat_le near n) (nat_le wide n) false) false a) ∙ h)))
    (cases_Bool (nat_lt u n))
  where
    false_true : ◌≡◌ {A = Bool} false true → ⊥
    false_true e = let z : ◌≡◌ {A = ℕ} 0 1 = cc in omega arith

module _ {M : Type 0} (void : M) (n near wide : ℕ) (nears wides : List M) where
  pub read_joins : (u : ℕ) → Fitting n near wide u → ring_crossings void n near wide nears wides u ≡ joins void n near wide nears wides u
  read_joins u f = cond-true (whole n near wide u) (joins void n near wide nears wides u) [] (whole_true n near wide u f)

  -- a crossing of u leads to a node, and back
  abbrev Matched : ℕ → ℕ × M → Type 0
  Matched u p = (p.0 < n) × ((k : ℕ) × (slice_get (ring_crossings void n near wide nears wides p.0) k ≡ Some (u, p.1)))

  back_at : (u v k : ℕ) (w : M) → Fitting n near wide v → slice_get (joins void n near wide nears wides v) k ≡ Some (u, w) → Matched u (v, w)
  back_at u v k w f is = (f.node, (k, ap (λ l. slice_get l k) (read_joins v f) ∙ is))

  matched : (u : ℕ) → Fitting n near wide u → AllByRecursion (Matched u) (joins void n near wide nears wides u)
  matched u f =
      let to = turn n near u in
      let from = turn n (n - near) u in
      let far = turn n wide u in
      let off = turn n (n - wide) u in
      let fits : (v : ℕ) → v < n → Fitting n near wide v = λ v lt. record { node = lt; short = f.short; long = f.long } in (
        back_at u to 1 (slice_index_or nears u void) (fits to (turn_inside n near u f.short f.node)) (ap (λ x. Some (x, slice_index_or nears x void)) (turn_back n near u f.short f.node)),
        (
          back_at u from 0 (slice_index_or nears from void) (fits from (turn_inside n (n - near) u (omega arith) f.node)) (ap (λ x. Some (x, slice_index_or nears from void)) (turn_forth n near u f.short f.node)),
          (
            back_at u far 3 (slice_index_or wides u void) (fits far (turn_inside n wide u f.long f.node)) (ap (λ x. Some (x, slice_index_or wides x void)) (turn_back n wide u f.long f.node)),
            (
              back_at u off 2 (slice_index_or wides off void) (fits off (turn_inside n (n - wide) u (omega arith) f.node)) (ap (λ x. Some (x, slice_index_or wides off void)) (turn_forth n wide u f.long f.node)),
              tt,
            ),
          ),
        ),
      )

  met : (u j v : ℕ) (w : M) → slice_get (ring_crossings void n near wide nears wides u) j ≡ Some (v, w) → Matched u (v, w)
  met u j v w is = ⊎_elim
      (λ (yes : whole n near wide u ≡ true).
      let f = whole_fits n near wide u yes in
      all_nth (Matched u) (joins void n near wide nears wides u) j (v, w) (matched u f) (sym (ap (λ l. slice_get l j) (read_joins u f)) ∙ is))
      (λ (no : whole n near wide u ≡ false). absurd (none_some (slice_get [] j) (v, w) (slice_get_past [] j (omega arith)) (sym (ap (λ l. slice_get l j) (cond-false (whole n near wide u) (joins void n near wide nears wides u) [] no)) ∙ is)))
      (cases_Bool (whole n near wide u))

  pub ring_laws : (outlets : ℕ) → Laws n (ring_crossings void n near wide nears wides) (ring_drain void n near wide nears wides outlets)
  ring_laws outlets = record {
    within = λ u j v w is. (met u j v w is).0;
    back = λ u j v w is. (met u j v w is).1;
    short = λ u. cond_both (whole n near wide u) (joins void n near wide nears wides u) [] (λ l. length l < 2 ^ 64) (λ e. lit< tt) (λ e. lit< tt);
    drained = λ u d is. ⊎_elim (λ (lt : u < n). lt) (λ (le : n ≤ u). absurd (none_some (ring_drain void n near wide nears wides outlets u) d (cond-false (nat_lt u n) _ None (le-ltb u n le)) is)) (cases_lt u n);
  }
