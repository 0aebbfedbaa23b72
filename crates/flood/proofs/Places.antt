-- Places that are noted, and what a queue keeps. Assumes nothing.
use Rattle.std.proofs.Common.{◌≡◌, ℕ, ◌+◌, ◌-◌, ◌/◌, ◌<◌, ◌≤◌, ◌⊎◌, List, ◌∷◌, length, get_or, set, Some, None, Option, sym, refl, ◌∙◌, subst, inl, inr, ⊎_elim, arith, get_or-set_other, get_or-set_same, drop-set-lt}
use Rattle.std.specs.List.{slice_get}
use Rattle.std.specs.List.Sorted.{IsPermutation}
use Rattle.std.proofs.ByRecursion.{All-set, all_shuffled}
use Rattle.std.proofs.lemmas.List.{length-set}
use Rattle.std.proofs.lemmas.Bool.{cases_eq}
use Rattle.flood.specs.Orders.{Above, Above.stands, Above.climbs}
use Rattle.flood.specs.Heaps.{contents, Traced}
use Rattle.flood.specs.Places.{times, Placed, HalfPlaced, Noted, Single, Kept}
use Rattle.flood.specs.declared.entry.Entry.{Entry}
use Rattle.flood.specs.declared.heap.Heap.{Heap}
use Rattle.flood.proofs.Counts.{some_same, nth_inside, all_nth, times_yes, times_no, times_shuffled, times_some, times_set, one_place, all_times, times_found, all_from_nth}

pub kept_none : {M : Type 0} (os : List (Option ℕ)) (q : List (Entry M)) → Kept os os q
kept_none os q = record { same = λ v h. refl; rest = λ n h. refl; long = refl }

pub kept_both : {M : Type 0} {os os' os'' : List (Option ℕ)} {q : List (Entry M)} → Kept os os' q → Kept os' os'' q → Kept os os'' q
kept_both a b = record { same = λ v h. b.same v h ∙ a.same v h; rest = λ n h. b.rest n h ∙ a.rest n h; long = b.long ∙ a.long }

pub single_long : {M : Type 0} {os os' : List (Option ℕ)} {q : List (Entry M)} → length os' ≡ length os → Single os q → Single os' q
single_long {os = os} {os' = os'} {q = q} e s = record { within = λ k x is. omega (arith, s.within k x is); once = s.once }

-- noting one place
pub noted : {M : Type 0} {os : List (Option ℕ)} {q : List (Entry M)} (k : ℕ) (x : Entry M) → Single os q → slice_get q k ≡ Some x
    → Noted os q k (set os x.node (Some k)) × Kept os (set os x.node (Some k)) q
noted {os = os} {q = q} k x s is =
    let low : x.node < length os = s.within k x is in (
      (
        λ y read. rw (← some_same (slice_get q k) x y is read) (get_or-set_same os x.node (Some k) None low),
        λ i y read ne. get_or-set_other os x.node y.node (Some k) None (λ e. ne (one_place q s.once i k y x read is e)),
      ),
      record {
        same = λ v none. get_or-set_other os x.node v (Some k) None (λ e. omega (arith, times_some v q k x is (sym e)));
        rest = λ n all. drop-set-lt n os x.node (Some k) (all_nth (λ y. y.node < n) q k x all is);
        long = length-set os x.node (Some k);
      },
    )

-- noting all places below i
abbrev pub PlacedBelow : {M : Type 0} → List (Option ℕ) → List (Entry M) → ℕ → Type 0
PlacedBelow {M} os q i = (k : ℕ) (x : Entry M) → k < i → slice_get q k ≡ Some x → get_or os x.node None ≡ Some k

pub below_next : {M : Type 0} (os os' : List (Option ℕ)) (q : List (Entry M)) (i : ℕ) → PlacedBelow os q i → Noted os q i os' → PlacedBelow os' q (i + 1)
below_next os os' q i was n k x lt is = ⊎_elim
    (λ (e : k ≡ i). rw e (n.0 x (rw e at is)))
    (λ (ne : k ≡ i → ⊥). n.1 k x is ne ∙ was k x (omega arith) is)
    (cases_eq k i)

pub below_all : {M : Type 0} (os : List (Option ℕ)) (q : List (Entry M)) (i : ℕ) → length q ≤ i → PlacedBelow os q i → Placed os q
below_all os q i all was k x is = was k x (omega (arith, nth_inside q k x is)) is

-- noting a path: p is noted, and above it all up to head is left
abbrev pub LeftAbove : {M : Type 0} → List (Option ℕ) → List (Entry M) → ℕ → ℕ → Type 0
LeftAbove {M} os q p head = (k : ℕ) (x : Entry M) → slice_get q k ≡ Some x → (get_or os x.node None ≡ Some k) ⊎ (Above p k × (head ≤ k) × (k ≡ p → ⊥))

pub path_noted : {M : Type 0} (os os' : List (Option ℕ)) (q : List (Entry M)) (p head : ℕ) → HalfPlaced os q p head → Noted os q p os' → LeftAbove os' q p head
path_noted os os' q p head was n k x is = ⊎_elim
    (λ (e : k ≡ p). inl (rw e (n.0 x (rw e at is))))
    (λ (ne : k ≡ p → ⊥). ⊎_elim (λ e. inl (n.1 k x is ne ∙ e)) (λ a. inr (a.0, a.1, ne)) (was k x is))
    (cases_eq k p)

above_next : {j k : ℕ} → Above j k → (k ≡ j → ⊥) → Above ((j - 1) / 2) k
above_next stands ne = absurd (ne refl)
above_next (climbs p a) ne = a

above_le : {j k : ℕ} → Above j k → k ≤ j
above_le (stands {j = j}) = omega arith
above_le (climbs {j = j} {k = k} p a) = omega (arith, above_le a)

pub path_next : {M : Type 0} (os : List (Option ℕ)) (q : List (Entry M)) (p head : ℕ) → LeftAbove os q p head → HalfPlaced os q ((p - 1) / 2) head
path_next os q p head was k x is = ⊎_elim (λ e. inl e) (λ a. inr (above_next a.0 a.2, a.1)) (was k x is)

pub path_over : {M : Type 0} (os : List (Option ℕ)) (q : List (Entry M)) (p head : ℕ) → p ≤ head → LeftAbove os q p head → Placed os q
path_over os q p head le was k x is = ⊎_elim (λ e. e) (λ a. absurd (a.2 (omega (arith, above_le a.0, a.1)))) (was k x is)

-- after a call of the heap
pub half_placed : {M : Type 0} {m : _} (os : List (Option ℕ)) (h h' : Heap (Entry M) m) → Placed os (contents h) → Traced h h' → HalfPlaced os (contents h') h'.path.foot h'.path.head
half_placed os h h' was trace k x is = ⊎_elim (λ e. inl (was k x (sym e ∙ is))) (λ a. inr a) (trace k (nth_inside (contents h') k x is))

-- the slot of a node that does not wait may be written
pub half_apart : {M : Type 0} (os : List (Option ℕ)) (q : List (Entry M)) (foot head : ℕ) (v : ℕ) (o : Option ℕ) → times v q ≡ 0 → HalfPlaced os q foot head → HalfPlaced (set os v o) q foot head
half_apart os q foot head v o none was k x is =
    let apart : x.node ≡ v → ⊥ = λ e. omega (arith, times_some v q k x is e) in
    ⊎_elim (λ e. inl (get_or-set_other os v x.node o None apart ∙ e)) (λ a. inr a) (was k x is)

-- one more, one less, and one for another
pub single_joined : {M : Type 0} {os : List (Option ℕ)} {q : List (Entry M)} (x : Entry M) (q' : List (Entry M)) → Single os q → times x.node q ≡ 0 → x.node < length os → IsPermutation (x ∷ q) q' → Single os q'
single_joined {os = os} {q = q} x q' s none low shuffle = record {
  within = λ k y. all_nth (λ y. y.node < length os) q' k y (all_shuffled (λ y. y.node < length os) (x ∷ q) q' shuffle (low, all_from_nth (λ y. y.node < length os) q s.within));
  once = λ v. ⊎_elim
      (λ (e : x.node ≡ v). omega (arith, times_shuffled v (x ∷ q) q' shuffle, times_yes v x q e, subst (λ n. times n q ≡ 0) e none))
      (λ (ne : x.node ≡ v → ⊥). omega (arith, times_shuffled v (x ∷ q) q' shuffle, times_no v x q ne, s.once v))
      (cases_eq x.node v);
}

pub single_left : {M : Type 0} {os : List (Option ℕ)} {q : List (Entry M)} (x : Entry M) (q' : List (Entry M)) → Single os q → IsPermutation q (x ∷ q') → Single os q' × (times x.node q' ≡ 0) × (x.node < length os)
single_left {os = os} {q = q} x q' s shuffle =
    let all = all_shuffled (λ y. y.node < length os) q (x ∷ q') shuffle (all_from_nth (λ y. y.node < length os) q s.within) in (
      record {
        within = λ k y. all_nth (λ y. y.node < length os) q' k y all.1;
        once = λ v. ⊎_elim
            (λ (e : x.node ≡ v). omega (arith, times_shuffled v q (x ∷ q') shuffle, times_yes v x q' e, s.once v))
            (λ (ne : x.node ≡ v → ⊥). omega (arith, times_shuffled v q (x ∷ q') shuffle, times_no v x q' ne, s.once v))
            (cases_eq x.node v);
      },
      omega (arith, times_shuffled x.node q (x ∷ q') shuffle, times_yes x.node x q' refl, s.once x.node),
      all.0,
    )

pub single_replaced : {M : Type 0} {os : List (Option ℕ)} {q : List (Entry M)} (i : ℕ) (x y : Entry M) (q' : List (Entry M)) → Single os q → slice_get q i ≡ Some y → y.node ≡ x.node → IsPermutation (set q i x) q' → Single os q'
single_replaced {os = os} {q = q} i x y q' s is e shuffle = record {
  within = λ k z. all_nth (λ z. z.node < length os) q' k z (all_shuffled (λ z. z.node < length os) (set q i x) q' shuffle (All-set (λ z. z.node < length os) q i x (subst (λ n. n < length os) e (s.within i y is)) (all_from_nth (λ z. z.node < length os) q s.within)));
  once = λ v. omega (arith, times_shuffled v (set q i x) q' shuffle, times_set v q i x y is e, s.once v);
}

pub kept_times : {M : Type 0} {os os' : List (Option ℕ)} {q : List (Entry M)} (q' : List (Entry M)) → ((v : ℕ) → times v q' ≡ times v q) → Kept os os' q → Kept os os' q'
kept_times {q = q} q' same k = record { same = λ v none. k.same v (sym (same v) ∙ none); rest = λ n all. k.rest n (all_times (λ v. v < n) q q' same all); long = k.long }

-- a node that waits has a slot
pub node_low : {M : Type 0} (os : List (Option ℕ)) (q : List (Entry M)) (v : ℕ) → Single os q → times v q ≡ 1 → v < length os
node_low os q v s one =
    let r = times_found v q (omega (arith, one)) in
    subst (λ n. n < length os) r.3 (s.within r.0 r.1 r.2)

-- the slot of a node that does not wait is free
pub placed_apart : {M : Type 0} (os : List (Option ℕ)) (q : List (Entry M)) (v : ℕ) (o : Option ℕ) → times v q ≡ 0 → Placed os q → Placed (set os v o) q
placed_apart os q v o none was k x is = get_or-set_other os v x.node o None (λ e. omega (arith, times_some v q k x is e)) ∙ was k x is
