-- How a flood begins and ends, and what it counts. Assumes nothing.
use Rattle.std.proofs.Common.{◌≡◌, ℕ, ◌+◌, ◌<◌, ◌≤◌, true, cond, not, List, [], ◌∷◌, length, get_or, take, set, is_some, Some, None, Option, sym, refl, ap, ◌∙◌, subst, inl, ⊎_elim, arith, length-take, get_or-set_other, get_or-take, get_or-set_same}
use lib.Seq.{take-set-lt}
use Rattle.std.specs.List.Sorted.{IsPermutation}
use Rattle.std.proofs.ByRecursion.{All-weaker, all_shuffled}
use Rattle.std.proofs.lemmas.List.{take_more_set}
use Rattle.std.proofs.lemmas.List.Sums.{sum_by-set, sum_by_push}
use Rattle.std.proofs.lemmas.Bool.{cases_eq}
use Rattle.flood.specs.Grounds.{Graph, Drains, LeastWorst, Found, Flooded}
use Rattle.flood.specs.Places.{times, Kept}
use Rattle.flood.specs.State.{missing, Reached, Cell, Going, Filling}
use Rattle.flood.specs.declared.entry.Entry.{Entry}
use Rattle.flood.proofs.Counts.{some_same, none_some, times_yes, times_no, times_none, times_shuffled}
use Rattle.flood.proofs.Laws.{Lawful}
use Rattle.flood.proofs.Routes.{leb_refl, ClosedUp, closed_least}

-- nodes without a level

abbrev pub lacks : {M : Type 0} → Option M → ℕ
lacks l = cond (not (is_some l)) 1 0

missing_set : {M : Type 0} (n : ℕ) (ls : List (Option M)) (far : ℕ) (x : Option M) → far < n → n ≤ length ls → missing n (set ls far x) + lacks (get_or ls far None) ≡ missing n ls + lacks x
missing_set n ls far x low long =
    let size : length (take n ls) ≡ n = simp length-take (omega arith) in
    rw (take-set-lt n ls far x low, ← get_or-take n ls far None low) (sum_by-set lacks (take n ls) far x None (omega arith))

pub missing_fresh : {M : Type 0} (n : ℕ) (ls : List (Option M)) (far : ℕ) (c : M) → far < n → n ≤ length ls → get_or ls far None ≡ None → missing n (set ls far (Some c)) + 1 ≡ missing n ls
missing_fresh n ls far c low long none = rw none at (missing_set n ls far (Some c) low long) ∙ omega arith

pub missing_lowered : {M : Type 0} (n : ℕ) (ls : List (Option M)) (far : ℕ) (c k : M) → far < n → n ≤ length ls → get_or ls far None ≡ Some k → missing n (set ls far (Some c)) ≡ missing n ls
missing_lowered n ls far c k low long some = omega (arith, rw some at (missing_set n ls far (Some c) low long))

pub missing_push : {M : Type 0} (i : ℕ) (ls : List (Option M)) (x : Option M) → i < length ls → missing (i + 1) (set ls i x) ≡ missing i ls + lacks x
missing_push i ls x h = rw (take_more_set ls i x h) (sum_by_push lacks (take i ls) x)

-- the end

finished_at : {M : Type 0} (g : Graph M) (v : ℕ) (l : Option M) (o : Option ℕ) → Cell g v l o → LeastWorst g v l → Found g v l o
finished_at g v (Some l) (Some e) c least = (c.0, least.1, λ d. (c.1 l d).1 refl)
finished_at g v (Some l) None c least = c
finished_at g v None (Some e) c least = c
finished_at g v None None c least = least

drained_at : {M : Type 0} (g : Graph M) (v : ℕ) (l : Option M) (o : Option ℕ) → Cell g v l o → (d : M) → g.drain v ≡ Some d → (m : M) × (l ≡ Some m) × (g.leb m d ≡ true)
drained_at g v (Some l) (Some e) c d is = (l, refl, (c.1 d is).0)
drained_at g v (Some l) None c d is = absurd c
drained_at g v None (Some e) c d is = absurd c
drained_at g v None None c d is = absurd (c d is)

route_at : {M : Type 0} (g : Graph M) (v : ℕ) (l : Option M) (o : Option ℕ) → Cell g v l o → (m : M) → l ≡ Some m → (e : ℕ) × Drains g v e m
route_at g v (Some l) (Some e) c m is = (e, subst (Drains g v e) (some_same (Some l) l m refl is) c.0)
route_at g v (Some l) None c m is = absurd c
route_at g v None o c m is = absurd (none_some None m refl is)

pub finished : {M : Type 0} {g : Graph M} (laws : Lawful g) {ls : List (Option M)} {os : List (Option ℕ)} → Going g ls os [] → Flooded g ls os
finished {M} {g} laws {ls} {os} s v h =
    let closed : ClosedUp g (λ u. get_or ls u None) = record {
      drained = λ u d b is. drained_at g u (get_or ls u None) (get_or os u None) (s.cells u b refl) d is;
      crossed = λ u far w l b lu c. ⊎_elim (λ (t : 0 ≡ 1). absurd (omega arith)) (λ p. p.1 c.0 far w c.1) (s.settled u l b lu);
    } in
    finished_at g v (get_or ls v None) (get_or os v None) (s.cells v h refl)
    (closed_least laws (λ u. get_or ls u None) closed (λ u l b is. route_at g u (get_or ls u None) (get_or os u None) (s.cells u b refl) l is) v h)

-- the beginning

pub filled : {M : Type 0} {g : Graph M} {ls : List (Option M)} {os : List (Option ℕ)} {q : List (Entry M)} → Filling g g.nodes ls os q → Going g ls os q
filled s = record { cells = s.cells; waiting = s.waiting; once = s.once; settled = λ v k h lv. inl (s.queued v k h lv) }

pub filling_kept : {M : Type 0} {g : Graph M} {i : ℕ} {ls : List (Option M)} {os os' : List (Option ℕ)} {q : List (Entry M)} → Kept os os' q → Filling g i ls os q → Filling g i ls os' q
filling_kept {g = g} {ls = ls} k s = record { cells = λ v h none. subst (Cell g v (get_or ls v None)) (sym (k.same v none)) (s.cells v h none); waiting = s.waiting; once = s.once; queued = s.queued }

module _ {M : Type 0} {g : Graph M} (laws : Lawful g) where
  -- no node from i on waits yet
  pub fill_apart : {i : ℕ} {ls : List (Option M)} {os : List (Option ℕ)} {q : List (Entry M)} → Filling g i ls os q → times i q ≡ 0
  fill_apart {i} {ls} {os} {q} s = times_none i q (All-weaker _ (λ x. x.node ≡ i → ⊥) (λ x h z. omega (arith, h.0)) q s.waiting)

  pub fill_dry : {i : ℕ} {ls : List (Option M)} {os : List (Option ℕ)} {q : List (Entry M)} → Filling g i ls os q → i < length ls → i < length os → g.drain i ≡ None
      → Filling g (i + 1) (set ls i None) (set os i None) q
  fill_dry {i} {ls} {os} {q} s in-ls in-os dry = record {
    cells = λ v h none. ⊎_elim
        (λ (z : v ≡ i). rw z (rw (get_or-set_same ls i None None in-ls, get_or-set_same os i None None in-os) (λ d is. none_some (g.drain i) d dry is)))
        (λ (ne : v ≡ i → ⊥). rw (get_or-set_other ls i v None None ne, get_or-set_other os i v None None ne) (s.cells v (omega arith) none))
        (cases_eq v i);
    waiting = All-weaker _ _ (λ x h. let ne : x.node ≡ i → ⊥ = λ z. omega (arith, h.0) in (omega (arith, h.0), get_or-set_other ls i x.node None None ne ∙ h.1, h.2)) q s.waiting;
    once = s.once;
    queued = λ v k h lv. ⊎_elim
        (λ (z : v ≡ i). absurd (none_some (get_or (set ls i None) i None) k (get_or-set_same ls i None None in-ls) (rw z at lv)))
        (λ (ne : v ≡ i → ⊥). s.queued v k (omega arith) (sym (get_or-set_other ls i v None None ne) ∙ lv))
        (cases_eq v i);
  }

  pub fill_drain : {i : ℕ} {ls : List (Option M)} {os : List (Option ℕ)} {q : List (Entry M)} → (x : Entry M) (q' : List (Entry M)) → Filling g i ls os q → x.node ≡ i → x.origin ≡ i → i < length ls → g.drain i ≡ Some x.level
      → IsPermutation (x ∷ q) q' → Filling g (i + 1) (set ls i (Some x.level)) os q'
  fill_drain {i} {ls} {os} {q} x q' s node origin in-ls is shuffle =
      let l = x.level in
      let count : (v : ℕ) → times v q' ≡ times v (x ∷ q) = λ v. times_shuffled v _ q' shuffle in
      let apart : times i q ≡ 0 = fill_apart s in
      let count-i : times i q' ≡ 1 = count i ∙ times_yes i x q node ∙ ap (λ n. 1 + n) apart in
      let count-other : (v : ℕ) → (v ≡ i → ⊥) → times v q' ≡ times v q = λ v ne. count v ∙ times_no v x q (λ z. ne (sym z ∙ node)) in
      let reached : Reached g i l i = (([], refl, is), λ d r. (rw (some_same (g.drain i) l d is r) (leb_refl laws d), λ y. refl)) in
      record {
        cells = λ v h none.
            let ne : v ≡ i → ⊥ = λ z. omega (arith, count-i, subst (λ n. times n q' ≡ 0) z none) in
            rw (get_or-set_other ls i v (Some l) None ne) (s.cells v (omega arith) (sym (count-other v ne) ∙ none));
        waiting = all_shuffled _ _ q' shuffle (
          (omega arith, rw node (get_or-set_same ls i (Some l) None in-ls), rw (node, origin) reached),
          All-weaker _ _ (λ y h. let ne : y.node ≡ i → ⊥ = λ z. omega (arith, h.0) in (omega (arith, h.0), get_or-set_other ls i y.node (Some l) None ne ∙ h.1, h.2)) q s.waiting,
        );
        once = λ v. ⊎_elim
            (λ (z : v ≡ i). rw z (omega (arith, count-i)))
            (λ (ne : v ≡ i → ⊥). omega (arith, count-other v ne, s.once v))
            (cases_eq v i);
        queued = λ v k h lv. ⊎_elim
            (λ (z : v ≡ i). rw z count-i)
            (λ (ne : v ≡ i → ⊥). count-other v ne ∙ s.queued v k (omega arith) (sym (get_or-set_other ls i v (Some l) None ne) ∙ lv))
            (cases_eq v i);
      }
