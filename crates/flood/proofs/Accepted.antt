-- Calls of the heap that are not refused. Assumes nothing.
use Rattle.std.proofs.Common.{◌≡◌, ℕ, ◌<◌, Bool, true, false, not, List, [], ◌∷◌, length, get_or, Some, None, Ok, Err, Option, Result, refl, ap, ◌∙◌, subst, arith, length-take}
use Rattle.std.specs.List.{AllByRecursion, slice_get}
use Rattle.std.proofs.lemmas.Bool.{lt-leb}
use Rattle.marks.specs.Refusals.{Told, Told.accepted, Told.refused, told, checked, number, placed}
use Rattle.marks.specs.declared.refusal.Refusal.{Refusal}
use Rattle.flood.specs.Entries.{before}
use Rattle.flood.specs.Heaps.{contents, room, full, above, Put, Lowered}
use Rattle.flood.specs.declared.entry.Entry.{Entry}
use Rattle.flood.specs.declared.heap.Heap.{Heap}
use Rattle.flood.specs.Lexical.{opened}
use Rattle.flood.specs.Places.{times, Placed}
use Rattle.flood.proofs.Counts.{some_same, all_nth, times_found}

refused_accepted : (n p : ℕ) (t : Told Unit) → t ≡ refused n p → t ≡ accepted tt → ⊥
refused_accepted n p t a b = let z : ◌≡◌ {A = ℕ} 0 1 = cc in omega arith

pub put_accepted : {X : Type 0} {m : _} (h : Heap X m) (x : X) (r : Result Unit Refusal) (h' : Heap X m) → h.len < room h → told r ≡ checked ((full h, 25) ∷ []) tt → Put h x r h' → Put {F = Refusal} h x (Ok tt) h'
put_accepted h x (Ok u) h' lt t p = p
put_accepted h x (Err e) h' lt t p =
    let fits : full h ≡ false = lt-leb (room h) (length (contents h)) (simp length-take (omega arith)) in
    absurd (refused_accepted (number e) (placed e) (told (Err e)) refl (t ∙ ap (λ b. checked ((b, 25) ∷ []) tt) fits))

pub lower_accepted : {X : Type 0} {m : _} (le : X → X → Bool) (h : Heap X m) (i : ℕ) (x y : X) (r : Result Unit Refusal) (h' : Heap X m) → slice_get (contents h) i ≡ Some y → le x y ≡ true
    → told r ≡ checked ((above le x (slice_get (contents h) i), 26) ∷ []) tt → Lowered h i x r h' → Lowered {F = Refusal} h i x (Ok tt) h'
lower_accepted le h i x y (Ok u) h' is lt t p = p
lower_accepted le h i x y (Err e) h' is lt t p =
    absurd (refused_accepted (number e) (placed e) (told (Err e)) refl (t ∙ ap (λ o. checked ((above le x o, 26) ∷ []) tt) is ∙ ap (λ b. checked ((not b, 26) ∷ []) tt) lt))

-- an entry on a lower level is at most the other
pub before_lower : {M : Type 0} (le : M → M → Bool) → ((x y : M) → le x y ≡ false → le y x ≡ true) → (x y : Entry M) → le y.level x.level ≡ false → before le x y ≡ true
before_lower le total x y strict = rw (strict, total y.level x.level strict) refl

-- an entry that is at most another has a level that is
pub before_level : {M : Type 0} (le : M → M → Bool) (x y : Entry M) → before le x y ≡ true → le x.level y.level ≡ true
before_level le x y h = (opened (le x.level y.level) (le y.level x.level) _ h).0

-- the entry that waits for the node of x, and is above it, gives way to x at the place that is noted
pub replaced : {M : Type 0} {m : _} (le : M → M → Bool) → ((x y : M) → le x y ≡ false → le y x ≡ true)
    → (os : List (Option ℕ)) (h h' : Heap (Entry M) m) (place : ℕ) (x : Entry M) (r : Result Unit Refusal) → Placed os (contents h) → times x.node (contents h) ≡ 1
    → AllByRecursion (λ y. y.node ≡ x.node → le y.level x.level ≡ false) (contents h) → get_or os x.node None ≡ Some place
    → told r ≡ checked ((above (before le) x (slice_get (contents h) place), 26) ∷ []) tt → Lowered h place x r h'
    → (y : Entry M) × (slice_get (contents h) place ≡ Some y) × (y.node ≡ x.node) × Lowered {F = Refusal} h place x (Ok tt) h'
replaced le total os h h' place x r placed waits falls known tells leaves =
    let found = times_found x.node (contents h) (omega (arith, waits)) in
    let y = found.1 in
    let noted = subst (λ n. get_or os n None ≡ Some found.0) found.3 (placed found.0 y found.2) in
    let is = subst (λ i. slice_get (contents h) i ≡ Some y) (some_same (get_or os x.node None) found.0 place noted known) found.2 in
    let lower = before_lower le total x y (all_nth (λ z. z.node ≡ x.node → le z.level x.level ≡ false) (contents h) place y falls is found.3) in
    (y, is, found.3, lower_accepted (before le) h place x y r h' is lower tells leaves)
