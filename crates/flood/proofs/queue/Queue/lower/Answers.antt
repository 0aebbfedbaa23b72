use Rattle.std.proofs.Common.{◌≡◌, ℕ, ◌<◌, false, length, get_or, set, Some, None, sym, ap, ◌∙◌, subst, arith, rules}
use Rattle.std.specs.List.{AllByRecursion, slice_get}
use Rattle.std.specs.List.Sorted.{IsPermutation}
use Rattle.flood.specs.Heaps.{contents, room}
use Rattle.flood.specs.Places.{times}
use Rattle.flood.proofs.Accepted.{replaced}
use Rattle.flood.proofs.Counts.{none_some, times_found, times_set, times_shuffled}
use Rattle.flood.proofs.Places.{half_placed, single_replaced, single_long, kept_both, kept_times, node_low}
use Rattle.flood.proofs.queue.Queue.lower.Goals as goal

pub bounds : goal.bounds
bounds g c =
    let s = c.args.self.now in
    omega (arith, c.keep_places.ensures.kept.long, node_low s.origins.now (contents s.heap.now) c.args.x.node s.single c.requires.waits)

pub offset_bounds-origins-x : goal.offset_bounds-origins-x
offset_bounds-origins-x g c =
    let s = c.args.self.now in
    let low : c.args.x.node < length s.origins.now = node_low s.origins.now (contents s.heap.now) c.args.x.node s.single c.requires.waits in
    search rules

pub follow-requires : goal.follow-requires
follow-requires g c =
    let le = g.M.Order.leb in
    let x = c.args.x in
    let s = c.keep_places.new.self in
    let h' = c.lower.new.self in
    let keep = c.keep_places.ensures in
    let right = s.right keep.placed in
    let waits = subst (λ h. times x.node (contents h) ≡ 1) (sym keep.same) c.requires.waits in
    let falls = subst (λ h. AllByRecursion (λ y. y.node ≡ x.node → le y.level x.level ≡ false) (contents h)) (sym keep.same) c.requires.falls in
    let r = replaced le g.met.M.Order.total s.origins.now s.heap.now h' c.in-Some.place x c.lower.result right waits falls c.in-Some.is c.lower.ensures.told c.lower.ensures.leaves in
    record {
      single = single_replaced c.in-Some.place x r.0 (contents h') s.single r.1 r.2 r.3.0;
      half = λ on. half_placed s.origins.now s.heap.now h' right r.3.3;
    }

pub invariant_of-self : goal.invariant_of-self
invariant_of-self g c =
    let le = g.M.Order.leb in
    let x = c.args.x in
    let s = c.keep_places.new.self in
    let h' = c.lower.new.self in
    let keep = c.keep_places.ensures in
    let waits = subst (λ h. times x.node (contents h) ≡ 1) (sym keep.same) c.requires.waits in
    let falls = subst (λ h. AllByRecursion (λ y. y.node ≡ x.node → le y.level x.level ≡ false) (contents h)) (sym keep.same) c.requires.falls in
    let r = replaced le g.met.M.Order.total s.origins.now s.heap.now h' c.in-Some.place x c.lower.result (s.right keep.placed) waits falls c.in-Some.is c.lower.ensures.told c.lower.ensures.leaves in
    record {
      single = single_long c.follow.ensures.kept.long (single_replaced c.in-Some.place x r.0 (contents h') s.single r.1 r.2 r.3.0);
      right = c.follow.ensures.placed;
    }

pub returns-in-Some-clause-leaves : goal.returns-in-Some-clause-leaves
returns-in-Some-clause-leaves g c =
    let le = g.M.Order.leb in
    let x = c.args.x in
    let h₀ = c.args.self.now.heap.now in
    let s = c.keep_places.new.self in
    let h' = c.lower.new.self in
    let place = c.in-Some.place in
    let keep = c.keep_places.ensures in
    let waits = subst (λ h. times x.node (contents h) ≡ 1) (sym keep.same) c.requires.waits in
    let falls = subst (λ h. AllByRecursion (λ y. y.node ≡ x.node → le y.level x.level ≡ false) (contents h)) (sym keep.same) c.requires.falls in
    let r = replaced le g.met.M.Order.total s.origins.now s.heap.now h' place x c.lower.result (s.right keep.placed) waits falls c.in-Some.is c.lower.ensures.told c.lower.ensures.leaves in
    let stood = subst (λ h. slice_get (contents h) place ≡ Some r.0) keep.same r.1 in
    let entries = subst (λ h. IsPermutation (set (contents h) place x) (contents h')) keep.same r.3.0 in
    let same : (v : ℕ) → times v (contents h') ≡ times v (contents h₀) = λ v. times_shuffled v (set (contents h₀) place x) (contents h') entries ∙ times_set v (contents h₀) place x r.0 stood r.2 in
    record {
      place = place;
      old = r.0;
      stood = stood;
      node = r.2;
      entries = entries;
      equal = r.3.1 ∙ ap (λ h. h.len) keep.same;
      room = r.3.2 ∙ ap (λ h. room h) keep.same;
      kept = kept_both (kept_times (contents h') same keep.kept) c.follow.ensures.kept;
    }

pub returns-in_default-clause-leaves : goal.returns-in_default-clause-leaves
returns-in_default-clause-leaves g c =
    let x = c.args.x in
    let s = c.keep_places.new.self in
    let keep = c.keep_places.ensures in
    let waits = subst (λ h. times x.node (contents h) ≡ 1) (sym keep.same) c.requires.waits in
    let found = times_found x.node (contents s.heap.now) (omega (arith, waits)) in
    let placed = subst (λ n. get_or s.origins.now n None ≡ Some found.0) found.3 (s.right keep.placed found.0 found.1 found.2) in
    absurd (none_some (get_or s.origins.now x.node None) found.0 c.in_default.is placed)
