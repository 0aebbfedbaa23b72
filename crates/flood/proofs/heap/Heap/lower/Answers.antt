use Rattle.std.proofs.Common.{◌<◌, length, sym, refl, ap, ◌∙◌, inl, arith, rules}
use Rattle.std.proofs.lemmas.List.{length-set}
use Rattle.flood.proofs.Sifts.{front, lower_ordered, lower_shuffled, set_moves, traced}
use Rattle.flood.proofs.heap.Heap.lower.Goals as goal

pub bounds-slots-place : goal.bounds-slots-place
bounds-slots-place g c = let h = c.args.self.now in omega (arith, h.within, (front h.len c.args.place h.slots.now c.in_ok-old.old h.within (sym c.look.ensures ∙ c.in_ok-old.ensures.ok_part)).0)

pub offset_bounds-slots-place : goal.offset_bounds-slots-place
offset_bounds-slots-place g c =
    let h = c.args.self.now in
    let low : c.args.place < length h.slots.now = omega (arith, h.within, (front h.len c.args.place h.slots.now c.in_ok-old.old h.within (sym c.look.ensures ∙ c.in_ok-old.ensures.ok_part)).0) in search rules

pub rise-head-requires : goal.rise-head-requires
rise-head-requires g c =
    let h = c.args.self.now in
    omega (arith, h.within, length-set h.slots.now c.args.place c.args.x, (front h.len c.args.place h.slots.now c.in_ok-old.old h.within (sym c.look.ensures ∙ c.in_ok-old.ensures.ok_part)).0)

pub invariant_of-self : goal.invariant_of-self
invariant_of-self g c =
    let le = g.E.Order.leb in
    let h = c.args.self.now in
    let xs = h.slots.now in
    let i = c.args.place in
    let x = c.args.x in
    let did = c.rise-head.ensures in
    let stood = front h.len i xs c.in_ok-old.old h.within (sym c.look.ensures ∙ c.in_ok-old.ensures.ok_part) in
    record {
      within = omega (arith, did.len, length-set xs i x, h.within);
      ordered = lower_ordered le g.met.E.Order.transitive xs c.rise-head.new.slots i h.len x stood.0 h.within (λ d. ap (le x) (stood.1 d) ∙ sym c.if-not-at_most.ensures) h.ordered did.rises;
    }

pub returns-clause-leaves : goal.returns-clause-leaves
returns-clause-leaves g c =
    let h = c.args.self.now in
    let xs = h.slots.now in
    let ys = c.rise-head.new.slots in
    let head = c.rise-head.result in
    let i = c.args.place in
    let x = c.args.x in
    let did = c.rise-head.ensures in
    let long = did.len ∙ length-set xs i x in
    let stood = front h.len i xs c.in_ok-old.old h.within (sym c.look.ensures ∙ c.in_ok-old.ensures.ok_part) in (
      lower_shuffled g.E.Order.leb g.met.E.Order.transitive xs ys i h.len x stood.0 h.within did.rises,
      refl,
      long,
      traced xs ys h.len h.len i head x long (λ k lt. inl lt) (set_moves xs ys i head h.len x did.moves.1 (did.moves.0 h.len)),
    )
