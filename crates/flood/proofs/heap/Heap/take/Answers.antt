use Rattle.std.proofs.Common.{◌≡◌, ◌∷◌, true, take, ◌∙◌, sym, subst, inl, arith}
use Rattle.std.specs.List.Sorted.{IsPermutation}
use Rattle.std.specs.List.{AllByRecursion}
use Rattle.std.proofs.lemmas.List.{length-take-le}
use Rattle.flood.proofs.Sifts.{take_ordered, take_shuffled, take_moves, traced, least}
use Rattle.flood.proofs.heap.Heap.take.Goals as goal

pub invariant_of-self : goal.invariant_of-self
invariant_of-self g c =
    let h = c.args.self.now in
    let swapped = c.swap.ensures in
    let sunk = c.sink-foot.ensures in
    let m = c.in_ok-last.last in
    record {
      within = omega (arith, swapped.len, sunk.len, h.within);
      ordered = take_ordered g.E.Order.leb g.met.E.Order.transitive h.slots.now c.swap.new.self c.sink-foot.new.slots m h.len (omega arith) swapped.by_index h.ordered sunk.sinks;
    }

pub returns-clause-leaves : goal.returns-clause-leaves
returns-clause-leaves g c =
    let h = c.args.self.now in
    let xs = h.slots.now in
    let ys = c.swap.new.self in
    let zs = c.sink-foot.new.slots in
    let m = c.in_ok-last.last in
    let d = c.index-slots-0.result in
    let swapped = c.swap.ensures in
    let sunk = c.sink-foot.ensures in
    let long = sunk.len ∙ swapped.len in (
      subst (λ x. IsPermutation (take h.len xs) (x ∷ take m zs)) (sym c.index-slots-0.is) (take_shuffled g.E.Order.leb g.met.E.Order.transitive xs ys zs m h.len d (omega arith) h.within swapped.len swapped.by_index sunk.sinks),
      omega (arith, h.within, length-take-le h.len xs h.within),
      long,
      traced xs zs h.len m c.sink-foot.result 0 d long (λ k lt. inl (omega arith)) (take_moves xs ys zs m c.sink-foot.result swapped.by_index sunk.moves),
    )

pub returns-clause-least : goal.returns-clause-least
returns-clause-least g c =
    let le = g.E.Order.leb in
    let h = c.args.self.now in
    let d = c.index-slots-0.result in
    subst (λ x. AllByRecursion (λ y. le x y ≡ true) (take h.len h.slots.now)) (sym c.index-slots-0.is) (least le g.met.E.Order.transitive g.met.E.Order.total h.slots.now h.len d h.within h.ordered)
