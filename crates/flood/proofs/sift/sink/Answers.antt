use Rattle.std.proofs.Common.{◌≡◌, ◌<◌, true, length, get_or, set, sym, refl, ap, ◌∙◌, subst, arith, rules}
use Rattle.std.proofs.lemmas.List.{get_or_read, length-set, set-get_or}
use Rattle.flood.specs.Orders.{Moves}
use Rattle.flood.proofs.Sifts.{Sunk, sink_begins, sink_steps, sink_rests, sink_ends, fall_begins, fall_steps, hole_moves, hole_compares, best_hole}
use Rattle.flood.proofs.sift.sink.Goals as goal

pub loop-at-init : goal.loop-at-init
loop-at-init g c =
    let le = g.E.Order.leb in
    let tr = g.met.E.Order.transitive in
    let xs = c.args.slots.now in
    let n = c.args.len in
    let x = c.index-slots-0.result in
    let same : set xs 0 x ≡ xs = ap (set xs 0) c.index-slots-0.is ∙ set-get_or xs 0 x in
    (refl, c.requires.0, subst (λ l. Sunk le tr xs n l 0) (sym same) (sink_begins le tr xs n), subst (λ l. Moves xs l n 0 0) (sym same) (fall_begins xs n))

pub returns-then-at_most : goal.returns-then-at_most
returns-then-at_most g c =
    let le = g.E.Order.leb in
    let tr = g.met.E.Order.transitive in
    let l = c.loop-at in
    let at = l.at in
    let child = c.lesser_child-child.result in
    let bound = c.lesser_child-child.ensures.bound in
    let x = c.index-slots-0.result in
    let p = c.index-slots-child.result in
    let is : (d : _) → get_or l.slots child d ≡ p = λ d. sym (get_or_read l.slots child p (omega arith) c.index-slots-child.is d) in
    record {
      len = length-set l.slots at x ∙ l.invariant.0;
      sinks = sink_rests le tr c.args.slots.now (set l.slots at x) c.args.len at child
          (hole_compares (λ a b. le a b ≡ true) l.slots at child x p (omega arith) (omega arith) is (sym c.if-at_most.ensures))
          (best_hole le tr l.slots at child c.args.len x bound.1 c.lesser_child-child.ensures.best) l.invariant.2;
      moves = l.invariant.3;
    }

pub loop-at-preserved : goal.loop-at-preserved
loop-at-preserved g c =
    let le = g.E.Order.leb in
    let laws = g.met.E.Order in
    let tr = laws.transitive in
    let l = c.loop-at in
    let xs = c.args.slots.now in
    let ys = l.slots in
    let n = c.args.len in
    let at = l.at in
    let child = c.lesser_child-child.result in
    let bound = c.lesser_child-child.ensures.bound in
    let x = c.index-slots-0.result in
    let p = c.index-slots-child.result in
    let is : (d : _) → get_or ys child d ≡ p = λ d. sym (get_or_read ys child p (omega arith) c.index-slots-child.is d) in
    let long = length-set ys at p in
    let size = length-set ys at x in
    let swap = hole_moves ys at child x p (omega arith) (omega arith) (omega arith) is in (
      long ∙ l.invariant.0,
      omega (arith, c.requires),
      sink_steps le tr xs (set ys at x) (set (set ys at p) child x) n at child x bound.1 bound.2 bound.0 (omega (arith, c.requires)) swap
          (hole_compares (λ a b. le b a ≡ true) ys at child x p (omega arith) (omega arith) is (laws.total x p (sym c.if-at_most.ensures)))
          (best_hole le tr ys at child n x bound.1 c.lesser_child-child.ensures.best) l.invariant.2,
      fall_steps xs (set ys at x) (set (set ys at p) child x) n at child bound.1 bound.2 swap l.invariant.3,
    )

pub returns : goal.returns
returns g c =
    let l = c.loop-at in
    let x = c.index-slots-0.result in
    record {
      len = length-set l.slots l.at x ∙ l.invariant.0;
      sinks = sink_ends g.E.Order.leb g.met.E.Order.transitive c.args.slots.now (set l.slots l.at x) c.args.len l.at c.loop-at-test.false l.invariant.2;
      moves = l.invariant.3;
    }
