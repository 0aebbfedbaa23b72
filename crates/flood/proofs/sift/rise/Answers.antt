use Rattle.std.proofs.Common.{◌≡◌, ℕ, ◌-◌, ◌/◌, true, get_or, set, sym, refl, ap, ◌∙◌, subst, arith}
use Rattle.std.proofs.lemmas.List.{get_or_read, length-set, set-get_or}
use Rattle.flood.specs.Orders.{Moves, Rises}
use Rattle.flood.proofs.Sifts.{Risen, Climbed, rise_begins, rise_steps, rise_rests, rise_tops, climb_begins, climb_steps, climb_ends, hole_moves, hole_compares, swap_turned}
use Rattle.flood.proofs.sift.rise.Goals as goal

pub loop-at-init : goal.loop-at-init
loop-at-init g c =
    let le = g.E.Order.leb in
    let tr = g.met.E.Order.transitive in
    let xs = c.args.slots.now in
    let at = c.args.at in
    let x = c.index-slots-at.result in
    let same : set xs at x ≡ xs = ap (set xs at) c.index-slots-at.is ∙ set-get_or xs at x in
    (omega arith, c.requires, refl, subst (λ l. Risen le tr xs at l at) (sym same) (rise_begins le tr xs at), subst (λ l. Climbed xs at l at) (sym same) (climb_begins xs at))

pub returns-then-at_most : goal.returns-then-at_most
returns-then-at_most g c =
    let le = g.E.Order.leb in
    let l = c.loop-at in
    let at = l.at in
    let up = (at - 1) / 2 in
    let x = c.index-slots-at.result in
    let p = c.index-slots-up.result in
    let is : (d : _) → get_or l.slots up d ≡ p = λ d. sym (get_or_read l.slots up p (omega arith) c.index-slots-up.is d) in
    record {
      len = length-set l.slots at x ∙ l.invariant.2;
      rises = rise_rests le g.met.E.Order.transitive c.args.slots.now (set l.slots at x) c.args.at up at (omega arith) (omega arith)
          (hole_compares (λ a b. le b a ≡ true) l.slots at up x p (omega arith) (omega arith) is (sym c.if-at_most.ensures))
          l.invariant.3;
      moves = (climb_ends c.args.slots.now (set l.slots at x) c.args.at at l.invariant.4, l.invariant.0);
    }

pub loop-at-preserved : goal.loop-at-preserved
loop-at-preserved g c =
    let le = g.E.Order.leb in
    let laws = g.met.E.Order in
    let l = c.loop-at in
    let xs = c.args.slots.now in
    let ys = l.slots in
    let at = l.at in
    let up = (at - 1) / 2 in
    let x = c.index-slots-at.result in
    let p = c.index-slots-up.result in
    let is : (d : _) → get_or ys up d ≡ p = λ d. sym (get_or_read ys up p (omega arith) c.index-slots-up.is d) in
    let long = length-set ys at p in
    let swap = swap_turned (set ys at x) (set (set ys at p) up x) at up (omega arith) (hole_moves ys at up x p (omega arith) (omega arith) (omega arith) is) in (
      omega arith,
      l.invariant.1,
      long ∙ l.invariant.2,
      rise_steps le laws.transitive xs (set ys at x) (set (set ys at p) up x) c.args.at up at x (omega arith) (omega arith) l.invariant.0 (length-set ys at x ∙ l.invariant.2) swap
          (hole_compares (λ a b. le a b ≡ true) ys at up x p (omega arith) (omega arith) is (laws.total p x (sym c.if-at_most.ensures)))
          l.invariant.3,
      climb_steps xs (set ys at x) (set (set ys at p) up x) c.args.at at c.loop-at-test.true swap l.invariant.4,
    )

pub returns : goal.returns
returns g c =
    let le = g.E.Order.leb in
    let tr = g.met.E.Order.transitive in
    let l = c.loop-at in
    let xs = c.args.slots.now in
    let x = c.index-slots-at.result in
    let top : l.at ≡ 0 = omega arith in
    let rises = rise_tops le tr xs (set l.slots l.at x) c.args.at l.at top l.invariant.3 in
    let ends = climb_ends xs (set l.slots l.at x) c.args.at l.at l.invariant.4 in
    record {
      len = length-set l.slots 0 x ∙ l.invariant.2;
      rises = subst (λ j. Rises le xs c.args.at (set l.slots j x)) top rises;
      moves = (subst (λ j. (n : ℕ) → Moves xs (set l.slots j x) n c.args.at j) top ends, omega arith);
    }
