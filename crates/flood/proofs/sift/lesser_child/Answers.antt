use Rattle.std.proofs.Common.{◌≡◌, ◌+◌, ◌*◌, true, sym, arith}
use Rattle.std.proofs.lemmas.List.Elements.{pair_read}
use Rattle.flood.proofs.Sifts.{only_child, left_child, right_child}
use Rattle.flood.proofs.sift.lesser_child.Goals as goal

pub returns-then-len-left : goal.returns-then-len-left
returns-then-len-left g c =
    let laws = g.met.E.Order in
    record { bound = omega arith; best = only_child g.E.Order.leb laws.transitive laws.total c.args.slots.now c.args.at (2 * c.args.at + 1) c.args.len (omega arith) (omega arith) }

pub returns-then-at_most : goal.returns-then-at_most
returns-then-at_most g c =
    let le = g.E.Order.leb in
    let laws = g.met.E.Order in
    let left = 2 * c.args.at + 1 in
    let x = c.index-slots-left.result in
    let y = c.index-slots-left-2.result in
    record {
      bound = omega arith;
      best = left_child le laws.transitive laws.total c.args.slots.now c.args.at left c.args.len (omega arith)
          (pair_read c.args.slots.now (λ a b. le a b ≡ true) left (left + 1) x y (omega arith) (omega arith) c.index-slots-left.is c.index-slots-left-2.is (sym c.if-at_most.ensures));
    }

pub returns : goal.returns
returns g c =
    let le = g.E.Order.leb in
    let laws = g.met.E.Order in
    let left = 2 * c.args.at + 1 in
    let x = c.index-slots-left.result in
    let y = c.index-slots-left-2.result in
    record {
      bound = omega arith;
      best = right_child le laws.transitive laws.total c.args.slots.now c.args.at left c.args.len (omega arith)
          (pair_read c.args.slots.now (λ a b. le a b ≡ true) (left + 1) left y x (omega arith) (omega arith) c.index-slots-left-2.is c.index-slots-left.is (laws.total x y (sym c.if-at_most.ensures)));
    }
