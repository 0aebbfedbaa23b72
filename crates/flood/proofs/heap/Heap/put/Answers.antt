use Rattle.std.proofs.Common.{◌≡◌, ◌+◌, refl, ◌∙◌, inl, inr, ⊎_elim, arith}
use Rattle.std.proofs.lemmas.List.{length-set}
use Rattle.std.proofs.lemmas.Bool.{cases_eq}
use Rattle.flood.proofs.Sifts.{put_ordered, put_shuffled, set_moves, traced}
use Rattle.flood.proofs.heap.Heap.put.Goals as goal

pub invariant_of-self : goal.invariant_of-self
invariant_of-self g c =
    let h = c.args.self.now in
    let did = c.rise-head.ensures in
    record {
      within = omega (arith, did.len, length-set h.slots.now h.len c.args.x);
      ordered = put_ordered g.E.Order.leb g.met.E.Order.transitive h.slots.now c.rise-head.new.slots h.len c.args.x (omega arith) h.ordered did.rises;
    }

pub returns-clause-leaves : goal.returns-clause-leaves
returns-clause-leaves g c =
    let h = c.args.self.now in
    let xs = h.slots.now in
    let ys = c.rise-head.new.slots in
    let head = c.rise-head.result in
    let n = h.len in
    let x = c.args.x in
    let did = c.rise-head.ensures in
    let long = did.len ∙ length-set xs n x in (
      put_shuffled g.E.Order.leb g.met.E.Order.transitive xs ys n x (omega arith) did.rises,
      refl,
      long,
      traced xs ys n (n + 1) n head x long (λ k lt. ⊎_elim (λ (e : k ≡ n). inr (e, omega (arith, did.moves.1))) (λ (ne : k ≡ n → ⊥). inl (omega arith)) (cases_eq k n))
          (set_moves xs ys n head (n + 1) x did.moves.1 (did.moves.0 (n + 1))),
    )
