use Rattle.std.proofs.Common.{◌<◌, ◌∷◌, Some, ◌∙◌, subst, arith, drop-set-lt, rules}
use Rattle.std.proofs.ByRecursion.{All-weaker, all_shuffled}
use Rattle.std.proofs.lemmas.List.{nil_from_length, length-set}
use Rattle.flood.specs.Grounds.{Flooded}
use Rattle.flood.specs.Of.{graph_of}
use Rattle.flood.specs.Queues.{waiting}
use Rattle.flood.specs.State.{Waits, Going}
use Rattle.flood.proofs.Ends.{finished}
use Rattle.flood.proofs.Laws.{lawful_of}
use Rattle.flood.proofs.Spread.{begun}
use Rattle.flood.proofs.engine.run.Goals as goal

pub spread-requires : goal.spread-requires
spread-requires g c =
    let m = g.met.G.Mark.Order in
    let laws = lawful_of g.G.Mark.Order g.G.Ground c.args.ground.now m.total m.transitive m.antisymmetric in
    let l = c.loop-from in
    let x = c.in-Some.from in
    let roomy = l.invariant.1.0 in
    let out = c.in-Some.ensures.leaves in (
      record { levels = roomy.levels; origins = omega (arith, out.4.long, length-set l.queue.origins.now x.node (Some x.origin), roomy.origins); slots = omega (arith, out.3, roomy.slots) },
      omega (arith, out.2, l.invariant.1.1),
      begun laws c.take.new.self.origins.now x (waiting c.take.new.self) l.invariant.1.2 out.0 out.1 roomy.origins out.4,
    )

pub loop-from-preserved : goal.loop-from-preserved
loop-from-preserved g c =
    let ground = c.args.ground.now in
    let n = g.G.Ground.nodes ground in
    let l = c.loop-from in
    let x = c.in-Some.from in
    let out = c.in-Some.ensures in
    let q' = waiting c.take.new.self in
    let waits = all_shuffled (Waits (graph_of g.G.Mark.Order g.G.Ground ground) l.levels) (waiting l.queue) (x ∷ q') out.leaves.0 l.invariant.1.2.waiting in
    let all = All-weaker (Waits (graph_of g.G.Mark.Order g.G.Ground ground) l.levels) (λ z. z.node < n) (λ z h. h.0) q' waits.1 in
    let did = c.spread.ensures in (
      record {
        loan = did.stays.loan ∙ out.loans.1 ∙ l.invariant.0.loan;
        levels = did.stays.levels ∙ l.invariant.0.levels;
        origins = did.stays.origins ∙ out.leaves.4.rest n all ∙ drop-set-lt n l.queue.origins.now x.node (Some x.origin) waits.0.0 ∙ l.invariant.0.origins;
      },
      did.state,
    )

pub returns-clause-found : goal.returns-clause-found
returns-clause-found g c =
    let m = g.met.G.Mark.Order in
    let graph = graph_of g.G.Mark.Order g.G.Ground c.args.ground.now in
    let laws = lawful_of g.G.Mark.Order g.G.Ground c.args.ground.now m.total m.transitive m.antisymmetric in
    let l = c.loop-from in
    let out = c.in_default.ensures.leaves in
    let going = subst (Going graph l.levels l.queue.origins.now) (nil_from_length (waiting l.queue) out.0) l.invariant.1.2 in
    let found : Flooded graph l.levels c.take.new.self.origins.now = rw out.2 (finished laws going) in
    subst (Flooded graph l.levels) (search rules) found
