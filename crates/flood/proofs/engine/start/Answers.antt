use Rattle.std.proofs.Common.{◌≡◌, ◌<◌, length, drop, set, sym, refl, ap, ◌∙◌, None, arith, drop-set-lt}
use Rattle.std.proofs.ByRecursion.{All-weaker}
use Rattle.std.proofs.lemmas.List.{length-set}
use Rattle.flood.specs.Queues.{waiting}
use Rattle.flood.specs.declared.entry.Entry.{Entry}
use Rattle.flood.proofs.Ends.{lacks, missing_push, fill_dry, fill_drain, fill_apart, filled, filling_kept}
use Rattle.flood.proofs.Laws.{lawful_of}
use Rattle.flood.proofs.engine.start.Goals as goal
use Rattle.flood.proofs.engine.start.Goals.{in-Some, in-None}

pub put-requires-clause-fresh : goal.put-requires-clause-fresh
put-requires-clause-fresh g c =
    let m = g.met.G.Mark.Order in
    let l = c.loop-node in
    (fill_apart (lawful_of g.G.Mark.Order g.G.Ground c.args.ground.now m.total m.transitive m.antisymmetric) l.invariant.3, omega (arith, l.invariant.1.origins))

pub leave_out-requires : goal.leave_out-requires
leave_out-requires g c =
    let m = g.met.G.Mark.Order in
    let l = c.loop-node in
    (fill_apart (lawful_of g.G.Mark.Order g.G.Ground c.args.ground.now m.total m.transitive m.antisymmetric) l.invariant.3, omega (arith, l.invariant.1.origins))

pub loop-node-preserved : goal.loop-node-preserved
loop-node-preserved g c =
    let ground = c.args.ground.now in
    let n = g.G.Ground.nodes ground in
    let m = g.met.G.Mark.Order in
    let laws = lawful_of g.G.Mark.Order g.G.Ground ground m.total m.transitive m.antisymmetric in
    let l = c.loop-node in
    let i = l.node in
    let ls = l.levels in
    let s = l.queue in
    let os = s.origins.now in
    let stays = l.invariant.0 in
    let roomy = l.invariant.1 in
    let level = c.drain-level.result in
    let low : i < n = omega arith in
    let in-ls : i < length ls = omega (arith, roomy.levels) in
    let in-os : i < length os = omega (arith, roomy.origins) in
    let long = length-set ls i level in
    let rest = drop-set-lt n ls i level low ∙ stays.levels in
    let count = missing_push i ls level in-ls in
    elim c.match-level.branch [
      | in-Some w ↦
          let y : Entry _ = record { level = w.in-Some.level; node = i; origin = i } in
          let did = w.put.ensures.leaves in
          let q' = waiting w.put.new.self in
          let fill = fill_drain laws y q' l.invariant.3 refl refl in-ls (sym w.in-Some.ensures) did.entries in
          let all = All-weaker _ (λ z. z.node < n) (λ z h. omega (arith, low, h.0)) q' fill.waiting in
          let full : lacks level ≡ 0 = ap lacks w.in-Some.is in
          rw w.queue-is (
            record { loan = w.put.ensures.loans.1 ∙ stays.loan; levels = rest; origins = did.kept.rest n all ∙ stays.origins },
            record { levels = omega (arith, long, roomy.levels); origins = omega (arith, did.kept.long, roomy.origins); slots = omega (arith, did.room, roomy.slots) },
            omega (arith, l.invariant.2, did.more, count, full),
            rw w.in-Some.is (filling_kept did.kept fill),
          )
      | in-None w ↦
          let left = w.leave_out.ensures in
          let bare : lacks level ≡ 1 = ap lacks w.in-None.is in
          let same : w.leave_out.new.self.origins.now ≡ set os i None = left.origins in
          rw w.queue-is (
            record { loan = left.loans.1 ∙ stays.loan; levels = rest; origins = ap (drop n) same ∙ drop-set-lt n os i None low ∙ stays.origins },
            record { levels = omega (arith, long, roomy.levels); origins = omega (arith, ap (λ l. length l) same, length-set os i None, roomy.origins); slots = rw left.same roomy.slots },
            omega (arith, l.invariant.2, ap (λ h. h.len) left.same, count, bare),
            rw (w.in-None.is, same, left.same) (fill_dry laws l.invariant.3 in-ls in-os (sym w.in-None.ensures)),
          )
    ]

pub returns-clause-state : goal.returns-clause-state
returns-clause-state g c =
    let l = c.loop-node in
    let end : l.node ≡ g.G.Ground.nodes c.args.ground.now = omega arith in
    (l.invariant.1, omega (arith, rw end at l.invariant.2), filled (rw end at l.invariant.3))
