use Rattle.std.proofs.Common.{◌≡◌, ◌<◌, true, false, length, get_or, set, Some, None, sym, refl, ◌∙◌, arith, drop-set-lt, rules}
use Rattle.std.specs.List.{slice_get}
use Rattle.std.proofs.ByRecursion.{All-weaker}
use Rattle.std.proofs.lemmas.List.{get_or_read, length-set}
use Rattle.std.proofs.lemmas.Bool.{both_ways}
use Rattle.marks.specs.Orders.{highest}
use Rattle.flood.specs.Of.{graph_of}
use Rattle.flood.specs.Queues.{waiting}
use Rattle.flood.specs.State.{Waits}
use Rattle.flood.specs.declared.entry.Entry.{Entry}
use Rattle.flood.proofs.Counts.{nth_inside}
use Rattle.flood.proofs.Ends.{missing_fresh, missing_lowered}
use Rattle.flood.proofs.Laws.{lawful_of}
use Rattle.flood.proofs.Spread.{skipped, fresh, fresh_apart, lowered, waits_still, entries_level, spreading_kept}
use Rattle.flood.proofs.engine.cross.Goals as goal

pub bounds-levels-x : goal.bounds-levels-x
bounds-levels-x g c = omega (arith, c.requires.0.levels, (g.G.Ground.laws c.args.ground.now).within c.args.from.node c.args.place c.in-Some.crossing.0 c.in-Some.crossing.1 (sym c.in-Some.ensures))

pub offset_bounds-levels-x : goal.offset_bounds-levels-x
offset_bounds-levels-x g c =
    let low : c.in-Some.crossing.0 < length c.args.levels.now = omega (arith, c.requires.0.levels, (g.G.Ground.laws c.args.ground.now).within c.args.from.node c.args.place c.in-Some.crossing.0 c.in-Some.crossing.1 (sym c.in-Some.ensures)) in
    search rules

pub bounds-levels-x-in-None : goal.bounds-levels-x-in-None
bounds-levels-x-in-None g c = omega (arith, c.requires.0.levels, (g.G.Ground.laws c.args.ground.now).within c.args.from.node c.args.place c.in-Some.crossing.0 c.in-Some.crossing.1 (sym c.in-Some.ensures))

pub offset_bounds-levels-x-in-None : goal.offset_bounds-levels-x-in-None
offset_bounds-levels-x-in-None g c =
    let low : c.in-Some.crossing.0 < length c.args.levels.now = omega (arith, c.requires.0.levels, (g.G.Ground.laws c.args.ground.now).within c.args.from.node c.args.place c.in-Some.crossing.0 c.in-Some.crossing.1 (sym c.in-Some.ensures)) in
    search rules

pub bounds-levels-x-then-not-at_most : goal.bounds-levels-x-then-not-at_most
bounds-levels-x-then-not-at_most g c = omega (arith, c.requires.0.levels, (g.G.Ground.laws c.args.ground.now).within c.args.from.node c.args.place c.in-Some.crossing.0 c.in-Some.crossing.1 (sym c.in-Some.ensures))

pub offset_bounds-levels-x-then-not-at_most : goal.offset_bounds-levels-x-then-not-at_most
offset_bounds-levels-x-then-not-at_most g c =
    let low : c.in-Some.crossing.0 < length c.args.levels.now = omega (arith, c.requires.0.levels, (g.G.Ground.laws c.args.ground.now).within c.args.from.node c.args.place c.in-Some.crossing.0 c.in-Some.crossing.1 (sym c.in-Some.ensures)) in
    search rules

pub put-requires : goal.put-requires
put-requires g c =
    let ground = c.args.ground.now in
    let n = g.G.Ground.nodes ground in
    let m = g.met.G.Mark.Order in
    let laws = lawful_of g.G.Mark.Order g.G.Ground ground m.total m.transitive m.antisymmetric in
    let ls = c.args.levels.now in
    let roomy = c.requires.0 in
    let far = c.in-Some.crossing.0 in
    let w = c.in-Some.crossing.1 in
    let read : slice_get (g.G.Ground.crossings ground c.args.from.node) c.args.place ≡ Some (far, w) = sym c.in-Some.ensures in
    let low : far < n = laws.within c.args.from.node c.args.place far w read in
    let none : get_or ls far None ≡ None = sym (get_or_read ls far c.index-levels-x.result (omega (arith, low, roomy.levels)) c.index-levels-x.is None) ∙ c.in-None.is in
    record {
      room = omega (arith, roomy.slots, c.requires.1, missing_fresh n ls far c.higher.result low roomy.levels none);
      fresh = (fresh_apart laws far c.requires.2 none, omega (arith, low, roomy.origins));
    }

pub returns-in-None : goal.returns-in-None
returns-in-None g c =
    let ground = c.args.ground.now in
    let n = g.G.Ground.nodes ground in
    let m = g.met.G.Mark.Order in
    let laws = lawful_of g.G.Mark.Order g.G.Ground ground m.total m.transitive m.antisymmetric in
    let ls = c.args.levels.now in
    let roomy = c.requires.0 in
    let far = c.in-Some.crossing.0 in
    let w = c.in-Some.crossing.1 in
    let read : slice_get (g.G.Ground.crossings ground c.args.from.node) c.args.place ≡ Some (far, w) = sym c.in-Some.ensures in
    let low : far < n = laws.within c.args.from.node c.args.place far w read in
    let none : get_or ls far None ≡ None = sym (get_or_read ls far c.index-levels-x.result (omega (arith, low, roomy.levels)) c.index-levels-x.is None) ∙ c.in-None.is in
    let level = c.higher.result in
    let level_is : level ≡ highest g.G.Mark.Order.leb w c.args.from.level = c.higher.ensures in
    let y : Entry g.row.G-Mark.Denot = record { level = level; node = far; origin = c.args.from.origin } in
    let did = c.put.ensures.leaves in
    let q' = waiting c.put.new.self in
    let next = fresh laws y w q' c.requires.2 read level_is refl roomy.levels none did.entries in
    let all = All-weaker (Waits (graph_of g.G.Mark.Order g.G.Ground ground) (set ls far (Some level))) (λ z. z.node < n) (λ z h. h.0) q' next.waiting in
    let fewer = missing_fresh n ls far level low roomy.levels none in
    record {
      stays = record { loan = c.put.ensures.loans.1; levels = drop-set-lt n ls far (Some level) low; origins = did.kept.rest n all };
      done = (λ e. nth_inside _ c.args.place (far, w) read, λ e. absurd (both_ways true e refl));
      turns = omega (arith, did.more, fewer);
      state = (
        record { levels = omega (arith, length-set ls far (Some level), roomy.levels); origins = omega (arith, did.kept.long, roomy.origins); slots = omega (arith, did.room, roomy.slots) },
        omega (arith, did.more, fewer, c.requires.1),
        spreading_kept did.kept next,
      );
    }

pub lower-requires : goal.lower-requires
lower-requires g c =
    let ground = c.args.ground.now in
    let n = g.G.Ground.nodes ground in
    let m = g.met.G.Mark.Order in
    let laws = lawful_of g.G.Mark.Order g.G.Ground ground m.total m.transitive m.antisymmetric in
    let ls = c.args.levels.now in
    let roomy = c.requires.0 in
    let far = c.in-Some.crossing.0 in
    let w = c.in-Some.crossing.1 in
    let read : slice_get (g.G.Ground.crossings ground c.args.from.node) c.args.place ≡ Some (far, w) = sym c.in-Some.ensures in
    let low : far < n = laws.within c.args.from.node c.args.place far w read in
    let level = c.higher.result in
    let level_is : level ≡ highest g.G.Mark.Order.leb w c.args.from.level = c.higher.ensures in
    let old = c.in-Some-known.old in
    let lv : get_or ls far None ≡ Some old = sym (get_or_read ls far c.index-levels-x.result (omega (arith, low, roomy.levels)) c.index-levels-x.is None) ∙ c.in-Some-known.is in
    let strict : g.G.Mark.Order.leb old level ≡ false = sym c.at_most.ensures ∙ c.if-not-at_most.true in
    record { waits = (waits_still laws far w level old c.requires.2 read level_is lv strict).0; falls = entries_level laws far old level c.requires.2 lv strict }

pub returns-then-not-at_most : goal.returns-then-not-at_most
returns-then-not-at_most g c =
    let ground = c.args.ground.now in
    let n = g.G.Ground.nodes ground in
    let m = g.met.G.Mark.Order in
    let laws = lawful_of g.G.Mark.Order g.G.Ground ground m.total m.transitive m.antisymmetric in
    let ls = c.args.levels.now in
    let roomy = c.requires.0 in
    let far = c.in-Some.crossing.0 in
    let w = c.in-Some.crossing.1 in
    let read : slice_get (g.G.Ground.crossings ground c.args.from.node) c.args.place ≡ Some (far, w) = sym c.in-Some.ensures in
    let low : far < n = laws.within c.args.from.node c.args.place far w read in
    let level = c.higher.result in
    let level_is : level ≡ highest g.G.Mark.Order.leb w c.args.from.level = c.higher.ensures in
    let old = c.in-Some-known.old in
    let lv : get_or ls far None ≡ Some old = sym (get_or_read ls far c.index-levels-x.result (omega (arith, low, roomy.levels)) c.index-levels-x.is None) ∙ c.in-Some-known.is in
    let strict : g.G.Mark.Order.leb old level ≡ false = sym c.at_most.ensures ∙ c.if-not-at_most.true in
    let y : Entry g.row.G-Mark.Denot = record { level = level; node = far; origin = c.args.from.origin } in
    let did = c.lower.ensures.leaves in
    let q' = waiting c.lower.new.self in
    let next = lowered laws y w old did.place did.old q' c.requires.2 read level_is refl roomy.levels lv strict did.stood did.node did.entries in
    let all = All-weaker (Waits (graph_of g.G.Mark.Order g.G.Ground ground) (set ls far (Some level))) (λ z. z.node < n) (λ z h. h.0) q' next.waiting in
    let same = missing_lowered n ls far level old low roomy.levels lv in
    record {
      stays = record { loan = c.lower.ensures.loans.1; levels = drop-set-lt n ls far (Some level) low; origins = did.kept.rest n all };
      done = (λ e. nth_inside _ c.args.place (far, w) read, λ e. absurd (both_ways true e refl));
      turns = omega (arith, did.equal, same);
      state = (
        record { levels = omega (arith, length-set ls far (Some level), roomy.levels); origins = omega (arith, did.kept.long, roomy.origins); slots = omega (arith, did.room, roomy.slots) },
        omega (arith, did.equal, same, c.requires.1),
        spreading_kept did.kept next,
      );
    }

pub returns-else-not-at_most : goal.returns-else-not-at_most
returns-else-not-at_most g c =
    let ground = c.args.ground.now in
    let n = g.G.Ground.nodes ground in
    let m = g.met.G.Mark.Order in
    let laws = lawful_of g.G.Mark.Order g.G.Ground ground m.total m.transitive m.antisymmetric in
    let ls = c.args.levels.now in
    let roomy = c.requires.0 in
    let far = c.in-Some.crossing.0 in
    let w = c.in-Some.crossing.1 in
    let read : slice_get (g.G.Ground.crossings ground c.args.from.node) c.args.place ≡ Some (far, w) = sym c.in-Some.ensures in
    let low : far < n = laws.within c.args.from.node c.args.place far w read in
    let level = c.higher.result in
    let level_is : level ≡ highest g.G.Mark.Order.leb w c.args.from.level = c.higher.ensures in
    let old = c.in-Some-known.old in
    let lv : get_or ls far None ≡ Some old = sym (get_or_read ls far c.index-levels-x.result (omega (arith, low, roomy.levels)) c.index-levels-x.is None) ∙ c.in-Some-known.is in
    let le : g.G.Mark.Order.leb old level ≡ true = sym c.at_most.ensures ∙ c.if-not-at_most.false in
    record {
      stays = record { loan = refl; levels = refl; origins = refl };
      done = (λ e. nth_inside _ c.args.place (far, w) read, λ e. absurd (both_ways true e refl));
      turns = refl;
      state = (roomy, c.requires.1, skipped laws far w old c.requires.2 read lv (rw (← level_is) le));
    }
