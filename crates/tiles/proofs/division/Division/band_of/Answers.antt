use Rattle.std.proofs.Common.{◌≡◌, ◌-◌, take, ap, ◌∙◌, arith}
use Rattle.tiles.specs.Rules.{lawful, band_of}
use Rattle.tiles.proofs.Bands.{band_found, band_missed}
use Rattle.tiles.proofs.division.Division.band_of.Goals as goal

pub returns-in-Ok : goal.returns-in-Ok
returns-in-Ok c =
    let s = c.args.self.now in
    let none : s.count - 0 ≡ s.count = omega arith in
    let e : take (s.count - 0) s.cuts ≡ take s.count s.cuts = ap (λ n. take n s.cuts) none in
    band_found s.side (take (s.count - 0) s.cuts) c.args.place c.in-Ok.k (ap (lawful s.side) e ∙ s.rules) c.in-Ok.ensures.position
    ∙ ap (λ cs. band_of cs c.args.place) e

pub returns-in-Err : goal.returns-in-Err
returns-in-Err c =
    let s = c.args.self.now in
    let none : s.count - 0 ≡ s.count = omega arith in
    let e : take (s.count - 0) s.cuts ≡ take s.count s.cuts = ap (λ n. take n s.cuts) none in
    band_missed s.side (take (s.count - 0) s.cuts) c.args.place c.in-Err.k (ap (lawful s.side) e ∙ s.rules) c.in-Err.ensures.position
    ∙ ap (λ cs. band_of cs c.args.place) e
