use Rattle.std.proofs.Common.{◌≡◌, ℕ, ◌+◌, ◌-◌, ◌<◌, ◌≤◌, take, drop, ap, ap₂, add-one, arith}
use Rattle.tiles.specs.Plans.{Plan, Lawful, tiles}
use Rattle.tiles.specs.Mouths.{passes, mouth_base, pass_base, tile_mouths}
use Rattle.tiles.proofs.Tilings.{lawful_plan}
use Rattle.tiles.proofs.Numberings.{base_next}
use Rattle.tables.proofs.Reading.{records}
use Rattle.settling.proofs.ground.meaning.tile_passes.Goals as goal

-- where the records of a tile stand, by the numbers of its mouths
record Part (p : Plan) (t start end n : ℕ) : Type 0 where
  low : t ≤ start
  some : start + 1 ≤ end
  base : start - t ≡ pass_base p t
  long : end - start ≡ tile_mouths p t
  within : start - t + (end - start - 1) ≤ n

part : (p : Plan) → Lawful p → (t start end n : ℕ) → t < tiles p → start ≡ mouth_base p t → end ≡ mouth_base p (t + 1) → passes p ≤ n → Part p t start end n
part p law t start end n h is-start is-end room =
    let long : end - start ≡ tile_mouths p t = omega (arith, is-start, is-end, base_next p t, ap (mouth_base p) (add-one t)) in
    let r = records p law t start (end - start) h is-start long in
    record { low = r.low; some = omega (arith, r.some); base = r.base; long = long; within = omega (arith, r.within) }

pub overflow_sub-start : goal.overflow_sub-start
overflow_sub-start g c = (part _ (lawful_plan c.args.cuts.now) _ _ _ _ c.requires.tile c.requires.start c.requires.end c.requires.room).low

pub overflow_sub-count : goal.overflow_sub-count
overflow_sub-count g c = omega (arith, (part _ (lawful_plan c.args.cuts.now) _ _ _ _ c.requires.tile c.requires.start c.requires.end c.requires.room).some)

pub overflow_sub-count-2 : goal.overflow_sub-count-2
overflow_sub-count-2 g c = omega (arith, (part _ (lawful_plan c.args.cuts.now) _ _ _ _ c.requires.tile c.requires.start c.requires.end c.requires.room).some)

pub offset_bounds-passes-start : goal.offset_bounds-passes-start
offset_bounds-passes-start g c = omega (arith, (part _ (lawful_plan c.args.cuts.now) _ _ _ _ c.requires.tile c.requires.start c.requires.end c.requires.room).within)

pub slice_bounds-result-end : goal.slice_bounds-result-end
slice_bounds-result-end g c = omega (arith, (part _ (lawful_plan c.args.cuts.now) _ _ _ _ c.requires.tile c.requires.start c.requires.end c.requires.room).within)

pub returns : goal.returns
returns g c =
    let h = part _ (lawful_plan c.args.cuts.now) _ _ _ _ c.requires.tile c.requires.start c.requires.end c.requires.room in
    ap₂ (λ n k. take n (drop k c.args.passes.now)) (omega (arith, h.long, h.some)) h.base
