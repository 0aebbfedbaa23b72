use Rattle.std.proofs.Common.{◌≡◌, ℕ, ◌+◌, ◌-◌, ◌*◌, ◌≤◌, sym, ap, ◌∙◌, arith}
use Rattle.tiles.specs.Plans.{plan_of, abreast}
use Rattle.tiles.proofs.Tilings.{lawful_plan}
use Rattle.std.proofs.lemmas.Nat.{mul-le}
use Rattle.tiles.specs.Rules.{band_size, singles}
use Rattle.tiles.specs.Bandings.{row_base}
use Rattle.tiles.proofs.Tilings.{side_below}
use Rattle.tiles.proofs.Bands.{band_read, size_read, singles_few, lawful_few}
use Rattle.tiles.proofs.Numberings.{line_row, ring_row}
use Rattle.tiles.proofs.cuts.CutList.row_mouths.Goals as goal

pub overflow_sub-height : goal.overflow_sub-height
overflow_sub-height c =
    let p = plan_of c.args.self.now in
    omega (arith, (band_read p.rows p.down c.args.i _ _ (lawful_plan c.args.self.now).down c.requires c.start-2.ensures c.start.ensures).rises)

pub returns-then-height-eq1 : goal.returns-then-height-eq1
returns-then-height-eq1 c =
    let p = plan_of c.args.self.now in
    line_row p c.args.i (lawful_plan c.args.self.now) (sym (size_read p.rows p.down c.args.i _ _ c.start-2.ensures c.start.ensures) ∙ c.if-height-eq1.true)

-- the factors that the code multiplies
record Factors (single bands top bottom side : ℕ) : Type 0 where
  some : single ≤ bands
  few : bands ≤ 32
  tall : 2 ≤ bottom - top
  near : bottom - top ≤ 64
  long : side ≤ 2048

factors : (c : goal.After-bands) → Factors c.args.self.now.cols.single c.bands.result c.start-2.result c.start.result c.args.self.now.cols.side
factors c =
    let p = plan_of c.args.self.now in
    let l = lawful_plan c.args.self.now in
    let b = band_read p.rows p.down c.args.i _ _ l.down c.requires c.start-2.ensures c.start.ensures in
    record {
      some = omega (arith, c.args.self.now.cols.counted, singles_few p.cols p.across (abreast p), c.bands.ensures);
      few = omega (arith, c.bands.ensures, lawful_few p.cols p.across l.across);
      tall = omega (arith, b.rises, c.if-height-eq1.false);
      near = omega (arith, b.near);
      long = side_below p.cols l.cols;
    }

product : (single bands top bottom side : ℕ) → Factors single bands top bottom side → (2 * bands - single) * (bottom - top - 2) ≤ 4096
product single bands top bottom side f = mul-le (2 * bands - single) (bottom - top - 2) 64 64 (omega (arith, f.few)) (omega (arith, f.near))

pub overflow_sub-result : goal.overflow_sub-result
overflow_sub-result c = omega (arith, (factors c).some)

pub overflow_sub-result-2 : goal.overflow_sub-result-2
overflow_sub-result-2 c = (factors c).tall

pub overflow_mul-result-3 : goal.overflow_mul-result-3
overflow_mul-result-3 c = let small = product _ _ _ _ _ (factors c) in omega arith

pub overflow_add-result : goal.overflow_add-result
overflow_add-result c =
    let small = product _ _ _ _ _ (factors c) in
    let long = (factors c).long in
    omega arith

pub returns : goal.returns
returns c =
    let p = plan_of c.args.self.now in
    let size = size_read p.rows p.down c.args.i _ _ c.start-2.ensures c.start.ensures in
    let tall : 2 ≤ band_size p.rows p.down c.args.i = omega (arith, (factors c).tall, size) in
    let high : band_size p.rows p.down c.args.i - 2 ≡ c.start.result - c.start-2.result - 2 = omega (arith, size) in
    let wide : 2 * abreast p - singles p.cols p.across (abreast p) ≡ 2 * c.bands.result - c.args.self.now.cols.single = omega (arith, c.bands.ensures, c.args.self.now.cols.counted) in
    ring_row p c.args.i (lawful_plan c.args.self.now) tall
    ∙ ap (λ n. row_base p c.args.i + (2 * p.cols + n * (band_size p.rows p.down c.args.i - 2))) wide
    ∙ ap (λ n. row_base p c.args.i + (2 * p.cols + (2 * c.bands.result - c.args.self.now.cols.single) * n)) high
