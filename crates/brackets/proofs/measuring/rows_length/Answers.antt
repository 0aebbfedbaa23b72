use Rattle.std.proofs.Common.{◌≡◌, [], length, sym, ap, ◌∙◌, arith}
use Rattle.std.proofs.lemmas.Result.{err_from_is_err_and}
use Rattle.marks.specs.Refusals.{accepted}
use Rattle.sheets.specs.Copies.{broken_rows}
use Rattle.terrain.specs.Cells.{place}
use Rattle.sheets.proofs.Checks.{passes}
use Rattle.brackets.specs.Writes.{row_lines}
use Rattle.brackets.proofs.Rowwise.{more_alive, dead_told, more_long}
use Rattle.brackets.proofs.measuring.rows_length.Goals as goal

pub line_length-len-requires : goal.line_length-len-requires
line_length-len-requires g c =
    let sided = (g.S.Sheet.sided c.args.sheet.now).cols in
    (omega (arith, c.read.auto.out, c.loop-i.auto.run, sided.0, c.requires), omega (arith, c.read.auto.out, c.loop-i.auto.run, sided.1, c.requires))

pub loop-i-preserved : goal.loop-i-preserved
loop-i-preserved g c =
    let m = g.S.Sheet.meaning c.args.sheet.now in
    let r = c.in_ok-read.ensures in
    let v = c.loop-i.invariant in
    let before : length c.loop-i.run ≡ m.cols = c.loop-i.auto.run ∙ c.requires in
    let after : length c.read.new.out ≡ m.cols = c.read.auto.out ∙ before in (
      more_alive m c.loop-i.i (length c.loop-i.run) before v.0 r.told,
      more_long g.M.Spelled.spelled m c.loop-i.i c.loop-i.len c.line_length-len.result c.read.new.out after r.leaves.1 v.1 c.line_length-len.ensures.value,
      omega (arith, v.2, c.line_length-len.ensures.small),
    )

pub returns-in_err-read : goal.returns-in_err-read
returns-in_err-read g c =
    let m = g.S.Sheet.meaning c.args.sheet.now in
    let p = err_from_is_err_and c.from_residual.result c.from_residual.ensures.1 in
    rw (p.1, p.2) (record { told = dead_told m c.loop-i.i (length c.loop-i.run) (c.loop-i.auto.run ∙ c.requires) (omega (arith, c.sides-rows.ensures.rows)) _ _ _ c.in_err-read.ensures.told; small = tt })

pub returns : goal.returns
returns g c =
    let m = g.S.Sheet.meaning c.args.sheet.now in
    let v = c.loop-i.invariant in
    let all : c.loop-i.i ≡ m.rows = omega (arith, c.sides-rows.ensures.rows) in
    let len : c.loop-i.len ≡ length (row_lines g.M.Spelled.spelled m m.rows) = v.1 ∙ ap (λ k. length (row_lines g.M.Spelled.spelled m k)) all in
    record {
      told = passes _ _ [] _ _ (ap (broken_rows m (place 0 0) m.cols) (sym all) ∙ v.0) (ap accepted len);
      small = omega (arith, v.2, (g.S.Sheet.sided c.args.sheet.now).rows.1);
    }
