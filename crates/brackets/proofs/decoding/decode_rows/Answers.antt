use Rattle.std.proofs.Common.{◌≡◌, ℕ, ◌+◌, ◌*◌, ◌≤◌, suc, List, length, sym, refl, ap, ◌∙◌, add-one, arith}
use Rattle.std.proofs.lemmas.Result.{err_from_is_err_and}
use Rattle.sheets.specs.Grids.{is_dead}
use Rattle.terrain.proofs.Rows.{row_end, part_length}
use Rattle.brackets.specs.Lines.{lines_on, past_line, parts_on}
use Rattle.brackets.specs.Cells.{cell_along, in_text}
use Rattle.brackets.proofs.Decodings.{decodes_more, dead_here}
use Rattle.brackets.proofs.decoding.decode_rows.Goals as goal

-- the line of row i, behind its word
begun : (bs : List ℕ) (i : ℕ) (rest line from : List ℕ) → rest ≡ lines_on i bs → line ≡ past_line rest → from ≡ parts_on 2 line → from ≡ parts_on 2 (lines_on (suc i) bs)
begun bs i rest line from sofar next skipped = skipped ∙ ap (parts_on 2) (next ∙ ap past_line sofar)

pub loop-i-init : goal.loop-i-init
loop-i-init g c = (refl, λ i j h. absurd (omega arith))

pub returns-in_err-fill : goal.returns-in_err-fill
returns-in_err-fill g c =
    let bs = c.args.bytes.now in
    let cols = c.args.sides.cols in
    let i = c.loop-i.i in
    let inside : i * cols + cols ≤ length c.loop-i.marks = omega (arith, row_end c.args.sides.rows cols i c.loop-i-test.true, c.requires, c.loop-i.auto.marks) in
    let long = part_length c.loop-i.marks (i * cols) cols inside in
    let from = begun bs i _ _ _ c.loop-i.invariant.0 c.next_line-rest.ensures c.skip_parts.ensures in
    let p = err_from_is_err_and c.from_residual.result c.from_residual.ensures.1 in
    let d = c.in_err-fill.ensures in
    rw (p.1, p.2) (
      d.0,
      dead_here (in_text g.M.CodedMark.decoded g.M.Spelled.spelled c.args.sides.rows cols bs) i d.1.0 c.loop-i-test.true (omega (arith, long, d.1.1)) (ap (λ w. is_dead (cell_along g.M.CodedMark.decoded g.M.Spelled.spelled w d.1.0)) (sym from) ∙ d.1.2),
    )

pub loop-i-preserved : goal.loop-i-preserved
loop-i-preserved g c =
    let bs = c.args.bytes.now in
    let cols = c.args.sides.cols in
    let i = c.loop-i.i in
    let inside : i * cols + cols ≤ length c.loop-i.marks = omega (arith, row_end c.args.sides.rows cols i c.loop-i-test.true, c.requires, c.loop-i.auto.marks) in
    let long = part_length c.loop-i.marks (i * cols) cols inside in
    let from = begun bs i _ _ _ c.loop-i.invariant.0 c.next_line-rest.ensures c.skip_parts.ensures in (
      c.next_line-rest.ensures ∙ ap past_line c.loop-i.invariant.0 ∙ sym (ap (λ k. lines_on k bs) (add-one i)),
      decodes_more (in_text g.M.CodedMark.decoded g.M.Spelled.spelled c.args.sides.rows cols bs) _ i c.loop-i.marks c.fill.new.out c.loop-i.invariant.1 inside (c.fill.auto.out ∙ long)
          (λ k lt. ap (λ w. cell_along g.M.CodedMark.decoded g.M.Spelled.spelled w k) (sym from) ∙ c.in_ok-fill.ensures k (omega (arith, long))),
    )
