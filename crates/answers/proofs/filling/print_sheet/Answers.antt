use Rattle.std.proofs.Common.{◌≡◌, ◌*◌, ◌≤◌, length, vec_items, sym, ◌∙◌, subst, arith}
use Rattle.std.proofs.lemmas.Result.{err_from_is_err_and}
use Rattle.sheets.specs.Grids.{Side}
use Rattle.sheets.specs.Layouts.{flat}
use Rattle.terrain.specs.Fills.{size}
use Rattle.terrain.specs.Terrains.{kind_of}
use Rattle.answers.specs.Printed.{coded_of}
use Rattle.answers.proofs.Outcome.{is_made, flat_live, is_filled, is_printed, no_memory, text_in_memory}
use Rattle.answers.proofs.Whole.{enough}
use Rattle.answers.proofs.filling.print_sheet.Goals as goal

pub returns-in_err-target : goal.returns-in_err-target
returns-in_err-target g c =
    let sided = g.S.Sheet.sided c.args.source.now in
    let s = c.sides-rows.ensures in
    let want : length c.as_mut_slice.result.now ≡ c.sides-rows.result.rows * c.sides-rows.result.cols = c.as_mut_slice.ensures.len ∙ c.in_ok-cells.ensures.len in
    absurd (is_made c.sides-rows.result.rows c.sides-rows.result.cols (length c.as_mut_slice.result.now) (c.sides-rows.result.rows * c.sides-rows.result.cols) (tt {0}) (subst Side (sym s.rows) sided.rows) (subst Side (sym s.cols) sided.cols) want _ _ c.in_err-target.ensures.told)

pub returns-in_err-raised : goal.returns-in_err-raised
returns-in_err-raised g c =
    let src = g.S.Sheet.meaning c.args.source.now in
    let s = c.sides-rows.ensures in
    let t = c.in_ok-target.target in
    let m = c.in_ok-target.ensures.made in
    let all : c.sides-rows.result.rows * c.sides-rows.result.cols ≡ size src = (λ i. s.rows i * s.cols i) in
    let told = enough (kind_of g.M.Order g.M.Mark.lowest) src (flat t.rows t.cols t.cells.now) _ (record { marks = c.as_mut_slice-2.result; levels = c.as_mut_slice-3.result; origins = c.as_mut_slice-4.result; heap = c.as_mut_slice-5.result }) _
    (omega (arith, c.as_mut_slice-2.ensures.len ∙ c.in_ok-marks.ensures.len ∙ all))
    (omega (arith, c.as_mut_slice-3.ensures.len ∙ c.in_ok-levels.ensures.len ∙ all))
    (omega (arith, c.as_mut_slice-4.ensures.len ∙ c.in_ok-origins.ensures.len ∙ all))
    (omega (arith, c.as_mut_slice-5.ensures.len ∙ c.in_ok-entries.ensures.len ∙ all))
    c.in_err-raised.ensures.told in
    absurd (is_filled src (flat t.rows t.cols t.cells.now) (m.0 ∙ s.rows) (m.1 ∙ s.cols) c.requires _ _ _ told)

pub returns-in_err-text : goal.returns-in_err-text
returns-in_err-text g c =
    let t = c.fill_sheet.new.target in
    let m = c.in_ok-target.ensures.made in
    let f = c.in_ok-raised.ensures in
    let p = err_from_is_err_and c.from_residual-in_err-text.result c.from_residual-in_err-text.ensures.1 in
    let wide : t.cols ≤ length c.as_mut_slice-6.result.now = omega (arith, f.leaves.cols, m.1, c.as_mut_slice-6.ensures.len, c.in_ok-row.ensures.len) in
    rw (p.1, p.2) (no_memory g.M.Spelled.named g.M.Spelled.spelled (flat t.rows t.cols t.cells.now) (length c.as_mut_slice-6.result.now) _ wide (flat_live t.rows t.cols t.cells.now t.long) c.in_err-text.ensures.told)

pub returns : goal.returns
returns g c =
    let src = g.S.Sheet.meaning c.args.source.now in
    let s = c.sides-rows.ensures in
    let a = c.in_ok-target.target in
    let m = c.in_ok-target.ensures.made in
    let t = c.fill_sheet.new.target in
    let f = c.in_ok-raised.ensures in
    let all : c.sides-rows.result.rows * c.sides-rows.result.cols ≡ size src = (λ i. s.rows i * s.cols i) in
    let told = enough (kind_of g.M.Order g.M.Mark.lowest) src (flat a.rows a.cols a.cells.now) _ (record { marks = c.as_mut_slice-2.result; levels = c.as_mut_slice-3.result; origins = c.as_mut_slice-4.result; heap = c.as_mut_slice-5.result }) _
    (omega (arith, c.as_mut_slice-2.ensures.len ∙ c.in_ok-marks.ensures.len ∙ all))
    (omega (arith, c.as_mut_slice-3.ensures.len ∙ c.in_ok-levels.ensures.len ∙ all))
    (omega (arith, c.as_mut_slice-4.ensures.len ∙ c.in_ok-origins.ensures.len ∙ all))
    (omega (arith, c.as_mut_slice-5.ensures.len ∙ c.in_ok-entries.ensures.len ∙ all))
    f.told in
    is_printed src (flat a.rows a.cols a.cells.now) (m.0 ∙ s.rows) (m.1 ∙ s.cols) c.requires (coded_of g.M.Order g.M.Mark.lowest g.M.Spelled) (flat t.rows t.cols t.cells.now) c.in_ok-raised.raised (vec_items c.in_ok-text.text) (vec_items c.append_raised.new.text) told f.leaves (text_in_memory g.M.Spelled.named g.M.Spelled.spelled (flat t.rows t.cols t.cells.now) _ c.in_ok-text.text c.in_ok-text.ensures.told) c.in_ok-append_raised.ensures
