use Rattle.std.proofs.Common.{[], ◌∷◌, length, refl, arith, rules}
use Rattle.sheets.proofs.Checks.{passes}
use Rattle.sheets.proofs.Spans.{read_part, flat_unbroken}
use Rattle.sheets.proofs.Starts.{started}
use Rattle.sheets.proofs.raster.RasterSheet.read.Goals as goal

pub offset_bounds-self-from : goal.offset_bounds-self-from
offset_bounds-self-from g c =
    let s = c.args.self.now in
    let t = started c.sides.result s.rows s.cols c.args.row c.args.col (length c.args.out.now) _ c.sides.ensures.rows c.sides.ensures.cols c.in_ok-from.ensures in
    omega (arith, s.long, t.ends)

pub slice_bounds-copy_from_slice-end : goal.slice_bounds-copy_from_slice-end
slice_bounds-copy_from_slice-end g c =
    let s = c.args.self.now in
    let t = started c.sides.result s.rows s.cols c.args.row c.args.col (length c.args.out.now) _ c.sides.ensures.rows c.sides.ensures.cols c.in_ok-from.ensures in
    let l = s.long in
    let e = t.ends in
    search rules

pub returns : goal.returns
returns g c =
    let s = c.args.self.now in
    let t = started c.sides.result s.rows s.cols c.args.row c.args.col (length c.args.out.now) _ c.sides.ensures.rows c.sides.ensures.cols c.in_ok-from.ensures in
    record {
      told = passes _ _ (_ ∷ []) _ _ t.inside (passes _ _ [] _ _ (flat_unbroken s.rows s.cols s.cells.now c.args.row c.args.col (length c.args.out.now) (omega (arith, s.long, t.ends, t.is))) refl);
      leaves = (c.copy_from_slice.ensures.len, read_part _ _ _ _ c.args.row s.cols c.args.col t.is c.copy_from_slice.ensures.after (omega (arith, c.copy_from_slice.ensures.len)));
    }
