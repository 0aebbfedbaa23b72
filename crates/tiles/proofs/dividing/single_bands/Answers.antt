use Rattle.std.proofs.Common.{◌≡◌, length, sym, arith}
use Rattle.tiles.proofs.Scans.{scan_none, scan_few, scan_single, scan_longer, bad_cut, bad_end, whole_single, whole_longer}
use Rattle.tiles.proofs.dividing.single_bands.Goals as goal
use Rattle.tiles.proofs.dividing.single_bands.Goals.{then-c-last-eq1, else-c-last-eq1}

pub loop-c-init : goal.loop-c-init
loop-c-init c = scan_none _ _

pub overflow_add-single : goal.overflow_add-single
overflow_add-single c = let few = scan_few _ _ _ _ _ c.loop-c.invariant in omega arith

pub loop-c-preserved : goal.loop-c-preserved
loop-c-preserved c =
    let fit = sym c.if-not-band_fits.ensures in
    elim c.if-c-last-eq1.branch [
      | then-c-last-eq1 w ↦ rw (w.last-is, w.single-is) (scan_single _ _ _ _ c.args.cuts.now c.loop-c.invariant c.loop-c-test.true fit w.if-c-last-eq1.true)
      | else-c-last-eq1 w ↦ rw (w.last-is, w.single-is) (scan_longer _ _ _ _ c.args.cuts.now c.loop-c.invariant c.loop-c-test.true fit w.if-c-last-eq1.false)
    ]

pub overflow_add-single-then-side-last-eq1 : goal.overflow_add-single-then-side-last-eq1
overflow_add-single-then-side-last-eq1 c = let few = scan_few _ _ _ _ _ c.loop-c.invariant in omega arith

pub returns-then-side-last-eq1 : goal.returns-then-side-last-eq1
returns-then-side-last-eq1 c =
    let end : c.loop-c.c-index ≡ length c.args.cuts.now = omega arith in
    whole_single _ _ _ _ c.args.cuts.now c.if-cuts-gt-MAX_CUTS.false c.loop-c.invariant end (sym c.if-not-band_fits-2.ensures) c.if-side-last-eq1.true

pub returns-else-side-last-eq1 : goal.returns-else-side-last-eq1
returns-else-side-last-eq1 c =
    let end : c.loop-c.c-index ≡ length c.args.cuts.now = omega arith in
    whole_longer _ _ _ _ c.args.cuts.now c.if-cuts-gt-MAX_CUTS.false c.loop-c.invariant end (sym c.if-not-band_fits-2.ensures) c.if-side-last-eq1.false
