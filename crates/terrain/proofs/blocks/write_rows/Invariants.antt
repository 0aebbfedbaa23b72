use Rattle.std.proofs.Common.{◌≡◌}
use Rattle.sheets.specs.Copies.{Copied}
use Rattle.sheets.specs.Layouts.{flat}
use Rattle.terrain.specs.Cells.{place}
use Rattle.terrain.proofs.blocks.write_rows.Given as goal

abbrev pub invariant-loop-i : goal.invariant-loop-i
invariant-loop-i g l =
    Copied (flat l.extent.height l.extent.width l.marks) (place 0 0) (g.T.Sheet.meaning l.initial.target) (g.T.Sheet.meaning l.target) l.to l.i l.extent.width
    × (g.T.WritableSheet.loans l.target ≡ g.T.WritableSheet.loans l.initial.target)
