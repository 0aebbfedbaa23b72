use Rattle.std.proofs.Common.{◌≡◌, length}
use Rattle.sheets.specs.Copies.{Copied}
use Rattle.sheets.proofs.copies.copy_rows.Given as goal

abbrev pub invariant-loop-i : goal.invariant-loop-i
invariant-loop-i g l =
    Copied (g.S.Sheet.meaning l.source) l.from (g.T.Sheet.meaning l.initial.target) (g.T.Sheet.meaning l.target) l.to l.i (length l.initial.run)
    × (g.T.WritableSheet.loans l.target ≡ g.T.WritableSheet.loans l.initial.target)
