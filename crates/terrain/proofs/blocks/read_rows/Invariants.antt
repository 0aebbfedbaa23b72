use Rattle.std.proofs.Common.{◌≡◌, false}
use Rattle.sheets.specs.Copies.{broken_rows}
use Rattle.terrain.specs.Blocks.{HoldsBlock}
use Rattle.terrain.proofs.blocks.read_rows.Given as goal

abbrev pub invariant-loop-i : goal.invariant-loop-i
invariant-loop-i g l =
    (broken_rows (g.S.Sheet.meaning l.source) l.from l.extent.width l.i ≡ false)
    × HoldsBlock (g.S.Sheet.meaning l.source) l.from (record { height = l.i; width = l.extent.width }) l.marks
