use Rattle.std.proofs.Common.{ap, ◌∙◌}
use Rattle.sheets.specs.Runs.{broken}
use Rattle.sheets.proofs.Rectangles.{rows_whole}
use Rattle.sheets.proofs.copies.copy_rows.Goals as goal

pub copy_row-requires-clause-whole : goal.copy_row-requires-clause-whole
copy_row-requires-clause-whole g c =
    let m = g.S.Sheet.meaning c.args.source.now in
    rw c.below.ensures (ap (broken m _ _) c.loop-i.auto.run ∙ rows_whole m c.args.from _ c.args.height c.requires.whole c.loop-i.i c.loop-i-test.true)
