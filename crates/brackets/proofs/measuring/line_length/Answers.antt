use Rattle.std.proofs.Common.{length, ap, ◌∙◌, arith}
use Rattle.brackets.proofs.Puts.{blanked_long, line_long}
use Rattle.brackets.proofs.measuring.line_length.Goals as goal

pub loop-mark-preserved : goal.loop-mark-preserved
loop-mark-preserved g c =
    let w = ap length (c.as_bytes.ensures ∙ c.spelling.ensures) in
    let short = (g.met.M.CodedMark.short c.mark-item.result).1 in
    let v = c.loop-mark.invariant in
    (omega (arith, v.0, blanked_long g.M.Spelled.spelled c.args.marks.now c.loop-mark.mark-index c.mark-item.result c.loop-mark-test.true c.mark-item.is), omega (arith, v.1))

pub returns : goal.returns
returns g c =
    let v = c.loop-mark.invariant in
    record { value = omega (arith, v.0, line_long g.M.Spelled.spelled c.args.marks.now c.loop-mark.mark-index c.loop-mark-test.false); small = omega (arith, v.1, c.requires.1) }
