use Rattle.std.proofs.Common.{length, arith}
use Rattle.brackets.proofs.Rowwise.{measured, written_told}
use Rattle.brackets.proofs.writing.write_text.Goals as goal

pub put_text-requires : goal.put_text-requires
put_text-requires g c =
    let t = measured g.M.Spelled.named g.M.Spelled.spelled (g.S.Sheet.meaning c.args.sheet.now) (length c.args.scratch.now) c.in_ok-len.len c.in_ok-len.ensures.told in
    record { row = omega (arith, t.wide, c.text_length.auto.scratch); live = t.live; room = omega (arith, t.is, c.if-out-len.false) }

pub returns : goal.returns
returns g c =
    let m = g.S.Sheet.meaning c.args.sheet.now in
    let t = measured g.M.Spelled.named g.M.Spelled.spelled m (length c.args.scratch.now) c.in_ok-len.len c.in_ok-len.ensures.told in
    record {
      told = written_told g.M.Spelled.named g.M.Spelled.spelled m (length c.args.scratch.now) c.in_ok-len.len t (length c.args.out.now) c.put_text.result c.if-out-len.false c.put_text.ensures.value;
      leaves = c.put_text.ensures.leaves;
      scratch = tt;
    }
