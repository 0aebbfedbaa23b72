use Rattle.std.proofs.Common.{◌≡◌, length, ◌∙◌, arith}
use Rattle.sheets.proofs.Codes.{packing_more, packed_written}
use Rattle.sheets.proofs.Starts.{started}
use Rattle.sheets.proofs.packed.PackedWritableSheet.write.Goals as goal

pub put-requires : goal.put-requires
put-requires g c =
    let s = c.args.self.now in
    let t = started c.sides.result s.rows s.cols c.args.row c.args.col (length c.args.marks.now) _ c.sides.ensures.rows c.sides.ensures.cols c.in_ok-from.ensures in
    let i = c.loop-k.invariant in
    rw (i.0, i.1) (omega (arith, t.ends))

pub loop-k-preserved : goal.loop-k-preserved
loop-k-preserved g c =
    let s = c.args.self.now in
    let t = started c.sides.result s.rows s.cols c.args.row c.args.col (length c.args.marks.now) _ c.sides.ensures.rows c.sides.ensures.cols c.in_ok-from.ensures in
    let p = c.put.ensures in (
      p.rows ∙ c.loop-k.invariant.0,
      p.cols ∙ c.loop-k.invariant.1,
      packing_more g.M.CodedMark.coded _ _ _ c.args.marks.now _ c.loop-k.k _ c.loop-k.invariant.2 (omega (arith, s.long, t.ends)) (omega arith) c.index-marks-k.is p.leaves,
      p.loans ∙ c.loop-k.invariant.3,
    )

pub returns-clause-leaves : goal.returns-clause-leaves
returns-clause-leaves g c =
    let s = c.args.self.now in
    let t = started c.sides.result s.rows s.cols c.args.row c.args.col (length c.args.marks.now) _ c.sides.ensures.rows c.sides.ensures.cols c.in_ok-from.ensures in
    let all : c.loop-k.k ≡ length c.args.marks.now = omega arith in
    packed_written g.M.CodedMark.coded g.M.CodedMark.decoded g.met.M.CodedMark.encodes s.rows s.cols _ _ _ _ _ c.args.row c.args.col _ c.loop-k.invariant.0 c.loop-k.invariant.1 t.is t.run_in (rw all at c.loop-k.invariant.2)
