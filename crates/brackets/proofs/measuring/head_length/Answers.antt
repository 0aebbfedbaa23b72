use Rattle.std.proofs.Common.{length, ap, ◌∙◌, arith, rules}
use Rattle.brackets.proofs.Puts.{head_long, side_long}
use Rattle.brackets.proofs.measuring.head_length.Goals as goal

pub overflow_add-result-3 : goal.overflow_add-result-3
overflow_add-result-3 g c =
    let w = ap length c.name.ensures in
    let r = ap length (c.as_bytes.ensures ∙ c.digits.ensures) in
    let k = ap length (c.as_bytes-2.ensures ∙ c.digits-2.ensures) in
    let brief = g.met.M.CodedMark.brief.1 in
    let a = side_long c.args.sides.rows c.args.sides.rows_side in
    let b = side_long c.args.sides.cols c.args.sides.cols_side in
    search rules

pub returns : goal.returns
returns g c =
    let w = ap length c.name.ensures in
    let r = ap length (c.as_bytes.ensures ∙ c.digits.ensures) in
    let k = ap length (c.as_bytes-2.ensures ∙ c.digits-2.ensures) in
    let brief = g.met.M.CodedMark.brief.1 in
    let a = side_long c.args.sides.rows c.args.sides.rows_side in
    let b = side_long c.args.sides.cols c.args.sides.cols_side in
    record { value = omega (arith, head_long g.M.Spelled.named c.args.sides.rows c.args.sides.cols); small = omega arith }
