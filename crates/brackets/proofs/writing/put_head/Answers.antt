use Rattle.std.proofs.Common.{[], ◌∷◌, length, ap, ◌∙◌, arith, length-append}
use Rattle.brackets.proofs.Puts.{put_long, put_more, head_long, head_put}
use Rattle.brackets.proofs.writing.put_head.Goals as goal

pub put_ended-first-requires : goal.put_ended-first-requires
put_ended-first-requires g c =
    let p = c.put-word.ensures in
    let w = ap length c.name.ensures in
    omega (arith, p.place, put_long _ _ _ _ _ p, c.requires, head_long g.M.Spelled.named c.args.sides.rows c.args.sides.cols)

pub put_ended-second-requires : goal.put_ended-second-requires
put_ended-second-requires g c =
    let p = c.put-word.ensures in
    let q = c.put_ended-first.ensures in
    let w = ap length c.name.ensures in
    let r = ap length (c.as_bytes.ensures ∙ c.digits.ensures) in
    omega (arith, p.place, q.place, length-append c.name.result.now (32 ∷ []), put_long _ _ _ _ _ p, put_long _ _ _ _ _ q, c.requires, head_long g.M.Spelled.named c.args.sides.rows c.args.sides.cols)

pub put_ended-requires : goal.put_ended-requires
put_ended-requires g c =
    let p = c.put-word.ensures in
    let q = c.put_ended-first.ensures in
    let s = c.put_ended-second.ensures in
    let w = ap length c.name.ensures in
    let r = ap length (c.as_bytes.ensures ∙ c.digits.ensures) in
    let k = ap length (c.as_bytes-2.ensures ∙ c.digits-2.ensures) in
    omega (arith, p.place, q.place, s.place, length-append c.name.result.now (32 ∷ []), length-append c.as_bytes.result.now (32 ∷ []), put_long _ _ _ _ _ p, put_long _ _ _ _ _ q, put_long _ _ _ _ _ s, c.requires, head_long g.M.Spelled.named c.args.sides.rows c.args.sides.cols)

pub returns : goal.returns
returns g c =
    head_put g.M.Spelled.named c.args.sides.rows c.args.sides.cols c.name.result.now c.as_bytes.result.now c.as_bytes-2.result.now c.name.ensures (c.as_bytes.ensures ∙ c.digits.ensures) (c.as_bytes-2.ensures ∙ c.digits-2.ensures) _ _ _
    (put_more _ _ _ _ _ _ _ _ (put_more _ _ _ _ _ _ _ _ (put_more _ _ _ _ _ _ _ _ c.put-word.ensures c.put_ended-first.ensures) c.put_ended-second.ensures) c.put_ended.ensures)
