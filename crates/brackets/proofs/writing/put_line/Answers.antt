use Rattle.std.proofs.Common.{[], ◌∷◌, codes, arith, length-append}
use Rattle.brackets.specs.Writes.{blanked}
use Rattle.brackets.proofs.Puts.{put_long, put_more}
use Rattle.brackets.proofs.writing.put_line.Goals as goal

pub put_marks-last-requires : goal.put_marks-last-requires
put_marks-last-requires g c =
    let p = c.put-first.ensures in
    omega (arith, p.place, put_long _ _ _ _ _ p, c.requires, length-append (blanked g.M.Spelled.spelled c.args.marks.now) (41 ∷ 10 ∷ []))

pub put-requires : goal.put-requires
put-requires g c =
    let p = c.put-first.ensures in
    let q = c.put_marks-last.ensures in
    omega (arith, p.place, q.place, put_long _ _ _ _ _ p, put_long _ _ _ _ _ q, c.requires, length-append (blanked g.M.Spelled.spelled c.args.marks.now) (41 ∷ 10 ∷ []))

pub returns : goal.returns
returns g c = put_more _ _ _ _ _ _ (codes "(row") _ c.put-first.ensures (put_more _ _ _ _ _ _ _ _ c.put_marks-last.ensures c.put.ensures)
