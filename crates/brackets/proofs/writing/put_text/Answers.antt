use Rattle.std.proofs.Common.{◌≡◌, ◌≤◌, length, ◌∙◌, arith}
use Rattle.std.proofs.lemmas.List.{length-take-le}
use Rattle.texts.specs.Texts.{head_line}
use Rattle.brackets.proofs.Puts.{put_long, text_long, text_put}
use Rattle.brackets.proofs.writing.put_text.Goals as goal

pub put_head-first-requires : goal.put_head-first-requires
put_head-first-requires g c =
    let m = g.S.Sheet.meaning c.args.sheet.now in
    let s = c.sides-sides.ensures in
    let head : length (head_line g.M.Spelled.named c.sides-sides.result.rows c.sides-sides.result.cols) ≡ length (head_line g.M.Spelled.named m.rows m.cols) = (λ i. length (head_line g.M.Spelled.named (s.rows i) (s.cols i))) in
    omega (arith, c.requires.room, text_long g.M.Spelled.named g.M.Spelled.spelled m, head)

pub put_rows-last-requires : goal.put_rows-last-requires
put_rows-last-requires g c =
    let m = g.S.Sheet.meaning c.args.sheet.now in
    let s = c.sides-sides.ensures in
    let head : length (head_line g.M.Spelled.named c.sides-sides.result.rows c.sides-sides.result.cols) ≡ length (head_line g.M.Spelled.named m.rows m.cols) = (λ i. length (head_line g.M.Spelled.named (s.rows i) (s.cols i))) in
    let p = c.put_head-first.ensures in
    let wide : c.sides-sides.result.cols ≤ length c.args.run.now = omega (arith, s.cols, c.requires.row) in
    record {
      cols = length-take-le c.sides-sides.result.cols c.args.run.now wide ∙ s.cols;
      live = c.requires.live;
      room = omega (arith, c.requires.room, text_long g.M.Spelled.named g.M.Spelled.spelled m, head, p.place, put_long _ _ _ _ _ p);
    }

pub put-requires : goal.put-requires
put-requires g c =
    let m = g.S.Sheet.meaning c.args.sheet.now in
    let s = c.sides-sides.ensures in
    let head : length (head_line g.M.Spelled.named c.sides-sides.result.rows c.sides-sides.result.cols) ≡ length (head_line g.M.Spelled.named m.rows m.cols) = (λ i. length (head_line g.M.Spelled.named (s.rows i) (s.cols i))) in
    let p = c.put_head-first.ensures in
    let q = c.put_rows-last.ensures in
    omega (arith, c.requires.room, text_long g.M.Spelled.named g.M.Spelled.spelled m, head, p.place, q.place, put_long _ _ _ _ _ p, put_long _ _ _ _ _ q)

pub returns : goal.returns
returns g c =
    let m = g.S.Sheet.meaning c.args.sheet.now in
    let s = c.sides-sides.ensures in
    let w = text_put g.M.Spelled.named g.M.Spelled.spelled m c.sides-sides.result.rows c.sides-sides.result.cols s.rows s.cols _ _ _ _ _ _ _ c.put_head-first.ensures c.put_rows-last.ensures c.put.ensures in
    record { value = w.0; leaves = w.1 }
