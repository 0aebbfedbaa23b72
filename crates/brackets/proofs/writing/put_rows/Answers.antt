use Rattle.std.proofs.Common.{◌≡◌, length, ◌∙◌, subst, arith}
use Rattle.brackets.specs.Writes.{Put, row_lines}
use Rattle.brackets.proofs.Puts.{put_none, put_long, row_put, row_room}
use Rattle.brackets.proofs.Rowwise.{never_refused}
use Rattle.brackets.proofs.writing.put_rows.Goals as goal

pub loop-i-init : goal.loop-i-init
loop-i-init g c = put_none _ _ (omega (arith, c.requires.room))

pub put_line-at-requires : goal.put_line-at-requires
put_line-at-requires g c =
    let m = g.S.Sheet.meaning c.args.sheet.now in
    let s = c.loop-i.invariant in
    let after : length c.read.new.out ≡ m.cols = c.read.auto.out ∙ c.loop-i.auto.run ∙ c.requires.cols in
    omega (arith, s.place, c.requires.room, put_long _ _ _ _ _ s, row_room g.M.Spelled.spelled m c.loop-i.i m.rows c.read.new.out (omega (arith, c.sides-rows.ensures.rows)) after c.in-Ok.ensures.leaves.1)

pub unreachable-requires : goal.unreachable-requires
unreachable-requires g c =
    let m = g.S.Sheet.meaning c.args.sheet.now in
    never_refused m c.loop-i.i (length c.loop-i.run) (c.loop-i.auto.run ∙ c.requires.cols) (omega (arith, c.sides-rows.ensures.rows)) _ _ c.requires.live c.in-Err.ensures.told

pub loop-i-preserved : goal.loop-i-preserved
loop-i-preserved g c =
    let m = g.S.Sheet.meaning c.args.sheet.now in
    let after : length c.read.new.out ≡ m.cols = c.read.auto.out ∙ c.loop-i.auto.run ∙ c.requires.cols in
    row_put g.M.Spelled.spelled m c.loop-i.i c.read.new.out after c.in-Ok.ensures.leaves.1 _ _ _ _ _ _ c.loop-i.invariant c.put_line-at.ensures

pub returns : goal.returns
returns g c =
    let m = g.S.Sheet.meaning c.args.sheet.now in
    let all : c.loop-i.i ≡ m.rows = omega (arith, c.sides-rows.ensures.rows) in
    subst (λ k. Put c.args.out.now c.loop-i.out c.args.from (row_lines g.M.Spelled.spelled m k) c.loop-i.at) all c.loop-i.invariant
