use Rattle.std.proofs.Common.{◌≡◌, ℕ, ◌<◌, ◌≤◌, Bool, true, false, cond, length, Some, None, sym, refl, ap, ◌∙◌, ap₂, arith}
use Rattle.std.specs.Bool.{then_some}
use Rattle.sheets.specs.Grids.{at_edge}
use Rattle.terrain.specs.Terrains.{kind_of}
use Rattle.tiles.specs.Plans.{Plan, Lawful, plan_of}
use Rattle.tiles.specs.Mouths.{mouth_number, mouths}
use Rattle.tiles.proofs.Tilings.{lawful_plan}
use Rattle.tiles.proofs.Seams.{numbered}
use Rattle.tables.specs.Records.{tables, mark_of}
use Rattle.tables.proofs.Linked.{drain_none, drain_read}
use Rattle.tables.proofs.Reading.{mark_read}
use Rattle.settling.proofs.ground.meaning.MouthGroundGround.drain.Goals as goal

pub returns-in_err-mouth : goal.returns-in_err-mouth
returns-in_err-mouth g c =
    let s = c.args.self.now in
    let p = plan_of s.cuts in
    c.from_residual.ensures ∙ sym (drain_none (kind_of g.M.Order g.M.Mark.lowest) p (tables s.mouths.now s.passes.now) (lawful_plan s.cuts) c.args.node c.in_err-mouth.ensures)

-- a mouth has a record
recorded : (p : Plan) → Lawful p → (i j a m : ℕ) → mouth_number p i j ≡ Some a → mouths p ≤ m → a < m
recorded p law i j a m e h = omega (arith, ((numbered p law).interval i j a e).3)

pub offset_bounds-mouths-node : goal.offset_bounds-mouths-node
offset_bounds-mouths-node g c =
    let s = c.args.self.now in
    let m = c.in_ok-mouth.mouth in
    let h = recorded (plan_of s.cuts) (lawful_plan s.cuts) m.row m.col c.args.node (length s.mouths.now) c.in_ok-mouth.ensures.0 s.marked in
    omega (arith, h)

pub bounds-mouths-node : goal.bounds-mouths-node
bounds-mouths-node g c =
    let s = c.args.self.now in
    let m = c.in_ok-mouth.mouth in
    recorded (plan_of s.cuts) (lawful_plan s.cuts) m.row m.col c.args.node (length s.mouths.now) c.in_ok-mouth.ensures.0 s.marked

pub bounds-mouths-node-in_ok-mouth : goal.bounds-mouths-node-in_ok-mouth
bounds-mouths-node-in_ok-mouth g c = bounds-mouths-node g c

-- a value under a test
tested : {X : Type 0} (b : Bool) (x : X) → then_some b x ≡ cond b (Some x) None
tested true x = refl
tested false x = refl

pub returns : goal.returns
returns g c =
    let s = c.args.self.now in
    let p = plan_of s.cuts in
    let m = c.in_ok-mouth.mouth in
    let e = c.in_ok-mouth.ensures.0 in
    let κ = kind_of g.M.Order g.M.Mark.lowest in
    let edge = c.on_edge-edge.result in
    c.then_some.ensures
    ∙ ap (then_some edge) (ap (λ r. r.mark) (sym c.index-mouths-node.is) ∙ mark_read κ.void s.mouths.now c.args.node c.args.node c.index-mouths-node.result refl (recorded p (lawful_plan s.cuts) m.row m.col c.args.node (length s.mouths.now) e s.marked) c.index-mouths-node.is)
    ∙ tested edge (mark_of κ.void s.mouths.now c.args.node)
    ∙ sym (drain_read κ p (tables s.mouths.now s.passes.now) (lawful_plan s.cuts) c.args.node m.row m.col edge e (c.on_edge-edge.ensures ∙ ap₂ (λ x y. at_edge x y m.row m.col) c.sides.ensures.rows c.sides.ensures.cols))
