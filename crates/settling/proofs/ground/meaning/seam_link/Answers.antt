use Rattle.std.proofs.Common.{◌≡◌, ℕ, ◌<◌, ◌≤◌, Some, None, Option, length, refl, sym, ap, ◌∙◌, ap₂, arith}
use Rattle.marks.specs.Orders.{OrderLaws}
use Rattle.sheets.specs.declared.copies.Place.{Place}
use Rattle.sheets.specs.declared.sides.Sides.{Sides}
use Rattle.terrain.specs.Cells.{place}
use Rattle.terrain.specs.Terrains.{kind_of}
use Rattle.terrain.proofs.Marks.{higher_by}
use Rattle.tiles.specs.Plans.{Plan, Lawful, plan_of}
use Rattle.tiles.specs.Mouths.{mouth_number, mouths}
use Rattle.tiles.specs.declared.places.Mouth.{Mouth}
use Rattle.tiles.proofs.Tilings.{side_below}
use Rattle.tiles.proofs.Seams.{numbered}
use Rattle.tables.specs.Links.{around, link_to}
use Rattle.tables.specs.Records.{mark_of}
use Rattle.tables.proofs.Linked.{number_in}
use Rattle.tables.proofs.Reading.{mark_read, seam_outside, seam_inside, seam_over}
use Rattle.settling.specs.Grounds.{Stands}
use Rattle.settling.proofs.ground.meaning.seam_link.Goals as goal

-- a mouth's cell lies within the largest sheet
small : (p : Plan) → Lawful p → (a : ℕ) (m : Mouth) → Stands p a m → (m.row ≤ 2048) × (m.col ≤ 2048)
small p law a m s =
    let inside = number_in p law m.row m.col a s.number in
    (omega (arith, inside.0, side_below p.rows law.rows), omega (arith, inside.1, side_below p.cols law.cols))

-- a number that was read is below those of the table
below : (p : Plan) → Lawful p → (i j a n : ℕ) → mouth_number p i j ≡ Some a → mouths p ≤ n → a < n
below p law i j a n e h = omega (arith, ((numbered p law).interval i j a e).3)

-- the cell that was looked at, by the sides of the plan
looked : (p : Plan) (s : Sides) (c : Place) (k : ℕ) (o r : Option Place) → s.rows ≡ p.rows → s.cols ≡ p.cols → r ≡ around s.rows s.cols c k → r ≡ o → around p.rows p.cols c k ≡ o
looked p s c k o r rows cols e is = ap₂ (λ x y. around x y c k) (sym rows) (sym cols) ∙ sym e ∙ is

pub around-requires : goal.around-requires
around-requires g c =
    let s = small (plan_of c.args.cuts.now) c.sides-sides.ensures.rules c.args.node c.args.mouth c.requires.here in
    (s.0, (s.1, c.requires.k))

pub returns-in_err-cell : goal.returns-in_err-cell
returns-in_err-cell g c =
    let p = plan_of c.args.cuts.now in
    let m = c.args.mouth in
    c.from_residual.ensures
    ∙ sym (seam_outside (kind_of g.M.Order g.M.Mark.lowest) p c.sides-sides.ensures.rules c.args.mouths.now c.args.node c.args.k m.row m.col c.requires.here.number
    (looked p c.sides-sides.result (place m.row m.col) c.args.k None c.around.result c.sides-sides.ensures.rows c.sides-sides.ensures.cols c.around.ensures c.in_err-cell.was))

pub returns-then-spot-mouth : goal.returns-then-spot-mouth
returns-then-spot-mouth g c =
    let p = plan_of c.args.cuts.now in
    let m = c.args.mouth in
    let d = c.in_ok-cell.cell in
    let s = c.in_ok-spot.spot in
    sym (seam_inside (kind_of g.M.Order g.M.Mark.lowest) p c.sides-sides.ensures.rules c.args.mouths.now c.args.node c.args.k m.row m.col c.requires.here.number d
    (looked p c.sides-sides.result (place m.row m.col) c.args.k (Some d) c.around.result c.sides-sides.ensures.rows c.sides-sides.ensures.cols c.around.ensures c.in_ok-cell.was)
    s (sym c.spot.ensures ∙ c.in_ok-spot.was) (c.if-spot-mouth.true ∙ c.requires.here.tile))

pub returns-in_err-far : goal.returns-in_err-far
returns-in_err-far g c =
    let p = plan_of c.args.cuts.now in
    let m = c.args.mouth in
    let d = c.in_ok-cell.cell in
    let s = c.in_ok-spot.spot in
    let κ = kind_of g.M.Order g.M.Mark.lowest in
    let ms = c.args.mouths.now in
    c.from_residual-in_err-far.ensures
    ∙ sym (seam_over κ p c.sides-sides.ensures.rules ms c.args.node c.args.k m.row m.col c.requires.here.number d
    (looked p c.sides-sides.result (place m.row m.col) c.args.k (Some d) c.around.result c.sides-sides.ensures.rows c.sides-sides.ensures.cols c.around.ensures c.in_ok-cell.was)
    s (sym c.spot.ensures ∙ c.in_ok-spot.was) (λ e. c.if-spot-mouth.false (e ∙ sym c.requires.here.tile))
    ∙ ap (link_to κ ms c.args.node) (sym c.mouth_number.ensures ∙ c.in_err-far.was))

-- both mouths have a record
pub bounds-mouths-node : goal.bounds-mouths-node
bounds-mouths-node g c = below (plan_of c.args.cuts.now) c.sides-sides.ensures.rules c.args.mouth.row c.args.mouth.col c.args.node _ c.requires.here.number c.requires.room

pub offset_bounds-mouths-node : goal.offset_bounds-mouths-node
offset_bounds-mouths-node g c = omega (arith, bounds-mouths-node g c)

pub bounds-mouths-node-in_ok-far : goal.bounds-mouths-node-in_ok-far
bounds-mouths-node-in_ok-far g c = bounds-mouths-node g c

pub bounds-mouths-far : goal.bounds-mouths-far
bounds-mouths-far g c = below (plan_of c.args.cuts.now) c.sides-sides.ensures.rules c.in_ok-cell.cell.row c.in_ok-cell.cell.col c.in_ok-far.far _ (sym c.mouth_number.ensures ∙ c.in_ok-far.was) c.requires.room

pub offset_bounds-mouths-far : goal.offset_bounds-mouths-far
offset_bounds-mouths-far g c = omega (arith, bounds-mouths-far g c)

pub bounds-mouths-far-in_ok-far : goal.bounds-mouths-far-in_ok-far
bounds-mouths-far-in_ok-far g c = bounds-mouths-far g c

pub returns : goal.returns
returns g c =
    let p = plan_of c.args.cuts.now in
    let m = c.args.mouth in
    let d = c.in_ok-cell.cell in
    let s = c.in_ok-spot.spot in
    let κ = kind_of g.M.Order g.M.Mark.lowest in
    let ms = c.args.mouths.now in
    let here = below p c.sides-sides.ensures.rules m.row m.col c.args.node (length ms) c.requires.here.number c.requires.room in
    let there = below p c.sides-sides.ensures.rules d.row d.col c.in_ok-far.far (length ms) (sym c.mouth_number.ensures ∙ c.in_ok-far.was) c.requires.room in
    let O : OrderLaws κ.leb = record { total = g.met.M.Order.total; transitive = g.met.M.Order.transitive; antisymmetric = g.met.M.Order.antisymmetric } in
    let level = c.higher.ensures ∙ higher_by O (mark_of κ.void ms) c.args.node c.in_ok-far.far _ _ (ap (λ r. r.mark) (sym c.index-mouths-node.is) ∙ mark_read κ.void ms c.args.node c.args.node _ refl here c.index-mouths-node.is) (ap (λ r. r.mark) (sym c.index-mouths-far.is) ∙ mark_read κ.void ms c.in_ok-far.far c.in_ok-far.far _ refl there c.index-mouths-far.is) in
    ap (λ l. Some (c.in_ok-far.far, l)) level
    ∙ sym (seam_over κ p c.sides-sides.ensures.rules ms c.args.node c.args.k m.row m.col c.requires.here.number d
    (looked p c.sides-sides.result (place m.row m.col) c.args.k (Some d) c.around.result c.sides-sides.ensures.rows c.sides-sides.ensures.cols c.around.ensures c.in_ok-cell.was)
    s (sym c.spot.ensures ∙ c.in_ok-spot.was) (λ e. c.if-spot-mouth.false (e ∙ sym c.requires.here.tile))
    ∙ ap (link_to κ ms c.args.node) (sym c.mouth_number.ensures ∙ c.in_ok-far.was))
