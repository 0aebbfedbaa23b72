use Rattle.std.proofs.Common.{◌≡◌, ℕ, ◌*◌, ◌/◌, ◌%◌, ◌<◌, length, get_or, Some, Option, sym, ap, ◌∙◌, arith, rules}
use Rattle.std.proofs.lemmas.List.{get_or_default, get_or_read}
use Rattle.marks.specs.Orders.{OrderLaws}
use Rattle.terrain.specs.Neighbours.{degree, neighbour}
use Rattle.terrain.specs.Cells.{node_of}
use Rattle.terrain.specs.CellGrounds.{between}
use Rattle.terrain.specs.NeighbourLaws.{neighbour_touches}
use Rattle.terrain.specs.CellLaws.{place_in, node_in, crossing_read, crossing_past, crossing_none}
use Rattle.terrain.proofs.Marks.{higher_by}
use Rattle.terrain.proofs.ground.meaning.CellGroundGround.crossing.Goals as goal

pub returns-in_err-mark : goal.returns-in_err-mark
returns-in_err-mark g c = c.from_residual.ensures ∙ sym (crossing_none _ _ _ _ _ _ _ (omega (arith, c.args.self.now.long, c.in_err-mark.ensures.lookup)))

pub returns-in_err-far : goal.returns-in_err-far
returns-in_err-far g c =
    let s = c.args.self.now in
    let l = c.in_ok-mark.ensures.lookup in
    c.from_residual-in_err-far.ensures ∙ sym (crossing_past _ _ s.sides.rows s.sides.cols _ c.args.node c.args.place (omega (arith, s.long)) c.in_err-far.ensures)

inside : (rows cols node place n far : ℕ) → n ≡ rows * cols → node < n → place < degree rows cols (node / cols) (node % cols) → far ≡ node_of cols (neighbour cols (node / cols) (node % cols) place) → far < n
inside rows cols node place n far long lt in_List is =
    let p = place_in rows cols node (omega arith) in
    let t = neighbour_touches rows cols (node / cols) (node % cols) p.0 p.1 place in_List in
    omega (arith, node_in rows cols (neighbour cols (node / cols) (node % cols) place) t.0)

pub bounds-self-far : goal.bounds-self-far
bounds-self-far g c =
    let s = c.args.self.now in
    let l = c.in_ok-mark.ensures.lookup in
    let f = c.in_ok-far.ensures in
    inside s.sides.rows s.sides.cols c.args.node c.args.place (length s.marks.now) c.in_ok-far.far s.long (omega arith) f.0 f.1

pub offset_bounds-self-far : goal.offset_bounds-self-far
offset_bounds-self-far g c =
    let s = c.args.self.now in
    let l = c.in_ok-mark.ensures.lookup in
    let f = c.in_ok-far.ensures in
    let h : c.in_ok-far.far < length s.marks.now = inside s.sides.rows s.sides.cols c.args.node c.args.place (length s.marks.now) c.in_ok-far.far s.long (omega arith) f.0 f.1 in
    search rules

same : {M : Type 0} (level : ℕ → M) (far v : ℕ) (l : M) (r : Option (ℕ × M)) → l ≡ level far → far ≡ v → r ≡ Some (v, level v) → Some (far, l) ≡ r
same level far v l r is-l is-far e = ap (λ x. Some (far, x)) is-l ∙ ap (λ x. Some (x, level x)) is-far ∙ sym e

pub returns : goal.returns
returns g c =
    let s = c.args.self.now in
    let l = c.in_ok-mark.ensures.lookup in
    let void = g.M.Mark.lowest in
    let f = c.in_ok-far.ensures in
    let there = inside s.sides.rows s.sides.cols c.args.node c.args.place (length s.marks.now) c.in_ok-far.far s.long (omega arith) f.0 f.1 in
    let O : OrderLaws g.M.Order.leb = record { total = g.met.M.Order.total; transitive = g.met.M.Order.transitive; antisymmetric = g.met.M.Order.antisymmetric } in
    let mark = get_or_read s.marks.now c.args.node _ (omega arith) l.1 void in
    let level = c.higher.ensures ∙ higher_by O (λ u. get_or s.marks.now u void) c.args.node c.in_ok-far.far _ _ mark (get_or_default s.marks.now c.in_ok-far.far _ void there) in
    same (between g.M.Order.leb void s.marks.now c.args.node) _ _ _ _ level f.1
    (crossing_read g.M.Order.leb void s.sides.rows s.sides.cols s.marks.now c.args.node c.args.place (omega (arith, s.long)) f.0)
