use Rattle.std.proofs.Common.{ℕ, ◌+◌, ◌<◌, [], ◌∷◌, length, sym, refl, ap, arith}
use Rattle.std.proofs.lemmas.Bool.Decides.{when_true, when_false}
use Rattle.sheets.specs.Grids.{Cell, cell_of}
use Rattle.sheets.specs.Layouts.{code_at, code_cell}
use Rattle.sheets.proofs.Checks.{fails, passes}
use Rattle.sheets.proofs.Marks.{at_fill, none_dead}
use Rattle.sheets.proofs.Codes.{codes_unbroken, codes_broken}
use Rattle.sheets.proofs.Starts.{started}
use Rattle.sheets.proofs.packed.PackedSheet.read.Goals as goal
use Rattle.sheets.proofs.packed.PackedSheet.read.Goals.{in-Some, in_default}

pub returns-then-not-readable-clause-told : goal.returns-then-not-readable-clause-told
returns-then-not-readable-clause-told g c =
    let s = c.args.self.now in
    let t = started c.sides.result s.rows s.cols c.args.row c.args.col (length c.args.out.now) _ c.sides.ensures.rows c.sides.ensures.cols c.in_ok-from.ensures in
    let d = when_false _ _ c.if-not-readable.true c.readable.ensures in
    passes _ _ (_ ∷ []) _ _ t.inside (fails _ _ [] _ (codes_broken g.M.CodedMark.decoded s.rows s.cols s.bytes.now c.args.row c.args.col _ (length c.args.out.now) t.is d.0 d.1 d.2))

pub mark_at-requires : goal.mark_at-requires
mark_at-requires g c =
    let s = c.args.self.now in
    omega (arith, (started c.sides.result s.rows s.cols c.args.row c.args.col (length c.args.out.now) _ c.sides.ensures.rows c.sides.ensures.cols c.in_ok-from.ensures).ends)

pub loop-k-preserved : goal.loop-k-preserved
loop-k-preserved g c =
    let decoded = g.M.CodedMark.decoded in
    let bs = c.args.self.now.bytes.now in
    let from = c.in_ok-from.from in
    let C : ℕ → Cell g.row.M.Denot = λ k. code_cell decoded bs (from + k) in
    let live = when_true _ _ c.if-not-readable.false c.readable.ensures in
    let room : c.loop-k.k < length c.loop-k.out = omega (arith, c.loop-k.auto.out) in
    elim c.match-mark_at.branch [
      | in-Some w ↦ rw w.out-is (at_fill C c.loop-k.out c.loop-k.k w.in-Some.mark c.loop-k.invariant room (ap cell_of (sym w.in-Some.ensures)))
      | in_default w ↦ absurd (none_dead (decoded (code_at bs (from + c.loop-k.k))) w.in_default.ensures (live c.loop-k.k c.loop-k-test.true))
    ]

pub returns-clause-told : goal.returns-clause-told
returns-clause-told g c =
    let s = c.args.self.now in
    let t = started c.sides.result s.rows s.cols c.args.row c.args.col (length c.args.out.now) _ c.sides.ensures.rows c.sides.ensures.cols c.in_ok-from.ensures in
    let live = when_true _ _ c.if-not-readable.false c.readable.ensures in
    passes _ _ (_ ∷ []) _ _ t.inside (passes _ _ [] _ _ (codes_unbroken g.M.CodedMark.decoded s.rows s.cols s.bytes.now c.args.row c.args.col _ (length c.args.out.now) t.is live) refl)
