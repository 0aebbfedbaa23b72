use Rattle.std.proofs.Common.{◌≡◌, ◌+◌, length, take, drop, sym, ap, arith, length-drop}
use Rattle.std.proofs.lemmas.Option.{MatchOption-at_none, MatchOption-at_some}
use Rattle.grammar.specs.Grammars.{all_by, LongestShared}
use Rattle.texts.proofs.Fronts.{front_long}
use Rattle.texts.proofs.Scans.{mark_lost, mark_reads}
use Rattle.texts.proofs.cursor.Cursor.mark.Goals as goal

pub returns-in_default : goal.returns-in_default
returns-in_default g c = mark_lost _ g.met.M.CodedMark.clear _ c.args.self.at _ c.args.self.bytes.now _ c.written-word.ensures c.requires c.shared_beginning.ensures (λ all inside first a is. MatchOption-at_none _ _ c.in_default.is c.from_spelling.ensures a is)

pub returns : goal.returns
returns g c =
    let s = c.args.self in
    let w = c.written-word.result.now in
    let is = c.written-word.ensures in
    let a = c.in-Some.field-0 in
    let spelt = MatchOption-at_some _ _ a c.in-Some.is c.from_spelling.ensures in
    let shared : LongestShared (all_by g.M.Spelled.spelled) w (length w) = record { one = (a, tt, record { here = omega arith; there = omega (arith, ap length spelt); same = ap (take (length w)) (sym spelt) }); most = λ b v n t. t.here } in
    let place : c.new.result.at ≡ s.at + length w = omega (arith, c.new.ensures.at, ap length is, front_long (drop s.at s.bytes.now), length-drop s.at s.bytes.now, s.inside) in
    mark_reads g.M.Spelled.spelled g.met.M.CodedMark.clear c.args.end c.requires s c.new.result (length w) w is c.new.ensures.bytes place (omega arith) shared a spelt c.word.result c.word.ensures
