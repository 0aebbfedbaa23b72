use Rattle.std.proofs.Common.{◌≤◌, unwrap_or, IfSome, drop, length, ap, sym, subst, ◌∙◌, arith, length-drop}
use Rattle.std.proofs.lemmas.Result.{err_from_is_err_and}
use Rattle.grammar.specs.Grammars.{ended}
use Rattle.grammar.specs.Decimals.{naturals, Natural}
use Rattle.texts.specs.Cursors.{LostAt}
use Rattle.texts.proofs.Fronts.{front_long}
use Rattle.texts.proofs.Options.{was_none, was_some}
use Rattle.texts.proofs.Scans.{number_lost, number_whole}
use Rattle.texts.proofs.cursor.Cursor.number.Goals as goal

pub returns-then-len-word : goal.returns-then-len-word
returns-then-len-word c = λ some t sep. number_lost _ c.ranges.max.fits _ _ _ _ _ c.written-word.ensures c.natural-len.ensures.read some t sep (λ all. absurd (omega arith))

pub returns-in_err-ok_or : goal.returns-in_err-ok_or
returns-in_err-ok_or c =
    let e = was_none _ _ _ (sym c.ok_or.ensures.value ∙ c.in_err-ok_or.was) in
    let p = err_from_is_err_and c.from_residual.result c.from_residual.ensures.1 in
    rw (p.1, p.2) (λ some t sep. subst (λ q. LostAt (ended (naturals c.args.max) t) c.args.self q) e.1 (number_lost _ c.ranges.max.fits _ _ _ _ _ c.written-word.ensures c.natural-len.ensures.read some t sep (λ all. ap (λ r. unwrap_or r 0) e.0)))

pub returns : goal.returns
returns c =
    let s = c.args.self in
    let some = was_some _ _ _ (sym c.ok_or.ensures.value ∙ c.in_ok-ok_or.was) in
    let least = subst (λ r. IfSome r (λ n. 1 ≤ n)) some c.natural-len.ensures.some in
    let read = subst (λ n. Natural c.args.max 0 c.written-word.result.now c.natural-len.result.0 n) (ap (λ r. unwrap_or r 0) some) c.natural-len.ensures.read in
    let k = number_whole _ c.ranges.max.fits s.at s.bytes.now _ _ _ c.written-word.ensures read c.if-len-word.false least in
    record {
      same = c.new.ensures.bytes;
      least = least;
      most = k.0;
      whole = k.1;
      place = omega (arith, c.new.ensures.at, k.2, ap length k.1, front_long (drop s.at s.bytes.now), length-drop s.at s.bytes.now, s.inside);
    }
