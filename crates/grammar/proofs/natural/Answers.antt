use Rattle.std.proofs.Common.{◌≡◌, ℕ, ◌+◌, ◌-◌, ◌*◌, List, length, get_or, drop, refl, ap, ◌∙◌, ⊎_elim, arith, length-drop}
use Rattle.std.proofs.lemmas.List.{get_or-drop}
use Rattle.grammar.proofs.Digits.{part_more, natural_ends}
use Rattle.grammar.proofs.Words.{behind_is}
use Rattle.grammar.proofs.natural.Goals as goal

-- the byte at a place of what stands there on
byte : (rest bs : List ℕ) (at i : ℕ) → rest ≡ drop at bs → get_or rest i 0 ≡ get_or bs (at + i) 0
byte rest bs at i e = ap (λ w. get_or w i 0) e ∙ get_or-drop at bs i 0

pub returns-then-not-is_ascii_digit-clause-read : goal.returns-then-not-is_ascii_digit-clause-read
returns-then-not-is_ascii_digit-clause-read c =
    let r = ap (λ w. w.now) c.unwrap_or-rest.ensures ∙ behind_is c.args.bytes.now c.args.at c.get.result _ refl c.get.ensures.lookup.0 in
    natural_ends _ _ _ _ _ c.ranges.max.fits c.loop-i.invariant.0
    (λ h d lt is pos le. ⊎_elim (λ k. omega (arith, byte c.unwrap_or-rest.result.now c.args.bytes.now c.args.at c.loop-i.i r)) (λ k. omega (arith, byte c.unwrap_or-rest.result.now c.args.bytes.now c.args.at c.loop-i.i r)) c.if-not-is_ascii_digit.ensures.cases)

pub returns-then-next-eq0-clause-read : goal.returns-then-next-eq0-clause-read
returns-then-next-eq0-clause-read c =
    let r = ap (λ w. w.now) c.unwrap_or-rest.ensures ∙ behind_is c.args.bytes.now c.args.at c.get.result _ refl c.get.ensures.lookup.0 in
    natural_ends _ _ _ _ _ c.ranges.max.fits c.loop-i.invariant.0
    (λ h d lt is pos le. omega (arith, byte c.unwrap_or-rest.result.now c.args.bytes.now c.args.at c.loop-i.i r))

pub loop-i-preserved : goal.loop-i-preserved
loop-i-preserved c =
    let r = ap (λ w. w.now) c.unwrap_or-rest.ensures ∙ behind_is c.args.bytes.now c.args.at c.get.result _ refl c.get.ensures.lookup.0 in
    let is = byte c.unwrap_or-rest.result.now c.args.bytes.now c.args.at c.loop-i.i r in
    let digit = c.if-not-is_ascii_digit.ensures.cases in
    (part_more _ _ _ _ _ c.ranges.max.fits c.loop-i.invariant.0 (get_or c.unwrap_or-rest.result.now c.loop-i.i 0 - 48) _ _ (omega arith) (ap (λ k. k * 10 + (get_or c.unwrap_or-rest.result.now c.loop-i.i 0 - 48)) c.unwrap_or.ensures) (omega (arith, ap length r, length-drop c.args.at c.args.bytes.now)) (omega arith) (omega arith) (omega arith) (omega arith), omega arith)
