use Rattle.std.proofs.Common.{◌≡◌, ℕ, Ok, Err, Result, MatchResult, rules, sym, refl, ap, subst, ◌∙◌, arith}
use Rattle.std.specs.Result.{IsErrAnd}
use Rattle.std.proofs.lemmas.Result.{err_from_is_err_and}
use Rattle.marks.specs.Refusals.{told, answered}
use Rattle.marks.specs.declared.refusal.Refusal.{Refusal}
use Rattle.marks.specs.declared.refusal.Refusal.TheVariants.{Text}
use Rattle.texts.specs.Texts.{CheckTold, ReadsSheet}
use Rattle.texts.proofs.Rows.{Spelling}
use Rattle.texts.proofs.Whole.{one_sheet}
use Rattle.texts.proofs.Ends.{told_lost, told_more}
use Rattle.texts.proofs.checking.check_text.Given as given
use Rattle.texts.proofs.checking.check_text.Goals as goal

laws : (g : given.Over) → Spelling g.M.Spelled.spelled
laws g = let m = g.met.M.CodedMark in record { one = g.M.Mark.lowest; distinct = m.distinct; clear = m.clear }

-- what was read, by the answer in which a place has become a refusal
refused_at : {A : Type 0} (Q : ℕ → Refusal → Type 0) (r : Result A ℕ) (m : Result A Refusal) (e : Refusal) → MatchResult r (λ x. m ≡ Ok x) (λ p. IsErrAnd m (Q p)) → ((p : ℕ) (e : Refusal) → Q p e → e ≡ Text p) → m ≡ Err e → (p : ℕ) × (r ≡ Err p) × (e ≡ Text p)
refused_at Q (Ok x) m e h made is = let no : Ok x ≡ Err e = sym h ∙ is in let z : ◌≡◌ {A = ℕ} 0 1 = cc in absurd (omega arith)
refused_at Q (Err p) (Ok x) e h made is = absurd h
refused_at Q (Err p) (Err f) e h made is = let same : f ≡ e = cc in (p, refl, sym same ∙ made p f h)

read_as : {A : Type 0} (Q : ℕ → Refusal → Type 0) (r : Result A ℕ) (m : Result A Refusal) (x : A) → MatchResult r (λ x. m ≡ Ok x) (λ p. IsErrAnd m (Q p)) → m ≡ Ok x → r ≡ Ok x
read_as Q (Ok y) m x h is = let same : y ≡ x = cc in λ i. Ok (same i)
read_as Q (Err p) (Ok y) x h is = absurd h
read_as Q (Err p) (Err f) x h is = let z : ◌≡◌ {A = ℕ} 0 1 = cc in absurd (omega arith)

pub returns-in_err-head-clause-told : goal.returns-in_err-head-clause-told
returns-in_err-head-clause-told g c =
    let bs = c.args.bytes.now in
    let k = refused_at _ c.read_sheet.result c.map_err.result _ c.map_err.ensures.cases (λ p e q. search rules) c.in_err-head.was in
    let lost = subst (λ r. ReadsSheet g.M.Spelled.named g.M.Spelled.spelled bs r) k.1 c.read_sheet.ensures in
    let p = err_from_is_err_and c.from_residual.result c.from_residual.ensures.1 in
    subst (λ r. CheckTold g.M.Spelled.named g.M.Spelled.spelled bs (answered (λ s. (s.rows, s.cols)) (told r))) (ap Err (sym (p.2 ∙ k.2)) ∙ sym p.1) (told_lost _ _ (laws g) bs k.0 lost)

pub returns-in_err-head-clause-unique : goal.returns-in_err-head-clause-unique
returns-in_err-head-clause-unique g c = one_sheet _ _ (laws g)

pub returns-then-head-bytes-clause-told : goal.returns-then-head-bytes-clause-told
returns-then-head-bytes-clause-told g c =
    let k = subst (λ r. ReadsSheet g.M.Spelled.named g.M.Spelled.spelled c.args.bytes.now r) (read_as _ c.read_sheet.result c.map_err.result c.in_ok-head.head c.map_err.ensures.cases c.in_ok-head.was) c.read_sheet.ensures in
    told_more _ _ (laws g) _ k.0 _ k.1 c.if-head-bytes.true

pub returns-then-head-bytes-clause-unique : goal.returns-then-head-bytes-clause-unique
returns-then-head-bytes-clause-unique g c = one_sheet _ _ (laws g)

pub returns-clause-unique : goal.returns-clause-unique
returns-clause-unique g c = one_sheet _ _ (laws g)
