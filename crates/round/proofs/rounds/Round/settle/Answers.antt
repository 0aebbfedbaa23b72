use Rattle.std.proofs.Common.{◌≡◌, ℕ, Bool, true, false, ltb, List, [], ◌∷◌, length, sym, refl, ap, ◌∙◌}
use Rattle.std.proofs.lemmas.Bool.{or_parts}
use Rattle.flood.specs.Calls.{short}
use Rattle.settling.specs.Sills.{sills_told}
use Rattle.std.proofs.lemmas.Result.{err_from_is_err_and}
use Rattle.marks.specs.Refusals.{accepted, refused, checked}
use Rattle.sheets.proofs.Checks.{fails, passes, past, not_refused, refused_first, passed_first}
use Rattle.terrain.specs.declared.scratch.Scratch.{Scratch}
use Rattle.terrain.specs.Fills.{scratch_short}
use Rattle.tiles.specs.Plans.{plan_of}
use Rattle.tiles.specs.Mouths.{mouths}
use Rattle.tables.specs.Checks.{tables_short}
use Rattle.round.specs.declared.rounds.Round.{Round}
use Rattle.round.specs.declared.calls.Call.TheVariants.{Settle}
use Rattle.round.specs.Rounds.{call_checks}
use Rattle.round.specs.Settles.{settle_told}
use Rattle.round.proofs.rounds.Round.settle.Goals as goal

module _ {M : Type 0} (r : Round) (m q : ℕ) (s : Scratch M) where
  rest : List (Bool × ℕ)
  rest = (tables_short (plan_of r.cuts) m q, 4) ∷ (scratch_short (mouths (plan_of r.cuts)) s, 5) ∷ []

  -- refused by the round's state
  by_state : (n p : ℕ) → refused n p ≡ checked (call_checks r Settle) (tt {0}) → refused n p ≡ settle_told r m q s
  unfolding rest
  by_state n p e = refused_first (call_checks r Settle) rest n p tt tt e

  by_tables : accepted (tt {0}) ≡ checked (call_checks r Settle) (tt {0}) → true ≡ tables_short (plan_of r.cuts) m q → refused 4 0 ≡ settle_told r m q s
  unfolding rest
  by_tables e f = passed_first (call_checks r Settle) rest tt tt tt (refused 4 0) e (fails (tables_short (plan_of r.cuts) m q) 4 ((scratch_short (mouths (plan_of r.cuts)) s, 5) ∷ []) tt (sym f))

  by_scratch : accepted (tt {0}) ≡ checked (call_checks r Settle) (tt {0}) → false ≡ tables_short (plan_of r.cuts) m q → (n : ℕ) → n ≡ mouths (plan_of r.cuts) → true ≡ scratch_short n s → refused 5 0 ≡ settle_told r m q s
  unfolding rest
  by_scratch e f n is g =
      passed_first (call_checks r Settle) rest tt tt tt (refused 5 0) e
      (passes (tables_short (plan_of r.cuts) m q) 4 ((scratch_short (mouths (plan_of r.cuts)) s, 5) ∷ []) tt (refused 5 0) (sym f) (fails (scratch_short (mouths (plan_of r.cuts)) s) 5 [] tt (ap (λ k. scratch_short k s) (sym is) ∙ sym g)))

  -- past the checks the mouths are settled
  never : (n p k : ℕ) → false ≡ tables_short (plan_of r.cuts) m q → k ≡ mouths (plan_of r.cuts) → false ≡ scratch_short k s → refused n p ≡ sills_told (plan_of r.cuts) m q s.levels.now s.origins.now s.heap.now → ⊥
  never n p k f is g e =
      let long = (or_parts (ltb (length s.marks.now) (mouths (plan_of r.cuts))) _ (ap (λ i. scratch_short i s) (sym is) ∙ sym g)).1 in
      let later : List (Bool × ℕ) = (short (mouths (plan_of r.cuts)) s.levels.now s.origins.now s.heap.now, 5) ∷ [] in
      not_refused n p (tt {0}) (past (short (mouths (plan_of r.cuts)) s.levels.now s.origins.now s.heap.now) 5 [] tt (refused n p) long (past (tables_short (plan_of r.cuts) m q) 4 later tt (refused n p) (sym f) e))

pub returns-in_err-settle_mouths : goal.returns-in_err-settle_mouths
returns-in_err-settle_mouths g c =
    absurd (never c.args.self.now (length c.args.mouths.now) (length c.args.passes.now) c.args.scratch.now _ _ c.mouths.result c.if-tables_short.ensures c.mouths.ensures.value c.if-is_short.ensures c.in_err-settle_mouths.ensures.told)
