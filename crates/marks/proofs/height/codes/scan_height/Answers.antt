use Rattle.std.proofs.Common.{rules, Some, None, Option, MatchOption, IfSome, unwrap_or, List, length, slice_index_or, pos, ◌-ℤ◌, to_z, of_z, w16, refl, sym, ◌∙◌, ◌<◌, ◌≡◌, ℕ, suc, ◌-◌, ◌≤◌, ap, ⊎_elim, arith, true-eqb, false-eqb}
use Rattle.std.proofs.lemmas.Fmt.{decimal_digit}
use Rattle.std.specs.Option.{IsSomeAnd}
use Rattle.std.proofs.lemmas.Option.{none-some}
use Rattle.grammar.specs.Grammars.{Scanned, all_by}
use Rattle.grammar.specs.Decimals.{Begun, Natural}
use Rattle.marks.specs.declared.height.Height.{Height}
use Rattle.marks.specs.Spellings.{spelled_z}
use Rattle.marks.specs.Spells.{scan_empty, scan_dot, scan_nought, scan_plain_none, scan_plain_some, scan_minus_none, scan_minus_some, pos_dm, neg_dm}
use Rattle.marks.proofs.height.codes.scan_height.Goals as goal

pub returns-then-is_empty : goal.returns-then-is_empty
returns-then-is_empty c = scan_empty _ (true-eqb _ 0 c.if-is_empty.ensures)

pub returns-then-first-eq46 : goal.returns-then-first-eq46
returns-then-first-eq46 c = scan_dot _ (omega (arith, false-eqb _ 0 c.if-is_empty.ensures)) c.if-first-eq46.true _ (ap (λ h. spelled_z h.dm) c.void.ensures)

pub returns-then-first-eq48 : goal.returns-then-first-eq48
returns-then-first-eq48 c = scan_nought _ (omega (arith, false-eqb _ 0 c.if-is_empty.ensures)) c.if-first-eq48.true _ (decimal_digit 0 (omega arith))

within : (u : _) (n : ℕ) → Begun 32767 u n → n ≤ 32767
within u n h = ⊎_elim (λ k. omega (arith, k.1)) (λ k. k.2) h

-- what a number that was read, or none, is made to
module _ (bs : List ℕ) (end : ℕ) (inside : 0 < length bs) (Q : ℕ → Height → Type 0) where
  scan_minus : slice_index_or bs 0 0 ≡ 45 → (r : Option ℕ) (m : Option Height) → Natural 32767 1 bs end (unwrap_or r 0) → IfSome r (λ n. 1 ≤ n) → MatchOption r (m ≡ None) (λ n. IsSomeAnd m (Q n)) → ((n : ℕ) (x : Height) → Q n x → x.dm ≡ to_z w16 (of_z w16 (pos 0 -ℤ to_z w16 n))) → Scanned (all_by (λ (x : Height). spelled_z x.dm)) bs end m
  scan_minus first None None h some k made = scan_minus_none bs end 0 inside first h refl
  scan_minus first None (Some x) h some k made = absurd (none-some x (sym k))
  scan_minus first (Some n) None h some k made = absurd k
  scan_minus first (Some n) (Some x) h some k made =
      let le : n ≤ 32767 = within _ _ h.part.begun in
      let is : n ≡ suc (n - 1) = omega arith in
      scan_minus_some bs end n inside first h (n - 1) is le x (made n x k ∙ neg_dm n (n - 1) is le)

  scan_plain : (slice_index_or bs 0 0 ≡ 46 → ⊥) → (slice_index_or bs 0 0 ≡ 48 → ⊥) → (slice_index_or bs 0 0 ≡ 45 → ⊥) → (r : Option ℕ) (m : Option Height) → Natural 32767 0 bs end (unwrap_or r 0) → IfSome r (λ n. 1 ≤ n) → MatchOption r (m ≡ None) (λ n. IsSomeAnd m (Q n)) → ((n : ℕ) (x : Height) → Q n x → x.dm ≡ to_z w16 n) → Scanned (all_by (λ (x : Height). spelled_z x.dm)) bs end m
  scan_plain a b d None None h some k made = scan_plain_none bs end 0 inside a b d h refl
  scan_plain a b d None (Some x) h some k made = absurd (none-some x (sym k))
  scan_plain a b d (Some n) None h some k made = absurd k
  scan_plain a b d (Some n) (Some x) h some k made = scan_plain_some bs end n inside a b d h (λ e. omega arith) x (made n x k ∙ pos_dm n (within _ _ h.part.begun))

pub returns-then-first-eq45 : goal.returns-then-first-eq45
returns-then-first-eq45 c =
    scan_minus _ _ (omega (arith, false-eqb _ 0 c.if-is_empty.ensures)) _ c.if-first-eq45.true _ _ c.natural-end.ensures.read c.natural-end.ensures.some c.map.ensures.cases (λ n x q. search rules)

pub returns : goal.returns
returns c =
    scan_plain _ _ (omega (arith, false-eqb _ 0 c.if-is_empty.ensures)) _ c.if-first-eq46.false c.if-first-eq48.false c.if-first-eq45.false _ _ c.natural-end-2.ensures.read c.natural-end-2.ensures.some c.map-2.ensures.cases (λ n x q. search rules)
