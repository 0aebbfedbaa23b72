-- The answer to an input of a kind. Assumes nothing.
use Rattle.std.proofs.Common.{◌≡◌, ℕ, ◌-◌, ◌*◌, ◌<◌, ◌≤◌, max, Bool, true, false, cond, ltb, ◌⊎◌, List, [], ◌∷◌, ◌++◌, length, take, Ok, Err, vec_items, Result, Vec, sym, refl, ap, ◌∙◌, subst, inl, inr, ⊎_elim, arith, length-append, MatchResult}
use Rattle.std.specs.declared.alloc.Global.{Global}
use Rattle.std.proofs.lemmas.List.{take_at}
use Rattle.std.proofs.lemmas.Bool.{cases_lt}
use Rattle.std.proofs.lemmas.Bool.{le-ltb}
use Rattle.marks.specs.Refusals.{accepted, refused, checked, told, answered, number, placed}
use Rattle.marks.specs.declared.refusal.Refusal.{Refusal}
use Rattle.marks.specs.declared.refusal.Refusal.TheVariants.{NoMemory}
use Rattle.sheets.specs.Grids.{Grid}
use Rattle.sheets.proofs.Checks.{passes}
use Rattle.tiles.specs.Rules.{cut_checks}
use Rattle.texts.specs.Texts.{text_of, TextOf, SameSheet}
use Rattle.inputs.specs.Cuts.{cuts_line}
use Rattle.grammar.specs.Grammars.{Grammar, Shared, LongestShared}
use Rattle.inputs.specs.Inputs.{Reading, either}
use Rattle.answers.specs.Printed.{Coded, Printed}
use Rattle.answers.specs.Answers.{AnsweredAs}

-- what checks refuse, they refuse whatever the answer would be
pub refused_any : {X Y : Type 0} (cs : List (Bool × ℕ)) (x : X) (y : Y) (m p : ℕ) → refused m p ≡ checked cs x → refused m p ≡ checked cs y
refused_any [] x y m p e = let z : ◌≡◌ {A = ℕ} 0 1 = cc in absurd (omega arith)
refused_any (c ∷ cs) x y m p e = by c.0 e (refused_any cs x y m p)
  where
    by : (b : Bool) → refused m p ≡ cond b (refused c.1 0) (checked cs x) → (refused m p ≡ checked cs x → refused m p ≡ checked cs y) → refused m p ≡ cond b (refused c.1 0) (checked cs y)
    by true e rec = let a : m ≡ c.1 = cc in let z : p ≡ 0 = cc in cc
    by false e rec = rec e

-- the beginning of an input that its sheet's text is
module _ {M : Type 0} (word : List ℕ) (f : M → List ℕ) (bytes : List ℕ) (g : Grid M) (down across : List ℕ) (r : Reading word f bytes g down across) (end : ℕ) (ends : end ≡ length (text_of word f g)) where
  pub end_within : end ≤ length bytes
  end_within = omega (arith, ap length r.is, length-append (text_of word f g) (cuts_line down across))

  pub begins : take (end - 0) bytes ≡ text_of word f g
  begins = let e : end - 0 ≡ length (text_of word f g) = omega arith in ap (λ n. take n bytes) e ∙ ap (take (length (text_of word f g))) r.is ∙ take_at (text_of word f g) (cuts_line down across) (length (text_of word f g)) refl

  pub is_text : TextOf word f (take (end - 0) bytes) g
  is_text = record { sided = r.sided; readable = r.readable; is = begins }

  -- the sheet of that text is the sheet of the input
  pub read_again : (h : Grid M) → TextOf word f (take (end - 0) bytes) h → Reading word f bytes h down across
  read_again h t = record {
    sided = t.sided;
    readable = t.readable;
    down_fits = r.down_fits;
    across_fits = r.across_fits;
    is = r.is ∙ ap (λ w. w ++ cuts_line down across) (sym begins ∙ t.is);
  }

-- the checks that an input passed
pub all_passed : {M : Type 0} (g h : Grid M) (rows cols : ℕ) (down across : List ℕ) → SameSheet g h → g.rows ≡ rows → g.cols ≡ cols → rows * cols ≤ 4096 → accepted (tt {0}) ≡ checked (cut_checks rows down cols across) tt → accepted (tt {0}) ≡ checked ((ltb 4096 (h.rows * h.cols), 1) ∷ cut_checks h.rows down h.cols across) tt
all_passed g h rows cols down across s er ec few cuts =
    let r : rows ≡ h.rows = sym er ∙ s.rows in
    let c : cols ≡ h.cols = sym ec ∙ s.cols in
    passes (ltb 4096 (h.rows * h.cols)) 1 (cut_checks h.rows down h.cols across) tt (accepted tt)
    (le-ltb 4096 (h.rows * h.cols) (subst (λ n. n ≤ 4096) (λ i. r i * c i) few))
    (cuts ∙ (λ i. checked (cut_checks (r i) down (c i) across) tt))

-- the answer to an input that passed
module _ {M : Type 0} (κ : Coded M) (bytes : List ℕ) (g : Grid M) (down across : List ℕ) (r : Reading κ.word κ.spelled bytes g down across) (passed : accepted (tt {0}) ≡ checked ((ltb 4096 (g.rows * g.cols), 1) ∷ cut_checks g.rows down g.cols across) tt) where
  pub printed_answer : (o : Result (Vec ℕ Global) Refusal) → MatchResult o (λ v. Printed κ g (vec_items v)) (λ e. e ≡ NoMemory) → AnsweredAs κ bytes (answered vec_items (told o))
  printed_answer (Ok v) h = (g, down, across, r, inr (record { checks = passed; prints = h }))
  printed_answer (Err e) h = (g, down, across, r, inl (record { checks = passed; refusal = ap (λ x. refused (number x) (placed x)) h }))

-- what is shared with either of two grammars
pub either_longest : {A B : Type 0} (K : Grammar A) (L : Grammar B) (bs : List ℕ) (p q : ℕ) → LongestShared K bs p → LongestShared L bs q → LongestShared (either K L) bs (max p q)
either_longest {A = A} {B = B} K L bs p q h k =
    ⊎_elim
    (λ less. record { one = (inr k.one.0, k.one.1, subst (Shared bs (L.text k.one.0)) (sym (right less)) k.one.2); most = most })
    (λ ge. record { one = (inl h.one.0, h.one.1, subst (Shared bs (K.text h.one.0)) (sym (left ge)) h.one.2); most = most })
    (cases_lt p q)
  where
    right : p < q → max p q ≡ q
    right less = omega arith

    left : q ≤ p → max p q ≡ p
    left ge = omega arith

    most : (z : A ⊎ B) → (either K L).valid z → (n : ℕ) → Shared bs ((either K L).text z) n → n ≤ max p q
    most (inl a) v n s = let m = h.most a v n s in omega arith
    most (inr b) v n s = let m = k.most b v n s in omega arith
