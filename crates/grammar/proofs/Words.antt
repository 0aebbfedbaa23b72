-- One word, byte by byte. Assumes nothing.
use Rattle.std.proofs.Common.{◌≡◌, ℕ, ◌+◌, ◌-◌, ◌<◌, ◌≤◌, ◌⊎◌, List, [], ◌∷◌, ◌++◌, length, get_or, take, drop, Some, None, Option, MatchOption, unwrap_or, Bor, slice_range, ⊎_elim, sym, ap, ◌∙◌, append_assoc, arith, length-drop, take-append-drop}
use mathlib.Core.List.{append_cancel_left}
use Rattle.std.proofs.lemmas.List.{drop_more, drop_all, length-take-le, take_all}
use Rattle.grammar.specs.Grammars.{Lost, lit}

module _ (w bs : List ℕ) (at end i : ℕ) (is : end ≡ at + i) (split : drop at bs ≡ take i w ++ drop end bs) where
  pub word_lost : i < length w → (end < length bs → get_or bs end 0 ≡ get_or w i 0 → ⊥) → Lost (lit w) at (drop at bs) end
  word_lost h apart = record {
    before = take i w;
    after = drop end bs;
    split = split;
    place = is ∙ ap (λ n. at + n) (sym long);
    stuck = record {
      edge = record {
        front = record { value = tt; valid = tt; rest = drop i w; text = sym (take-append-drop i w) };
        next = λ b x e f.
            let inside : end < length bs = omega (arith, ap length e, length-drop end bs) in
            let here : b ∷ x ≡ get_or bs end 0 ∷ drop (end + 1) bs = sym e ∙ drop_more bs end 0 inside in
            let there : get_or w i 0 ∷ drop (i + 1) w ≡ b ∷ f.rest = sym (drop_more w i 0 h) ∙ append_cancel_left (take i w) (drop i w) (b ∷ f.rest) (take-append-drop i w ∙ f.text ∙ append_assoc (take i w) (b ∷ []) f.rest) in
            apart inside (cc);
      };
      whole = λ a va e. omega (arith, ap length e, long);
    };
  }
    where
      long : length (take i w) ≡ i
      long = length-take-le i w (omega arith)

-- what stands from a place on, which is nothing past the end
pub behind_is : (bs : List ℕ) (at : ℕ) (o : Option (Bor (List ℕ))) (none : Bor (List ℕ)) → none.now ≡ [] → MatchOption o ((length bs < at) ⊎ (length bs < length bs)) (λ x. (at ≤ length bs) × (length bs ≤ length bs) × (x.now ≡ slice_range bs at (length bs)) × (length x.now + at ≡ length bs)) → (unwrap_or o none).now ≡ drop at bs
behind_is bs at None none e h = e ∙ sym (drop_all at bs (⊎_elim (λ k. omega arith) (λ k. omega arith) h))
behind_is bs at (Some x) none e h = h.2 ∙ take_all (length bs - at) (drop at bs) (omega (arith, length-drop at bs))
