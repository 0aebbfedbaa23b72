-- The first line, part by part. Assumes nothing.
use Rattle.std.proofs.Common.{◌≡◌, ℕ, List, [], ◌∷◌, ◌++◌, drop, codes, sym, refl, ap, ◌∙◌, subst, inl, inr, append_assoc, arith, length-append}
use Rattle.grammar.specs.Grammars.{Grammar, Found, Code, lit, seq}
use Rattle.grammar.proofs.Theory.{code_lit, code_seq, drop_past}
use Rattle.texts.specs.Parts.{head, sides}
use Rattle.texts.specs.Cursors.{Behind, LostAt}
use Rattle.texts.specs.declared.cursor.Cursor.{Cursor}
use Rattle.texts.proofs.Scans.{code_sides}
use Rattle.texts.proofs.Going.{Going, going_none, going_lost, step_lost, step_found}

-- two parts that were found are found together
module _ {A B : Type 0} (K : Grammar A) (D : A → Grammar B) where
  pub found_both : (bytes : List ℕ) (at mid end : ℕ) (a : A) (b : B) → Found K at (drop at bytes) a mid → Found (D a) mid (drop mid bytes) b end → Found (seq K D) at (drop at bytes) (a, b) end
  found_both bytes at mid end a b h k = record {
    valid = (h.valid, k.valid);
    after = k.after;
    split = h.split ∙ ap (λ w. K.text a ++ w) (drop_past bytes (K.text a) h.after at mid h.split h.place ∙ k.split) ∙ sym (append_assoc (K.text a) ((D a).text b) k.after);
    place = omega (arith, h.place, k.place, length-append (K.text a) ((D a).text b));
  }

  pub both_found : (c d e : Cursor) (a : A) (b : B) → Behind K c a d → Behind (D a) d b e → Behind (seq K D) c (a, b) e
  both_found c d e a b h k = record {
    same = k.same ∙ h.same;
    found = found_both c.bytes.now c.at d.at e.at a b h.found (subst (λ bs. Found (D a) d.at (drop d.at bs) b e.at) h.same k.found);
  }

abbrev pub H0 : Grammar (Unit {0})
H0 = lit (codes "(sheet ")

abbrev pub H3 : Grammar (ℕ × ℕ)
H3 = seq (sides 32) (λ _. sides 10)

abbrev pub H2 : Grammar ((Unit {0}) × (ℕ × ℕ))
H2 = seq (lit (32 ∷ [])) (λ _. H3)

abbrev pub H1 : List ℕ → Grammar ((Unit {0}) × ((Unit {0}) × (ℕ × ℕ)))
H1 word = seq (lit word) (λ _. H2)

some3 : (z : ℕ × ℕ) × H3.valid z
some3 = ((1, 1), ((omega arith, omega arith), (omega arith, omega arith)))

some2 : (z : (Unit {0}) × (ℕ × ℕ)) × H2.valid z
some2 = ((tt, some3.0), (tt, some3.1))

some1 : (word : List ℕ) → (z : (Unit {0}) × ((Unit {0}) × (ℕ × ℕ))) × (H1 word).valid z
some1 word = ((tt, some2.0), (tt, some2.1))

code3 : Code H3
code3 = code_seq (sides 32) (λ _. sides 10) (code_sides 32 (inl (inl refl))) (λ _ _. code_sides 10 (inl (inr refl)))

pub code_head : (word : List ℕ) → Code (head word)
code_head word =
    code_seq H0 (λ _. H1 word) (code_lit (codes "(sheet ")) (λ _ _.
    code_seq (lit word) (λ _. H2) (code_lit word) (λ _ _.
    code_seq (lit (32 ∷ [])) (λ _. H3) (code_lit (32 ∷ [])) (λ _ _. code3)))

module _ (word : List ℕ) (c : Cursor) where
  begun : Going (head word) c (head word) c
  begun = going_none (head word) c

  pub lost0 : (p : ℕ) → LostAt H0 c p → LostAt (head word) c p
  lost0 p h = step_lost H0 (λ _. H1 word) (code_lit (codes "(sheet ")) begun (λ _ _. some1 word) p h

  module _ (u0 : Unit {0}) (e0 : Cursor) (h0 : Behind H0 c u0 e0) where
    pub going1 : Going (head word) c (H1 word) e0
    going1 = step_found H0 (λ _. H1 word) (code_lit (codes "(sheet ")) begun u0 e0 h0

    pub lost1 : (p : ℕ) → LostAt (lit word) e0 p → LostAt (head word) c p
    lost1 p h = step_lost (lit word) (λ _. H2) (code_lit word) going1 (λ _ _. some2) p h

    module _ (u1 : Unit {0}) (e1 : Cursor) (h1 : Behind (lit word) e0 u1 e1) where
      pub going2 : Going (head word) c H2 e1
      going2 = step_found (lit word) (λ _. H2) (code_lit word) going1 u1 e1 h1

      pub lost2 : (p : ℕ) → LostAt (lit (32 ∷ [])) e1 p → LostAt (head word) c p
      lost2 p h = step_lost (lit (32 ∷ [])) (λ _. H3) (code_lit (32 ∷ [])) going2 (λ _ _. some3) p h

      module _ (u2 : Unit {0}) (e2 : Cursor) (h2 : Behind (lit (32 ∷ [])) e1 u2 e2) where
        pub going3 : Going (head word) c H3 e2
        going3 = step_found (lit (32 ∷ [])) (λ _. H3) (code_lit (32 ∷ [])) going2 u2 e2 h2

        pub lost3 : (p : ℕ) → LostAt (sides 32) e2 p → LostAt (head word) c p
        lost3 p h = step_lost (sides 32) (λ _. sides 10) (code_sides 32 (inl (inl refl))) going3 (λ _ _. (1, (omega arith, omega arith))) p h

        module _ (r : ℕ) (e3 : Cursor) (h3 : Behind (sides 32) e2 r e3) where
          pub going4 : Going (head word) c (sides 10) e3
          going4 = step_found (sides 32) (λ _. sides 10) (code_sides 32 (inl (inl refl))) going3 r e3 h3

          pub lost4 : (p : ℕ) → LostAt (sides 10) e3 p → LostAt (head word) c p
          lost4 p h = going_lost going4 p h

          pub found4 : (k : ℕ) (end : Cursor) → Behind (sides 10) e3 k end → Behind (head word) c (tt, (tt, (tt, (r, k)))) end
          found4 k end h4 =
              both_found H0 (λ _. H1 word) c e0 end tt (tt, (tt, (r, k))) h0
              (both_found (lit word) (λ _. H2) e0 e1 end tt (tt, (r, k)) h1
              (both_found (lit (32 ∷ [])) (λ _. H3) e1 e2 end tt (r, k) h2
              (both_found (sides 32) (λ _. sides 10) e2 e3 end r k h3 h4)))

pub found_word : (w word : List ℕ) (c : Cursor) (u : Unit {0}) (d : Cursor) → w ≡ word → Behind (lit w) c u d → Behind (lit word) c u d
found_word w word c u d is h = subst (λ v. Behind (lit v) c u d) is h

pub lost_word : (w word : List ℕ) (c : Cursor) (p : ℕ) → w ≡ word → LostAt (lit w) c p → LostAt (lit word) c p
lost_word w word c p is h = subst (λ v. LostAt (lit v) c p) is h
