-- A whole input: the text of a sheet and a line of cuts. Assumes nothing.
use Rattle.std.proofs.Common.{◌≡◌, ℕ, ◌<◌, ◌≤◌, min, List, [], ◌++◌, length, drop, Err, sym, refl, ap, ◌∙◌, subst, append-nil, arith, length-append}
use Rattle.std.proofs.lemmas.List.{nil_from_length}
use Rattle.grammar.specs.Grammars.{Grammar, Found, Lost, Code, After, Sofar, Shared, LongestShared, seq}
use Rattle.grammar.proofs.Theory.{code_seq, longest_lost, longest_found, lost_none, sofar_none, sofar_turn, sofar_lost, part_lost, part_found, drop_past, within_past}
use Rattle.sheets.specs.Grids.{Grid}
use Rattle.texts.specs.Parts.{WholeOf, whole}
use Rattle.texts.specs.Texts.{text_of, texts}
use Rattle.texts.specs.Cursors.{Behind, LostAt}
use Rattle.texts.specs.declared.cursor.Cursor.{Cursor}
use Rattle.texts.proofs.Rows.{Spelling}
use Rattle.texts.proofs.Heads.{found_both}
use Rattle.texts.proofs.Whole.{code_whole, sheet_of, sheet_sided, sheet_readable, sheet_text, parts_of, parts_text, whole_valid}
use Rattle.texts.proofs.Ends.{back, parts, found_parts}
use Rattle.inputs.specs.Cuts.{cuts_line, cuts_lines}
use Rattle.inputs.specs.Steps.{LineOf, line}
use Rattle.inputs.specs.Inputs.{inputs, Reading, IsInput, ReadsInput}
use Rattle.inputs.proofs.Lines.{code_line, some_line, line_text}

-- what is shared with the texts of one grammar is shared with those of another that has the same texts
pub longest_turn : {A B : Type 0} {L : Grammar A} {K : Grammar B} (bs : List ℕ) (p : ℕ) → After L [] K → LongestShared K bs p → LongestShared L bs p
longest_turn {L = L} {K = K} bs p k h =
    let a = k.to h.one.0 h.one.1 in
    record {
      one = (a.0, a.1, subst (λ w. Shared bs w p) (sym a.2) h.one.2);
      most = λ b vb n s. let z = k.from b vb (L.text b) refl in h.most z.0 z.1 n (subst (λ w. Shared bs w n) z.2 s);
    }

lines_back : After line [] cuts_lines
lines_back = record {
  to = λ z vz. ((tt, (z.0, (tt, (z.1, tt)))), (tt, (vz.0, (tt, (vz.1, tt)))), sym (line_text z.0 z.1));
  from = λ z vz x e. ((z.1.0, z.1.1.1.0), (vz.1.0, vz.1.1.1.0), sym e ∙ sym (line_text z.1.0 z.1.1.1.0));
}

module _ {M : Type 0} (word : List ℕ) (f : M → List ℕ) (laws : Spelling f) where
  -- an input by its parts
  abbrev J : Grammar (WholeOf M × LineOf)
  J = seq (whole word f) (λ _. line)

  code_j : Code J
  code_j = code_seq (whole word f) (λ _. line) (code_whole word f laws) (λ _ _. code_line)

  by_parts : After (inputs word f) [] J
  by_parts = record {
    to = λ z vz. ((sheet_of word f z.0, (z.1.1.0, z.1.1.1.1.0)), ((sheet_sided word f z.0 vz.0, sheet_readable word f z.0 vz.0), (vz.1.1.0, vz.1.1.1.1.0)), (λ i. sheet_text word f z.0 vz.0 i ++ line_text z.1.1.0 z.1.1.1.1.0 i));
    from = λ z vz x e. ((((tt, (tt, (tt, (z.0.rows, z.0.cols)))), ((parts_of word f z.0 vz.0.0 vz.0.1).0, tt)), (tt, (z.1.0, (tt, (z.1.1, tt))))), (whole_valid word f z.0 vz.0.0 vz.0.1, (tt, (vz.1.0, (tt, (vz.1.1, tt))))), sym e ∙ (λ i. parts_text word f z.0 vz.0.0 vz.0.1 i ++ line_text z.1.0 z.1.1 i));
  }

  module _ (bytes : List ℕ) where
    lost : (p : ℕ) → Lost J 0 bytes p → ReadsInput word f bytes (Err p)
    lost p h = (other, longest_turn bytes p by_parts (longest_lost {K = J} bytes p h))
      where
        other : IsInput word f bytes → ⊥
        other a =
            let r = a.3 in
            let z = by_parts.from (a.0, (a.1, a.2)) ((r.sided, r.readable), (r.down_fits, r.across_fits)) bytes (sym r.is) in
            lost_none {K = J} code_j bytes 0 p h z.0 z.1 [] (z.2 ∙ sym (append-nil _))

    pub sheet_lost : (p : ℕ) → Lost (texts word f) 0 bytes p → ReadsInput word f bytes (Err p)
    sheet_lost p h = lost p (part_lost (whole word f) (λ _. line) (code_whole word f laws) (sofar_none J 0 bytes) (λ _ _. some_line) p (back word f laws bytes p h))

    module _ (g : Grid M) (e : ℕ) (k : Found (texts word f) 0 bytes g e) (c : Cursor) (bytes-is : c.bytes.now ≡ bytes) (at-is : c.at ≡ min e (length bytes)) where
      place : c.at ≡ e
      place = omega (arith, at-is, within_past bytes (text_of word f g) k.after 0 e (omega arith) k.split k.place)

      line_sofar : Sofar J 0 bytes line e (drop e bytes)
      line_sofar =
          let h = found_parts word f laws bytes g e k in
          subst (λ w. Sofar J 0 bytes line e w) (drop_past bytes ((whole word f).text (parts word f laws bytes g e k)) h.after 0 e h.split h.place)
          (part_found (whole word f) (λ _. line) (code_whole word f laws) (sofar_none J 0 bytes) (parts word f laws bytes g e k) e h)

      pub line_lost : (p : ℕ) → LostAt cuts_lines c p → ReadsInput word f bytes (Err p)
      line_lost p h =
          let there : Lost cuts_lines e (drop e bytes) p = subst (λ bs. Lost cuts_lines e (drop e bs) p) bytes-is (subst (λ k. Lost cuts_lines k (drop k c.bytes.now) p) place h) in
          lost p (sofar_lost line_sofar p (sofar_lost (sofar_turn (sofar_none line e (drop e bytes)) lines_back) p there))

      module _ (d a : List ℕ) (rest : Cursor) (there : Behind cuts_lines c (d, a) rest) where
        h : Found cuts_lines e (drop e bytes) (d, a) rest.at
        h = subst (λ bs. Found cuts_lines e (drop e bs) (d, a) rest.at) bytes-is (subst (λ k. Found cuts_lines k (drop k c.bytes.now) (d, a) rest.at) place there.found)

        abbrev value : WholeOf M × LineOf
        value = (parts word f laws bytes g e k, (tt, (d, (tt, (a, tt)))))

        all : Found J 0 bytes value rest.at
        all =
            let is = line_text d a in
            found_both (whole word f) (λ _. line) bytes 0 e rest.at (parts word f laws bytes g e k) (tt, (d, (tt, (a, tt)))) (found_parts word f laws bytes g e k)
            (record { valid = (tt, (h.valid.0, (tt, (h.valid.1, tt)))); after = h.after; split = h.split ∙ ap (λ w. w ++ h.after) is; place = omega (arith, h.place, ap length is) })

        -- more bytes behind an input
        pub more_behind : rest.at < length bytes → ReadsInput word f bytes (Err rest.at)
        more_behind more = (other, longest_turn bytes rest.at by_parts (longest_found {K = J} code_j bytes value rest.at all))
          where
            other : IsInput word f bytes → ⊥
            other a =
                let r = a.3 in
                let z = by_parts.from (a.0, (a.1, a.2)) ((r.sided, r.readable), (r.down_fits, r.across_fits)) bytes (sym r.is) in
                let same = code_j value z.0 all.valid z.1 all.after (sym z.2 ∙ all.split) in
                omega (arith, all.place, ap length all.split, length-append (J.text value) all.after, ap length same.1)

        pub all_read : length bytes ≤ rest.at → Reading word f bytes g d a
        all_read done =
            let text : J.text value ≡ text_of word f g ++ cuts_line d a = (λ i. sym (parts_text word f g k.valid.0 k.valid.1) i ++ sym (line_text d a) i) in
            let none : all.after ≡ [] = nil_from_length all.after (omega (arith, all.place, ap length all.split, length-append (J.text value) all.after)) in
            record {
              sided = k.valid.0;
              readable = k.valid.1;
              down_fits = h.valid.0;
              across_fits = h.valid.1;
              is = all.split ∙ ap (λ w. J.text value ++ w) none ∙ append-nil _ ∙ text;
            }
