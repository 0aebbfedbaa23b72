-- A whole text. Assumes nothing.
use Rattle.std.proofs.Common.{◌≡◌, ℕ, ◌<◌, ◌≤◌, List, [], ◌++◌, length, drop, Ok, sym, refl, ap, ◌∙◌, subst, append-nil, arith, length-append}
use Rattle.std.proofs.lemmas.List.{nil_from_length}
use Rattle.grammar.specs.Grammars.{Grammar, Found, Lost, LongestShared, Shared}
use Rattle.grammar.proofs.Theory.{longest_lost, longest_found, lost_none, sofar_none, sofar_turn, sofar_lost}
use Rattle.marks.specs.Refusals.{accepted, refused}
use Rattle.sheets.specs.Grids.{Grid}
use Rattle.sheets.specs.declared.sides.Sides.{Sides}
use Rattle.texts.specs.Parts.{RowOf, body, HeadOf, head, WholeOf, whole}
use Rattle.texts.specs.Cursors.{Behind, LostAt}
use Rattle.texts.specs.declared.cursor.Cursor.{Cursor}
use Rattle.texts.specs.Texts.{text_of, texts, AcceptedText, CheckTold, ReadsSheet}
use Rattle.texts.proofs.Going.{Going, going_none, going_lost, step_lost, step_found}
use Rattle.texts.proofs.Rows.{Spelling, some_body}
use Rattle.texts.proofs.Heads.{code_head, both_found}
use Rattle.texts.proofs.Whole.{code_whole, sheet_of, sheet_sided, sheet_readable, sheet_text, parts_of, parts_text, whole_valid, sheets_by_parts, parts_by_sheets}

module _ {M : Type 0} (word : List ℕ) (f : M → List ℕ) (laws : Spelling f) (bytes : List ℕ) where
  abbrev Rest : HeadOf → Grammar (List (RowOf M) × (Unit {0}))
  Rest h = body f h.1.1.1.0 h.1.1.1.1

  -- what is no text by its parts is no text of a sheet
  lost : (p : ℕ) → Lost (whole word f) 0 bytes p → Lost (texts word f) 0 bytes p
  lost p h = sofar_lost (sofar_turn (sofar_none (texts word f) 0 bytes) (sheets_by_parts word f laws)) p h

  -- a reader that begins at the start of the bytes
  module _ (c : Cursor) (place : c.at ≡ 0) (same : c.bytes.now ≡ bytes) where
    from_start : (p : ℕ) → LostAt (whole word f) c p → Lost (texts word f) 0 bytes p
    from_start p h = lost p (subst (λ bs. Lost (whole word f) 0 bs p) same (subst (λ k. Lost (whole word f) k (drop k c.bytes.now) p) place h))

    begun : Going (whole word f) c (whole word f) c
    begun = going_none (whole word f) c

    pub head_lost : (p : ℕ) → LostAt (head word) c p → Lost (texts word f) 0 bytes p
    head_lost p h = from_start p (step_lost (head word) Rest (code_head word) begun (λ z _. some_body f laws z.1.1.1.0 z.1.1.1.1) p h)

    module _ (sides : Sides) (d : Cursor) (h : Behind (head word) c (tt, (tt, (tt, (sides.rows, sides.cols)))) d) where
      abbrev z : HeadOf
      z = (tt, (tt, (tt, (sides.rows, sides.cols))))

      pub rows_lost : (p : ℕ) → LostAt (Rest z) d p → Lost (texts word f) 0 bytes p
      rows_lost p k = from_start p (going_lost (step_found (head word) Rest (code_head word) begun z d h) p k)

      pub rows_found : (b : List (RowOf M) × (Unit {0})) (e : Cursor) (end : ℕ) → end ≡ e.at → Behind (Rest z) d b e → ReadsSheet word f bytes (Ok (record { sides = sides; end = end }))
      rows_found b e end stop k =
          let all = (both_found (head word) Rest c d e z b h k).found in
          let is = sheet_text word f (z, b) all.valid in (
            sheet_of word f (z, b),
            record {
              valid = (sheet_sided word f (z, b) all.valid, sheet_readable word f (z, b) all.valid);
              after = all.after;
              split = sym same ∙ ap (λ k. drop k c.bytes.now) (sym place) ∙ all.split ∙ ap (λ w. w ++ all.after) (sym is);
              place = omega (arith, all.place, ap length is);
            },
            refl,
            refl,
          )

  -- what is shared with the parts is shared with the sheets
  longest_sheet : (p : ℕ) → LongestShared (whole word f) bytes p → LongestShared (texts word f) bytes p
  longest_sheet p h =
      let z = h.one.0 in
      let v = h.one.1 in
      record {
        one = (sheet_of word f z, (sheet_sided word f z v, sheet_readable word f z v), subst (λ w. Shared bytes w p) (sym (sheet_text word f z v)) h.one.2);
        most = λ g vg n s. h.most _ (whole_valid word f g vg.0 vg.1) n (subst (λ w. Shared bytes w n) (parts_text word f g vg.0 vg.1) s);
      }

  -- what is no text of a sheet is none by its parts
  pub back : (p : ℕ) → Lost (texts word f) 0 bytes p → Lost (whole word f) 0 bytes p
  back p h = sofar_lost (sofar_turn (sofar_none (whole word f) 0 bytes) (parts_by_sheets word f laws)) p h

  pub told_lost : (p : ℕ) → Lost (texts word f) 0 bytes p → CheckTold word f bytes (refused 8 p)
  told_lost p h = (refl, other, longest_lost {K = texts word f} bytes p h)
    where
      other : AcceptedText word f bytes → ⊥
      other a = lost_none {K = whole word f} (code_whole word f laws) bytes 0 p (back p h) _ (whole_valid word f a.0 a.1.sided a.1.readable) [] (a.1.is ∙ parts_text word f a.0 a.1.sided a.1.readable ∙ sym (append-nil _))

  module _ (g : Grid M) (end : ℕ) (k : Found (texts word f) 0 bytes g end) where
    abbrev pub parts : WholeOf M
    parts = ((tt, (tt, (tt, (g.rows, g.cols)))), ((parts_of word f g k.valid.0 k.valid.1).0, tt))

    -- a text of a sheet is one by its parts
    pub found_parts : Found (whole word f) 0 bytes parts end
    found_parts =
        let is = parts_text word f g k.valid.0 k.valid.1 in
        record {
          valid = whole_valid word f g k.valid.0 k.valid.1;
          after = k.after;
          split = k.split ∙ ap (λ w. w ++ k.after) is;
          place = omega (arith, k.place, ap length is);
        }

    -- more bytes behind a text
    pub told_more : end < length bytes → CheckTold word f bytes (refused 8 end)
    told_more more = (refl, other, longest_sheet end (longest_found {K = whole word f} (code_whole word f laws) bytes parts end found_parts))
      where
        other : AcceptedText word f bytes → ⊥
        other a =
            let v = whole_valid word f a.0 a.1.sided a.1.readable in
            let same = code_whole word f laws parts _ found_parts.valid v found_parts.after (sym (a.1.is ∙ parts_text word f a.0 a.1.sided a.1.readable) ∙ found_parts.split) in
            omega (arith, found_parts.place, ap length found_parts.split, length-append ((whole word f).text parts) found_parts.after, ap length same.1)

    pub told_whole : (rows cols : ℕ) → g.rows ≡ rows → g.cols ≡ cols → length bytes ≤ end → CheckTold word f bytes (accepted (rows, cols))
    told_whole rows cols er ec done =
        let none : k.after ≡ [] = nil_from_length k.after (omega (arith, k.place, ap length k.split, length-append (text_of word f g) k.after)) in
        (g, record { sided = k.valid.0; readable = k.valid.1; is = k.split ∙ ap (λ w. text_of word f g ++ w) none ∙ append-nil _ }, (λ i. (sym er i, sym ec i)))
