-- What the text of a sheet says of its cells. Assumes nothing.
use Rattle.std.proofs.Common.{◌≡◌, ℕ, zero, suc, ◌+◌, ◌<◌, Bool, true, false, cond, List, [], ◌∷◌, ◌++◌, length, drop, codes, decimal, Option, sym, refl, ap, ◌∙◌, subst, inl, inr, ⊎_elim, append_assoc, arith}
use Rattle.std.proofs.lemmas.List.{drop_at, length_push}
use Rattle.std.proofs.lemmas.Bool.Decides.{eqb_tells}
use Rattle.grammar.specs.Grammars.{all_by, ended, rep_text}
use Rattle.marks.specs.Spellings.{Separator}
use Rattle.sheets.specs.Grids.{mark, cell_of, at, Grid, Side}
use Rattle.sheets.proofs.Marks.{not_dead, one_mark}
use Rattle.texts.specs.Tokens.{separates, front}
use Rattle.texts.specs.Parts.{RowOf, row, head}
use Rattle.texts.specs.Texts.{TextOf}
use Rattle.texts.proofs.Fronts.{separator_test, test_separator, front_cons, front_none}
use Rattle.texts.proofs.Scans.{free_naturals}
use Rattle.texts.proofs.Rows.{Spelling}
use Rattle.texts.proofs.Whole.{row_marks, cell_in, parts_of, parts_text, text_same}
use Rattle.brackets.specs.Lines.{past_line, lines_on, past_part, parts_on}
use Rattle.brackets.specs.Cells.{mark_of, in_text}
use Rattle.brackets.proofs.Steps.{parts_inner, lines_inner}
use Rattle.brackets.proofs.Found.{Coding, mark_found}

-- no byte of a list is t
abbrev No : ℕ → List ℕ → Type 0
No t [] = Unit {0}
No t (x ∷ xs) = (x ≡ t → ⊥) × No t xs

no_append : (t : ℕ) (u v : List ℕ) → No t u → No t v → No t (u ++ v)
no_append t [] v h k = k
no_append t (x ∷ u) v h k = (h.0, no_append t u v h.1 k)

no_from : (t : ℕ) (xs : List ℕ) → ((u w : List ℕ) → xs ≡ u ++ (t ∷ w) → ⊥) → No t xs
no_from t [] h = tt
no_from t (x ∷ xs) h = ((λ e. h [] xs (ap (λ b. b ∷ xs) e)), no_from t xs (λ u w e. h (x ∷ u) w (ap (λ l. x ∷ l) e)))

-- a line that has no line end before its own
past_line_lem : (u v : List ℕ) → No 10 u → past_line (u ++ (10 ∷ v)) ≡ v
past_line_lem [] v h = refl
past_line_lem (x ∷ u) v h = ⊎_elim (λ p. absurd (h.0 p.1)) (λ p. ap (λ t. cond t (u ++ (10 ∷ v)) (past_line (u ++ (10 ∷ v)))) p.0 ∙ past_line_lem u v h.1) (eqb_tells x 10)

-- a part that has no separator in it
pub front_of : (u v : List ℕ) (t : ℕ) → Separator t → ((a b : List ℕ) (s : ℕ) → Separator s → u ≡ a ++ (s ∷ b) → ⊥) → front (u ++ (t ∷ v)) ≡ u
front_of [] v t s h = front_none t v (separator_test t s)
front_of (x ∷ u) v t s h = by (separates x) refl (front_of u v t s (λ a b r q e. h (x ∷ a) b r q (ap (λ l. x ∷ l) e)))
  where
    by : (r : Bool) → separates x ≡ r → front (u ++ (t ∷ v)) ≡ u → front (x ∷ (u ++ (t ∷ v))) ≡ x ∷ u
    by true e rec = absurd (h [] u x (test_separator x e) refl)
    by false e rec = front_cons x (u ++ (t ∷ v)) e ∙ ap (λ l. x ∷ l) rec

past_part_lem : (u v : List ℕ) (t : ℕ) → front (u ++ (t ∷ v)) ≡ u → past_part (u ++ (t ∷ v)) ≡ v
past_part_lem u v t e =
    ap (λ w. drop (length w + 1) (u ++ (t ∷ v))) e ∙ ap (drop (length u + 1)) (sym (append_assoc u (t ∷ []) v)) ∙ drop_at (u ++ (t ∷ [])) v (length u + 1) (length_push u t)

module _ {M : Type 0} (f : M → List ℕ) (laws : Spelling f) where
  spelling_front : (m : M) (t : ℕ) (v : List ℕ) → Separator t → front (f m ++ (t ∷ v)) ≡ f m
  spelling_front m t v s = front_of (f m) v t s (λ a b r q e. laws.clear m a b r q e)

  -- the marks of a row are its parts, in their order
  marks_along : (xs : List M) (x : M) (v : List ℕ) (j : ℕ) (m : M) → at (xs ++ (x ∷ [])) j ≡ mark m → front (parts_on j (rep_text (ended (all_by f) 32) xs ++ (f x ++ (41 ∷ v)))) ≡ f m
  marks_along [] x v zero m e = spelling_front x 41 v (inr (inr refl)) ∙ ap f (one_mark x m e)
  marks_along [] x v (suc j) m e = absurd (not_dead m e)
  marks_along (y ∷ xs) x v zero m e = ap front (regroup y xs) ∙ spelling_front y 32 (rep_text (ended (all_by f) 32) xs ++ (f x ++ (41 ∷ v))) (inl (inl refl)) ∙ ap f (one_mark y m e)
    where
      regroup : (y : M) (xs : List M) → ((f y ++ (32 ∷ [])) ++ rep_text (ended (all_by f) 32) xs) ++ (f x ++ (41 ∷ v)) ≡ f y ++ (32 ∷ (rep_text (ended (all_by f) 32) xs ++ (f x ++ (41 ∷ v))))
      regroup y xs = simp append_assoc
  marks_along (y ∷ xs) x v (suc j) m e =
      let rest = rep_text (ended (all_by f) 32) xs ++ (f x ++ (41 ∷ v)) in
      ap front (parts_inner j (((f y ++ (32 ∷ [])) ++ rep_text (ended (all_by f) 32) xs) ++ (f x ++ (41 ∷ v))) ∙ ap (parts_on j) (ap past_part (regroup (f y) (rep_text (ended (all_by f) 32) xs) (f x ++ (41 ∷ v))) ∙ past_part_lem (f y) rest 32 (spelling_front y 32 rest (inl (inl refl)))))
      ∙ marks_along xs x v j m e
    where
      regroup : (a b c : List ℕ) → ((a ++ (32 ∷ [])) ++ b) ++ c ≡ a ++ (32 ∷ (b ++ c))
      regroup a b c = simp append_assoc

  -- the cells of a row's line
  row_along : (c : ℕ) (z : RowOf M) (v : List ℕ) (j : ℕ) (m : M) → at (row_marks z) j ≡ mark m → front (parts_on j (parts_on 2 ((row f c).text z ++ v))) ≡ f m
  row_along c z v j m e = ap (λ w. front (parts_on j w)) (regroup (rep_text (ended (all_by f) 32) z.1.0) (f z.1.1.0)) ∙ marks_along z.1.0 z.1.1.0 (10 ∷ v) j m e
    where
      regroup : (a b : List ℕ) → (a ++ ((b ++ (41 ∷ [])) ++ (10 ∷ []))) ++ v ≡ a ++ (b ++ (41 ∷ 10 ∷ v))
      regroup a b = simp append_assoc

  -- the lines of the rows
  no_spelling : (m : M) → No 10 (f m)
  no_spelling m = no_from 10 (f m) (λ u w e. laws.clear m u w 10 (inl (inr refl)) e)

  no_marks : (xs : List M) → No 10 (rep_text (ended (all_by f) 32) xs)
  no_marks [] = tt
  no_marks (x ∷ xs) = no_append 10 (f x ++ (32 ∷ [])) (rep_text (ended (all_by f) 32) xs) (no_append 10 (f x) (32 ∷ []) (no_spelling x) ((λ e. omega arith), tt)) (no_marks xs)

  row_line : (c : ℕ) (z : RowOf M) (v : List ℕ) → past_line ((row f c).text z ++ v) ≡ v
  row_line c z v = ap past_line (regroup (rep_text (ended (all_by f) 32) z.1.0) (f z.1.1.0)) ∙ past_line_lem (codes "(row " ++ (rep_text (ended (all_by f) 32) z.1.0 ++ (f z.1.1.0 ++ (41 ∷ [])))) v plain
    where
      plain : No 10 (codes "(row " ++ (rep_text (ended (all_by f) 32) z.1.0 ++ (f z.1.1.0 ++ (41 ∷ []))))
      plain = ((λ e. omega arith), ((λ e. omega arith), ((λ e. omega arith), ((λ e. omega arith), ((λ e. omega arith), no_append 10 (rep_text (ended (all_by f) 32) z.1.0) (f z.1.1.0 ++ (41 ∷ [])) (no_marks z.1.0) (no_append 10 (f z.1.1.0) (41 ∷ []) (no_spelling z.1.1.0) ((λ e. omega arith), tt)))))))

      regroup : (a b : List ℕ) → (codes "(row " ++ (a ++ ((b ++ (41 ∷ [])) ++ (10 ∷ [])))) ++ v ≡ (codes "(row " ++ (a ++ (b ++ (41 ∷ [])))) ++ (10 ∷ v)
      regroup a b = simp append_assoc

  -- the cell in row i and column j of some rows is part j of line i
  rows_along : (c : ℕ) (zs : List (RowOf M)) (v : List ℕ) (i j : ℕ) (m : M) → cell_in zs i j ≡ mark m → front (parts_on j (parts_on 2 (lines_on i (rep_text (row f c) zs ++ v)))) ≡ f m
  rows_along c [] v i j m e = absurd (not_dead m e)
  rows_along c (z ∷ zs) v zero j m e = ap (λ w. front (parts_on j (parts_on 2 w))) (append_assoc ((row f c).text z) (rep_text (row f c) zs) v) ∙ row_along c z (rep_text (row f c) zs ++ v) j m e
  rows_along c (z ∷ zs) v (suc i) j m e =
      ap (λ w. front (parts_on j (parts_on 2 w))) (lines_inner i (((row f c).text z ++ rep_text (row f c) zs) ++ v) ∙ ap (lines_on i) (ap past_line (append_assoc ((row f c).text z) (rep_text (row f c) zs) v) ∙ row_line c z (rep_text (row f c) zs ++ v)))
      ∙ rows_along c zs v i j m e

-- the first line
module _ (word : List ℕ) (plain : (u w : List ℕ) (t : ℕ) → Separator t → word ≡ u ++ (t ∷ w) → ⊥) (r c : ℕ) (r-side : Side r) (c-side : Side c) (v : List ℕ) where
  no_decimal : (n : ℕ) → Side n → No 10 (decimal n)
  no_decimal n side = no_from 10 (decimal n) (λ u w e. free_naturals 2048 (omega arith) 10 (inl (inr refl)) n side u w e)

  first_line : past_line ((head word).text (tt, (tt, (tt, (r, c)))) ++ v) ≡ v
  first_line = ap past_line (regroup word (decimal r) (decimal c)) ∙ past_line_lem (codes "(sheet " ++ (word ++ (32 ∷ (decimal r ++ (32 ∷ decimal c))))) v clear
    where
      regroup : (w a b : List ℕ) → (codes "(sheet " ++ (w ++ ((32 ∷ []) ++ ((a ++ (32 ∷ [])) ++ (b ++ (10 ∷ [])))))) ++ v ≡ (codes "(sheet " ++ (w ++ (32 ∷ (a ++ (32 ∷ b))))) ++ (10 ∷ v)
      regroup w a b = simp append_assoc

      clear : No 10 (codes "(sheet " ++ (word ++ (32 ∷ (decimal r ++ (32 ∷ decimal c)))))
      clear =
          no_append 10 (codes "(sheet ") (word ++ (32 ∷ (decimal r ++ (32 ∷ decimal c)))) ((λ e. omega arith), ((λ e. omega arith), ((λ e. omega arith), ((λ e. omega arith), ((λ e. omega arith), ((λ e. omega arith), ((λ e. omega arith), tt)))))))
          (no_append 10 word (32 ∷ (decimal r ++ (32 ∷ decimal c))) (no_from 10 word (λ u w e. plain u w 10 (inl (inr refl)) e))
          ((λ e. omega arith), no_append 10 (decimal r) (32 ∷ decimal c) (no_decimal r r-side) ((λ e. omega arith), no_decimal c c-side)))

-- what a text says is the sheet whose text it is
module _ {M : Type 0} (word : List ℕ) (plain : (u w : List ℕ) (t : ℕ) → Separator t → word ≡ u ++ (t ∷ w) → ⊥) (coded : M → ℕ) (decoded : ℕ → Option M) (f : M → List ℕ) (laws : Spelling f) (coding : Coding coded decoded f) (bs : List ℕ) (g : Grid M) (h : TextOf word f bs g) where
  pub cells_back : (i j : ℕ) → i < g.rows → j < g.cols → (in_text decoded f g.rows g.cols bs).cell i j ≡ g.cell i j
  cells_back i j hi hj =
      let p = parts_of word f g h.sided h.readable in
      let m = h.readable i j hi hj in
      let rest = rep_text (row f g.cols) p.0 ++ (41 ∷ 10 ∷ []) in
      let is : bs ≡ (head word).text (tt, (tt, (tt, (g.rows, g.cols)))) ++ rest = h.is ∙ parts_text word f g h.sided h.readable in
      let line : lines_on (suc i) bs ≡ lines_on i rest = lines_inner i bs ∙ ap (lines_on i) (ap past_line is ∙ first_line word plain g.rows g.cols h.sided.rows h.sided.cols rest) in
      let part : front (parts_on j (parts_on 2 (lines_on (suc i) bs))) ≡ f m.0 = ap (λ w. front (parts_on j (parts_on 2 w))) line ∙ rows_along f laws g.cols p.0 (41 ∷ 10 ∷ []) i j m.0 (p.2 i j hi hj ∙ m.1) in
      ap cell_of (ap (mark_of decoded f) part ∙ mark_found coded decoded f coding (f m.0) m.0 refl) ∙ sym m.1

  pub text_back : (rows cols : ℕ) → g.rows ≡ rows → g.cols ≡ cols → TextOf word f bs (in_text decoded f rows cols bs)
  text_back rows cols er ec =
      subst (λ r. TextOf word f bs (in_text decoded f r cols bs)) er (subst (λ c. TextOf word f bs (in_text decoded f g.rows c bs)) ec
      (record {
        sided = record { rows = h.sided.rows; cols = h.sided.cols };
        readable = λ i j hi hj. let m = h.readable i j hi hj in (m.0, cells_back i j hi hj ∙ m.1);
        is = h.is ∙ text_same f word g.rows g.cols g.cell (in_text decoded f g.rows g.cols bs).cell (λ i j hi hj. sym (cells_back i j hi hj));
      }))
