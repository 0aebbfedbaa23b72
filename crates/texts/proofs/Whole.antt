-- The text of a sheet is the text of its parts. Assumes nothing.
use Rattle.std.proofs.Common.{◌≡◌, ℕ, zero, suc, ◌-◌, ◌<◌, ◌≤◌, List, [], ◌∷◌, ◌++◌, map, length, get_or, codes, decimal, sym, refl, ap, ◌∙◌, subst, ⊎_elim, append_assoc, arith}
use Rattle.std.specs.List.{range_with_len}
use Rattle.std.proofs.lemmas.Bool.{cases_lt}
use Rattle.std.proofs.lemmas.List.{length-map, length_push}
use Rattle.std.proofs.lemmas.List.FromFn.{fill_by_all, length-map-range_with_len, get_or-map-range_with_len}
use Rattle.grammar.specs.Grammars.{Grammar, Code, After, all_by, ended, rep_valid, rep_text}
use Rattle.grammar.proofs.Theory.{code_seq, code_from}
use Rattle.sheets.specs.Grids.{Cell, mark, dead, at, Grid, Sided}
use Rattle.sheets.proofs.Marks.{at_some}
use Rattle.texts.specs.Parts.{RowOf, row, body, head, WholeOf, whole}
use Rattle.texts.specs.Texts.{spaced, together, spell, head_line, text_of, Readable, texts, OneTextOneSheet}
use Rattle.texts.proofs.Rows.{Spelling, code_body}
use Rattle.texts.proofs.Heads.{code_head}

-- the marks of a row, and what stands in rows
abbrev pub row_marks : {M : Type 0} → RowOf M → List M
row_marks z = z.1.0 ++ (z.1.1.0 ∷ [])

abbrev pub cell_in : {M : Type 0} → List (RowOf M) → ℕ → ℕ → Cell M
cell_in [] i j = dead
cell_in (z ∷ zs) zero j = at (row_marks z) j
cell_in (z ∷ zs) (suc i) j = cell_in zs i j

abbrev pub grid_of : {M : Type 0} → ℕ → ℕ → List (RowOf M) → Grid M
grid_of r c zs = record { rows = r; cols = c; cell = cell_in zs }

head_text : (word a b : List ℕ) → spaced (codes "(sheet" ∷ word ∷ a ∷ b ∷ []) ++ (10 ∷ []) ≡ codes "(sheet " ++ (word ++ ((32 ∷ []) ++ ((a ++ (32 ∷ [])) ++ (b ++ (10 ∷ [])))))
head_text word a b = simp append_assoc

module _ {M : Type 0} (f : M → List ℕ) where
  spell_at : (xs : List M) (k : ℕ) → get_or (map f xs) k [] ≡ spell f (at xs k)
  spell_at [] k = refl
  spell_at (x ∷ xs) zero = refl
  spell_at (x ∷ xs) (suc k) = spell_at xs k

  spaced_marks : (w : List ℕ) (xs : List M) (x : M) → spaced (w ∷ map f (xs ++ (x ∷ []))) ≡ w ++ (32 ∷ (rep_text (ended (all_by f) 32) xs ++ f x))
  spaced_marks w [] x = refl
  spaced_marks w (y ∷ ys) x = ap (λ v. w ++ (32 ∷ v)) (spaced_marks (f y) ys x ∙ regroup (f y) (rep_text (ended (all_by f) 32) ys) (f x))
    where
      regroup : (a b c : List ℕ) → a ++ (32 ∷ (b ++ c)) ≡ ((a ++ (32 ∷ [])) ++ b) ++ c
      regroup a b c = simp append_assoc

  row_text : (c : ℕ) (z : RowOf M) → spaced (codes "(row" ∷ map f (row_marks z)) ++ (41 ∷ 10 ∷ []) ≡ (row f c).text z
  row_text c z = ap (λ w. w ++ (41 ∷ 10 ∷ [])) (spaced_marks (codes "(row") z.1.0 z.1.1.0) ∙ regroup (rep_text (ended (all_by f) 32) z.1.0) (f z.1.1.0)
    where
      regroup : (a b : List ℕ) → (codes "(row" ++ (32 ∷ (a ++ b))) ++ (41 ∷ 10 ∷ []) ≡ codes "(row " ++ (a ++ ((b ++ (41 ∷ [])) ++ (10 ∷ [])))
      regroup a b = simp append_assoc

  rep_length : (t n : ℕ) (xs : List M) → rep_valid (ended (all_by f) t) n xs → length xs ≡ n
  rep_length t zero [] v = refl
  rep_length t zero (x ∷ xs) v = absurd v
  rep_length t (suc n) [] v = absurd v
  rep_length t (suc n) (x ∷ xs) v = ap suc (rep_length t n xs v.1)

  rep_any : (t : ℕ) (xs : List M) → rep_valid (ended (all_by f) t) (length xs) xs
  rep_any t [] = tt
  rep_any t (x ∷ xs) = (tt, rep_any t xs)

  row_length : (c : ℕ) (z : RowOf M) → 1 ≤ c → (row f c).valid z → length (row_marks z) ≡ c
  row_length c z pos v = length_push z.1.0 z.1.1.0 ∙ (let e = rep_length 32 (c - 1) z.1.0 v.1.0 in omega arith)

  -- the spellings of a row, place by place
  pub row_words : (c : ℕ) (xs : List M) → length xs ≡ c → map f xs ≡ map (λ j. spell f (at xs j)) (range_with_len 0 c)
  row_words c xs e = fill_by_all (λ j. spell f (at xs j)) (map f xs) c [] (length-map xs f ∙ e) (λ k h. spell_at xs k)

  abbrev line : (ℕ → ℕ → Cell M) → ℕ → ℕ → List ℕ
  line p c i = spaced (codes "(row" ∷ map (λ j. spell f (p i j)) (range_with_len 0 c)) ++ (41 ∷ 10 ∷ [])

  lines_at : (c : ℕ) → 1 ≤ c → (n : ℕ) (zs : List (RowOf M)) → rep_valid (row f c) n zs → (k : ℕ) → k < n → get_or (map (row f c).text zs) k [] ≡ line (cell_in zs) c k
  lines_at c pos zero zs v k h = absurd (omega arith)
  lines_at c pos (suc n) [] v k h = absurd v
  lines_at c pos (suc n) (z ∷ zs) v zero h = sym (row_text c z) ∙ ap (λ ws. spaced (codes "(row" ∷ ws) ++ (41 ∷ 10 ∷ [])) (row_words c (row_marks z) (row_length c z pos v.0))
  lines_at c pos (suc n) (z ∷ zs) v (suc k) h = lines_at c pos n zs v.1 k (omega arith)

  rows_length : (c n : ℕ) (zs : List (RowOf M)) → rep_valid (row f c) n zs → length zs ≡ n
  rows_length c zero [] v = refl
  rows_length c zero (x ∷ xs) v = absurd v
  rows_length c (suc n) [] v = absurd v
  rows_length c (suc n) (x ∷ xs) v = ap suc (rows_length c n xs v.1)

  rep_together : (c : ℕ) (zs : List (RowOf M)) → together (map (row f c).text zs) ≡ rep_text (row f c) zs
  rep_together c [] = refl
  rep_together c (z ∷ zs) = ap (λ w. (row f c).text z ++ w) (rep_together c zs)

  lines_text : (r c : ℕ) (zs : List (RowOf M)) → 1 ≤ c → rep_valid (row f c) r zs → together (map (line (cell_in zs) c) (range_with_len 0 r)) ≡ rep_text (row f c) zs
  lines_text r c zs pos v = ap together (sym (fill_by_all (line (cell_in zs) c) (map (row f c).text zs) r [] (length-map zs (row f c).text ∙ rows_length c r zs v) (lines_at c pos r zs v))) ∙ rep_together c zs

  pub grid_text : (word : List ℕ) (r c : ℕ) (zs : List (RowOf M)) → 1 ≤ c → rep_valid (row f c) r zs → text_of word f (grid_of r c zs) ≡ (whole word f).text ((tt, (tt, (tt, (r, c)))), (zs, tt))
  unfolding text_of
  grid_text word r c zs pos v = (λ i. head_text word (decimal r) (decimal c) i ++ (lines_text r c zs pos v i ++ (41 ∷ 10 ∷ [])))

  -- the text says nothing of cells outside
  line_same : (p q : ℕ → ℕ → Cell M) (c i : ℕ) → ((j : ℕ) → j < c → p i j ≡ q i j) → line p c i ≡ line q c i
  line_same p q c i same = ap (λ ws. spaced (codes "(row" ∷ ws) ++ (41 ∷ 10 ∷ [])) (fill_by_all (λ j. spell f (q i j)) (map (λ j. spell f (p i j)) (range_with_len 0 c)) c [] (length-map-range_with_len (λ j. spell f (p i j)) 0 c) (λ k h. get_or-map-range_with_len (λ j. spell f (p i j)) 0 c k k [] h (omega arith) ∙ ap (spell f) (same k h)))

  pub text_same : (word : List ℕ) (r c : ℕ) (p q : ℕ → ℕ → Cell M) → ((i j : ℕ) → i < r → j < c → p i j ≡ q i j) → text_of word f (record { rows = r; cols = c; cell = p }) ≡ text_of word f (record { rows = r; cols = c; cell = q })
  unfolding text_of
  text_same word r c p q same = ap (λ ls. head_line word r c ++ (together ls ++ (41 ∷ 10 ∷ []))) (fill_by_all (line q c) (map (line p c) (range_with_len 0 r)) r [] (length-map-range_with_len (line p c) 0 r) (λ k h. get_or-map-range_with_len (line p c) 0 r k k [] h (omega arith) ∙ line_same p q c k (λ j l. same k j h l)))

-- lists and what stands in them
at_left : {M : Type 0} (xs ys : List M) (j : ℕ) → j < length xs → at (xs ++ ys) j ≡ at xs j
at_left [] ys j h = absurd (omega arith)
at_left (x ∷ xs) ys zero h = refl
at_left (x ∷ xs) ys (suc j) h = at_left xs ys j (omega arith)

at_last : {M : Type 0} (xs : List M) (x : M) (j : ℕ) → j ≡ length xs → at (xs ++ (x ∷ [])) j ≡ mark x
at_last [] x j e = ap (at (x ∷ [])) e
at_last (y ∷ xs) x zero e = absurd (omega arith)
at_last (y ∷ xs) x (suc j) e = at_last xs x j (omega arith)

cell_left : {M : Type 0} (zs ys : List (RowOf M)) (i j : ℕ) → i < length zs → cell_in (zs ++ ys) i j ≡ cell_in zs i j
cell_left [] ys i j h = absurd (omega arith)
cell_left (z ∷ zs) ys zero j h = refl
cell_left (z ∷ zs) ys (suc i) j h = cell_left zs ys i j (omega arith)

cell_last : {M : Type 0} (zs : List (RowOf M)) (z : RowOf M) (i j : ℕ) → i ≡ length zs → cell_in (zs ++ (z ∷ [])) i j ≡ at (row_marks z) j
cell_last [] z i j e = ap (λ k. cell_in (z ∷ []) k j) e
cell_last (y ∷ zs) z zero j e = absurd (omega arith)
cell_last (y ∷ zs) z (suc i) j e = cell_last zs z i j (omega arith)

rep_push : {A : Type 0} (K : Grammar A) (n : ℕ) (xs : List A) (x : A) → rep_valid K n xs → K.valid x → rep_valid K (suc n) (xs ++ (x ∷ []))
rep_push K zero [] x v w = (w, tt)
rep_push K zero (y ∷ xs) x v w = absurd v
rep_push K (suc n) [] x v w = absurd v
rep_push K (suc n) (y ∷ xs) x v w = (v.0, rep_push K n xs x v.1 w)

-- the first n marks of cells that are there
module _ {M : Type 0} (cells : ℕ → Cell M) where
  abbrev There : ℕ → Type 0
  There n = (j : ℕ) → j < n → (m : M) × (cells j ≡ mark m)

  marks_to : (n : ℕ) → There n → (xs : List M) × (length xs ≡ n) × ((j : ℕ) → j < n → at xs j ≡ cells j)
  marks_to zero h = ([], refl, λ j lt. absurd (omega arith))
  marks_to (suc n) h =
      let rec = marks_to n (λ j lt. h j (omega arith)) in
      let last = h n (omega arith) in (
        rec.0 ++ (last.0 ∷ []),
        length_push rec.0 last.0 ∙ (let e = rec.1 in omega arith),
        λ j lt.
            ⊎_elim
            (λ less. at_left rec.0 (last.0 ∷ []) j (let e = rec.1 in omega arith) ∙ rec.2 j less)
            (λ ge. let is : j ≡ n = omega arith in at_last rec.0 last.0 j (is ∙ sym rec.1) ∙ sym last.1 ∙ ap cells (sym is))
            (cases_lt j n),
      )

module _ {M : Type 0} (f : M → List ℕ) (c : ℕ) (pos : 1 ≤ c) where
  row_to : (cells : ℕ → Cell M) → There cells c → (z : RowOf M) × (row f c).valid z × ((j : ℕ) → j < c → at (row_marks z) j ≡ cells j)
  row_to cells h =
      let most = marks_to cells (c - 1) (λ j lt. h j (omega arith)) in
      let last = h (c - 1) (omega arith) in (
        (tt, (most.0, (last.0, tt))),
        (tt, (subst (λ n. rep_valid (ended (all_by f) 32) n most.0) most.1 (rep_any f 32 most.0), (tt, tt))),
        λ j lt.
            ⊎_elim
            (λ less. at_left most.0 (last.0 ∷ []) j (let e = most.1 in omega arith) ∙ most.2 j less)
            (λ ge. let is : j ≡ c - 1 = omega arith in at_last most.0 last.0 j (is ∙ sym most.1) ∙ sym last.1 ∙ ap cells (sym is))
            (cases_lt j (c - 1)),
      )

  rows_to : (cells : ℕ → ℕ → Cell M) (n : ℕ) → ((i : ℕ) → i < n → There (cells i) c) → (zs : List (RowOf M)) × rep_valid (row f c) n zs × ((i j : ℕ) → i < n → j < c → cell_in zs i j ≡ cells i j)
  rows_to cells zero h = ([], tt, λ i j lt. absurd (omega arith))
  rows_to cells (suc n) h =
      let rec = rows_to cells n (λ i lt. h i (omega arith)) in
      let last = row_to (cells n) (h n (omega arith)) in
      let long : length rec.0 ≡ n = rows_length f c n rec.0 rec.1 in (
        rec.0 ++ (last.0 ∷ []),
        rep_push (row f c) n rec.0 last.0 rec.1 last.1,
        λ i j lt lj.
            ⊎_elim
            (λ less. cell_left rec.0 (last.0 ∷ []) i j (omega arith) ∙ rec.2 i j less lj)
            (λ ge. let is : i ≡ n = omega arith in cell_last rec.0 last.0 i j (is ∙ sym long) ∙ last.2 j lj ∙ ap (λ k. cells k j) (sym is))
            (cases_lt i n),
      )

  rows_there : (n : ℕ) (zs : List (RowOf M)) → rep_valid (row f c) n zs → (i j : ℕ) → i < n → j < c → (m : M) × (cell_in zs i j ≡ mark m)
  rows_there zero zs v i j h k = absurd (omega arith)
  rows_there (suc n) [] v i j h k = absurd v
  rows_there (suc n) (z ∷ zs) v zero j h k = at_some (row_marks z) j (let e = row_length f c z pos v.0 in omega arith)
  rows_there (suc n) (z ∷ zs) v (suc i) j h k = rows_there n zs v.1 i j (omega arith) k

module _ {M : Type 0} (word : List ℕ) (f : M → List ℕ) where
  -- the parts of a sheet's text
  pub parts_of : (g : Grid M) → Sided g → Readable g → (zs : List (RowOf M)) × rep_valid (row f g.cols) g.rows zs × ((i j : ℕ) → i < g.rows → j < g.cols → cell_in zs i j ≡ g.cell i j)
  parts_of g sd rd = rows_to f g.cols sd.cols.0 g.cell g.rows (λ i h j k. rd i j h k)

  pub parts_text : (g : Grid M) (sd : Sided g) (rd : Readable g) → text_of word f g ≡ (whole word f).text ((tt, (tt, (tt, (g.rows, g.cols)))), ((parts_of g sd rd).0, tt))
  parts_text g sd rd =
      let p = parts_of g sd rd in
      text_same f word g.rows g.cols g.cell (cell_in p.0) (λ i j h k. sym (p.2 i j h k)) ∙ grid_text f word g.rows g.cols p.0 sd.cols.0 p.1

  pub whole_valid : (g : Grid M) (sd : Sided g) (rd : Readable g) → (whole word f).valid ((tt, (tt, (tt, (g.rows, g.cols)))), ((parts_of g sd rd).0, tt))
  whole_valid g sd rd = ((tt, (tt, (tt, (sd.rows, sd.cols)))), ((parts_of g sd rd).1, tt))

  abbrev pub sheet_of : WholeOf M → Grid M
  sheet_of z = grid_of z.0.1.1.1.0 z.0.1.1.1.1 z.1.0

  pub sheet_sided : (z : WholeOf M) → (whole word f).valid z → Sided (sheet_of z)
  sheet_sided z v = record { rows = v.0.1.1.1.0; cols = v.0.1.1.1.1 }

  pub sheet_readable : (z : WholeOf M) → (whole word f).valid z → Readable (sheet_of z)
  sheet_readable z v i j h k = rows_there f z.0.1.1.1.1 v.0.1.1.1.1.0 z.0.1.1.1.0 z.1.0 v.1.0 i j h k

  pub sheet_text : (z : WholeOf M) → (whole word f).valid z → text_of word f (sheet_of z) ≡ (whole word f).text z
  sheet_text z v = grid_text f word z.0.1.1.1.0 z.0.1.1.1.1 z.1.0 v.0.1.1.1.1.0 v.1.0

  module _ (laws : Spelling f) where
    pub code_whole : Code (whole word f)
    code_whole = code_seq (head word) (λ h. body f h.1.1.1.0 h.1.1.1.1) (code_head word) (λ h _. code_body f laws h.1.1.1.0 h.1.1.1.1)

    -- two sheets with one text are one sheet
    pub one_sheet : OneTextOneSheet word f
    one_sheet g h bs tg th =
        let p = parts_of g tg.sided tg.readable in
        let q = parts_of h th.sided th.readable in
        let a : WholeOf M = ((tt, (tt, (tt, (g.rows, g.cols)))), (p.0, tt)) in
        let b : WholeOf M = ((tt, (tt, (tt, (h.rows, h.cols)))), (q.0, tt)) in
        let same : a ≡ b = code_from {K = whole word f} code_whole a b (whole_valid g tg.sided tg.readable) (whole_valid h th.sided th.readable) (sym (parts_text g tg.sided tg.readable) ∙ sym tg.is ∙ th.is ∙ parts_text h th.sided th.readable) in
        let rows : g.rows ≡ h.rows = ap (λ z. z.0.1.1.1.0) same in
        let cols : g.cols ≡ h.cols = ap (λ z. z.0.1.1.1.1) same in
        record {
          rows = rows;
          cols = cols;
          cells = λ i j hi hj. sym (p.2 i j hi hj) ∙ ap (λ (z : WholeOf M). cell_in z.1.0 i j) same ∙ q.2 i j (omega arith) (omega arith);
        }

    -- the accepted texts are the texts by their parts
    pub sheets_by_parts : After (texts word f) [] (whole word f)
    sheets_by_parts = record {
      to = λ z v. (sheet_of z, (sheet_sided z v, sheet_readable z v), sheet_text z v);
      from = λ g vg x e. (_, whole_valid g vg.0 vg.1, sym e ∙ parts_text g vg.0 vg.1);
    }

    pub parts_by_sheets : After (whole word f) [] (texts word f)
    parts_by_sheets = record {
      to = λ g vg. (_, whole_valid g vg.0 vg.1, sym (parts_text g vg.0 vg.1));
      from = λ z v x e. (sheet_of z, (sheet_sided z v, sheet_readable z v), sym e ∙ sym (sheet_text z v));
    }
