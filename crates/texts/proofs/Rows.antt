-- A row, mark by mark. Assumes nothing.
use Rattle.std.proofs.Common.{◌≡◌, ℕ, suc, ◌-◌, List, [], ◌∷◌, ◌++◌, codes, Result, refl, inl, inr}
use Rattle.grammar.specs.Grammars.{Grammar, Code, all_by, lit, ended, seq, rep}
use Rattle.grammar.proofs.Theory.{code_ended, code_lit, code_seq, code_rep, some_rep}
use Rattle.marks.specs.Spellings.{Separator}
use Rattle.texts.specs.Parts.{RowOf, row, body}
use Rattle.texts.specs.Cursors.{Behind, LostAt, ReadsOn}
use Rattle.texts.specs.declared.cursor.Cursor.{Cursor}
use Rattle.texts.proofs.Going.{Going, going_none, going_end, step_lost, step_found, turn_none, turn_more}

-- what is asked of the spellings
pub record Spelling {M : Type 0} (f : M → List ℕ) : Type 0 where
  pub one : M
  pub distinct : (x y : M) → f x ≡ f y → x ≡ y
  pub clear : (x : M) (u w : List ℕ) (t : ℕ) → Separator t → f x ≡ u ++ (t ∷ w) → ⊥

-- the last mark and the end of the line
abbrev pub lastly : {M : Type 0} → (M → List ℕ) → Grammar (M × (Unit {0}))
lastly f = seq (ended (all_by f) 41) (λ _. lit (10 ∷ []))

-- after n marks more
abbrev pub still : {M : Type 0} → (M → List ℕ) → ℕ → Grammar (List M × (M × (Unit {0})))
still f n = seq (rep n (ended (all_by f) 32)) (λ _. lastly f)

module _ {M : Type 0} (f : M → List ℕ) (laws : Spelling f) where
  pub code_mark : (t : ℕ) → Separator t → Code (ended (all_by f) t)
  code_mark t sep = code_ended {K = all_by f} t (λ a va u w e. laws.clear a u w t sep e) (λ a b va vb e. laws.distinct a b e)

  some_still : (n : ℕ) → (z : List M × (M × (Unit {0}))) × (still f n).valid z
  some_still n = let h = some_rep (ended (all_by f) 32) laws.one tt n in ((h.0, (laws.one, tt)), (h.1, (tt, tt)))

  module _ (cols : ℕ) (c : Cursor) where
    pub row_begun : (u : Unit {0}) (d : Cursor) → Behind (lit (codes "(row ")) c u d → Going (row f cols) c (still f (cols - 1)) d
    row_begun u d k = step_found (lit (codes "(row ")) (λ _. still f (cols - 1)) (code_lit (codes "(row ")) (going_none (row f cols) c) u d k

    pub row_none : (p : ℕ) → LostAt (lit (codes "(row ")) c p → LostAt (row f cols) c p
    row_none p k = step_lost (lit (codes "(row ")) (λ _. still f (cols - 1)) (code_lit (codes "(row ")) (going_none (row f cols) c) (λ _ _. some_still (cols - 1)) p k

    module _ (d : Cursor) (n : ℕ) (s : Going (row f cols) c (still f n) d) where
      pub row_more : (m : ℕ) → n ≡ suc m → (x : M) (e : Cursor) → Behind (ended (all_by f) 32) d x e → Going (row f cols) c (still f m) e
      row_more m h x e k = step_found (ended (all_by f) 32) (λ _. still f m) (code_mark 32 (inl (inl refl))) (turn_more (ended (all_by f) 32) (lastly f) n s m h) x e k

      pub row_lost : (m : ℕ) → n ≡ suc m → (p : ℕ) → LostAt (ended (all_by f) 32) d p → LostAt (row f cols) c p
      row_lost m h p k = step_lost (ended (all_by f) 32) (λ _. still f m) (code_mark 32 (inl (inl refl))) (turn_more (ended (all_by f) 32) (lastly f) n s m h) (λ _ _. some_still m) p k

      ending : n ≡ 0 → Going (row f cols) c (lastly f) d
      ending h = turn_none (ended (all_by f) 32) (lastly f) n s h

      pub last_lost : n ≡ 0 → (p : ℕ) → LostAt (ended (all_by f) 41) d p → LostAt (row f cols) c p
      last_lost h p k = step_lost (ended (all_by f) 41) (λ _. lit (10 ∷ [])) (code_mark 41 (inr (inr refl))) (ending h) (λ _ _. (tt, tt)) p k

      pub last_found : n ≡ 0 → (x : M) (e : Cursor) → Behind (ended (all_by f) 41) d x e → Going (row f cols) c (lit (10 ∷ [])) e
      last_found h x e k = step_found (ended (all_by f) 41) (λ _. lit (10 ∷ [])) (code_mark 41 (inr (inr refl))) (ending h) x e k

  -- lines of rows
  pub code_row : (cols : ℕ) → Code (row f cols)
  code_row cols =
      code_seq (lit (codes "(row ")) (λ _. still f (cols - 1)) (code_lit (codes "(row ")) (λ _ _.
      code_seq (rep (cols - 1) (ended (all_by f) 32)) (λ _. lastly f) (code_rep (ended (all_by f) 32) (code_mark 32 (inl (inl refl))) (cols - 1)) (λ _ _.
      code_seq (ended (all_by f) 41) (λ _. lit (10 ∷ [])) (code_mark 41 (inr (inr refl))) (λ _ _. code_lit (10 ∷ []))))

  pub code_body : (rows cols : ℕ) → Code (body f rows cols)
  code_body rows cols = code_seq (rep rows (row f cols)) (λ _. lit (41 ∷ 10 ∷ [])) (code_rep (row f cols) (code_row cols) rows) (λ _ _. code_lit (41 ∷ 10 ∷ []))

  pub some_row : (cols : ℕ) → (z : RowOf M) × (row f cols).valid z
  some_row cols = let h = some_still (cols - 1) in ((tt, h.0), (tt, h.1))

  pub some_body : (rows cols : ℕ) → (z : List (RowOf M) × (Unit {0})) × (body f rows cols).valid z
  some_body rows cols = let r = some_row cols in let h = some_rep (row f cols) r.0 r.1 rows in ((h.0, tt), (h.1, tt))

  module _ (rows cols : ℕ) (c d : Cursor) (n : ℕ) (s : Going (body f rows cols) c (body f n cols) d) where
    pub body_more : (m : ℕ) → n ≡ suc m → (z : RowOf M) (e : Cursor) → Behind (row f cols) d z e → Going (body f rows cols) c (body f m cols) e
    body_more m h z e k = step_found (row f cols) (λ _. body f m cols) (code_row cols) (turn_more (row f cols) (lit (41 ∷ 10 ∷ [])) n s m h) z e k

    pub body_lost : (m : ℕ) → n ≡ suc m → (p : ℕ) → LostAt (row f cols) d p → LostAt (body f rows cols) c p
    body_lost m h p k = step_lost (row f cols) (λ _. body f m cols) (code_row cols) (turn_more (row f cols) (lit (41 ∷ 10 ∷ [])) n s m h) (λ _ _. some_body m cols) p k

    pub body_end : n ≡ 0 → (r : Result Cursor ℕ) → ReadsOn (lit (41 ∷ 10 ∷ [])) d r → ReadsOn (body f rows cols) c r
    body_end h r k = going_end (turn_none (row f cols) (lit (41 ∷ 10 ∷ [])) n s h) r k
