-- The line of cuts, part by part. Assumes nothing.
use Rattle.std.proofs.Common.{◌≡◌, ℕ, zero, suc, List, [], ◌∷◌, ◌++◌, length, drop, codes, decimal, sym, refl, ap, ◌∙◌, append_assoc, arith}
use mathlib.Core.List.{append_cancel_left}
use Rattle.grammar.specs.Grammars.{Grammar, Code, After, lit, seq}
use Rattle.grammar.proofs.Theory.{code_lit, code_seq, sofar_none, sofar_turn, sofar_lost}
use Rattle.texts.specs.Cursors.{Behind, LostAt}
use Rattle.texts.specs.declared.cursor.Cursor.{Cursor}
use Rattle.texts.proofs.Going.{Going, going_none, going_lost, step_lost, step_found}
use Rattle.texts.proofs.Heads.{both_found}
use Rattle.brackets.specs.Writes.{blanked}
use Rattle.inputs.specs.Cuts.{UpTo, cuts_line, cuts_lines}
use Rattle.inputs.specs.Steps.{mark, cuts, tail, LineOf, line}
use Rattle.inputs.proofs.Listing.{Each, some, ended_by, same_number}

up_to_each : (n : ℕ) (cs : List ℕ) → UpTo n cs → Each cs
up_to_each n [] h = tt
up_to_each zero (c ∷ cs) h = absurd h
up_to_each (suc n) (c ∷ cs) h = (h.0, up_to_each n cs h.1)

-- no list of cuts begins another
code_list : (ds bs : List ℕ) → Each ds → Each bs → (x : List ℕ) → blanked decimal bs ++ (41 ∷ []) ≡ (blanked decimal ds ++ (41 ∷ [])) ++ x → (ds ≡ bs) × (x ≡ [])
code_list [] [] va vb x e = let none : [] ≡ x = cc in (refl, sym none)
code_list [] (b ∷ bs) va vb x e = let z : ◌≡◌ {A = ℕ} 32 41 = cc in absurd (omega arith)
code_list (a ∷ ds) [] va vb x e = let z : ◌≡◌ {A = ℕ} 41 32 = cc in absurd (omega arith)
code_list (a ∷ ds) (b ∷ bs) va vb x e =
    let tails : (decimal b ++ blanked decimal bs) ++ (41 ∷ []) ≡ ((decimal a ++ blanked decimal ds) ++ (41 ∷ [])) ++ x = cc in
    let rests : decimal b ++ (blanked decimal bs ++ (41 ∷ [])) ≡ decimal a ++ ((blanked decimal ds ++ (41 ∷ [])) ++ x) = sym (append_assoc (decimal b) (blanked decimal bs) (41 ∷ [])) ∙ tails ∙ regroup (decimal a) (blanked decimal ds) x in
    let marked : decimal b ++ (mark (some bs) ∷ tail bs) ≡ decimal a ++ (mark (some ds) ∷ (tail ds ++ x)) = ap (λ w. decimal b ++ w) (sym (ended_by bs)) ∙ rests ∙ ap (λ w. decimal a ++ (w ++ x)) (ended_by ds) in
    let same : b ≡ a = (same_number b a vb.0 va.0 (some bs) (some ds) (tail bs) (tail ds ++ x) marked).0 in
    let rec = code_list ds bs va.1 vb.1 x (append_cancel_left (decimal a) (blanked decimal bs ++ (41 ∷ [])) ((blanked decimal ds ++ (41 ∷ [])) ++ x) (ap (λ n. decimal n ++ (blanked decimal bs ++ (41 ∷ []))) (sym same) ∙ rests)) in
    ((λ i. sym same i ∷ rec.0 i), rec.1)
  where
    regroup : (a b x : List ℕ) → ((a ++ b) ++ (41 ∷ [])) ++ x ≡ a ++ ((b ++ (41 ∷ [])) ++ x)
    regroup a b x = simp append_assoc

pub code_cuts : Code cuts
code_cuts ds bs va vb x e = code_list ds bs (up_to_each 31 ds va) (up_to_each 31 bs vb) x e

abbrev L0 : Grammar (Unit {0})
L0 = lit (codes "(cuts (down")

abbrev L2 : Grammar (Unit {0})
L2 = lit (codes " (across")

abbrev L4 : Grammar (Unit {0})
L4 = lit (41 ∷ 10 ∷ [])

abbrev T3 : Grammar (List ℕ × (Unit {0}))
T3 = seq cuts (λ _. L4)

abbrev T2 : Grammar ((Unit {0}) × (List ℕ × (Unit {0})))
T2 = seq L2 (λ _. T3)

abbrev T1 : Grammar (List ℕ × ((Unit {0}) × (List ℕ × (Unit {0}))))
T1 = seq cuts (λ _. T2)

some3 : (z : List ℕ × (Unit {0})) × T3.valid z
some3 = (([], tt), (tt, tt))

some2 : (z : (Unit {0}) × (List ℕ × (Unit {0}))) × T2.valid z
some2 = ((tt, ([], tt)), (tt, (tt, tt)))

some1 : (z : List ℕ × ((Unit {0}) × (List ℕ × (Unit {0})))) × T1.valid z
some1 = (([], (tt, ([], tt))), (tt, (tt, (tt, tt))))

pub some_line : (z : LineOf) × line.valid z
some_line = ((tt, some1.0), (tt, some1.1))

pub code_line : Code line
code_line =
    code_seq L0 (λ _. T1) (code_lit (codes "(cuts (down")) (λ _ _.
    code_seq cuts (λ _. T2) code_cuts (λ _ _.
    code_seq L2 (λ _. T3) (code_lit (codes " (across")) (λ _ _.
    code_seq cuts (λ _. L4) code_cuts (λ _ _. code_lit (41 ∷ 10 ∷ [])))))

-- the text of a line is the text of its parts
pub line_text : (d a : List ℕ) → cuts_line d a ≡ line.text (tt, (d, (tt, (a, tt))))
line_text d a = regroup (blanked decimal d) (blanked decimal a)
  where
    regroup : (x y : List ℕ) → codes "(cuts" ++ (32 ∷ ((40 ∷ (codes "down" ++ (x ++ (41 ∷ [])))) ++ (32 ∷ (40 ∷ (codes "across" ++ (y ++ (41 ∷ []))))))) ++ (41 ∷ 10 ∷ []) ≡ codes "(cuts (down" ++ ((x ++ (41 ∷ [])) ++ (codes " (across" ++ ((y ++ (41 ∷ [])) ++ (41 ∷ 10 ∷ []))))
    regroup x y = simp append_assoc

pub lines_by_parts : After cuts_lines [] line
lines_by_parts = record {
  to = λ z vz. ((z.1.0, z.1.1.1.0), (vz.1.0, vz.1.1.1.0), line_text z.1.0 z.1.1.1.0);
  from = λ z vz x e. ((tt, (z.0, (tt, (z.1, tt)))), (tt, (vz.0, (tt, (vz.1, tt)))), sym e ∙ line_text z.0 z.1);
}

module _ (c : Cursor) where
  begun : Going line c line c
  begun = going_none line c

  lost : (p : ℕ) → LostAt line c p → LostAt cuts_lines c p
  lost p h = sofar_lost (sofar_turn (sofar_none cuts_lines c.at (drop c.at c.bytes.now)) lines_by_parts) p h

  pub lost0 : (p : ℕ) → LostAt L0 c p → LostAt cuts_lines c p
  lost0 p h = lost p (step_lost L0 (λ _. T1) (code_lit (codes "(cuts (down")) begun (λ _ _. some1) p h)

  module _ (u0 : Unit {0}) (e0 : Cursor) (h0 : Behind L0 c u0 e0) where
    pub going1 : Going line c T1 e0
    going1 = step_found L0 (λ _. T1) (code_lit (codes "(cuts (down")) begun u0 e0 h0

    pub lost1 : (p : ℕ) → LostAt cuts e0 p → LostAt cuts_lines c p
    lost1 p h = lost p (step_lost cuts (λ _. T2) code_cuts going1 (λ _ _. some2) p h)

    module _ (d : List ℕ) (e1 : Cursor) (h1 : Behind cuts e0 d e1) where
      going2 : Going line c T2 e1
      going2 = step_found cuts (λ _. T2) code_cuts going1 d e1 h1

      pub lost2 : (p : ℕ) → LostAt L2 e1 p → LostAt cuts_lines c p
      lost2 p h = lost p (step_lost L2 (λ _. T3) (code_lit (codes " (across")) going2 (λ _ _. some3) p h)

      module _ (u2 : Unit {0}) (e2 : Cursor) (h2 : Behind L2 e1 u2 e2) where
        pub going3 : Going line c T3 e2
        going3 = step_found L2 (λ _. T3) (code_lit (codes " (across")) going2 u2 e2 h2

        pub lost3 : (p : ℕ) → LostAt cuts e2 p → LostAt cuts_lines c p
        lost3 p h = lost p (step_lost cuts (λ _. L4) code_cuts going3 (λ _ _. (tt, tt)) p h)

        module _ (a : List ℕ) (e3 : Cursor) (h3 : Behind cuts e2 a e3) where
          pub lost4 : (p : ℕ) → LostAt L4 e3 p → LostAt cuts_lines c p
          lost4 p h = lost p (going_lost (step_found cuts (λ _. L4) code_cuts going3 a e3 h3) p h)

          pub found4 : (u4 : Unit {0}) (end : Cursor) → Behind L4 e3 u4 end → Behind cuts_lines c (d, a) end
          found4 u4 end h4 =
              let all = both_found L0 (λ _. T1) c e0 end tt (d, (tt, (a, tt))) h0
              (both_found cuts (λ _. T2) e0 e1 end d (tt, (a, tt)) h1
              (both_found L2 (λ _. T3) e1 e2 end tt (a, tt) h2
              (both_found cuts (λ _. L4) e2 e3 end a tt h3 h4))) in
              let is = line_text d a in
              record { same = all.same; found = record { valid = (h1.found.valid, h3.found.valid); after = all.found.after; split = all.found.split ∙ ap (λ w. w ++ all.found.after) (sym is); place = omega (arith, all.found.place, ap length is) } }
