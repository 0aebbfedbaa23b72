-- A sheet that is filled into a raster. Assumes nothing.
use Rattle.std.proofs.Common.{◌≡◌, ℕ, zero, suc, ◌+◌, ◌*◌, ◌<◌, ◌≤◌, true, false, not, ◌&&◌, eqb, ltb, List, [], ◌∷◌, ◌++◌, length, Ok, Err, Vec, vec_items, sym, refl, ap, ◌∙◌, ⊎_elim, zero-add, arith}
use Rattle.std.specs.declared.alloc.Global.{Global}
use Rattle.std.proofs.lemmas.Bool.{le-ltb, or_from}
use Rattle.std.proofs.lemmas.Bool.Decides.{eqb_tells}
use Rattle.marks.specs.Refusals.{accepted, refused, checked, number, placed}
use Rattle.marks.specs.declared.refusal.Refusal.{Refusal}
use Rattle.marks.specs.declared.refusal.Refusal.TheVariants.{NoMemory}
use Rattle.sheets.specs.Grids.{Grid, is_dead, Side}
use Rattle.sheets.specs.Runs.{broken}
use Rattle.sheets.specs.Copies.{broken_rows}
use Rattle.terrain.specs.Fills.{dead_in}
use Rattle.terrain.specs.Cells.{place}
use Rattle.sheets.specs.Layouts.{flat, bad_side, bad_sides, make_told}
use Rattle.sheets.proofs.Checks.{past, passed, answer, not_refused}
use Rattle.sheets.proofs.Spans.{unbroken, flat_unbroken}
use Rattle.sheets.proofs.Places.{run_end}
use Rattle.terrain.specs.Fills.{other_sides, raised, FilledSheet}
use Rattle.texts.specs.Texts.{Readable, text_of}
use Rattle.brackets.specs.Writes.{MemoryTold}
use Rattle.answers.specs.Printed.{Coded, Printed, raised_line}

same_test : (a b : ℕ) → a ≡ b → eqb a b ≡ true
same_test a b e = ⊎_elim (λ p. p.0) (λ p. absurd (p.1 e)) (eqb_tells a b)

-- a raster of lawful sides over a slice of its size is made
good_side : (n : ℕ) → Side n → bad_side n ≡ false
good_side n h = or_from (ltb n 1) (ltb 2048 n) (le-ltb n 1 h.0) (le-ltb 2048 n h.1)

pub is_made : {X : Type 0} (rows cols len want : ℕ) (x : X) → Side rows → Side cols → len ≡ want → (m p : ℕ) → refused m p ≡ make_told rows cols len want x → ⊥
is_made rows cols len want x r c e m p told =
    not_refused m p x (past (not (eqb len want)) 4 [] x (refused m p) (ap not (same_test len want e))
    (past (bad_sides rows cols) 1 ((not (eqb len want), 4) ∷ []) x (refused m p) (or_from (bad_side rows) (bad_side cols) (good_side rows r) (good_side cols c)) told))

-- every row of a sheet is whole, if no cell of it is dead
module _ {M : Type 0} (g : Grid M) where
  rows_live : ((i : ℕ) → i < g.rows → broken g i 0 g.cols ≡ false) → (n : ℕ) → n ≤ g.rows → broken_rows g (place 0 0) g.cols n ≡ false
  rows_live h zero k = refl
  rows_live h (suc n) k = or_from (broken g (0 + n) 0 g.cols) (broken_rows g (place 0 0) g.cols n) (ap (λ i. broken g i 0 g.cols) (zero-add n) ∙ h n (omega arith)) (rows_live h n (omega arith))

  pub readable_live : Readable g → dead_in g ≡ false
  readable_live rd = rows_live (λ i hi. unbroken g i 0 g.cols (λ k hk. let m = rd i (0 + k) hi (omega arith) in ap is_dead m.1)) g.rows (omega arith)

pub flat_live : {M : Type 0} (rows cols : ℕ) (xs : List M) → length xs ≡ rows * cols → dead_in (flat rows cols xs) ≡ false
flat_live rows cols xs long = rows_live (flat rows cols xs) (λ i hi. flat_unbroken rows cols xs i 0 cols (omega (arith, run_end rows cols i 0 cols hi (omega arith)))) rows (omega arith)

-- a sheet without dead cells is filled into one of its sides
same_sides : {M : Type 0} (g h : Grid M) → h.rows ≡ g.rows → h.cols ≡ g.cols → other_sides g h ≡ false
same_sides g h r c = (λ i. not (same_test g.rows h.rows (sym r) i && same_test g.cols h.cols (sym c) i))

module _ {M : Type 0} (g h : Grid M) (rows : h.rows ≡ g.rows) (cols : h.cols ≡ g.cols) (live : dead_in g ≡ false) where
  pub is_filled : {X : Type 0} (x : X) (m p : ℕ) → refused m p ≡ checked ((other_sides g h, 6) ∷ (dead_in g, 7) ∷ []) x → ⊥
  is_filled x m p told = not_refused m p x (past (dead_in g) 7 [] x (refused m p) live (past (other_sides g h) 6 ((dead_in g, 7) ∷ []) x (refused m p) (same_sides g h rows cols) told))

  pub is_printed : (κ : Coded M) (h' : Grid M) (n : ℕ) (text out : List ℕ) → accepted n ≡ checked ((other_sides g h, 6) ∷ (dead_in g, 7) ∷ []) (raised κ.kind g h') → FilledSheet κ.kind g h h' → text ≡ text_of κ.word κ.spelled h' → out ≡ text ++ raised_line n → Printed κ g out
  is_printed κ h' n text out told filled e is =
      let x = raised κ.kind g h' in
      let p = passed (other_sides g h) 6 ((dead_in g, 7) ∷ []) n x told in
      let q = passed (dead_in g) 7 [] n x p.1 in
      let count : n ≡ x = answer n x q.1 in
      record {
        sheet = h';
        filled = record { rows = filled.rows ∙ rows; cols = filled.cols ∙ cols; cells = filled.cells };
        is = is ∙ (λ i. e i ++ raised_line (count i));
      }

-- the text of a sheet without dead cells, with scratch for a row: only want of memory refuses it
module _ {M : Type 0} (word : List ℕ) (f : M → List ℕ) (g : Grid M) (room : ℕ) where
  pub no_memory : (e : Refusal) → g.cols ≤ room → dead_in g ≡ false → MemoryTold word f g room (Err e) → e ≡ NoMemory
  no_memory e wide live told =
      let w = text_of word f g in
      let r = refused (number e) (placed e) in
      ⊎_elim
      (λ t. absurd (not_refused (number e) (placed e) w (past (dead_in g) 7 [] w r live (past (ltb room g.cols) 5 ((dead_in g, 7) ∷ []) w r (le-ltb room g.cols wide) t))))
      (λ n. n.0)
      told

  pub text_in_memory : (v : Vec ℕ Global) → MemoryTold word f g room (Ok v) → vec_items v ≡ text_of word f g
  text_in_memory v told =
      let w = text_of word f g in
      let p = passed (ltb room g.cols) 5 ((dead_in g, 7) ∷ []) (vec_items v) w told in
      let q = passed (dead_in g) 7 [] (vec_items v) w p.1 in answer (vec_items v) w q.1
