-- The text of a sheet in memory of just its length. Assumes nothing.
use Rattle.std.proofs.Common.{◌≡◌, ℕ, ◌≤◌, true, false, cond, ◌||◌, ltb, List, [], ◌∷◌, ◌++◌, length, take, drop, sym, ap, ◌∙◌, append-nil, arith}
use Rattle.std.proofs.lemmas.Bool.{le-ltb}
use Rattle.std.proofs.lemmas.List.{take_at, drop_all}
use Rattle.marks.specs.Refusals.{Told, refused, checked}
use Rattle.sheets.specs.Grids.{Grid}
use Rattle.sheets.proofs.Checks.{past, not_refused}
use Rattle.terrain.specs.declared.scratch.Scratch.{Scratch}
use Rattle.terrain.specs.Terrains.{Kind}
use Rattle.terrain.specs.Fills.{other_sides, size, scratch_short, raised, fill_told}
use Rattle.texts.specs.Texts.{text_of}
use Rattle.terrain.specs.Fills.{dead_in}
use Rattle.brackets.specs.Writes.{length_told, writing_told}

module _ {M : Type 0} (word : List ℕ) (f : M → List ℕ) (g : Grid M) (room : ℕ) (wide : g.cols ≤ room) (live : dead_in g ≡ false) where
  abbrev n : ℕ
  n = length (text_of word f g)

  pub length_answers : (m p : ℕ) → refused m p ≡ length_told word f g room → ⊥
  length_answers m p e =
      not_refused m p n (past (dead_in g) 7 [] n (refused m p) live (past (ltb room g.cols) 5 ((dead_in g, 7) ∷ []) n (refused m p) (le-ltb room g.cols wide) e))

  pub writing_answers : (space m p : ℕ) → n ≤ space → refused m p ≡ writing_told word f g room space → ⊥
  writing_answers space m p fits e =
      not_refused m p n (past (ltb space n) 9 [] n (refused m p) (le-ltb space n fits)
      (past (dead_in g) 7 ((ltb space n, 9) ∷ []) n (refused m p) live
      (past (ltb room g.cols) 5 ((dead_in g, 7) ∷ (ltb space n, 9) ∷ []) n (refused m p) (le-ltb room g.cols wide) e)))

-- a buffer that the text fills
pub filled_by : (text before out : List ℕ) (len : ℕ) (rest : List ℕ) → out ≡ text ++ drop (length text) before → length before ≡ len → len ≡ length text → take len (out ++ rest) ≡ text
filled_by text before out len rest e long is =
    let all : out ≡ text = e ∙ ap (λ w. text ++ w) (drop_all (length text) before (omega arith)) ∙ append-nil text in
    ap (λ w. take len (w ++ rest)) all ∙ take_at text rest len (sym is)

-- with slices that are long enough, filling is refused for the sides or for a dead cell alone
pub enough : {M : Type 0} (κ : Kind M) (g h h' : Grid M) (s : Scratch M) (t : Told ℕ) → size g ≤ length s.marks.now → size g ≤ length s.levels.now → size g ≤ length s.origins.now → size g ≤ length s.heap.now → t ≡ fill_told κ g h h' s → t ≡ checked ((other_sides g h, 6) ∷ (dead_in g, 7) ∷ []) (raised κ g h')
enough κ g h h' s t a b c d e =
    let n = size g in
    let long : scratch_short n s ≡ false = (λ i. le-ltb (length s.marks.now) n a i || cond (le-ltb (length s.levels.now) n b i) true (cond (le-ltb (length s.origins.now) n c i) true (le-ltb (length s.heap.now) n d i))) in
    e ∙ ap (λ v. checked ((other_sides g h, 6) ∷ (v, 5) ∷ (dead_in g, 7) ∷ []) (raised κ g h')) long
