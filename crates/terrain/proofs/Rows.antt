-- Rows of a rectangle in a list. Assumes nothing.
use Rattle.std.proofs.Common.{◌≡◌, ℕ, ◌+◌, ◌-◌, ◌*◌, ◌<◌, ◌≤◌, Bool, true, false, List, [], ◌∷◌, length, take, drop, sym, ap, ◌∙◌, ⊎_elim, zero-add, arith, length-drop, length-take}
use borrow.Rule.Slice.PartMut.{put_mid, mid_of}
use Rattle.std.proofs.lemmas.Bool.{cases_eq}
use Rattle.marks.specs.Refusals.{refused, checked}
use Rattle.sheets.specs.declared.copies.Place.{Place}
use Rattle.sheets.specs.Grids.{Grid, at}
use Rattle.sheets.specs.Layouts.{flat}
use Rattle.sheets.specs.Runs.{Holds}
use Rattle.sheets.proofs.Marks.{at_take, at_drop, at_before, at_part}
use Rattle.sheets.proofs.Places.{run_end}
use Rattle.terrain.specs.Blocks.{HoldsBlock}

-- a row ends within the rectangle
pub row_end : (h w i : ℕ) → i < h → i * w + w ≤ h * w
row_end h w i lt = omega (arith, run_end h w i 0 w lt (omega arith))

-- one more row that is read
pub block_more : {M : Type 0} (g : Grid M) (p : Place) (w n i : ℕ) (xs ys : List M) → HoldsBlock g p (record { height = i; width = w }) xs → i * w + w ≤ length xs → length ys ≡ w → Holds g (p.row + i) p.col ys → HoldsBlock g p (record { height = i + 1; width = w }) (put_mid (i * w) n xs ys)
block_more g p w n i xs ys sofar inside long read k j hk hj = ⊎_elim
    (λ (e : k ≡ i). ap (λ l. g.cell (p.row + l) (p.col + j)) e ∙ read j (omega arith) ∙ sym (at_part (i * w) n xs ys (omega arith) j (omega arith)) ∙ ap (λ l. at (put_mid (i * w) n xs ys) (l * w + j)) (sym e))
    (λ (ne : k ≡ i → ⊥). let less : k < i = omega arith in
    sofar k j less hj ∙ sym (at_before (i * w) n xs ys (omega arith) (k * w + j) (omega (arith, row_end i w k less))))
    (cases_eq k i)

-- a row of a list that is written
pub row_holds : {M : Type 0} (h w i : ℕ) (xs ys : List M) → i < h → length xs ≡ h * w → ys ≡ take w (drop (i * w) xs) → (k : ℕ) → k < w → (flat h w xs).cell (0 + i) (0 + k) ≡ at ys k
row_holds h w i xs ys lt long e k hk = ap (λ l. at xs l) index ∙ sym (ap (λ zs. at zs k) e ∙ at_take (drop (i * w) xs) w k hk ∙ at_drop xs (i * w) k)
  where
    index : (0 + i) * w + (0 + k) ≡ i * w + k
    index = ap (λ n. n * w + (0 + k)) (zero-add i) ∙ ap (λ n. i * w + n) (zero-add k)

pub part_length : {M : Type 0} (xs : List M) (s w : ℕ) → s + w ≤ length xs → length (mid_of s (s + w - s) xs) ≡ w
part_length xs s w h = simp (length-take, length-drop) (omega arith)

-- a refusal by one check has its number
pub refused_by : {X : Type 0} (b : Bool) (m p n : ℕ) (x : X) → refused m p ≡ checked ((b, n) ∷ []) x → m ≡ n
refused_by true m p n x e = cc
refused_by false m p n x e = let z : ◌≡◌ {A = ℕ} 0 1 = cc in absurd (omega arith)
