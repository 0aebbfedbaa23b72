-- An area read and flooded, and the marks of its mouths in a table. Assumes nothing.
use Rattle.std.proofs.Common.{◌≡◌, ℕ, ◌-◌, ◌*◌, ◌<◌, ◌≤◌, Bool, false, not, eqb, ltb, List, [], ◌∷◌, get_or, Some, None, Ok, Err, Option, Result, sym, refl, ap, ◌∙◌, subst₂, mul-le-mul, arith}
use Rattle.std.specs.List.{slice_get}
use Rattle.std.proofs.lemmas.Nat.{mul-add-lt}
use Rattle.std.proofs.lemmas.Bool.{or_from, le-ltb, eq-eqb}
use Rattle.marks.specs.declared.refusal.Refusal.{Refusal}
use Rattle.marks.specs.Refusals.{accepted}
use Rattle.sheets.specs.declared.copies.Extent.{Extent}
use Rattle.sheets.specs.Copies.{leaving, broken_rows}
use Rattle.sheets.specs.Grids.{Grid}
use Rattle.sheets.specs.Layouts.{bad_side, bad_sides}
use Rattle.sheets.proofs.Checks.{passed, passes}
use Rattle.flood.specs.Calls.{short}
use Rattle.terrain.specs.Blocks.{HoldsBlock, misfits, read_block_told}
use Rattle.terrain.specs.Cells.{place}
use Rattle.terrain.specs.Levels.{LevelsAreSills, HaveOrigins, levels_told, LevelsLeft, OriginsLeft}
use Rattle.terrain.specs.Terrains.{Kind}
use Rattle.tiles.specs.Plans.{Area, height, width}
use Rattle.tiles.specs.Mouths.{mouth_index}
use Rattle.tiles.proofs.Indices.{indexed}
use Rattle.tables.specs.declared.records.MouthRecord.{MouthRecord}
use Rattle.tables.specs.Records.{mouth_with}
use Rattle.surveying.specs.Blocks.{dead_in, BlockFlooded, cell_number}
use Rattle.surveying.specs.Turns.{cells_of}

-- a mouth is a cell of its area
pub number_in : (a : Area) (i j k : ℕ) → mouth_index a i j ≡ Some k → (a.top ≤ i) × (a.left ≤ j) × (cell_number a i j < cells_of a) × ((i - a.top) < height a) × ((j - a.left) < width a)
number_in a i j k e =
    let h = (indexed a i j k e).cell in
    let tall : i - a.top < height a = omega (arith, h) in
    let slim : j - a.left < width a = omega (arith, h) in
    (h.above, h.before, omega (arith, mul-add-lt (i - a.top) (width a) (j - a.left) (height a) tall slim), tall, slim)

-- the first n records are those of the mouths of the area
abbrev pub Marked : {M : Type 0} → Kind M → Area → List M → ℕ → List (MouthRecord M) → Type 0
Marked κ a marks n ys = (k i j : ℕ) → k < n → mouth_index a i j ≡ Some k → slice_get ys k ≡ Some (mouth_with (get_or marks (cell_number a i j) κ.void) None)

good_side : (n : ℕ) → 1 ≤ n → n ≤ 2048 → bad_side n ≡ false
good_side n low high = or_from (ltb n 1) (ltb 2048 n) (le-ltb n 1 low) (le-ltb 2048 n high)

-- cells of good sides, with room enough, are flooded
pub floods : {M X : Type 0} (h w len : ℕ) (ls : List (Option M)) (os : List (Option ℕ)) (hs : List X) → (1 ≤ h) × (h ≤ 2048) → (1 ≤ w) × (w ≤ 2048) → len ≡ h * w → short (h * w) ls os hs ≡ false → levels_told h w len ls os hs ≡ accepted tt
floods h w len ls os hs tall wide long room =
    let sides : bad_sides h w ≡ false = or_from (bad_side h) (bad_side w) (good_side h tall.0 tall.1) (good_side w wide.0 wide.1) in
    let fits : not (eqb len (h * w)) ≡ false = ap not (eq-eqb len (h * w) long) in
    sym (passes (bad_sides h w) 1 ((not (eqb len (h * w)), 4) ∷ (short (h * w) ls os hs, 5) ∷ []) tt (accepted tt) sides
    (passes (not (eqb len (h * w))) 4 ((short (h * w) ls os hs, 5) ∷ []) tt (accepted tt) fits (passes (short (h * w) ls os hs) 5 [] tt (accepted tt) room refl)))

-- what reading and flooding an area told and left
module _ {M : Type 0} (κ : Kind M) (g : Grid M) (a : Area) (h w : ℕ) (is-h : h ≡ height a) (is-w : w ≡ width a) where
  pub none_dead : (len : ℕ) → accepted (tt {0}) ≡ read_block_told g (place a.top a.left) (record { height = h; width = w }) len → dead_in g a ≡ false
  none_dead len e =
      let x : Extent = record { height = h; width = w } in
      let gone : Bool = broken_rows g (place a.top a.left) w h in
      let first = passed (leaving g (place a.top a.left) x) 6 ((misfits x len, 4) ∷ (gone, 7) ∷ []) tt tt e in
      let second = passed (misfits x len) 4 ((gone, 7) ∷ []) tt tt first.1 in
      sym (λ i. broken_rows g (place a.top a.left) (is-w i) (is-h i)) ∙ (passed gone 7 [] tt tt second.1).0

  pub flooded_left : {X : Type 0} (marks : List M) (ls₀ ls : List (Option M)) (os₀ os : List (Option ℕ)) (hs₀ hs : List X) (r : Result (Unit {0}) Refusal) →
      HoldsBlock g (place a.top a.left) (record { height = h; width = w }) marks → LevelsLeft κ h w marks ls₀ ls os₀ os hs₀ hs r → OriginsLeft κ h w marks ls os r → BlockFlooded κ g a marks ls os r
  flooded_left marks ls₀ ls os₀ os hs₀ hs (Err e) read left from = tt
  flooded_left marks ls₀ ls os₀ os hs₀ hs (Ok u) read left from = (
    subst₂ (λ y z. HoldsBlock g (place a.top a.left) (record { height = y; width = z }) marks) is-h is-w read,
    subst₂ (λ y z. LevelsAreSills κ y z marks ls) is-h is-w left.0,
    subst₂ (λ y z. HaveOrigins κ y z marks ls os) is-h is-w from,
  )

-- small sides have a small product
pub few_cells : (y h w : ℕ) → y ≤ 2048 → w ≤ 2048 → y * w ≤ 2048 * 2048
few_cells y h w ly lw = mul-le-mul ly lw
