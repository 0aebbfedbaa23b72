-- What a survey tells, check by check. Assumes nothing.
use Rattle.std.proofs.Common.{◌≡◌, ℕ, ◌-◌, ◌<◌, ◌≤◌, Bool, false, ◌||◌, ltb, leb, List, [], ◌∷◌, length, Ok, Err, Result, sym, ap, ◌∙◌}
use Rattle.std.proofs.lemmas.Bool.{leb-false, ltb-false, or_parts}
use Rattle.marks.specs.declared.refusal.Refusal.{Refusal}
use Rattle.marks.specs.Refusals.{Told, told, accepted, checked, number, placed}
use Rattle.sheets.specs.Grids.{Grid}
use Rattle.sheets.proofs.Checks.{passes, passed}
use Rattle.flood.specs.Calls.{short}
use Rattle.terrain.proofs.Rows.{refused_by}
use Rattle.tiles.specs.Plans.{Plan, Area, tiles, tile_at, height, width, tile_checks}
use Rattle.tiles.specs.Mouths.{border, tile_mouths}
use Rattle.tables.specs.Checks.{tables_short}
use Rattle.seams.specs.Surveys.{tile_cells}
use Rattle.surveying.specs.declared.scratch.SurveyScratch.{SurveyScratch}
use Rattle.surveying.specs.Blocks.{dead_in}
use Rattle.surveying.specs.Checks.{other_sides, work_short, survey_told}
use Rattle.surveying.specs.Surveyed.{ScratchLeft}
use Rattle.surveying.specs.Turns.{cells_of}

-- a tile that was told is there
pub tile_found : (p : Plan) (t : ℕ) (a : Area) → accepted a ≡ checked (tile_checks p t) (tile_at p t) → t < tiles p
tile_found p t a e = leb-false (tiles p) t (passed (leb (tiles p) t) 3 [] a (tile_at p t) e).0

-- scratch that is not short
pub record Roomy {M : Type 0} (n m : ℕ) (s : SurveyScratch M) : Type 0 where
  pub marks : n ≤ length s.marks.now
  pub cells : short n s.levels.now s.origins.now s.heap.now ≡ false
  pub joins : m ≤ length s.joins.now

pub roomy : {M : Type 0} (n m : ℕ) (s : SurveyScratch M) → false ≡ work_short n m s → Roomy n m s
roomy n m s e =
    let b = or_parts (ltb (length s.marks.now) n || short n s.levels.now s.origins.now s.heap.now) (ltb (length s.joins.now) m) (sym e) in
    let d = or_parts (ltb (length s.marks.now) n) (short n s.levels.now s.origins.now s.heap.now) b.0 in
    record { marks = ltb-false (length s.marks.now) n d.0; cells = d.1; joins = ltb-false (length s.joins.now) m b.1 }

-- scratch after the work
pub scratch_left : {M : Type 0} (s s' : SurveyScratch M) (b : Bool) (n : ℕ) (r : Result ℕ Refusal) → told r ≡ checked ((b, 7) ∷ []) n → ScratchLeft s s' r
scratch_left s s' b n (Ok x) e = tt
scratch_left s s' b n (Err r) e = λ other. absurd (other (refused_by b (number r) (placed r) 7 n e))

module _ {M : Type 0} (p : Plan) (g : Grid M) (t m q : ℕ) (s : SurveyScratch M) where
  last : List (Bool × ℕ)
  last = (dead_in g (tile_at p t), 7) ∷ []

  third : List (Bool × ℕ)
  third = (work_short (tile_cells p t) (tile_mouths p t) s, 5) ∷ last

  second : List (Bool × ℕ)
  second = (other_sides p g, 6) ∷ third

  first : List (Bool × ℕ)
  first = (tables_short p m q, 4) ∷ second

  module _ (there : leb (tiles p) t ≡ false) where
    past_tile : (r : Told ℕ) → r ≡ checked first (tile_mouths p t - 1) → r ≡ survey_told p g t m q s
    unfolding last third second first
    past_tile r e = passes (leb (tiles p) t) 3 first (tile_mouths p t - 1) r there e

    module _ (long : false ≡ tables_short p m q) where
      past_tables : (r : Told ℕ) → r ≡ checked second (tile_mouths p t - 1) → r ≡ survey_told p g t m q s
      unfolding first
      past_tables r e = past_tile r (passes (tables_short p m q) 4 second (tile_mouths p t - 1) r (sym long) e)

      module _ (same : false ≡ other_sides p g) (a : Area) (is : a ≡ tile_at p t) where
        past_sides : (r : Told ℕ) → r ≡ checked third (tile_mouths p t - 1) → r ≡ survey_told p g t m q s
        unfolding second
        past_sides r e = past_tables r (passes (other_sides p g) 6 third (tile_mouths p t - 1) r (sym same) e)

        at_tile : work_short (cells_of a) (border (height a) (width a)) s ≡ work_short (tile_cells p t) (tile_mouths p t) s
        at_tile = ap (λ z. work_short (cells_of z) (border (height z) (width z)) s) is

        pub tells_rest : false ≡ work_short (cells_of a) (border (height a) (width a)) s → (r : Told ℕ) → r ≡ checked ((dead_in g (tile_at p t), 7) ∷ []) (tile_mouths p t - 1) → r ≡ survey_told p g t m q s
        unfolding last third
        tells_rest room r e = past_sides r (passes (work_short (tile_cells p t) (tile_mouths p t) s) 5 last (tile_mouths p t - 1) r (sym (room ∙ at_tile)) e)
