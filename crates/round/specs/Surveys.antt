-- What surveying a tile of a round tells and leaves. Assumes nothing.
use Rattle.std.specs.Prelude.{◌≡◌, ℕ, ◌-◌, true, [], ◌∷◌, Ok, Err, Result, nat_le, slice_set}
use Rattle.marks.specs.declared.refusal.Refusal.{Refusal}
use Rattle.marks.specs.Refusals.{Told, checked}
use Rattle.sheets.specs.Grids.{Grid}
use Rattle.terrain.specs.Terrains.{Kind}
use Rattle.tiles.specs.Plans.{plan_of, tiles, tile_at}
use Rattle.tiles.specs.Mouths.{tile_mouths}
use Rattle.seams.specs.Surveys.{tile_cells}
use Rattle.tables.specs.Checks.{tables_short}
use Rattle.tables.specs.Records.{Tables}
use Rattle.tables.specs.Surveyed.{Recorded, SameElsewhere}
use Rattle.surveying.specs.declared.scratch.SurveyScratch.{SurveyScratch}
use Rattle.surveying.specs.Blocks.{dead_in}
use Rattle.surveying.specs.Checks.{other_sides, work_short}
use Rattle.round.specs.declared.rounds.Round.{Round}
use Rattle.round.specs.Rounds.{is_settled, is_surveyed}

-- what surveying tile t of the sheet g tells, with tables of m mouths and q passes: settled already, no such tile, tile
-- surveyed already, a table too short, a sheet with other sides, scratch too short, a dead cell in the tile; else the
-- number of the tile's passes
abbrev pub survey_told : {M : Type 0} → Round → Grid M → ℕ → ℕ → ℕ → SurveyScratch M → Told ℕ
survey_told r g t m q s = checked (
    (is_settled r.state, 22) ∷
    (nat_le (tiles (plan_of r.cuts)) t, 3) ∷
    (is_surveyed r t, 21) ∷
    (tables_short (plan_of r.cuts) m q, 4) ∷
    (other_sides (plan_of r.cuts) g, 6) ∷
    (work_short (tile_cells (plan_of r.cuts) t) (tile_mouths (plan_of r.cuts) t) s, 5) ∷
    (dead_in g (tile_at (plan_of r.cuts) t), 7) ∷ [])
    (tile_mouths (plan_of r.cuts) t - 1)

-- the same round, with tile t surveyed
pub record NowSurveyed (r : Round) (t : ℕ) (r' : Round) : Type 0 where
  pub cuts : r'.cuts ≡ r.cuts
  pub state : r'.state ≡ r.state
  pub surveyed : r'.surveyed ≡ slice_set r.surveyed t true

-- what it leaves: accepted, the tile is surveyed, its records are those of a survey of the sheet, and no others changed;
-- refused, all is as it was
abbrev pub SurveyLeaves : {M : Type 0} → Kind M → Grid M → ℕ → Round → Round → Tables M → Tables M → Result ℕ Refusal → Type 0
SurveyLeaves κ g t r r' w w' (Ok n) = NowSurveyed r t r' × Recorded κ g (plan_of r.cuts) t w' × SameElsewhere (plan_of r.cuts) t w w'
SurveyLeaves κ g t r r' w w' (Err e) = (r' ≡ r) × (w' ≡ w)
