-- When a survey is refused. Assumes nothing.
use Rattle.std.specs.Prelude.{ℕ, ◌-◌, Bool, not, ◌&&◌, ◌||◌, List, [], ◌∷◌, ◌++◌, length, ◌==◌, nat_le, nat_lt}
use Rattle.marks.specs.Refusals.{Told, checked}
use Rattle.flood.specs.Calls.{short}
use Rattle.sheets.specs.Grids.{Grid}
use Rattle.tiles.specs.Plans.{Plan, tiles, tile_at}
use Rattle.tiles.specs.Mouths.{tile_mouths}
use Rattle.tables.specs.Checks.{tables_short}
use Rattle.seams.specs.Surveys.{tile_cells}
use Rattle.surveying.specs.declared.scratch.SurveyScratch.{SurveyScratch}
use Rattle.surveying.specs.Blocks.{dead_in}

-- the sheet has other sides than the plan
abbrev pub other_sides : {M : Type 0} → Plan → Grid M → Bool
other_sides p g = not (g.rows == p.rows && g.cols == p.cols)

-- a slice lent to work in has fewer places than n cells, or fewer than m mouths, need
abbrev pub work_short : {M : Type 0} → ℕ → ℕ → SurveyScratch M → Bool
work_short n m s = (nat_lt (length s.marks.now) n || short n s.levels.now s.origins.now s.heap.now) || nat_lt (length s.joins.now) m

-- the checks of a survey of tile t of the sheet g, with tables of m mouths and q passes, but for the last
abbrev pub survey_checks : {M : Type 0} → Plan → Grid M → ℕ → ℕ → ℕ → SurveyScratch M → List (Bool × ℕ)
survey_checks p g t m q s =
    (nat_le (tiles p) t, 3) ∷
    (tables_short p m q, 4) ∷
    (other_sides p g, 6) ∷
    (work_short (tile_cells p t) (tile_mouths p t) s, 5) ∷ []

-- what it tells: the last check is whether a cell of the tile is dead, and the answer the number of its passes
abbrev pub survey_told : {M : Type 0} → Plan → Grid M → ℕ → ℕ → ℕ → SurveyScratch M → Told ℕ
survey_told p g t m q s = checked (survey_checks p g t m q s ++ ((dead_in g (tile_at p t), 7) ∷ [])) (tile_mouths p t - 1)
