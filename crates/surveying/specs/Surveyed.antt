-- What a survey leaves. Assumes nothing.
use Rattle.std.specs.Prelude.{◌≡◌, ℕ, Ok, Err, Result, ◌≢◌}
use Rattle.marks.specs.declared.refusal.Refusal.{Refusal}
use Rattle.marks.specs.Refusals.{number}
use Rattle.sheets.specs.Grids.{Grid}
use Rattle.terrain.specs.Terrains.{Kind}
use Rattle.tiles.specs.Plans.{Plan}
use Rattle.tables.specs.Records.{Tables}
use Rattle.tables.specs.Surveyed.{Recorded, SameElsewhere}
use Rattle.surveying.specs.declared.scratch.SurveyScratch.{SurveyScratch}

-- what it leaves of the tables: accepted, the tile's records; refused, what they held
abbrev pub SurveyLeaves : {M : Type 0} → Kind M → Grid M → Plan → ℕ → Tables M → Tables M → Result ℕ Refusal → Type 0
SurveyLeaves κ g p t w w' (Ok n) = Recorded κ g p t w' × SameElsewhere p t w w'
SurveyLeaves κ g p t w w' (Err e) = w' ≡ w

-- what it leaves of scratch: free once it is accepted, and after a refusal for a dead cell; after any other, what it held
abbrev pub ScratchLeft : {M X : Type 0} → SurveyScratch M → SurveyScratch M → Result X Refusal → Type 0
ScratchLeft s s' (Ok x) = Unit {0}
ScratchLeft s s' (Err e) = (number e ≢ 7) → s' ≡ s

-- the same slices are lent afterwards
pub record SameLoans {M : Type 0} (s s' : SurveyScratch M) : Type 0 where
  pub marks : s'.marks.ghost_name ≡ s.marks.ghost_name
  pub levels : s'.levels.ghost_name ≡ s.levels.ghost_name
  pub origins : s'.origins.ghost_name ≡ s.origins.ghost_name
  pub heap : s'.heap.ghost_name ≡ s.heap.ghost_name
  pub joins : s'.joins.ghost_name ≡ s.joins.ghost_name
