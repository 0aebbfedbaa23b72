-- When the tables are too short. Assumes nothing.
use Rattle.std.specs.Prelude.{ℕ, Bool, ◌||◌, [], ◌∷◌, nat_lt}
use Rattle.marks.specs.Refusals.{Told, checked}
use Rattle.tiles.specs.Plans.{Plan}
use Rattle.tiles.specs.Mouths.{mouths, passes}

-- tables of m mouths and q passes lack a record for some mouth or some pass
abbrev pub tables_short : Plan → ℕ → ℕ → Bool
tables_short p m q = nat_lt m (mouths p) || nat_lt q (passes p)

-- what a call tells that is refused such tables
abbrev pub tables_told : {X : Type 0} → Plan → ℕ → ℕ → X → Told X
tables_told p m q x = checked ((tables_short p m q, 4) ∷ []) x
