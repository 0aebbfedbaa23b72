-- What settling a round tells and leaves. Assumes nothing.
use Rattle.std.specs.Prelude.{◌≡◌, ℕ, [], ◌∷◌, Ok, Err, Result}
use Rattle.marks.specs.declared.refusal.Refusal.{Refusal}
use Rattle.marks.specs.Refusals.{Told, checked}
use Rattle.terrain.specs.declared.scratch.Scratch.{Scratch}
use Rattle.terrain.specs.Fills.{scratch_short}
use Rattle.terrain.specs.Terrains.{Kind}
use Rattle.tiles.specs.Plans.{plan_of}
use Rattle.tiles.specs.Mouths.{mouths}
use Rattle.tables.specs.Checks.{tables_short}
use Rattle.tables.specs.Records.{Tables}
use Rattle.settling.specs.Sills.{Settled}
use Rattle.round.specs.declared.rounds.Round.{Round}
use Rattle.round.specs.declared.rounds.State as states
use Rattle.round.specs.Rounds.{is_settled, tiles_missing}

-- what settling tells, where the tables have m mouths and q passes: settled already, tiles missing, a table too short,
-- scratch too short for all mouths
abbrev pub settle_told : {M : Type 0} → Round → ℕ → ℕ → Scratch M → Told (Unit {0})
settle_told r m q s = checked (
    (is_settled r.state, 22) ∷
    (tiles_missing r, 23) ∷
    (tables_short (plan_of r.cuts) m q, 4) ∷
    (scratch_short (mouths (plan_of r.cuts)) s, 5) ∷ [])
    tt

-- the same round, settled
pub record NowSettled (r r' : Round) : Type 0 where
  pub cuts : r'.cuts ≡ r.cuts
  pub state : r'.state ≡ states.TheVariants.Settled
  pub surveyed : r'.surveyed ≡ r.surveyed

-- what settling leaves: accepted, the round is settled and each mouth has its level for its sill; refused, all is as it was
abbrev pub SettleLeaves : {M : Type 0} → Kind M → Round → Round → Tables M → Tables M → Result (Unit {0}) Refusal → Type 0
SettleLeaves κ r r' w w' (Ok u) = NowSettled r r' × Settled κ (plan_of r.cuts) w w'
SettleLeaves κ r r' w w' (Err e) = (r' ≡ r) × (w' ≡ w)
