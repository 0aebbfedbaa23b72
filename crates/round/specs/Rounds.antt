-- What a round remembers, and which calls it takes. Assumes nothing.
use Rattle.std.specs.Prelude.{ℕ, zero, suc, Bool, true, false, not, ◌||◌, List, [], ◌∷◌, nat_le, slice_index_or}
use Rattle.tiles.specs.Plans.{plan_of, tiles}
use Rattle.round.specs.declared.rounds.Round.{Round}
use Rattle.round.specs.declared.rounds.State.{State}
use Rattle.round.specs.declared.rounds.State.TheVariants.{Open, Settled}
use Rattle.round.specs.declared.calls.Call.{Call}
use Rattle.round.specs.declared.calls.Call.TheVariants.{Survey, Settle, Finish}

-- the round is settled
abbrev pub is_settled : State → Bool
is_settled Open = false
is_settled Settled = true

-- the tile t is surveyed
abbrev pub is_surveyed : Round → ℕ → Bool
is_surveyed r t = slice_index_or r.surveyed t false

-- some tile below n is not surveyed
abbrev pub missing_below : (ℕ → Bool) → ℕ → Bool
missing_below surveyed zero = false
missing_below surveyed (suc n) = not (surveyed n) || missing_below surveyed n

-- some tile of the round is not surveyed
abbrev pub tiles_missing : Round → Bool
tiles_missing r = missing_below (is_surveyed r) (tiles (plan_of r.cuts))

-- what the state of a round refuses of a call, in this order: a survey of a settled round, of a tile that is not there, of a
-- surveyed tile; a settling of a settled round, or with tiles missing; a finishing of an open round, or of a tile that is
-- not there
abbrev pub call_checks : Round → Call → List (Bool × ℕ)
call_checks r (Survey t) = (is_settled r.state, 22) ∷ (nat_le (tiles (plan_of r.cuts)) t, 3) ∷ (is_surveyed r t, 21) ∷ []
call_checks r Settle = (is_settled r.state, 22) ∷ (tiles_missing r, 23) ∷ []
call_checks r (Finish t) = (not (is_settled r.state), 24) ∷ (nat_le (tiles (plan_of r.cuts)) t, 3) ∷ []
