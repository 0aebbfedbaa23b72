use Rattle.std.proofs.Common.{◌≡◌, ℕ, ◌-◌, ◌<◌, Bool, false, leb, List, [], ◌∷◌, length, refl, arith}
use Rattle.std.proofs.lemmas.Result.{err_from_is_err_and}
use Rattle.std.proofs.lemmas.Bool.{leb-false}
use Rattle.marks.specs.Refusals.{Told, accepted, refused, checked}
use Rattle.sheets.specs.Grids.{Grid}
use Rattle.sheets.proofs.Checks.{past, passed, refused_first, passed_first}
use Rattle.tiles.specs.Plans.{plan_of, tiles, tile_at}
use Rattle.tiles.specs.Mouths.{tile_mouths}
use Rattle.tiles.proofs.Tilings.{lawful_plan, tiles_few}
use Rattle.seams.specs.Surveys.{tile_cells}
use Rattle.tables.specs.Checks.{tables_short}
use Rattle.surveying.specs.declared.scratch.SurveyScratch.{SurveyScratch}
use Rattle.surveying.specs.Blocks.{dead_in}
use Rattle.surveying.specs.Checks as tile
use Rattle.surveying.specs.Checks.{other_sides, work_short}
use Rattle.round.specs.declared.rounds.Round.{Round}
use Rattle.round.specs.declared.calls.Call.TheVariants.{Survey}
use Rattle.round.specs.Rounds.{is_settled, is_surveyed, call_checks}
use Rattle.round.specs.Surveys.{survey_told}
use Rattle.round.proofs.rounds.Round.survey.Goals as goal

module _ {M : Type 0} (r : Round) (g : Grid M) (t m q : ℕ) (s : SurveyScratch M) where
  -- the checks behind those of the state
  rest : List (Bool × ℕ)
  rest =
      (tables_short (plan_of r.cuts) m q, 4)
      ∷ (other_sides (plan_of r.cuts) g, 6)
      ∷ (work_short (tile_cells (plan_of r.cuts) t) (tile_mouths (plan_of r.cuts) t) s, 5)
      ∷ (dead_in g (tile_at (plan_of r.cuts) t), 7)
      ∷ []

  -- refused by the round's state
  by_state : (n p : ℕ) → refused n p ≡ checked (call_checks r (Survey t)) (tt {0}) → refused n p ≡ survey_told r g t m q s
  unfolding rest
  by_state n p e = refused_first (call_checks r (Survey t)) rest n p tt (tile_mouths (plan_of r.cuts) t - 1) e

  -- the tile is there
  there : accepted (tt {0}) ≡ checked (call_checks r (Survey t)) (tt {0}) → leb (tiles (plan_of r.cuts)) t ≡ false
  there e =
      let a = passed (is_settled r.state) 22 ((leb (tiles (plan_of r.cuts)) t, 3) ∷ (is_surveyed r t, 21) ∷ []) tt tt e in
      (passed (leb (tiles (plan_of r.cuts)) t) 3 ((is_surveyed r t, 21) ∷ []) tt tt a.1).0

  -- what the survey of the tile tells, the round tells
  by_tile : (x : Told ℕ) → accepted (tt {0}) ≡ checked (call_checks r (Survey t)) (tt {0}) → x ≡ tile.survey_told (plan_of r.cuts) g t m q s → x ≡ survey_told r g t m q s
  unfolding rest
  by_tile x e h =
      passed_first (call_checks r (Survey t)) rest tt tt (tile_mouths (plan_of r.cuts) t - 1) x e
      (past (leb (tiles (plan_of r.cuts)) t) 3 rest (tile_mouths (plan_of r.cuts) t - 1) x (there e) h)

  -- its flag
  flagged : accepted (tt {0}) ≡ checked (call_checks r (Survey t)) (tt {0}) → t < 1024
  flagged e = omega (arith, leb-false (tiles (plan_of r.cuts)) t (there e), tiles_few (plan_of r.cuts) (lawful_plan r.cuts))

pub returns-in_err-decide : goal.returns-in_err-decide
returns-in_err-decide g c =
    let p = err_from_is_err_and c.from_residual.result c.from_residual.ensures.1 in
    rw (p.1, p.2) (record {
      told = by_state c.args.self.now (g.S.Sheet.meaning c.args.source.now) c.args.tile (length c.args.mouths.now) (length c.args.passes.now) c.args.scratch.now _ _ c.in_err-decide.ensures;
      leaves = (refl, refl);
      scratch = λ _. refl;
      loans = record { marks = refl; levels = refl; origins = refl; heap = refl; joins = refl };
    })

pub bounds-self-tile : goal.bounds-self-tile
bounds-self-tile g c = flagged c.args.self.now (g.S.Sheet.meaning c.args.source.now) c.args.tile (length c.args.mouths.now) (length c.args.passes.now) c.args.scratch.now c.in_ok-decide.ensures

pub returns : goal.returns
returns g c =
    let e = c.in_ok-count.ensures in
    record {
      told = by_tile c.args.self.now (g.S.Sheet.meaning c.args.source.now) c.args.tile (length c.args.mouths.now) (length c.args.passes.now) c.args.scratch.now _ c.in_ok-decide.ensures e.told;
      leaves = (record { cuts = refl; state = refl; surveyed = refl }, e.leaves.0, e.leaves.1);
      scratch = tt;
      loans = e.loans;
    }
