-- The theorems, from the laws of an order. Assumes nothing.
use Rattle.std.proofs.Common.{◌≡◌, ℕ, ◌⊎◌, List, [], ◌∷◌, ◌++◌, sym, ap, inl, inr, ⊎_elim, arith}
use Rattle.std.proofs.ByRecursion.{has_push_cases}
use Rattle.marks.specs.Orders.{OrderLaws}
use Rattle.tiles.specs.Mouths.{mouth_base}
use Rattle.terrain.specs.Terrains.{Kind}
use Rattle.seams.specs.Joins.{Listed}
use Rattle.seams.specs.Surveys.{Further}
use Rattle.seams.specs.Theorems.{Among, SurveysEnd, MouthsSettle, LevelsFinish, TilesFill}
use Rattle.seams.proofs.Finishes.{cell_sill, tiled_sill}
use Rattle.seams.proofs.Settles.{mouth_route, mouth_sill}
use Rattle.seams.proofs.Surveys.{survey_none, survey_skip, survey_keep, survey_one, survey_count, survey_tree}

-- a pair at the end of a list
among_more : (taken : List (ℕ × ℕ)) (u v c d : ℕ) → Among (taken ++ ((u, v) ∷ [])) c d → Among taken c d ⊎ ((c ≡ u) × (d ≡ v))
among_more taken u v c d h = ⊎_elim (λ k. inl k) (λ e. inr (ap (λ (q : ℕ × ℕ). q.0) (sym e), ap (λ (q : ℕ × ℕ). q.1) (sym e))) (has_push_cases taken (u, v) (c, d) h)

module _ {M : Type 0} (κ : Kind M) (O : OrderLaws κ.leb) where
  pub surveys_end : SurveysEnd κ
  surveys_end g p l fit t lt marks levels origins F = record {
    begins = λ labels U. survey_none κ O g p l fit t lt marks levels origins F labels (Among []) U (λ u v h. omega (arith, h.1));
    skips = λ labels passes taken S u v x y n r from to higher low same.
        survey_skip κ O g p l fit t lt marks levels origins F labels passes (Among taken) (Among (taken ++ ((u, v) ∷ []))) S u v r (λ c d _ h. among_more taken u v c d h) x y from to n higher low same;
    keeps = λ labels passes taken S u v x y n r from to higher low apart labels' R.
        survey_keep κ O g p l fit t lt marks levels origins F labels passes (Among taken) (Among (taken ++ ((u, v) ∷ []))) S u v r (λ c d _ h. among_more taken u v c d h) x y from to n higher low apart labels' R;
    ends = λ labels passes taken S all. (
      survey_tree κ O g p l fit t lt marks levels origins F labels passes (Among taken) S all (Further (mouth_base p t) passes) (λ b c n. (λ q. q, λ q. q)),
      survey_count κ O g p l fit t lt marks levels origins F labels passes (Among taken) S all,
      survey_one κ O g p l fit t lt marks levels origins F labels passes (Among taken) S all,
    );
  }

  pub mouths_settle : MouthsSettle κ
  mouths_settle g p l fit passes trees nodes crossings drain N a c is = (
    mouth_route κ O g p l fit (λ t. Listed (passes t)) trees nodes crossings drain N a c is,
    mouth_sill κ O g p l fit (λ t. Listed (passes t)) trees nodes crossings drain N a c is,
  )

  pub levels_finish : LevelsFinish κ
  levels_finish g p l fit t lt marks levels origins F u e n s = cell_sill κ O g p l fit t lt marks levels origins F u e n s

  pub tiles_fill : TilesFill κ
  tiles_fill g p l fit passes trees nodes crossings drain N t lt marks levels origins F u x n s =
      tiled_sill κ O g p l fit (λ t. Listed (passes t)) trees nodes crossings drain N t lt marks levels origins F u x n s
