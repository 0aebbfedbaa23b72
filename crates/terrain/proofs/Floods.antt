-- What a flood of the cells of a sheet leaves. Assumes nothing.
use Rattle.std.proofs.Common.{◌≡◌, ℕ, List, get_or, None, Ok, Err, Option, Result, subst}
use Rattle.marks.specs.declared.refusal.Refusal.{Refusal}
use Rattle.marks.specs.Orders.{OrderLaws}
use Rattle.flood.specs.Calls.{Leaves}
use Rattle.terrain.specs.CellGrounds.{cell_graph}
use Rattle.terrain.specs.Levels.{LevelsLeft, OriginsLeft}
use Rattle.terrain.specs.Terrains.{Kind}
use Rattle.terrain.proofs.Bridges.{found_sill, found_origin}

module _ {M X : Type 0} (κ : Kind M) (O : OrderLaws κ.leb) (rows cols : ℕ) (marks : List M) (ls₀ ls : List (Option M)) (os₀ os : List (Option ℕ)) (hs₀ hs : List X) where
  levels_here : (r : Result (Unit {0}) Refusal) → Leaves (cell_graph κ.leb κ.void rows cols marks) r ls ls₀ os os₀ hs hs₀ → LevelsLeft κ rows cols marks ls₀ ls os₀ os hs₀ hs r
  levels_here (Ok u) h = ((λ v lt. found_sill κ O rows cols marks v lt (get_or ls v None) (get_or os v None) (h.0 v lt)), h.1, h.2)
  levels_here (Err e) h = h

  origins_here : (r : Result (Unit {0}) Refusal) → Leaves (cell_graph κ.leb κ.void rows cols marks) r ls ls₀ os os₀ hs hs₀ → OriginsLeft κ rows cols marks ls os r
  origins_here (Ok u) h = λ v lt. found_origin κ O rows cols marks v lt (get_or ls v None) (get_or os v None) (h.0 v lt)
  origins_here (Err e) h = tt

  -- a flood of a ground of these sides and marks leaves what one of theirs leaves
  same_ground : (rows' cols' : ℕ) (marks' : List M) → rows' ≡ rows → cols' ≡ cols → marks' ≡ marks → (r : Result (Unit {0}) Refusal) → Leaves (cell_graph κ.leb κ.void rows' cols' marks') r ls ls₀ os os₀ hs hs₀ → Leaves (cell_graph κ.leb κ.void rows cols marks) r ls ls₀ os os₀ hs hs₀
  same_ground rows' cols' marks' is-rows is-cols is-marks r h =
      subst (λ xs. Leaves (cell_graph κ.leb κ.void rows cols xs) r ls ls₀ os os₀ hs hs₀) is-marks
      (subst (λ n. Leaves (cell_graph κ.leb κ.void rows n marks') r ls ls₀ os os₀ hs hs₀) is-cols
      (subst (λ n. Leaves (cell_graph κ.leb κ.void n cols' marks') r ls ls₀ os os₀ hs hs₀) is-rows h))

  pub levels_left : (rows' cols' : ℕ) (marks' : List M) → rows' ≡ rows → cols' ≡ cols → marks' ≡ marks → (r : Result (Unit {0}) Refusal) → Leaves (cell_graph κ.leb κ.void rows' cols' marks') r ls ls₀ os os₀ hs hs₀ → LevelsLeft κ rows cols marks ls₀ ls os₀ os hs₀ hs r
  levels_left rows' cols' marks' is-rows is-cols is-marks r h = levels_here r (same_ground rows' cols' marks' is-rows is-cols is-marks r h)

  pub origins_left : (rows' cols' : ℕ) (marks' : List M) → rows' ≡ rows → cols' ≡ cols → marks' ≡ marks → (r : Result (Unit {0}) Refusal) → Leaves (cell_graph κ.leb κ.void rows' cols' marks') r ls ls₀ os os₀ hs hs₀ → OriginsLeft κ rows cols marks ls os r
  origins_left rows' cols' marks' is-rows is-cols is-marks r h = origins_here r (same_ground rows' cols' marks' is-rows is-cols is-marks r h)
