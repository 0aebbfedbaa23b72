-- The filled surface: the lowest one on which water runs out from everywhere. Assumes nothing.
use Rattle.std.specs.Prelude.{List, [], ◌∷◌}
use Rattle.std.specs.List.{ContainsAt as Has}
use Rattle.terrain.specs.Ways.{Terrain, AtMost, Way}

module _ {M N : Type 0} (G : Terrain M N) where
  -- The list has every open node.
  abbrev pub Lists : List N → Type 0
  Lists all = (c : N) → G.Open c → Has all c

  -- c has a way out.
  abbrev pub HasWay : N → Type 0
  HasWay c = (ds : List N) × Way G c ds

  -- The surface w never climbs along the list c ∷ ds.
  abbrev pub Falls : (N → M) → N → List N → Type 0
  Falls w c [] = Unit {0}
  Falls w c (d ∷ ds) = AtMost G (w d) (w c) × Falls w d ds

  -- Of the nodes with a way out: the surface w is nowhere below the ground, and from each there is a way out along which w never climbs.
  pub record Runs (w : N → M) : Type 0 where
    pub above : (c : N) → HasWay c → AtMost G (G.mark c) (w c)
    pub down : (c : N) → HasWay c → (ds : List N) × Way G c ds × Falls w c ds

  -- w is such a surface, and at most each such surface.
  pub record Filled (w : N → M) : Type 0 where
    pub runs : Runs w
    pub lowest : (v : N → M) → Runs v → (c : N) → HasWay c → AtMost G (w c) (v c)
