-- Places with marks, the walks among them, the ways out, and the sill of a place. Assumes nothing.
use Rattle.std.specs.Prelude.{◌≡◌, Bool, true, List, [], ◌∷◌}
use Rattle.marks.specs.Orders.{highest}

-- A terrain: how marks compare, each node's mark, which nodes touch, which may be stepped on, and where a way may end.
pub record Terrain (M N : Type 0) : Type 1 where
  pub leb : M → M → Bool
  pub mark : N → M
  pub Touch : N → N → Type 0
  pub Open : N → Type 0
  pub Outlet : N → Type 0

-- The last node of the list c ∷ ds.
abbrev pub last : {N : Type 0} → N → List N → N
last c [] = c
last c (d ∷ ds) = last d ds

module _ {M N : Type 0} (G : Terrain M N) where
  -- The mark a is at most b.
  abbrev pub AtMost : M → M → Type 0
  AtMost a b = G.leb a b ≡ true

  -- A node touches each that touches it.
  abbrev pub Symmetric : Type 0
  Symmetric = (u v : N) → G.Touch u v → G.Touch v u

  -- The list c ∷ ds is a walk: all its nodes are open, and each touches the next.
  abbrev pub Walk : N → List N → Type 0
  Walk c [] = G.Open c
  Walk c (d ∷ ds) = G.Open c × G.Touch c d × Walk d ds

  -- The highest mark on the list c ∷ ds.
  abbrev pub worst : N → List N → M
  worst c [] = G.mark c
  worst c (d ∷ ds) = highest G.leb (G.mark c) (worst d ds)

  -- The list c ∷ ds is a way out from c: a walk that ends in an outlet.
  abbrev pub Way : N → List N → Type 0
  Way c ds = Walk c ds × G.Outlet (last c ds)

  -- m is the sill of c: some way from c has worst mark m, and none a lower one.
  pub record IsSill (c : N) (m : M) : Type 0 where
    pub reached : (ds : List N) × Way c ds × (worst c ds ≡ m)
    pub least : (ds : List N) → Way c ds → AtMost m (worst c ds)
