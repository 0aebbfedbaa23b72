-- A terrain cut into tiles: the mouths of a tile, the passes between them, and the graph of mouths. Assumes nothing.
use Rattle.std.specs.Prelude.{◌≡◌, ℕ, Bool, true, ◌⊎◌, ◌↔◌, ◌≢◌}
use Rattle.marks.specs.Orders.{highest}
use Rattle.terrain.specs.Ways.{Terrain, AtMost}
use Rattle.terrain.specs.Under.{Under}

-- A tiling: each node's tile, and which nodes are mouths, through which alone one may leave a tile.
pub record Tiling (N : Type 0) : Type 1 where
  pub tile : N → ℕ
  pub Mouth : N → Type 0

-- Passes: pairs of nodes, each pair at a level.
abbrev pub Passes : Type 0 → Type 0 → Type 1
Passes M N = N → N → M → Type 0

-- A chain from a to b over passes, in either direction, each at level t at most. From a node to itself the empty chain does.
pub data Chain {M N : Type 0} (leb : M → M → Bool) (P : Passes M N) (t : M) : N → N → Type 0 where
  stay : {a : N} → Chain leb P t a a
  hop : {a b c : N} {l : M} → P a b l ⊎ P b a l → leb l t ≡ true → Chain leb P t b c → Chain leb P t a c

-- The same terrain with each step from tile to tile cut.
abbrev pub cut : {M N : Type 0} → Terrain M N → Tiling N → Terrain M N
cut G T = record {
  leb = G.leb;
  mark = G.mark;
  Touch = λ u v. G.Touch u v × (T.tile u ≡ T.tile v);
  Open = G.Open;
  Outlet = G.Outlet;
}

-- The terrain of tile k alone: walks stay in it, and ways end at its mouths.
abbrev pub own : {M N : Type 0} → Terrain M N → Tiling N → ℕ → Terrain M N
own G T k = record {
  leb = G.leb;
  mark = G.mark;
  Touch = G.Touch;
  Open = λ c. G.Open c × (T.tile c ≡ k);
  Outlet = T.Mouth;
}

module _ {M N : Type 0} (G : Terrain M N) (T : Tiling N) where
  -- Mouths are open, nodes of different tiles that touch are mouths, and so are outlets.
  pub record Tiled : Type 0 where
    pub clear : (c : N) → T.Mouth c → G.Open c
    pub seams : (u v : N) → G.Open u → G.Open v → G.Touch u v → (T.tile u ≢ T.tile v) → T.Mouth u × T.Mouth v
    pub outlets : (c : N) → G.Open c → G.Outlet c → T.Mouth c

  -- A walk from u to v that stays in its tile, on which every mark is at most t.
  abbrev pub Inner : M → N → N → Type 0
  Inner t u v = Under (cut G T) t u v

  -- The passes of tile k: they join mouths of the tile, and at each threshold, from a mouth that is not above it,
  -- their chains lead to just the mouths to which walks inside the tile lead.
  pub record Tree (k : ℕ) (P : Passes M N) : Type 0 where
    pub ends : (a b : N) (l : M) → P a b l → T.Mouth a × T.Mouth b × (T.tile a ≡ k) × (T.tile b ≡ k)
    pub joins : (t : M) (a b : N) → T.Mouth a → T.Mouth b → T.tile a ≡ k → T.tile b ≡ k → (AtMost G (G.mark a) t × Chain G.leb P t a b) ↔ Inner t a b

  -- The mouth graph. The mouths a and b are linked at level l: by a pass of some tile, either way, or across a seam.
  pub data Link (P : ℕ → Passes M N) : N → N → M → Type 0 where
    pass : {a b : N} {l : M} (k : ℕ) → P k a b l ⊎ P k b a l → Link P a b l
    seam : {a b : N} → T.Mouth a → T.Mouth b → G.Touch a b → (T.tile a ≢ T.tile b) → Link P a b (highest G.leb (G.mark a) (G.mark b))

  -- In the mouth graph the mouth drains under t: it is an outlet with a mark of at most t, or linked, at level t at most, to one that drains.
  pub data Settles (P : ℕ → Passes M N) (t : M) : N → Type 0 where
    out : {a : N} → T.Mouth a → G.Outlet a → AtMost G (G.mark a) t → Settles P t a
    over : {a b : N} {l : M} → Link P a b l → AtMost G l t → Settles P t b → Settles P t a

  -- m is the lowest level under which a drains in the mouth graph.
  pub record IsSettled (P : ℕ → Passes M N) (a : N) (m : M) : Type 0 where
    pub settles : Settles P m a
    pub least : (t : M) → Settles P t a → AtMost G m t

  -- Inside its tile c reaches a mouth.
  abbrev pub Reaches : N → Type 0
  Reaches c = (m : N) × (t : M) × T.Mouth m × Inner t c m

  -- o is a mouth that c reaches inside its tile under l, and below l it reaches none.
  pub record Nearest (c o : N) (l : M) : Type 0 where
    pub mouth : T.Mouth o
    pub path : Inner l c o
    pub least : (m : N) (t : M) → T.Mouth m → Inner t c m → AtMost G l t

  -- What a flood of tile k from its mouths leaves: each node that reaches a mouth has a nearest one, with its level, and each mouth is its own.
  pub record Searched (k : ℕ) (origin : N → N) (level : N → M) : Type 0 where
    pub nearest : (c : N) → T.tile c ≡ k → Reaches c → Nearest c (origin c) (level c)
    pub own : (c : N) → T.tile c ≡ k → T.Mouth c → origin c ≡ c

  -- Two nodes of tile k that touch and that each reach a mouth in it.
  pub record Meet (k : ℕ) (u v : N) : Type 0 where
    pub here : T.tile u ≡ k
    pub there : T.tile v ≡ k
    pub clear : G.Open u × G.Open v
    pub touch : G.Touch u v
    pub reaches : Reaches u × Reaches v

  -- Passes that join the nearest mouths of each two nodes that meet, no higher than the two nodes' levels, and that each hold in the tile.
  pub record Spanned (k : ℕ) (P : Passes M N) (origin : N → N) (level : N → M) : Type 0 where
    pub holds : (a b : N) (l : M) → P a b l → T.Mouth a × T.Mouth b × (T.tile a ≡ k) × Inner l a b
    pub joined : (u v : N) → Meet k u v → Chain G.leb P (highest G.leb (level u) (level v)) (origin u) (origin v)
