-- What a ground is, its routes to where it drains, and what a flood finds. Assumes nothing.
use Rattle.std.specs.Prelude.{◌≡◌, ℕ, ◌^◌, ◌<◌, Bool, true, List, [], ◌∷◌, length, Some, None, Option, slice_index_or}
use Rattle.std.specs.List.{slice_get}
use Rattle.marks.specs.Orders.{highest}

-- what every ground keeps: crossings lead to nodes, each is matched by one back at its level, a node has fewer than
-- 2 ^ 64, and only nodes drain
pub record Laws {M : Type 0} (nodes : ℕ) (crossings : ℕ → List (ℕ × M)) (drain : ℕ → Option M) : Type 0 where
  pub within : (u j v : ℕ) (w : M) → slice_get (crossings u) j ≡ Some (v, w) → v < nodes
  pub back : (u j v : ℕ) (w : M) → slice_get (crossings u) j ≡ Some (v, w) → (k : ℕ) × (slice_get (crossings v) k ≡ Some (u, w))
  pub short : (u : ℕ) → length (crossings u) < 2 ^ 64
  pub drained : (u : ℕ) (d : M) → drain u ≡ Some d → u < nodes

-- a ground as a graph: how levels compare, how many nodes there are, and of each node its crossings, as far node and
-- level, and its drain level
pub record Graph (M : Type 0) : Type 0 where
  pub leb : M → M → Bool
  pub nodes : ℕ
  pub crossings : ℕ → List (ℕ × M)
  pub drain : ℕ → Option M

-- the graph of these parts
abbrev pub graph : {M : Type 0} → (M → M → Bool) → ℕ → (ℕ → List (ℕ × M)) → (ℕ → Option M) → Graph M
graph leb nodes crossings drain = record { leb = leb; nodes = nodes; crossings = crossings; drain = drain }

-- some crossing of u leads to v at the level w
abbrev pub Crosses : {M : Type 0} → Graph M → ℕ → ℕ → M → Type 0
Crosses g u v w = (j : ℕ) × (slice_get (g.crossings u) j ≡ Some (v, w))

-- the nodes u ∷ path are a route with the worst level l: each is joined to the next by a crossing, the last drains, and
-- l is the highest of the levels of these crossings and of that drain
abbrev pub Route : {M : Type 0} → Graph M → ℕ → List ℕ → M → Type 0
Route g u [] l = g.drain u ≡ Some l
Route {M} g u (v ∷ path) l = (w : M) × (k : M) × Crosses g u v w × Route g v path k × (l ≡ highest g.leb w k)

-- the last of the nodes u ∷ path
abbrev pub last : ℕ → List ℕ → ℕ
last u [] = u
last u (v ∷ path) = last v path

-- some route from v ends in e and has the worst level l
abbrev pub Drains : {M : Type 0} → Graph M → ℕ → ℕ → M → Type 0
Drains g v e l = (path : List ℕ) × (last v path ≡ e) × Route g v path l

-- no route from v has a worst level below l
abbrev pub Least : {M : Type 0} → Graph M → ℕ → M → Type 0
Least {M} g v l = (path : List ℕ) (k : M) → Route g v path k → g.leb l k ≡ true

-- v has no route
abbrev pub Dry : {M : Type 0} → Graph M → ℕ → Type 0
Dry {M} g v = (path : List ℕ) (k : M) → Route g v path k → ⊥

-- the least worst level over the routes from v, or none
abbrev pub LeastWorst : {M : Type 0} → Graph M → ℕ → Option M → Type 0
LeastWorst g v (Some l) = ((e : ℕ) × Drains g v e l) × Least g v l
LeastWorst g v None = Dry g v

-- the level and the origin that a flood finds at v: the least worst level, and a draining node in which a route of that
-- level ends, v itself if its own drain has that level; or neither
abbrev pub Found : {M : Type 0} → Graph M → ℕ → Option M → Option ℕ → Type 0
Found g v (Some l) (Some e) = Drains g v e l × Least g v l × (g.drain v ≡ Some l → e ≡ v)
Found g v (Some l) None = ⊥
Found g v None (Some e) = ⊥
Found g v None None = Dry g v

-- at each node, what a flood finds
abbrev pub Flooded : {M : Type 0} → Graph M → List (Option M) → List (Option ℕ) → Type 0
Flooded g ls os = (v : ℕ) → v < g.nodes → Found g v (slice_index_or ls v None) (slice_index_or os v None)
