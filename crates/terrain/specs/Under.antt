-- Walks under a threshold. Assumes nothing.
use Rattle.terrain.specs.Ways.{Terrain, AtMost}

-- A walk from u to v on which every mark is at most t.
pub data Under {M N : Type 0} (G : Terrain M N) (t : M) : N → N → Type 0 where
  stop : {u : N} → G.Open u → AtMost G (G.mark u) t → Under G t u u
  step : {u v w : N} → G.Open u → AtMost G (G.mark u) t → G.Touch u v → Under G t v w → Under G t u w

-- From c an outlet is reached under t.
abbrev pub Drains : {M N : Type 0} → Terrain M N → M → N → Type 0
Drains {M} {N} G t c = (o : N) × Under G t c o × G.Outlet o
