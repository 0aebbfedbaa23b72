-- Walks under a threshold: turned, joined, raised, and as lists. Assumes nothing.
use Rattle.std.proofs.Common.{◌≡◌, ◌↔◌, List, [], ◌∷◌, refl, subst}
use Rattle.marks.specs.Orders.{OrderLaws}
use Rattle.terrain.specs.Ways.{Terrain, Symmetric, AtMost, Walk, worst, last}
use Rattle.terrain.specs.Under.{Under, stop, step}
use Rattle.terrain.proofs.Marks.{higher_le, higher_le_left, higher_le_right, le_self}

module _ {M N : Type 0} (G : Terrain M N) where
  pub open_first : {t : M} {u v : N} → Under G t u v → G.Open u
  open_first (stop o l) = o
  open_first (step o l r w) = o

  pub low_first : {t : M} {u v : N} → Under G t u v → AtMost G (G.mark u) t
  low_first (stop o l) = l
  low_first (step o l r w) = l

  pub open_last : {t : M} {u v : N} → Under G t u v → G.Open v
  open_last (stop o l) = o
  open_last (step o l r w) = open_last w

  pub low_last : {t : M} {u v : N} → Under G t u v → AtMost G (G.mark v) t
  low_last (stop o l) = l
  low_last (step o l r w) = low_last w

  pub join : {t : M} {u v w : N} → Under G t u v → Under G t v w → Under G t u w
  join (stop o l) b = b
  join (step o l r a) b = step o l r (join a b)

  -- one node more at the end
  pub push : {t : M} {u v w : N} → Under G t u v → G.Touch v w → G.Open w → AtMost G (G.mark w) t → Under G t u w
  push (stop o l) r o' l' = step o l r (stop o' l')
  push (step o l r a) r' o' l' = step o l r (push a r' o' l')

  pub turn : Symmetric G → {t : M} {u v : N} → Under G t u v → Under G t v u
  turn S (stop o l) = stop o l
  turn S (step o l r a) = push (turn S a) (S _ _ r) o l

  module _ (O : OrderLaws G.leb) where
    pub raise : {s t : M} → AtMost G s t → {u v : N} → Under G s u v → Under G t u v
    raise h (stop o l) = stop o (O.transitive _ _ _ l h)
    raise h (step o l r a) = step o (O.transitive _ _ _ l h) r (raise h a)

    pub from_list : (t : M) (u : N) (ds : List N) → Walk G u ds → AtMost G (worst G u ds) t → Under G t u (last u ds)
    from_list t u [] w h = stop w h
    from_list t u (d ∷ ds) w h =
        step w.0 (higher_le_left O _ _ _ h) w.1 (from_list t d ds w.2 (higher_le_right O _ _ _ h))

    pub to_list : {t : M} {u v : N} → Under G t u v → (ds : List N) × Walk G u ds × (last u ds ≡ v) × AtMost G (worst G u ds) t
    to_list (stop o l) = ([], o, refl, l)
    to_list (step {v = v} o l r a) =
        let rest = to_list a in
        (v ∷ rest.0, (o, r, rest.1), rest.2, higher_le O _ _ _ l rest.3)

    -- the first mark of a walk is at most its worst
    pub first_worst : (u : N) (ds : List N) → AtMost G (G.mark u) (worst G u ds)
    first_worst u [] = le_self O _
    first_worst u (d ∷ ds) = higher_le_left O _ _ _ (le_self O _)

    pub under_walk : (t : M) (u v : N) → Under G t u v ↔ ((ds : List N) × Walk G u ds × (last u ds ≡ v) × AtMost G (worst G u ds) t)
    under_walk t u v = (λ a. to_list a, λ w. subst (λ x. Under G t u x) w.2 (from_list t u w.0 w.1 w.3))
