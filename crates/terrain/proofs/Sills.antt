-- The sill, and the thresholds under which a node drains. Assumes nothing.
use Rattle.std.proofs.Common.{◌≡◌, ◌↔◌, List, sym, subst}
use Rattle.marks.specs.Orders.{OrderLaws}
use Rattle.terrain.specs.Ways.{Terrain, AtMost, Way, worst, last, IsSill}
use Rattle.terrain.specs.Under.{Drains}
use Rattle.terrain.proofs.Marks.{le_self}
use Rattle.terrain.proofs.Walks.{from_list, to_list}

module _ {M N : Type 0} (G : Terrain M N) (O : OrderLaws G.leb) where
  pub way_drains : (t : M) (c : N) (ds : List N) → Way G c ds → AtMost G (worst G c ds) t → Drains G t c
  way_drains t c ds w h = (last c ds, from_list G O t c ds w.0 h, w.1)

  pub drains_way : {t : M} {c : N} → Drains G t c → (ds : List N) × Way G c ds × AtMost G (worst G c ds) t
  drains_way d =
      let w = to_list G O d.1 in
      (w.0, (w.1, subst G.Outlet (sym w.2) d.2), w.3)

  pub sill_drains : {c : N} {m : M} → IsSill G c m → (t : M) → AtMost G m t → Drains G t c
  sill_drains {c} i t h =
      let r = i.reached in
      way_drains t c r.0 r.1 (subst (λ x. AtMost G x t) (sym r.2) h)

  pub drains_sill : {c : N} {m : M} → IsSill G c m → (t : M) → Drains G t c → AtMost G m t
  drains_sill i t d =
      let w = drains_way d in
      O.transitive _ _ _ (i.least w.0 w.1) w.2

  pub sill_of_lem : (c : N) (m : M) → ((t : M) → AtMost G m t → Drains G t c) → ((t : M) → Drains G t c → AtMost G m t) → IsSill G c m
  sill_of_lem c m drains least =
      let w = drains_way (drains m (le_self O m)) in
      let low : (ds : List N) → Way G c ds → AtMost G m (worst G c ds) = λ ds v. least (worst G c ds) (way_drains (worst G c ds) c ds v (le_self O _)) in
      record { reached = (w.0, w.1, O.antisymmetric _ _ w.2 (low w.0 w.1)); least = low }

  pub unique : (c : N) (m n : M) → IsSill G c m → IsSill G c n → m ≡ n
  unique c m n i j = O.antisymmetric m n (drains_sill i n (sill_drains j n (le_self O n))) (drains_sill j m (sill_drains i m (le_self O m)))

  pub threshold : (c : N) (m : M) → IsSill G c m ↔ ((t : M) → AtMost G m t ↔ Drains G t c)
  threshold c m = (λ i t. (sill_drains i t, drains_sill i t), λ h. sill_of_lem c m (λ t. (h t).0) (λ t. (h t).1))
