-- Any two cells of a tile are joined by a walk inside it. Assumes nothing.
use Rattle.std.proofs.Common.{◌≡◌, ℕ, zero, suc, ◌+◌, ◌-◌, ◌<◌, ◌≤◌, sym, ap, ◌∙◌, subst, add-zero, arith}
use Rattle.marks.specs.Orders.{OrderLaws, highest}
use Rattle.sheets.specs.declared.copies.Place.{Place}
use Rattle.sheets.specs.Grids.{Grid}
use Rattle.tiles.specs.Plans.{Plan, Lawful, Area, tiles, tile_at}
use Rattle.tiles.proofs.Tilings.{Held}
use Rattle.terrain.specs.Cells.{place, Touches}
use Rattle.terrain.specs.Terrains.{Kind, sheet_terrain}
use Rattle.terrain.specs.Under.{stop, step}
use Rattle.terrain.specs.Ways.{Terrain}
use Rattle.terrain.proofs.Marks.{le_self, le_higher_left, le_higher_right}
use Rattle.terrain.proofs.Walks.{join, raise, turn}
use Rattle.seams.specs.Tilings.{Tiling, cut, own, Inner}
use Rattle.seams.specs.Sheets.{Cuts, tiling_of}
use Rattle.seams.proofs.Mouths.{cut_symmetric}
use Rattle.seams.proofs.Sheets.{sheet_symmetric}
use Rattle.seams.proofs.Shifts.{held_open, open_held}

module _ {M : Type 0} (κ : Kind M) (O : OrderLaws κ.leb) (g : Grid M) (p : Plan) (l : Lawful p) (fit : Cuts p g) (t : ℕ) (lt : t < tiles p) where
  abbrev G : Terrain M Place
  G = sheet_terrain κ g

  abbrev T : Tiling Place
  T = tiling_of p

  abbrev a : Area
  a = tile_at p t

  -- at some threshold a walk inside the tile leads from u to v
  abbrev Leads : Place → Place → Type 0
  Leads u v = (s : M) × Inner G T s u v

  leads_join : {u v w : Place} → Leads u v → Leads v w → Leads u w
  leads_join i j = (highest κ.leb i.0 j.0, join (cut G T) (raise (cut G T) O (le_higher_left O i.0 j.0) i.1) (raise (cut G T) O (le_higher_right O i.0 j.0) j.1))

  leads_turn : {u v : Place} → Leads u v → Leads v u
  leads_turn i = (i.0, turn (cut G T) (cut_symmetric G T (sheet_symmetric κ g)) i.1)

  leads_stay : (c : Place) → Held a c.row c.col → Leads c c
  leads_stay c h = (G.mark c, stop (held_open κ g p l fit t lt c h).0 (le_self O (G.mark c)))

  leads_step : (c d : Place) → Held a c.row c.col → Held a d.row d.col → Touches c d → Leads c d
  leads_step c d hc hd r =
      let oc = held_open κ g p l fit t lt c hc in
      let od = held_open κ g p l fit t lt d hd in
      (highest κ.leb (G.mark c) (G.mark d), step oc.0 (le_higher_left O (G.mark c) (G.mark d)) (r, oc.1 ∙ sym od.1) (stop od.0 (le_higher_right O (G.mark c) (G.mark d))))

  -- up a column to the tile's first row, and along that to its corner
  leads_up : (n j : ℕ) → a.top + n < a.bottom → a.left ≤ j → j < a.right → Leads (place (a.top + n) j) (place a.top j)
  leads_up zero j h lj rj = subst (λ k. Leads (place k j) (place a.top j)) (sym (add-zero a.top)) (leads_stay (place a.top j) (record { above = omega arith; below = omega arith; before = lj; behind = rj }))
  leads_up (suc n) j h lj rj =
      let hc : Held a (a.top + suc n) j = record { above = omega arith; below = h; before = lj; behind = rj } in
      let hd : Held a (a.top + n) j = record { above = omega arith; below = omega arith; before = lj; behind = rj } in
      leads_join (leads_step (place (a.top + suc n) j) (place (a.top + n) j) hc hd (omega arith, omega arith, omega arith, omega arith, λ e. omega (arith, ap (λ (c : Place). c.row) e))) (leads_up n j (omega arith) lj rj)

  leads_left : (n : ℕ) → a.top < a.bottom → a.left + n < a.right → Leads (place a.top (a.left + n)) (place a.top a.left)
  leads_left zero h r = subst (λ k. Leads (place a.top k) (place a.top a.left)) (sym (add-zero a.left)) (leads_stay (place a.top a.left) (record { above = omega arith; below = h; before = omega arith; behind = omega arith }))
  leads_left (suc n) h r =
      let hc : Held a a.top (a.left + suc n) = record { above = omega arith; below = h; before = omega arith; behind = r } in
      let hd : Held a a.top (a.left + n) = record { above = omega arith; below = h; before = omega arith; behind = omega arith } in
      leads_join (leads_step (place a.top (a.left + suc n)) (place a.top (a.left + n)) hc hd (omega arith, omega arith, omega arith, omega arith, λ e. omega (arith, ap (λ (c : Place). c.col) e))) (leads_left n h (omega arith))

  leads_corner : (c : Place) → Held a c.row c.col → Leads c (place a.top a.left)
  leads_corner c h =
      let up = leads_up (c.row - a.top) c.col (omega (arith, h.above, h.below)) h.before h.behind in
      let left = leads_left (c.col - a.left) (omega (arith, h.above, h.below)) (omega (arith, h.before, h.behind)) in
      let is_row : a.top + (c.row - a.top) ≡ c.row = omega (arith, h.above) in
      let is-col : a.left + (c.col - a.left) ≡ c.col = omega (arith, h.before) in
      leads_join (subst (λ i. Leads (place i c.col) (place a.top c.col)) is_row up) (subst (λ j. Leads (place a.top j) (place a.top a.left)) is-col left)

  pub tile_connected : (c d : Place) → (own G T t).Open c → (own G T t).Open d → (s : M) × Inner G T s c d
  tile_connected c d oc od = leads_join (leads_corner c (open_held κ g p l fit t lt c oc)) (leads_turn (leads_corner d (open_held κ g p l fit t lt d od)))
