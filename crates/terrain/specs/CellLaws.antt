-- The ground of a sheet's cells joins just those that touch. Assumes nothing.
use Rattle.std.specs.Prelude.{◌≡◌, ℕ, zero, suc, ◌*◌, ◌/◌, ◌%◌, ◌^◌, ◌<◌, ◌≤◌, Bool, cond, List, [], map, length, Some, None, ◌≢◌, slice_index_or}
use Rattle.std.proofs.Math.Path.{sym, ap, ap₂, subst}
use Rattle.std.proofs.Common.{◌∙◌, div-add-mod', mod-lt, div-lt_iff_lt-mul, mul-zero, arith, lt-ltb, le-ltb}
use Rattle.std.proofs.Math.Logic.{⊎_elim}
use Rattle.std.proofs.Math.Nat.{min_comm, max_comm}
use Rattle.std.proofs.Math.Arith.{digits_div, digits_mod}
use Rattle.std.specs.List.{range_with_len, slice_get}
use Rattle.std.proofs.lemmas.Option.{slice_get-get_or, slice_get_past}
use Rattle.std.proofs.lemmas.Nat.{mul-add-lt}
use Rattle.std.proofs.lemmas.List.FromFn.{length-map-range_with_len, get_or-map-range_with_len}
use Rattle.std.proofs.lemmas.Bool.{cases_lt}
use Rattle.flood.specs.Grounds.{Laws}
use Rattle.sheets.specs.declared.copies.Place.{Place}
use Rattle.sheets.specs.Grids.{at_edge}
use Rattle.terrain.specs.Cells.{place, Touches, InSheet, node_of, place_of}
use Rattle.terrain.specs.Neighbours.{span, degree, neighbour, far}
use Rattle.terrain.specs.CellGrounds.{between, crossing_at, cell_crossings, cell_drain}
use Rattle.terrain.specs.NeighbourLaws.{block, few, neighbour_touches, touch_neighbour}

pub some_none : {A : Type 0} (x : A) → None ≢ Some x
some_none x p = let z : ◌≡◌ {A = ℕ} 0 1 = cc in omega arith

pub some_same : {A : Type 0} (x y : A) → Some x ≡ Some y → x ≡ y
some_same x y p = cc

-- numbers and places

cols_some : (rows cols u : ℕ) → u < rows * cols → 0 < cols
cols_some rows zero u h = absurd (omega (arith, mul-zero rows))
cols_some rows (suc c) u h = omega arith

pub place_in : (rows cols u : ℕ) → u < rows * cols → InSheet rows cols (place_of cols u)
place_in rows cols u h = ((div-lt_iff_lt-mul (cols_some rows cols u h)).1 h, mod-lt u (cols_some rows cols u h))

pub node_place : (cols u : ℕ) → node_of cols (place_of cols u) ≡ u
node_place cols u = div-add-mod' u cols

pub node_in : (rows cols : ℕ) (c : Place) → InSheet rows cols c → node_of cols c < rows * cols
node_in rows cols c h = omega (arith, mul-add-lt c.row cols c.col rows h.0 h.1)

pub place_node : (cols : ℕ) (c : Place) → c.col < cols → place_of cols (node_of cols c) ≡ c
place_node cols c h = λ i. place (digits_div c.row h i) (digits_mod c.row h i)

-- a list by a function of its places

nth_counted : {X : Type 0} (f : ℕ → X) (n k : ℕ) → k < n → slice_get (map f (range_with_len 0 n)) k ≡ Some (f k)
nth_counted f n k h = slice_get-get_or (map f (range_with_len 0 n)) k (f k) (omega (arith, length-map-range_with_len f 0 n)) ∙ ap Some (get_or-map-range_with_len f 0 n k k (f k) h (omega arith))

nth_counted_past : {X : Type 0} (f : ℕ → X) (n k : ℕ) → n ≤ k → slice_get (map f (range_with_len 0 n)) k ≡ None
nth_counted_past f n k h = slice_get_past (map f (range_with_len 0 n)) k (omega (arith, length-map-range_with_len f 0 n))

nth_counted_of : {X : Type 0} (f : ℕ → X) (n k : ℕ) (x : X) → slice_get (map f (range_with_len 0 n)) k ≡ Some x → (k < n) × (x ≡ f k)
nth_counted_of f n k x e = ⊎_elim
    (λ (h : k < n). (h, some_same x (f k) (sym e ∙ nth_counted f n k h)))
    (λ (h : n ≤ k). absurd (some_none x (sym (nth_counted_past f n k h) ∙ e)))
    (cases_lt k n)

module _ {M : Type 0} (leb : M → M → Bool) (void : M) (rows cols : ℕ) (marks : List M) where
  row : ℕ → List (ℕ × M)
  row u = map (crossing_at leb void rows cols marks u) (range_with_len 0 (degree rows cols (u / cols) (u % cols)))

  listed : (u : ℕ) → u < rows * cols → cell_crossings leb void rows cols marks u ≡ row u
  unfolding cell_crossings row
  listed u h = ap (λ b. cond b (row u) []) (lt-ltb u (rows * cols) h)

  unlisted : (u : ℕ) → rows * cols ≤ u → cell_crossings leb void rows cols marks u ≡ []
  unfolding cell_crossings row
  unlisted u h = ap (λ b. cond b (row u) []) (le-ltb u (rows * cols) h)

  pub crossing_read : (u k : ℕ) → u < rows * cols → k < degree rows cols (u / cols) (u % cols) → slice_get (cell_crossings leb void rows cols marks u) k ≡ Some (crossing_at leb void rows cols marks u k)
  unfolding row
  crossing_read u k h l = ap (λ xs. slice_get xs k) (listed u h) ∙ nth_counted (crossing_at leb void rows cols marks u) (degree rows cols (u / cols) (u % cols)) k l

  pub crossing_past : (u k : ℕ) → u < rows * cols → degree rows cols (u / cols) (u % cols) ≤ k → slice_get (cell_crossings leb void rows cols marks u) k ≡ None
  unfolding row
  crossing_past u k h l = ap (λ xs. slice_get xs k) (listed u h) ∙ nth_counted_past (crossing_at leb void rows cols marks u) (degree rows cols (u / cols) (u % cols)) k l

  pub crossing_none : (u k : ℕ) → rows * cols ≤ u → slice_get (cell_crossings leb void rows cols marks u) k ≡ None
  crossing_none u k h = ap (λ xs. slice_get xs k) (unlisted u h)

  crossing_of : (u k : ℕ) (x : ℕ × M) → slice_get (cell_crossings leb void rows cols marks u) k ≡ Some x → (u < rows * cols) × (k < degree rows cols (u / cols) (u % cols)) × (x ≡ crossing_at leb void rows cols marks u k)
  unfolding row
  crossing_of u k x e = ⊎_elim
      (λ (h : u < rows * cols). let r = nth_counted_of (crossing_at leb void rows cols marks u) (degree rows cols (u / cols) (u % cols)) k x (ap (λ xs. slice_get xs k) (sym (listed u h)) ∙ e) in (h, r.0, r.1))
      (λ (h : rows * cols ≤ u). absurd (some_none x (sym (crossing_none u k h) ∙ e)))
      (cases_lt u (rows * cols))

  -- a crossing of a cell leads to a cell that touches it, at the level between them
  pub record Joins (u v : ℕ) (w : M) : Type 0 where
    pub from : u < rows * cols
    pub to : v < rows * cols
    pub touch : Touches (place_of cols u) (place_of cols v)
    pub level : w ≡ between leb void marks u v

  pub crossing_joins : (u k v : ℕ) (w : M) → slice_get (cell_crossings leb void rows cols marks u) k ≡ Some (v, w) → Joins u v w
  crossing_joins u k v w e =
      let r = crossing_of u k (v, w) e in
      let here = place_in rows cols u r.0 in
      let t = neighbour_touches rows cols (u / cols) (u % cols) here.0 here.1 k r.1 in
      let is_v : v ≡ far cols u k = ap (λ x. x.0) r.2 in
      let is-place : place_of cols v ≡ neighbour cols (u / cols) (u % cols) k = ap (place_of cols) is_v ∙ place_node cols (neighbour cols (u / cols) (u % cols) k) t.0.1 in
      record {
        from = r.0;
        to = subst (λ x. x < rows * cols) (sym is_v) (node_in rows cols (neighbour cols (u / cols) (u % cols) k) t.0);
        touch = subst (λ c. Touches (place_of cols u) c) (sym is-place) t.1;
        level = ap (λ x. x.1) r.2 ∙ ap (λ x. between leb void marks u x) (sym is_v);
      }

  -- and each cell that touches it is led to
  pub joins_crossing : (u v : ℕ) → u < rows * cols → v < rows * cols → Touches (place_of cols u) (place_of cols v) → (k : ℕ) × (slice_get (cell_crossings leb void rows cols marks u) k ≡ Some (v, between leb void marks u v))
  joins_crossing u v h l t =
      let here = place_in rows cols u h in
      let n = touch_neighbour rows cols (u / cols) (u % cols) here.0 here.1 (place_of cols v) (place_in rows cols v l) t in
      let is : far cols u n.0 ≡ v = ap (node_of cols) n.2 ∙ node_place cols v in
      (n.0, crossing_read u n.0 h n.1 ∙ ap (λ x. Some (x, between leb void marks u x)) is)

  between_swap : (u v : ℕ) → between leb void marks u v ≡ between leb void marks v u
  between_swap u v = ap₂ (λ a b. cond (leb (slice_index_or marks a void) (slice_index_or marks b void)) (slice_index_or marks b void) (slice_index_or marks a void)) (min_comm u v) (max_comm u v)

  pub touch_swap : (c d : Place) → Touches c d → Touches d c
  touch_swap c d t = (t.1, t.0, t.3, t.2, λ e. t.4 (sym e))

  pub cell_laws : Laws (rows * cols) (cell_crossings leb void rows cols marks) (cell_drain leb void rows cols marks)
  unfolding cell_crossings cell_drain row
  cell_laws = record {
    within = λ u j v w e. (crossing_joins u j v w e).to;
    back = λ u j v w e.
        let r = crossing_joins u j v w e in
        let k = joins_crossing v u r.to r.from (touch_swap (place_of cols u) (place_of cols v) r.touch) in
        (k.0, k.1 ∙ ap (λ x. Some (u, x)) (between_swap v u ∙ sym r.level));
    short = λ u. ⊎_elim
        (λ (h : u < rows * cols).
        let here = place_in rows cols u h in
        let B = block rows cols (u / cols) (u % cols) here.0 here.1 in
        let long = length-map-range_with_len (crossing_at leb void rows cols marks u) 0 (degree rows cols (u / cols) (u % cols)) in
        let f = few (span rows (u / cols)) (span cols (u % cols)) B.tall.1 in
        subst (λ xs. length xs < 2 ^ 64) (sym (listed u h)) (omega (arith, long, f, B.wide)))
        (λ (h : rows * cols ≤ u). subst (λ xs. length xs < 2 ^ 64) (sym (unlisted u h)) (omega arith))
        (cases_lt u (rows * cols));
    drained = λ u d e. ⊎_elim (λ (h : u < rows * cols). h) (λ (h : rows * cols ≤ u). absurd (some_none d (sym (ap (λ b. cond b (cond (at_edge rows cols (u / cols) (u % cols)) (Some (slice_index_or marks u void)) None) None) (le-ltb u (rows * cols) h)) ∙ e))) (cases_lt u (rows * cols));
  }

  -- the drain of a cell, by where it lies
  pub drain_none : (u : ℕ) → rows * cols ≤ u → cell_drain leb void rows cols marks u ≡ None
  unfolding cell_drain
  drain_none u h = ap (λ b. cond b (cond (at_edge rows cols (u / cols) (u % cols)) (Some (slice_index_or marks u void)) None) None) (le-ltb u (rows * cols) h)

  pub drain_by : (u : ℕ) (b : Bool) → u < rows * cols → at_edge rows cols (u / cols) (u % cols) ≡ b → cell_drain leb void rows cols marks u ≡ cond b (Some (slice_index_or marks u void)) None
  unfolding cell_drain
  drain_by u b h e = ap₂ (λ x y. cond x (cond y (Some (slice_index_or marks u void)) None) None) (lt-ltb u (rows * cols) h) e
