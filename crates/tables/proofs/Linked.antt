-- The ground of mouths joins just those that are linked, whatever the tables hold. Assumes nothing.
use Rattle.std.proofs.Common.{◌≡◌, ℕ, suc, ◌+◌, ◌-◌, ◌*◌, ◌/◌, ◌%◌, ◌^◌, ◌<◌, ◌≤◌, Bool, true, false, cond, ◌&&◌, eqb, ltb, leb, ◌⊎◌, [], ◌++◌, length, Some, None, Option, sym, refl, ap, ◌∙◌, subst, ap₂, inl, inr, ⊎_elim, add-one, arith, length-append, ltb-true, le-ltb, lt-ltb, eq-eqb, ne_eqb, eqb-true, le-leb, leb-true}
use native.Mathlib.Nat.{min_comm, max_comm}
use lib.Arith.{digits_div, digits_mod}
use borrow.Author.Tests.{eqb-false}
use Rattle.std.specs.List.{slice_get}
use Rattle.std.proofs.lemmas.Nat.{mul-add-lt}
use Rattle.std.proofs.lemmas.Bool.{and_parts, and_from, cases_lt, cases_eq, cases_Bool}
use Rattle.flood.specs.Grounds.{Laws}
use Rattle.sheets.specs.declared.copies.Place.{Place}
use Rattle.terrain.specs.Cells.{place, Touches, InSheet}
use Rattle.sheets.specs.Grids.{at_edge}
use Rattle.terrain.specs.Terrains.{Kind}
use Rattle.terrain.proofs.Bridges.{edge_on, on_edge}
use Rattle.tiles.specs.Plans.{Plan, Lawful, tiles, tile_of, tile_at, holds}
use Rattle.tiles.specs.Mouths.{mouths, mouth_base, pass_base, tile_mouths, mouth_number}
use Rattle.tiles.proofs.Tilings.{tile_within, tile_exists}
use Rattle.tiles.proofs.Numberings.{base_rises, mouths_few}
use Rattle.tiles.proofs.Seams.{numbered}
use Rattle.tables.specs.declared.records.PassRecord.{PassRecord}
use Rattle.tables.specs.Picks.{picked}
use Rattle.tables.specs.Records.{Tables, mark_of}
use Rattle.tables.specs.Links.{is_number, cell_of, tile_of_mouth, of_tile, around, seam_level, link_to, seam_link, seam_at, far_end, pass_link, pass_at, mouth_crossings, mouth_drain, Seamed, Passed, Joins}
use Rattle.tables.proofs.Picking.{none_some, picked_short, picked_of, of_picked, first_passes, nth_left, nth_right, nth_either}

true_false : true ≡ false → ⊥
true_false e = let z : ◌≡◌ {A = ℕ} 0 1 = cc in omega arith

some_same : {X : Type 0} (x y : X) → Some x ≡ Some y → x ≡ y
some_same x y e = cc

same_place : {c d : Place} → c.row ≡ d.row → c.col ≡ d.col → c ≡ d
same_place e f = λ i. place (e i) (f i)

-- the cell of a mouth

is_number_lem : (a : ℕ) (o : Option ℕ) → is_number a o ≡ true → o ≡ Some a
is_number_lem a None e = absurd (true_false (sym e))
is_number_lem a (Some b) e = ap Some (eqb-true b a e)

number_is : (a : ℕ) (o : Option ℕ) → o ≡ Some a → is_number a o ≡ true
number_is a o e = ap (is_number a) e ∙ eq-eqb a a refl

-- a cell that has a mouth's number lies on the sheet
pub number_in : (p : Plan) → Lawful p → (i j a : ℕ) → mouth_number p i j ≡ Some a → (i < p.rows) × (j < p.cols)
number_in p law i j a e = tile_within p i j (tile_of p i j) law (and_parts (holds (tile_at p (tile_of p i j)) i j) _ ((numbered p law).only i j a e)).0

pub cell_is : (p : Plan) → Lawful p → (i j a : ℕ) → mouth_number p i j ≡ Some a → cell_of p a ≡ place i j
unfolding cell_of
cell_is p law i j a e =
    let inside = number_in p law i j a e in
    let test : ℕ → Bool = λ u. is_number a (mouth_number p (u / p.cols) (u % p.cols)) in
    let here : ℕ = i * p.cols + j in
    let at_here : mouth_number p (here / p.cols) (here % p.cols) ≡ Some a = ap₂ (mouth_number p) (digits_div i inside.1) (digits_mod i inside.1) ∙ e in
    let r = first_passes test 0 (p.rows * p.cols) here (omega arith) (omega (arith, mul-add-lt i p.cols j p.rows inside.0 inside.1)) (number_is a _ at_here) in
    let same = (numbered p law).single _ _ i j a (is_number_lem a _ r.1) e in
    same_place same.0 same.1

pub cell_number_lem : (p : Plan) → Lawful p → (a : ℕ) → a < mouths p → mouth_number p (cell_of p a).row (cell_of p a).col ≡ Some a
cell_number_lem p law a h =
    let r = (numbered p law).found a h in
    let c = cell_is p law r.0 r.1 a r.2 in
    ap₂ (mouth_number p) (ap (λ d. d.row) c) (ap (λ d. d.col) c) ∙ r.2

-- the nine cells around a cell

pub record Around (p : Plan) (c : Place) (k : ℕ) (d : Place) : Type 0 where
  pub in_row : d.row < p.rows
  pub in_col : d.col < p.cols
  pub row : d.row + 1 ≡ c.row + k / 3
  pub col : d.col + 1 ≡ c.col + k % 3

pub around_of : (p : Plan) (c : Place) (k : ℕ) (d : Place) → around p.rows p.cols c k ≡ Some d → Around p c k d
around_of p c k d e = go _ refl
  where
    go : (b : Bool) → ((leb 1 (c.row + k / 3) && leb (c.row + k / 3) p.rows) && (leb 1 (c.col + k % 3) && leb (c.col + k % 3) p.cols)) ≡ b → Around p c k d
    go true is =
        let both = and_parts (leb 1 (c.row + k / 3) && leb (c.row + k / 3) p.rows) _ is in
        let down = and_parts (leb 1 (c.row + k / 3)) _ both.0 in
        let along = and_parts (leb 1 (c.col + k % 3)) _ both.1 in
        let low = leb-true _ _ down.0 in
        let high = leb-true _ _ down.1 in
        let left = leb-true _ _ along.0 in
        let right = leb-true _ _ along.1 in
        let found : place (c.row + k / 3 - 1) (c.col + k % 3 - 1) ≡ d = some_same _ _ (sym (ap (λ b. cond b (Some (place (c.row + k / 3 - 1) (c.col + k % 3 - 1))) None) is) ∙ e) in
        let row : c.row + k / 3 - 1 ≡ d.row = ap (λ z. z.row) found in
        let col : c.col + k % 3 - 1 ≡ d.col = ap (λ z. z.col) found in
        record { in_row = omega arith; in_col = omega arith; row = omega arith; col = omega arith }
    go false is = absurd (none_some d (sym (ap (λ b. cond b (Some (place (c.row + k / 3 - 1) (c.col + k % 3 - 1))) None) is) ∙ e))

of_around : (p : Plan) (c : Place) (k : ℕ) (d : Place) → Around p c k d → around p.rows p.cols c k ≡ Some d
of_around p c k d r =
    let row : d.row + 1 ≡ c.row + k / 3 = r.row in
    let col : d.col + 1 ≡ c.col + k % 3 = r.col in
    let is = and_from _ _ (and_from _ _ (le-leb 1 (c.row + k / 3) (omega arith)) (le-leb (c.row + k / 3) p.rows (omega (arith, r.in_row)))) (and_from _ _ (le-leb 1 (c.col + k % 3) (omega arith)) (le-leb (c.col + k % 3) p.cols (omega (arith, r.in_col)))) in
    let same : place (c.row + k / 3 - 1) (c.col + k % 3 - 1) ≡ d = same_place (omega arith) (omega arith) in
    ap (λ b. cond b (Some (place (c.row + k / 3 - 1) (c.col + k % 3 - 1))) None) is ∙ ap Some same

-- each cell of the sheet that touches another is one of the nine
touch_around : (p : Plan) (c d : Place) → InSheet p.rows p.cols d → Touches c d → (k : ℕ) × (k < 9) × (around p.rows p.cols c k ≡ Some d)
touch_around p c d inside t =
    let y : ℕ = d.row + 1 - c.row in
    let x : ℕ = d.col + 1 - c.col in
    let few : x < 3 = omega (arith, t) in
    let is_y : (y * 3 + x) / 3 ≡ y = digits_div y few in
    let is_x : (y * 3 + x) % 3 ≡ x = digits_mod y few in
    (y * 3 + x, omega (arith, t), of_around p c (y * 3 + x) d (record { in_row = inside.0; in_col = inside.1; row = omega (arith, t); col = omega (arith, t) }))

around_near : (p : Plan) (c : Place) (k : ℕ) (d : Place) → k < 9 → Around p c k d → (c ≡ d → ⊥) → Touches c d
around_near p c k d few r apart =
    let row : d.row + 1 ≡ c.row + k / 3 = r.row in
    let col : d.col + 1 ≡ c.col + k % 3 = r.col in
    (omega arith, omega arith, omega arith, omega arith, apart)

-- a test that decides between an answer and none, where there is an answer
by_some : {X : Type 0} (b : Bool) (o : Option X) (x : X) → cond b None o ≡ Some x → (b ≡ false) × (o ≡ Some x)
by_some true o x e = absurd (none_some x e)
by_some false o x e = (refl, e)

if_some : {X : Type 0} (b : Bool) (o : Option X) (x : X) → cond b o None ≡ Some x → (b ≡ true) × (o ≡ Some x)
if_some true o x e = (refl, e)
if_some false o x e = absurd (none_some x e)

-- a number of a tile's mouths, by its bounds
of_tile_lem : (p : Plan) (t a : ℕ) → of_tile p t a ≡ true → (mouth_base p t ≤ a) × (a < mouth_base p (suc t))
of_tile_lem p t a e = let r = and_parts (leb (mouth_base p t) a) _ e in (leb-true _ _ r.0, ltb-true _ _ r.1)

-- such a number is a mouth, and its tile is that one
pub of_tile_owner : (p : Plan) → Lawful p → (t a : ℕ) → t < tiles p → of_tile p t a ≡ true → (a < mouths p) × (tile_of_mouth p a ≡ t)
of_tile_owner p law t a h e =
    let r = of_tile_lem p t a e in
    let below : a < mouths p = omega (arith, r.1, base_rises p (suc t) (tiles p) (omega arith)) in
    (below, sym ((numbered p law).owner _ _ a t (cell_number_lem p law a below) r.0 (subst (λ n. a < mouth_base p n) (sym (add-one t)) r.1)))

module _ {M : Type 0} (κ : Kind M) (p : Plan) (w : Tables M) (law : Lawful p) where
  level_swap : (a b : ℕ) → seam_level κ w.mouths a b ≡ seam_level κ w.mouths b a
  level_swap a b = ap₂ (λ x y. cond (κ.leb (mark_of κ.void w.mouths x) (mark_of κ.void w.mouths y)) (mark_of κ.void w.mouths y) (mark_of κ.void w.mouths x)) (min_comm a b) (max_comm a b)

  -- seams

  link_of : (a : ℕ) (o : Option ℕ) (b : ℕ) (l : M) → link_to κ w.mouths a o ≡ Some (b, l) → (o ≡ Some b) × (l ≡ seam_level κ w.mouths a b)
  link_of a None b l e = absurd (none_some (b, l) e)
  link_of a (Some c) b l e =
      let same : (c, seam_level κ w.mouths a c) ≡ (b, l) = some_same _ _ e in
      let first : c ≡ b = ap (λ z. z.0) same in
      (ap Some first, sym (ap (λ z. z.1) same) ∙ ap (seam_level κ w.mouths a) first)

  seam_of : (a k b : ℕ) (l : M) → a < mouths p → k < 9 → seam_at κ p w.mouths a k ≡ Some (b, l) → Seamed κ p w a b l
  seam_of a k b l h few e = go (around p.rows p.cols (cell_of p a) k) refl e
    where
      go : (o : Option Place) → around p.rows p.cols (cell_of p a) k ≡ o → seam_link κ p w.mouths a o ≡ Some (b, l) → Seamed κ p w a b l
      go None is x = absurd (none_some (b, l) x)
      go (Some d) is x =
          let r = by_some (eqb (tile_of p d.row d.col) (tile_of_mouth p a)) (link_to κ w.mouths a (mouth_number p d.row d.col)) (b, l) x in
          let s = link_of a (mouth_number p d.row d.col) b l r.1 in
          let other = eqb-false (tile_of p d.row d.col) (tile_of_mouth p a) r.0 in
          record {
            from = cell_of p a;
            to = d;
            from_number = cell_number_lem p law a h;
            to_number = s.0;
            touch = around_near p (cell_of p a) k d few (around_of p (cell_of p a) k d is) (λ z. other (ap (λ c. tile_of p c.row c.col) (sym z)));
            apart = λ z. other (sym z);
            level = s.1;
          }

  of_seam : (a b : ℕ) (l : M) → Seamed κ p w a b l → (k : ℕ) × (k < 9) × (seam_at κ p w.mouths a k ≡ Some (b, l))
  of_seam a b l s =
      let here : cell_of p a ≡ s.from = cell_is p law s.from.row s.from.col a s.from_number in
      let r = touch_around p s.from s.to (number_in p law s.to.row s.to.col b s.to_number) s.touch in
      let tile : tile_of_mouth p a ≡ tile_of p s.from.row s.from.col = ap (λ c. tile_of p c.row c.col) here in
      let other : eqb (tile_of p s.to.row s.to.col) (tile_of_mouth p a) ≡ false = ne_eqb _ _ (λ z. s.apart (sym (z ∙ tile))) in (
        r.0,
        r.1,
        ap (λ c. seam_link κ p w.mouths a (around p.rows p.cols c r.0)) here ∙ ap (seam_link κ p w.mouths a) r.2
            ∙ ap (λ z. cond z None (link_to κ w.mouths a (mouth_number p s.to.row s.to.col))) other ∙ ap (link_to κ w.mouths a) s.to_number ∙ ap (λ z. Some (b, z)) (sym s.level),
      )

  -- passes

  ends_of : (q : PassRecord M) (a b : ℕ) (l : M) → far_end a q ≡ Some (b, l) → (((q.from ≡ a) × (q.to ≡ b)) ⊎ ((q.from ≡ b) × (q.to ≡ a))) × (l ≡ q.level)
  ends_of q a b l e = go (eqb q.from a) (eqb q.to a) refl refl e
    where
      ends : Option (ℕ × M) × Option (ℕ × M)
      ends = (Some (q.to, q.level), Some (q.from, q.level))

      go : (x y : Bool) → eqb q.from a ≡ x → eqb q.to a ≡ y → cond x ends.0 (cond y ends.1 None) ≡ Some (b, l) → (((q.from ≡ a) × (q.to ≡ b)) ⊎ ((q.from ≡ b) × (q.to ≡ a))) × (l ≡ q.level)
      go true y f t z = let same = some_same (q.to, q.level) (b, l) z in (inl (eqb-true _ _ f, ap (λ v. v.0) same), sym (ap (λ v. v.1) same))
      go false true f t z = let same = some_same (q.from, q.level) (b, l) z in (inr (ap (λ v. v.0) same, eqb-true _ _ t), sym (ap (λ v. v.1) same))
      go false false f t z = absurd (none_some (b, l) z)

  of_ends : (q : PassRecord M) (a b : ℕ) → ((q.from ≡ a) × (q.to ≡ b)) ⊎ ((q.from ≡ b) × (q.to ≡ a)) → far_end a q ≡ Some (b, q.level)
  of_ends q a b e = ⊎_elim
      (λ (r : (q.from ≡ a) × (q.to ≡ b)). ap (λ z. cond {A = Option (ℕ × M)} z (Some (q.to, q.level)) (cond (eqb q.to a) (Some (q.from, q.level)) None)) (eq-eqb _ _ r.0) ∙ ap (λ z. Some (z, q.level)) r.1)
      (λ (r : (q.from ≡ b) × (q.to ≡ a)). ⊎_elim
      (λ (same : q.from ≡ a). ap (λ z. cond {A = Option (ℕ × M)} z (Some (q.to, q.level)) (cond (eqb q.to a) (Some (q.from, q.level)) None)) (eq-eqb _ _ same) ∙ ap (λ z. Some (z, q.level)) (r.1 ∙ sym same ∙ r.0))
      (λ (other : q.from ≡ a → ⊥). ap₂ (λ y z. cond {A = Option (ℕ × M)} y (Some (q.to, q.level)) (cond z (Some (q.from, q.level)) None)) (ne_eqb _ _ other) (eq-eqb _ _ r.1) ∙ ap (λ z. Some (z, q.level)) r.0)
      (cases_eq q.from a))
      e

  pass_of : (a k b : ℕ) (l : M) → k < tile_mouths p (tile_of_mouth p a) - 1 → pass_at p w.passes a k ≡ Some (b, l) → Passed κ p w a b l
  pass_of a k b l few e = go (slice_get w.passes (pass_base p (tile_of_mouth p a) + k)) refl e
    where
      go : (o : Option (PassRecord M)) → slice_get w.passes (pass_base p (tile_of_mouth p a) + k) ≡ o → pass_link p (tile_of_mouth p a) a o ≡ Some (b, l) → Passed κ p w a b l
      go None is x = absurd (none_some (b, l) x)
      go (Some q) is x =
          let r = if_some (of_tile p (tile_of_mouth p a) q.from && of_tile p (tile_of_mouth p a) q.to) _ (b, l) x in
          let inside = and_parts (of_tile p (tile_of_mouth p a) q.from) _ r.0 in
          let s = ends_of q a b l r.1 in
          record {
            tile = tile_of_mouth p a;
            place = k;
            pass = q;
            exists = tile_exists p (cell_of p a).row (cell_of p a).col;
            within = few;
            stands = is;
            from_in = inside.0;
            to_in = inside.1;
            ends = s.0;
            level = s.1;
          }

  -- both ends of a pass are mouths of its tile
  pub pass_from : (a b : ℕ) (l : M) → Passed κ p w a b l → (a < mouths p) × (b < mouths p)
  pass_from a b l s =
      let f = of_tile_owner p law s.tile s.pass.from s.exists s.from_in in
      let t = of_tile_owner p law s.tile s.pass.to s.exists s.to_in in
      ⊎_elim
      (λ (e : (s.pass.from ≡ a) × (s.pass.to ≡ b)). (subst (λ z. z < mouths p) e.0 f.0, subst (λ z. z < mouths p) e.1 t.0))
      (λ (e : (s.pass.from ≡ b) × (s.pass.to ≡ a)). (subst (λ z. z < mouths p) e.1 t.0, subst (λ z. z < mouths p) e.0 f.0))
      s.ends

  pub pass_tile : (a b : ℕ) (l : M) (s : Passed κ p w a b l) → tile_of_mouth p a ≡ s.tile
  pass_tile a b l s = ⊎_elim
      (λ (e : (s.pass.from ≡ a) × (s.pass.to ≡ b)). subst (λ z. tile_of_mouth p z ≡ s.tile) e.0 (of_tile_owner p law s.tile s.pass.from s.exists s.from_in).1)
      (λ (e : (s.pass.from ≡ b) × (s.pass.to ≡ a)). subst (λ z. tile_of_mouth p z ≡ s.tile) e.1 (of_tile_owner p law s.tile s.pass.to s.exists s.to_in).1)
      s.ends

  of_pass : (a b : ℕ) (l : M) (s : Passed κ p w a b l) → (s.place < tile_mouths p (tile_of_mouth p a) - 1) × (pass_at p w.passes a s.place ≡ Some (b, l))
  of_pass a b l s =
      let tile = pass_tile a b l s in (
        subst (λ t. s.place < tile_mouths p t - 1) (sym tile) s.within,
        ap (λ t. pass_link p t a (slice_get w.passes (pass_base p t + s.place))) tile ∙ ap (pass_link p s.tile a) s.stands
            ∙ ap (λ z. cond z (far_end a s.pass) None) (and_from _ _ s.from_in s.to_in)
            ∙ of_ends s.pass a b s.ends ∙ ap (λ z. Some (b, z)) (sym s.level),
      )

  -- crossings

  pub listed : (a : ℕ) → a < mouths p → mouth_crossings κ p w a ≡ picked (seam_at κ p w.mouths a) 0 9 ++ picked (pass_at p w.passes a) 0 (tile_mouths p (tile_of_mouth p a) - 1)
  unfolding mouth_crossings
  listed a h = ap (λ b. cond b (picked (seam_at κ p w.mouths a) 0 9 ++ picked (pass_at p w.passes a) 0 (tile_mouths p (tile_of_mouth p a) - 1)) []) (lt-ltb a (mouths p) h)

  pub unlisted : (a : ℕ) → mouths p ≤ a → mouth_crossings κ p w a ≡ []
  unfolding mouth_crossings
  unlisted a h = ap (λ b. cond b (picked (seam_at κ p w.mouths a) 0 9 ++ picked (pass_at p w.passes a) 0 (tile_mouths p (tile_of_mouth p a) - 1)) []) (le-ltb a (mouths p) h)

  pub cross_linked : (a j b : ℕ) (l : M) → slice_get (mouth_crossings κ p w a) j ≡ Some (b, l) → Seamed κ p w a b l ⊎ Passed κ p w a b l
  cross_linked a j b l e = ⊎_elim
      (λ (h : a < mouths p). ⊎_elim
      (λ (s : slice_get (picked (seam_at κ p w.mouths a) 0 9) j ≡ Some (b, l)).
      let r = picked_of (seam_at κ p w.mouths a) 0 9 j (b, l) s in inl (seam_of a r.0 b l h r.2 r.3))
      (λ (s : (i : ℕ) × (slice_get (picked (pass_at p w.passes a) 0 (tile_mouths p (tile_of_mouth p a) - 1)) i ≡ Some (b, l))).
      let r = picked_of (pass_at p w.passes a) 0 (tile_mouths p (tile_of_mouth p a) - 1) s.0 (b, l) s.1 in inr (pass_of a r.0 b l (omega (arith, r.2)) r.3))
      (nth_either (picked (seam_at κ p w.mouths a) 0 9) _ j (b, l) (ap (λ xs. slice_get xs j) (sym (listed a h)) ∙ e)))
      (λ (h : mouths p ≤ a). absurd (none_some (b, l) (ap (λ xs. slice_get xs j) (sym (unlisted a h)) ∙ e)))
      (cases_lt a (mouths p))

  pub linked_cross : (a b : ℕ) (l : M) → Seamed κ p w a b l ⊎ Passed κ p w a b l → (j : ℕ) × (slice_get (mouth_crossings κ p w a) j ≡ Some (b, l))
  linked_cross a b l e = ⊎_elim
      (λ (s : Seamed κ p w a b l).
      let h : a < mouths p = ((numbered p law).interval _ _ a s.from_number).3 in
      let k = of_seam a b l s in
      let r = of_picked (seam_at κ p w.mouths a) 0 9 k.0 (b, l) (omega arith) k.1 k.2 in
      (r.0, ap (λ xs. slice_get xs r.0) (listed a h) ∙ nth_left (picked (seam_at κ p w.mouths a) 0 9) _ r.0 (b, l) r.1))
      (λ (s : Passed κ p w a b l).
      let h : a < mouths p = (pass_from a b l s).0 in
      let k = of_pass a b l s in
      let n : ℕ = tile_mouths p (tile_of_mouth p a) - 1 in
      let r = of_picked (pass_at p w.passes a) 0 n s.place (b, l) (omega arith) (omega (arith, k.0)) k.1 in
      let j : ℕ = length (picked (seam_at κ p w.mouths a) 0 9) + r.0 in
      (j, ap (λ xs. slice_get xs j) (listed a h) ∙ nth_right (picked (seam_at κ p w.mouths a) 0 9) (picked (pass_at p w.passes a) 0 n) r.0 ∙ r.1))
      e

  -- both ways

  seam_back : (a b : ℕ) (l : M) → Seamed κ p w a b l → Seamed κ p w b a l
  seam_back a b l s = record {
    from = s.to;
    to = s.from;
    from_number = s.to_number;
    to_number = s.from_number;
    touch = (s.touch.1, s.touch.0, s.touch.3, s.touch.2, λ e. s.touch.4 (sym e));
    apart = λ e. s.apart (sym e);
    level = s.level ∙ level_swap a b;
  }

  pass_back : (a b : ℕ) (l : M) → Passed κ p w a b l → Passed κ p w b a l
  pass_back a b l s = record {
    tile = s.tile;
    place = s.place;
    pass = s.pass;
    exists = s.exists;
    within = s.within;
    stands = s.stands;
    from_in = s.from_in;
    to_in = s.to_in;
    ends = ⊎_elim inr inl s.ends;
    level = s.level;
  }

  pub mouth_laws : Laws (mouths p) (mouth_crossings κ p w) (mouth_drain κ p w)
  unfolding mouth_drain
  mouth_laws = record {
    within = λ a j b l e. ⊎_elim (λ s. ((numbered p law).interval _ _ b s.to_number).3) (λ s. (pass_from a b l s).1) (cross_linked a j b l e);
    back = λ a j b l e. linked_cross b a l (⊎_elim (λ s. inl (seam_back a b l s)) (λ s. inr (pass_back a b l s)) (cross_linked a j b l e));
    short = λ a. ⊎_elim
        (λ (h : a < mouths p).
        let n : ℕ = tile_mouths p (tile_of_mouth p a) - 1 in
        subst (λ xs. length xs < 2 ^ 64) (sym (listed a h)) (omega (arith, length-append (picked (seam_at κ p w.mouths a) 0 9) (picked (pass_at p w.passes a) 0 n), picked_short (seam_at κ p w.mouths a) 0 9, picked_short (pass_at p w.passes a) 0 n, mouths_few p (tile_of_mouth p a) law (tile_exists p (cell_of p a).row (cell_of p a).col))))
        (λ (h : mouths p ≤ a). subst (λ xs. length xs < 2 ^ 64) (sym (unlisted a h)) (omega arith))
        (cases_lt a (mouths p));
    drained = λ a d e. ltb-true a (mouths p) (if_some (ltb a (mouths p)) _ d e).0;
  }

  -- where a mouth drains

  drain_by : (a i j : ℕ) (b : Bool) → mouth_number p i j ≡ Some a → at_edge p.rows p.cols i j ≡ b → mouth_drain κ p w a ≡ cond b (Some (mark_of κ.void w.mouths a)) None
  unfolding mouth_drain
  drain_by a i j b e is =
      let here = cell_is p law i j a e in
      let edge : at_edge p.rows p.cols (cell_of p a).row (cell_of p a).col ≡ b = ap (λ c. at_edge p.rows p.cols c.row c.col) here ∙ is in
      ap₂ (λ x y. cond x (cond y (Some (mark_of κ.void w.mouths a)) None) None) (lt-ltb a (mouths p) ((numbered p law).interval i j a e).3) edge

  pub drain_none : (a : ℕ) → mouths p ≤ a → mouth_drain κ p w a ≡ None
  unfolding mouth_drain
  drain_none a h = ap (λ x. cond x (cond (at_edge p.rows p.cols (cell_of p a).row (cell_of p a).col) (Some (mark_of κ.void w.mouths a)) None) None) (le-ltb a (mouths p) h)

  pub drain_read : (a i j : ℕ) (b : Bool) → mouth_number p i j ≡ Some a → b ≡ at_edge p.rows p.cols i j → mouth_drain κ p w a ≡ cond b (Some (mark_of κ.void w.mouths a)) None
  drain_read a i j b e is = drain_by a i j b e (sym is)

  pub mouth_joins : Joins κ p w
  mouth_joins = record {
    crosses = λ a b l. (λ e. cross_linked a e.0 b l e.1, λ s. linked_cross a b l s);
    drains = λ a i j e on. drain_by a i j true e (on_edge p.rows p.cols (place i j) on);
    dry = λ a i j e off. ⊎_elim
        (λ (is : at_edge p.rows p.cols i j ≡ true). absurd (off (edge_on p.rows p.cols (place i j) is)))
        (λ (is : at_edge p.rows p.cols i j ≡ false). drain_by a i j false e is)
        (cases_Bool (at_edge p.rows p.cols i j));
  }
