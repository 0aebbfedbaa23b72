-- The links of a mouth by what is read of the cells around it and of the records of its tile. Assumes nothing.
use Rattle.std.proofs.Common.{◌≡◌, ℕ, zero, suc, ◌+◌, ◌-◌, ◌<◌, ◌≤◌, Bool, true, false, cond, ◌&&◌, ltb, leb, List, length, get_or, Some, None, Option, sym, refl, ap, ◌∙◌, subst, ap₂, arith, lt-ltb, eq-eqb, ne_eqb}
use borrow.Author.Tests.{lt-leb}
use Rattle.std.specs.List.{slice_get}
use Rattle.std.proofs.lemmas.Option.{slice_get_read}
use Rattle.std.proofs.lemmas.Bool.{and_from}
use Rattle.sheets.specs.declared.copies.Place.{Place}
use Rattle.terrain.specs.Cells.{place}
use Rattle.terrain.specs.Terrains.{Kind}
use Rattle.marks.specs.Refusals.{accepted, refused, checked}
use Rattle.tiles.specs.Plans.{Plan, Lawful, tiles, tile_at, tile_of, on_sheet, spot_of, tile_checks}
use Rattle.tiles.specs.Mouths.{mouths, passes, mouth_number, mouth_base, pass_base, tile_mouths}
use Rattle.tiles.proofs.Numberings.{base_next, base_many, base_small, mouths_some}
use Rattle.tiles.specs.declared.places.Spot.{Spot}
use Rattle.tables.specs.declared.records.MouthRecord.{MouthRecord}
use Rattle.tables.specs.declared.records.PassRecord.{PassRecord}
use Rattle.tables.specs.Records.{mark_or, mark_of}
use Rattle.tables.specs.Links.{cell_of, tile_of_mouth, around, link_to, seam_link, seam_at, far_end, pass_link, pass_at}
use Rattle.tables.proofs.Picking.{none_some}
use Rattle.tables.proofs.Linked.{around_of, cell_is}

some_same : {X : Type 0} (x y : X) → Some x ≡ Some y → x ≡ y
some_same x y e = cc

-- the mark in a record that was read
pub mark_read : {M : Type 0} (d : M) (ms : List (MouthRecord M)) (a k : ℕ) (r : MouthRecord M) → k ≡ a → a < length ms → r ≡ get_or ms k r → r.mark ≡ mark_of d ms a
mark_read d ms a k r e h is = sym (ap (mark_or d) (slice_get_read ms (length ms) a r refl h (is ∙ ap (λ n. get_or ms n r) e)))

-- the spot of a cell of the sheet
pub spot_tile : (p : Plan) (i j : ℕ) (s : Spot) → spot_of p i j ≡ Some s → s.tile ≡ tile_of p i j
spot_tile p i j s e = go (on_sheet p i j) e
  where
    here : Spot
    here = record { tile = tile_of p i j; row = i - (tile_at p (tile_of p i j)).top; col = j - (tile_at p (tile_of p i j)).left }

    go : (b : Bool) → cond b (Some here) None ≡ Some s → s.tile ≡ tile_of p i j
    go true x = sym (ap (λ z. z.tile) (some_same _ s x))
    go false x = absurd (none_some s x)

pub spot_some : (p : Plan) (i j : ℕ) → i < p.rows → j < p.cols → spot_of p i j ≡ None → ⊥
spot_some p i j li lj e = none_some _ (sym e ∙ ap (λ b. cond b (Some (record { tile = tile_of p i j; row = i - (tile_at p (tile_of p i j)).top; col = j - (tile_at p (tile_of p i j)).left })) None) (and_from _ _ (lt-ltb i p.rows li) (lt-ltb j p.cols lj)))

module _ {M : Type 0} (κ : Kind M) (p : Plan) (law : Lawful p) (ms : List (MouthRecord M)) (a k i j : ℕ) (number : mouth_number p i j ≡ Some a) where
  cell : cell_of p a ≡ place i j
  cell = cell_is p law i j a number

  pub tile_read : tile_of_mouth p a ≡ tile_of p i j
  tile_read = ap (λ c. tile_of p c.row c.col) cell

  seam_read : (o : Option Place) → around p.rows p.cols (place i j) k ≡ o → seam_at κ p ms a k ≡ seam_link κ p ms a o
  seam_read o e = ap (λ c. seam_link κ p ms a (around p.rows p.cols c k)) cell ∙ ap (seam_link κ p ms a) e

  -- past the sheet's edge
  pub seam_outside : around p.rows p.cols (place i j) k ≡ None → seam_at κ p ms a k ≡ None
  seam_outside e = seam_read None e

  module _ (d : Place) (is : around p.rows p.cols (place i j) k ≡ Some d) where
    pub seam_spot : spot_of p d.row d.col ≡ None → ⊥
    seam_spot e = let r = around_of p (place i j) k d is in spot_some p d.row d.col r.in_row r.in_col e

    -- in the same tile, and in another
    pub seam_inside : (s : Spot) → spot_of p d.row d.col ≡ Some s → s.tile ≡ tile_of p i j → seam_at κ p ms a k ≡ None
    seam_inside s e same =
        seam_read (Some d) is
        ∙ ap (λ b. cond b None (link_to κ ms a (mouth_number p d.row d.col))) (eq-eqb _ _ (sym (spot_tile p d.row d.col s e) ∙ same ∙ sym tile_read))

    pub seam_over : (s : Spot) → spot_of p d.row d.col ≡ Some s → (s.tile ≡ tile_of p i j → ⊥) → seam_at κ p ms a k ≡ link_to κ ms a (mouth_number p d.row d.col)
    seam_over s e other =
        seam_read (Some d) is
        ∙ ap (λ b. cond b None (link_to κ ms a (mouth_number p d.row d.col))) (ne_eqb _ _ (λ z. other (spot_tile p d.row d.col s e ∙ z ∙ tile_read)))

-- what a call about a tile that is there answered
pub tile_told : (p : Plan) (t x v : ℕ) → t < tiles p → accepted x ≡ checked (tile_checks p t) v → x ≡ v
tile_told p t x v h e = let is : accepted x ≡ accepted v = e ∙ ap (λ b. cond b (refused 3 0) (accepted v)) (lt-leb (tiles p) t h) in cc

-- each tile has a mouth at least
base_gap : (p : Plan) → Lawful p → (s n : ℕ) → s + n ≤ tiles p → mouth_base p s + n ≤ mouth_base p (s + n)
base_gap p law s zero h = let e : s + 0 ≡ s = omega arith in omega (arith, ap (mouth_base p) e)
base_gap p law s (suc n) h =
    let e : s + suc n ≡ suc (s + n) = omega arith in
    omega (arith, base_gap p law s n (omega arith), ap (mouth_base p) e, base_next p (s + n), mouths_some p (s + n) law (omega arith))

-- where the records of a tile's passes stand
pub record Records (p : Plan) (t first count : ℕ) : Type 0 where
  pub some : 1 ≤ count
  pub few : first + count ≤ 262144
  pub low : t ≤ first
  pub base : first - t ≡ pass_base p t
  pub within : first - t + (count - 1) ≤ passes p

pub records : (p : Plan) → Lawful p → (t first count : ℕ) → t < tiles p → first ≡ mouth_base p t → count ≡ tile_mouths p t → Records p t first count
records p law t first count h is-first is-count =
    let some = mouths_some p t law h in
    let next = base_next p t in
    let few = base_small p (suc t) law (omega arith) in
    let low = base_many p t law (omega arith) in
    let e : suc t + (tiles p - suc t) ≡ tiles p = omega arith in
    let gap = base_gap p law (suc t) (tiles p - suc t) (omega arith) in
    let all : mouth_base p (suc t) + (tiles p - suc t) ≤ mouths p = subst (λ n. mouth_base p (suc t) + (tiles p - suc t) ≤ mouth_base p n) e gap in
    record { some = omega arith; few = omega arith; low = omega arith; base = ap (λ n. n - t) is-first; within = omega arith }

-- the link by a record that was read
pub pass_read : {M : Type 0} (p : Plan) → Lawful p → (ps : List (PassRecord M)) (a t k first count at : ℕ) (q : PassRecord M) (o : Option (ℕ × M)) → t ≡ tile_of_mouth p a → first ≡ mouth_base p t → count ≡ tile_mouths p t → at ≡ pass_base p t + k → at < length ps → q ≡ get_or ps at q →
    o ≡ cond ((leb first q.from && ltb q.from (first + count)) && (leb first q.to && ltb q.to (first + count))) (far_end a q) None →
    pass_at p ps a k ≡ o
pass_read p law ps a t k first count at q o is-t is-first is-count is_at h read e =
    let stands : slice_get ps (pass_base p t + k) ≡ Some q = ap (slice_get ps) (sym is_at) ∙ slice_get_read ps (length ps) at q refl h read in
    let next : first + count ≡ mouth_base p (suc t) = omega (arith, base_next p t) in
    ap (λ z. pass_link p z a (slice_get ps (pass_base p z + k))) (sym is-t) ∙ ap (pass_link p t a) stands
    ∙ ap₂ (λ x y. cond ((leb x q.from && ltb q.from y) && (leb x q.to && ltb q.to y)) (far_end a q) None) (sym is-first) (sym next) ∙ sym e
