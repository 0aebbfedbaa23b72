-- The records of a tile whose marks were kept and whose mouths were linked. Assumes nothing.
use Rattle.std.proofs.Common.{◌≡◌, ℕ, zero, suc, ◌+◌, ◌-◌, ◌<◌, ◌≤◌, Bool, true, false, cond, ◌&&◌, eqb, ltb, ◌⊎◌, List, [], ◌∷◌, ◌++◌, map, length, get_or, take, drop, Some, None, Option, sym, refl, ap, ◌∙◌, subst, inl, inr, ⊎_elim, arith, length-append, length-drop, length-take}
use borrow.Rule.Slice.PartMut.{put_mid}
use Rattle.std.specs.List.{ContainsAt as Has, slice_get}
use Rattle.std.proofs.ByRecursion.{has_get_or}
use Rattle.std.proofs.lemmas.List.{length-map, length-take-le, take_all, get_or-map}
use Rattle.std.proofs.lemmas.Option.{slice_get-get_or}
use Rattle.std.proofs.lemmas.Bool.{cases_Bool, cases_lt, lt-leb, ltb-false, and_parts, or_parts, not-false, both_ways, eqb-true}
use Rattle.flood.proofs.Counts.{some_same}
use Rattle.flood.specs.Calls.{short}
use Rattle.marks.specs.Orders.{OrderLaws}
use Rattle.marks.specs.Refusals.{accepted, refused, checked}
use Rattle.sheets.specs.declared.copies.Place.{Place}
use Rattle.sheets.specs.Grids.{Grid, mark}
use Rattle.sheets.proofs.Marks.{at-get_or}
use Rattle.terrain.specs.Blocks.{HoldsBlock}
use Rattle.terrain.specs.Cells.{place}
use Rattle.terrain.specs.Levels.{LevelsAreSills, HaveOrigins}
use Rattle.terrain.specs.Terrains.{Kind, cell_at}
use Rattle.tiles.specs.Plans.{Plan, Lawful, Area, tiles, tile_at, height, width, holds, tile_checks}
use Rattle.tiles.specs.Mouths.{mouth_index, mouth_base, pass_base, border, tile_mouths, mouths, passes}
use Rattle.tiles.proofs.Indices.{index_below, number_index, number_owner}
use Rattle.tiles.proofs.Numberings.{base_more, base_rises}
use Rattle.tiles.proofs.Tilings.{holding, tile_within}
use Rattle.tables.specs.declared.records.MouthRecord.{MouthRecord}
use Rattle.tables.specs.declared.records.PassRecord.{PassRecord}
use Rattle.tables.specs.Checks.{tables_short}
use Rattle.tables.specs.Records.{tables, mouth_with}
use Rattle.tables.proofs.Reading.{records}
use Rattle.seams.specs.Sheets.{Cuts, MouthOf, MouthAt, SheetTree, extent_of}
use Rattle.seams.specs.Surveys.{TouchIn, Further}
use Rattle.seams.proofs.Surveys.{survey_count, survey_tree}
use Rattle.surveying.specs.Blocks.{Inside, cell_number, MarksKept}
use Rattle.surveying.specs.Checks.{other_sides}
use Rattle.tables.specs.Surveyed.{PassOf, PassIn, Recorded, SameElsewhere}
use Rattle.surveying.specs.Turns.{further, cells_of, Flooded, Besides, Sofar, LinkedAt}
use Rattle.surveying.proofs.Marking.{number_in}

-- what stands at a place of a list of two parts, of a front, and of what is left behind one
nth_left : {X : Type 0} (xs ys : List X) (i : ℕ) → i < length xs → slice_get (xs ++ ys) i ≡ slice_get xs i
nth_left [] ys i h = absurd (omega (arith, h))
nth_left (x ∷ xs) ys zero h = refl
nth_left (x ∷ xs) ys (suc i) h = nth_left xs ys i (omega (arith, h))

nth_right : {X : Type 0} (xs ys : List X) (i n : ℕ) → n ≡ length xs + i → slice_get (xs ++ ys) n ≡ slice_get ys i
nth_right [] ys i n e = let is : n ≡ i = omega (arith, e) in ap (slice_get ys) is
nth_right (x ∷ xs) ys i zero e = absurd (omega (arith, e))
nth_right (x ∷ xs) ys i (suc n) e = nth_right xs ys i n (omega (arith, e))

nth_take : {X : Type 0} (n : ℕ) (xs : List X) (i : ℕ) → i < n → slice_get (take n xs) i ≡ slice_get xs i
nth_take zero xs i h = absurd (omega (arith, h))
nth_take (suc n) [] i h = refl
nth_take (suc n) (x ∷ xs) zero h = refl
nth_take (suc n) (x ∷ xs) (suc i) h = nth_take n xs i (omega (arith, h))

nth_drop : {X : Type 0} (n : ℕ) (xs : List X) (i m : ℕ) → m ≡ n + i → slice_get (drop n xs) i ≡ slice_get xs m
nth_drop zero xs i m e = let is : i ≡ m = omega (arith, e) in ap (slice_get xs) is
nth_drop (suc n) [] i m e = refl
nth_drop (suc n) (x ∷ xs) i zero e = absurd (omega (arith, e))
nth_drop (suc n) (x ∷ xs) i (suc m) e = nth_drop n xs i m (omega (arith, e))

-- after a write to a part of a list
module _ {X : Type 0} (a k : ℕ) (xs ys : List X) (fits : a + k ≤ length xs) (long : length ys ≡ k) where
  pub part_in : (i : ℕ) → i < k → slice_get (put_mid a k xs ys) (a + i) ≡ slice_get ys i
  part_in i h = nth_right (take a xs) (ys ++ drop k (drop a xs)) i (a + i) (omega (arith, length-take-le a xs (omega (arith, fits)))) ∙ nth_left ys (drop k (drop a xs)) i (omega (arith, h, long))

  pub part_long : length (put_mid a k xs ys) ≡ length xs
  part_long = simp (length-append, length-take, length-drop) (omega (arith, fits, long))

  pub part_out : (j : ℕ) → (j < a) ⊎ (a + k ≤ j) → slice_get (put_mid a k xs ys) j ≡ slice_get xs j
  part_out j (inl low) = nth_left (take a xs) (ys ++ drop k (drop a xs)) j (omega (arith, low, length-take-le a xs (omega (arith, fits)))) ∙ nth_take a xs j low
  part_out j (inr high) =
      nth_right (take a xs) (ys ++ drop k (drop a xs)) (j - a) j (omega (arith, high, length-take-le a xs (omega (arith, fits))))
      ∙ nth_right ys (drop k (drop a xs)) (j - a - k) (j - a) (omega (arith, high, long))
      ∙ nth_drop k (drop a xs) (j - a - k) (j - a) (omega (arith, high)) ∙ nth_drop a xs (j - a) j (omega (arith, high))

-- the mouths linked in a part of a table
pub linked_part : {M : Type 0} (κ : Kind M) (a : Area) (levels : List (Option M)) (origins : List (Option ℕ)) (C : Flooded κ a levels origins) (first start k n : ℕ) (labels : List ℕ) (ps ys : List (PassRecord M)) →
    start + k ≤ length ps → length ys ≡ k → Sofar κ a levels origins C first (Besides κ a levels origins []) [] labels ys n → LinkedAt κ a levels origins C first start ps (put_mid start k ps ys) n
linked_part κ a levels origins C first start k n labels ps ys fits long S = record {
  labels = labels;
  records = ys;
  linked = S;
  new = λ i h. part_in start k ps ys fits long i (omega (arith, h, long));
  rest = λ j out. part_out start k ps ys fits long j (⊎_elim (λ low. inl low) (λ high. inr (omega (arith, high, long))) out);
  long = part_long start k ps ys fits long;
}

-- what a call about a tile that is there told
pub tile_is : {X : Type 0} (p : Plan) (t : ℕ) (x y : X) → t < tiles p → accepted x ≡ checked (tile_checks p t) y → x ≡ y
tile_is p t x y h e = let is : accepted x ≡ accepted y = e ∙ ap (λ b. cond b (refused 3 0) (accepted y)) (lt-leb (tiles p) t h) in cc

-- tables that are long enough have a record for each mouth and each pass of a tile
pub record Long (p : Plan) (t first m q : ℕ) : Type 0 where
  pub low : t ≤ first
  pub some : 1 ≤ tile_mouths p t
  pub few : first + tile_mouths p t ≤ 262144
  pub mouths : first + tile_mouths p t ≤ m
  pub passes : first - t + (tile_mouths p t - 1) ≤ q

pub tables_long : (p : Plan) (t first m q : ℕ) → Lawful p → t < tiles p → first ≡ mouth_base p t → tables_short p m q ≡ false → Long p t first m q
tables_long p t first m q law there is e =
    let r = records p law t first (tile_mouths p t) there is refl in
    let b = or_parts (ltb m (mouths p)) (ltb q (passes p)) e in
    record {
      low = r.low;
      some = r.some;
      few = r.few;
      mouths = omega (arith, ltb-false m (mouths p) b.0, is, base_more p t, base_rises p (t + 1) (tiles p) (omega (arith, there)));
      passes = omega (arith, ltb-false q (passes p) b.1, r.within);
    }

-- slices that are not short are long
pub room_short : {X Y Z : Type 0} (n : ℕ) (xs : List X) (ys : List Y) (zs : List Z) → short n xs ys zs ≡ false → (n ≤ length xs) × (n ≤ length ys) × (n ≤ length zs)
room_short n xs ys zs e = go (ltb (length xs) n) (ltb (length ys) n) (ltb (length zs) n) refl refl refl e
  where
    go : (x y z : Bool) → ltb (length xs) n ≡ x → ltb (length ys) n ≡ y → ltb (length zs) n ≡ z → cond x true (cond y true z) ≡ false → (n ≤ length xs) × (n ≤ length ys) × (n ≤ length zs)
    go true y z a b c f = absurd (both_ways true f refl)
    go false true z a b c f = absurd (both_ways true f refl)
    go false false z a b c f = (ltb-false (length xs) n a, ltb-false (length ys) n b, ltb-false (length zs) n (c ∙ f))

-- a plan that cuts the sheet
pub sides_cut : {M : Type 0} (p : Plan) (g : Grid M) → other_sides p g ≡ false → Cuts p g
sides_cut p g e =
    let b = and_parts (eqb g.rows p.rows) (eqb g.cols p.cols) (not-false (eqb g.rows p.rows && eqb g.cols p.cols) e) in
    record { rows = eqb-true g.rows p.rows b.0; cols = eqb-true g.cols p.cols b.1 }

-- its tiles lie on the sheet
pub tile_inside : {M : Type 0} (p : Plan) (g : Grid M) (t : ℕ) (a : Area) → Lawful p → Cuts p g → a ≡ tile_at p t → a.top < a.bottom → a.left < a.right → Inside g a
tile_inside p g t a law fit is tall wide =
    let here : holds (tile_at p t) (a.bottom - 1) (a.right - 1) ≡ true = subst (λ z. holds z (a.bottom - 1) (a.right - 1) ≡ true) is (holding a (a.bottom - 1) (a.right - 1) (record { above = omega (arith, tall); below = omega (arith, tall); before = omega (arith, wide); behind = omega (arith, wide) })) in
    let r = tile_within p (a.bottom - 1) (a.right - 1) t law here in
    record { rows = omega (arith, r.0, fit.rows, tall); cols = omega (arith, r.1, fit.cols, wide) }

-- a tile that was read and flooded
pub flooded_tile : {M : Type 0} (κ : Kind M) (g : Grid M) (p : Plan) (t : ℕ) (a : Area) (marks : List M) (levels : List (Option M)) (origins : List (Option ℕ)) → Lawful p → Cuts p g → t < tiles p → a ≡ tile_at p t →
    HoldsBlock g (place a.top a.left) (extent_of a) marks × LevelsAreSills κ (height a) (width a) marks levels × HaveOrigins κ (height a) (width a) marks levels origins → Flooded κ a levels origins
flooded_tile κ g p t a marks levels origins law fit there is F = record {
  grid = g;
  plan = p;
  tile = t;
  marks = marks;
  lawful = law;
  cuts = fit;
  there = there;
  area = sym is;
  flooded = record {
    read = subst (λ z. HoldsBlock g (place z.top z.left) (extent_of z) marks) is F.0;
    sills = subst (λ z. LevelsAreSills κ (height z) (width z) marks levels) is F.1;
    from = subst (λ z. HaveOrigins κ (height z) (width z) marks levels origins) is F.2;
  };
}

module _ {M : Type 0} (κ : Kind M) (O : OrderLaws κ.leb) (a : Area) (levels : List (Option M)) (origins : List (Option ℕ)) (C : Flooded κ a levels origins) where
  abbrev p : Plan
  p = C.plan

  abbrev t : ℕ
  t = C.tile

  abbrev g : Grid M
  g = C.grid

  -- of two touching cells one is not above the other
  both : (u v : ℕ) → TouchIn p t u v → Besides κ a levels origins [] u v ⊎ Besides κ a levels origins [] v u
  both u v T =
      let lu = C.flooded.sills u T.from in
      let lv = C.flooded.sills v T.to in
      ⊎_elim
      (λ (le : κ.leb lv.0 lu.0 ≡ true). inl (inr (record { lower = lv.0; upper = lu.0; at_d = lv.1; at_c = lu.1; under = le }, refl)))
      (λ (gt : κ.leb lv.0 lu.0 ≡ false). inr (inr (record { lower = lu.0; upper = lv.0; at_d = lu.1; at_c = lv.1; under = O.total lv.0 lu.0 gt }, refl)))
      (cases_Bool (κ.leb lv.0 lu.0))

  module _ (first : ℕ) (is-first : first ≡ mouth_base p t) (labels : List ℕ) (records : List (PassRecord M)) (n : ℕ) (S : Sofar κ a levels origins C first (Besides κ a levels origins []) [] labels records n) where
    count : length S.passes + 1 ≡ tile_mouths p t
    count = survey_count κ O g p C.lawful C.cuts t C.there C.marks levels origins C.flooded labels S.passes _ S.survey both

    long : length S.passes ≡ n
    long = sym (length-map S.passes (further first)) ∙ ap length (sym S.listed) ∙ length-take-le n records S.within

    -- as many passes as one fewer than mouths
    pub all_linked : n ≡ tile_mouths p t - 1
    all_linked = omega (arith, count, long)

    whole : records ≡ map (further first) S.passes
    whole = sym (take_all n records (omega (arith, count, long, S.room))) ∙ S.listed

    none : ℕ × ℕ × M
    none = (0, 0, κ.void)

    record_at : (i : ℕ) → i < length S.passes → slice_get records i ≡ Some (further first (get_or S.passes i none))
    record_at i h =
        ap (λ z. slice_get z i) whole ∙ slice_get-get_or (map (further first) S.passes) i (further first none) (omega (arith, h, length-map S.passes (further first)))
        ∙ ap Some (get_or-map (further first) S.passes i none (further first none) h)

    module _ (ps ps' : List (PassRecord M)) (in_table : (i : ℕ) → i < length records → slice_get ps' (pass_base p t + i) ≡ slice_get records i) where
      table_at : (i : ℕ) → i < length S.passes → slice_get ps' (pass_base p t + i) ≡ Some (further first (get_or S.passes i none))
      table_at i h = in_table i (omega (arith, h, count, S.room)) ∙ record_at i h

      place_of : (k : ℕ) → PassOf p t k → k - pass_base p t < length S.passes
      place_of k o = omega (arith, o, count)

      table_of : (k : ℕ) → PassOf p t k → slice_get ps' k ≡ Some (further first (get_or S.passes (k - pass_base p t) none))
      table_of k o =
          let i : ℕ = k - pass_base p t in
          let is : k ≡ pass_base p t + i = omega (arith, o.0) in
          ap (slice_get ps') is ∙ table_at i (place_of k o)

      mouth_of : (x : ℕ) → x < tile_mouths p t → MouthOf p t (first + x)
      mouth_of x h = (omega (arith, is-first), omega (arith, is-first, h, base_more p t))

      pub chart_ends : (k : ℕ) → PassOf p t k → (q : PassRecord M) × (slice_get ps' k ≡ Some q) × MouthOf p t q.from × MouthOf p t q.to
      chart_ends k o =
          let q = get_or S.passes (k - pass_base p t) none in
          let e = S.survey.ends q.0 q.1 q.2 (has_get_or S.passes (k - pass_base p t) none (place_of k o)) in
          (further first q, table_of k o, mouth_of q.0 e.0, mouth_of q.1 e.1)

      to_list : (b c : ℕ) (l : M) → PassIn p t ps' b c l → Further (mouth_base p t) S.passes b c l
      to_list b c l r =
          let q = get_or S.passes (r.0 - pass_base p t) none in
          let same : record { from = b; to = c; level = l } ≡ further first q = some_same (slice_get ps' r.0) (record { from = b; to = c; level = l }) (further first q) r.2 (table_of r.0 r.1) in (
            q.0,
            q.1,
            ap (λ (z : PassRecord M). z.from) same ∙ ap (λ z. z + q.0) is-first,
            ap (λ (z : PassRecord M). z.to) same ∙ ap (λ z. z + q.1) is-first,
            subst (λ z. Has S.passes (q.0, q.1, z)) (sym (ap (λ (z : PassRecord M). z.level) same)) (has_get_or S.passes (r.0 - pass_base p t) none (place_of r.0 r.1)),
          )

      from_list : (b c : ℕ) (l : M) → Further (mouth_base p t) S.passes b c l → PassIn p t ps' b c l
      from_list b c l f =
          let i : ℕ = f.4.0 in
          let is : further first (get_or S.passes i none) ≡ record { from = b; to = c; level = l } =
          ap (further first) (f.4.2 none) ∙ (λ s. record { from = (ap (λ z. z + f.0) is-first ∙ sym f.2) s; to = (ap (λ z. z + f.1) is-first ∙ sym f.3) s; level = l }) in
          (pass_base p t + i, (omega arith, omega (arith, f.4.1, count)), table_at i f.4.1 ∙ ap Some is)

      pub chart_tree : SheetTree κ g p t (PassIn p t ps')
      chart_tree = survey_tree κ O g p C.lawful C.cuts t C.there C.marks levels origins C.flooded labels S.passes _ S.survey both (PassIn p t ps') (λ b c l. (to_list b c l, from_list b c l))

  -- the marks of the tile's mouths
  module _ (first : ℕ) (is-first : first ≡ mouth_base p t) (ms ms' : List (MouthRecord M)) (room : length C.marks ≡ cells_of a) (K : MarksKept κ a C.marks first (border (height a) (width a)) ms ms') where
    pub chart_marks : (b : ℕ) (c : Place) → MouthOf p t b → MouthAt p b c → (m : M) × (cell_at g c ≡ mark m) × (slice_get ms' b ≡ Some (mouth_with m None))
    chart_marks b c of is =
        let n = number_index p c.row c.col b is in
        let mine = number_owner p c.row c.col b t is of.0 of.1 in
        let k : ℕ = n.0 in
        let index : mouth_index a c.row c.col ≡ Some k = subst (λ z. mouth_index z c.row c.col ≡ Some k) (ap (tile_at p) (sym mine) ∙ C.area) n.1 in
        let number : first + k ≡ b = ap (λ z. z + k) (is-first ∙ ap (mouth_base p) mine) ∙ n.2 in
        let r = number_in a c.row c.col k index in
        let low : k < border (height a) (width a) = index_below a c.row c.col k index in
        let read = subst (λ z. HoldsBlock g (place z.top z.left) (extent_of z) C.marks) C.area C.flooded.read in
        let row : a.top + (c.row - a.top) ≡ c.row = omega (arith, r.0) in
        let col : a.left + (c.col - a.left) ≡ c.col = omega (arith, r.1) in (
          get_or C.marks (cell_number a c.row c.col) κ.void,
          sym (λ i. g.cell (row i) (col i)) ∙ read (c.row - a.top) (c.col - a.left) r.3 r.4 ∙ at-get_or C.marks (cell_number a c.row c.col) κ.void (omega (arith, r.2, room)),
          ap (slice_get ms') (sym number) ∙ K.new k c.row c.col low index,
        )

  -- all records of the tile, and those elsewhere
  module _ (first start count : ℕ) (is-first : first ≡ mouth_base p t) (is-start : start ≡ first - t) (ms ms' : List (MouthRecord M)) (ps ps' : List (PassRecord M)) (room : length C.marks ≡ cells_of a)
      (K : MarksKept κ a C.marks first (border (height a) (width a)) ms ms') (L : LinkedAt κ a levels origins C first start ps ps' count) where
    from_base : start ≡ pass_base p t
    from_base = is-start ∙ ap (λ z. z - t) is-first

    many : tile_mouths p t ≡ border (height a) (width a)
    many = ap (λ b. border (height b) (width b)) C.area

    in_table : (i : ℕ) → i < length L.records → slice_get ps' (pass_base p t + i) ≡ slice_get L.records i
    in_table i h = ap (λ z. slice_get ps' (z + i)) (sym from_base) ∙ L.new i h

    pub chart_count : count ≡ tile_mouths p t - 1
    chart_count = all_linked first is-first L.labels L.records count L.linked

    pub chart_recorded : Recorded κ g p t (tables ms' ps') × SameElsewhere p t (tables ms ps) (tables ms' ps')
    chart_recorded = (
      record {
        marks = chart_marks first is-first ms ms' room K;
        ends = chart_ends first is-first L.labels L.records count L.linked ps ps' in_table;
        tree = chart_tree first is-first L.labels L.records count L.linked ps ps' in_table;
      },
      record {
        mouths = λ b other. K.rest b (⊎_elim
            (λ (low : b < first). inl low)
            (λ (high : first ≤ b). ⊎_elim
            (λ (within : b < first + border (height a) (width a)). absurd (other (omega (arith, high, is-first), omega (arith, within, is-first, many, base_more p t))))
            (λ past. inr past)
            (cases_lt b (first + border (height a) (width a))))
            (cases_lt b first));
        passes = λ k other. L.rest k (⊎_elim
            (λ (low : k < start). inl low)
            (λ (high : start ≤ k). ⊎_elim
            (λ (within : k < start + length L.records). absurd (other (omega (arith, high, from_base), omega (arith, within, from_base, L.linked.room))))
            (λ past. inr past)
            (cases_lt k (start + length L.records)))
            (cases_lt k start));
        all_mouths = K.long;
        all_passes = L.long;
      },
    )

-- the same of a tile that was read and flooded
pub chart_done : {M : Type 0} (κ : Kind M) (O : OrderLaws κ.leb) (g : Grid M) (p : Plan) (t : ℕ) (a : Area) (marks : List M) (levels : List (Option M)) (origins : List (Option ℕ)) → Lawful p → Cuts p g → t < tiles p → a ≡ tile_at p t →
    HoldsBlock g (place a.top a.left) (extent_of a) marks × LevelsAreSills κ (height a) (width a) marks levels × HaveOrigins κ (height a) (width a) marks levels origins →
    (first count : ℕ) → first ≡ mouth_base p t → (ms ms' : List (MouthRecord M)) (ps ps' : List (PassRecord M)) → length marks ≡ cells_of a → MarksKept κ a marks first (border (height a) (width a)) ms ms' →
    ((C : Flooded κ a levels origins) → LinkedAt κ a levels origins C first (first - t) ps ps' count) →
    (count ≡ tile_mouths p t - 1) × (Recorded κ g p t (tables ms' ps') × SameElsewhere p t (tables ms ps) (tables ms' ps'))
unfolding flooded_tile
chart_done κ O g p t a marks levels origins law fit there is F first count is-first ms ms' ps ps' room K link =
    let C = flooded_tile κ g p t a marks levels origins law fit there is F in
    (chart_count κ O a levels origins C first (first - t) count is-first refl ms ms' ps ps' room K (link C), chart_recorded κ O a levels origins C first (first - t) count is-first refl ms ms' ps ps' room K (link C))
