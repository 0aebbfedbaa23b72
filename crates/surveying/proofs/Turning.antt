-- How the choice of passes begins, goes on and ends. Assumes nothing.
use Rattle.std.proofs.Common.{◌≡◌, ℕ, suc, ◌+◌, ◌-◌, ◌*◌, ◌/◌, ◌%◌, ◌<◌, ◌≤◌, min, true, false, cond, ◌⊎◌, List, [], ◌∷◌, ◌++◌, length, get_or, set, Some, None, Option, sym, ap, ◌∙◌, subst, inl, inr, ⊎_elim, mul-le-mul_right, mod-lt, suc-mul, mul-zero, div-add-mod', arith}
use lib.Arith.{digits_div, digits_mod}
use Rattle.std.proofs.lemmas.List.{length-map, length-take-le, length-set, take_more_set, map_push}
use Rattle.std.proofs.lemmas.Bool.{cases_eq, cases_lt, cases_Bool}
use Rattle.flood.specs.Places.{times}
use Rattle.flood.specs.declared.entry.Entry.{Entry}
use Rattle.flood.proofs.Counts.{some_same, none_some}
use Rattle.marks.specs.Orders.{OrderLaws}
use Rattle.sheets.specs.declared.copies.Place.{Place}
use Rattle.terrain.specs.Cells.{Touches, place_of}
use Rattle.terrain.specs.CellLaws.{node_place, place_in}
use Rattle.terrain.specs.Terrains.{Kind}
use Rattle.tiles.specs.Plans.{Area, height, width}
use Rattle.tiles.specs.Mouths.{mouth_index, border, tile_mouths}
use Rattle.tiles.proofs.Indices.{index_below}
use Rattle.tables.specs.declared.records.PassRecord.{PassRecord}
use Rattle.seams.specs.Joins.{label}
use Rattle.seams.specs.Sheets.{cell_in}
use Rattle.seams.specs.Surveys.{tile_cells, TouchIn, OriginAt, HigherOf}
use Rattle.seams.proofs.Joins.{none_above_more}
use Rattle.seams.proofs.Surveys.{origin_found, survey_retold, survey_skip, survey_keep, survey_room}
use Rattle.terrain.proofs.Marks.{le_self}
use Rattle.surveying.specs.Turns.{further, cells_of, Near, JoinedAt, Flooded, Under, Until, Stands, MouthIs, Sofar, Turn}

mul_mono : (p r w : ℕ) → p ≤ r → p * w ≤ r * w
mul_mono p r w h = mul-le-mul_right w h

mul_step : (p r w : ℕ) → p < r → p * w + w ≤ r * w
mul_step p r w h = omega (arith, mul_mono (suc p) r w (omega arith), suc-mul p w)

-- the cells beside a column in a row beside that of the cell u are near it
pub near_run : (a : Area) (u w h top bottom left right r : ℕ) → w ≡ width a → h ≡ height a → u < cells_of a → top ≡ u / w - 1 → bottom ≡ min (u / w + 2) h → left ≡ u % w - 1 → right ≡ min (u % w + 2) w → top ≤ r → r < bottom →
    (r * w + left ≤ r * w + right) × ((v : ℕ) → r * w + left ≤ v → v < r * w + right → Near a u v)
near_run a u w h top bottom left right r is-w is-h inside is-top is-bottom is-left is_right low high =
    let rows = place_in (height a) (width a) u inside in
    let same_row : u / w ≡ u / width a = ap (λ z. u / z) is-w in
    let same-col : u % w ≡ u % width a = ap (λ z. u % z) is-w in
    let same : r * w ≡ r * width a = ap (λ z. r * z) is-w in (
      omega (arith, is-left, is_right, same-col, rows.1, is-w),
      λ v from to.
          let c : ℕ = v - r * width a in
          let is_v : v ≡ r * width a + c = omega (arith, from, same) in
          let slim : c < width a = omega (arith, to, same, is_right, is-w, is_v) in
          let row : v / width a ≡ r = ap (λ z. z / width a) is_v ∙ digits_div r slim in
          let col : v % width a ≡ c = ap (λ z. z % width a) is_v ∙ digits_mod r slim in
          record {
            inside = omega (arith, is_v, slim, mul_step r (height a) (width a) (omega (arith, high, is-bottom, is-h)));
            above = omega (arith, row, low, is-top, same_row);
            below = omega (arith, row, high, is-bottom, same_row);
            left = omega (arith, col, from, is-left, same-col, same, is_v);
            right = omega (arith, col, to, is_right, same-col, same, is_v);
          },
    )

module _ {M : Type 0} (κ : Kind M) (O : OrderLaws κ.leb) (a : Area) (levels : List (Option M)) (origins : List (Option ℕ)) (C : Flooded κ a levels origins) where
  -- what was kept so far is as long as it says
  kept_long : (first : ℕ) (Taken : ℕ → ℕ → Type 0) (q : List (Entry M)) (labels : List ℕ) (records : List (PassRecord M)) (kept : ℕ) (S : Sofar κ a levels origins C first Taken q labels records kept) → length S.passes ≡ kept
  kept_long first Taken q labels records kept S = sym (length-map S.passes (further first)) ∙ ap length (sym S.listed) ∙ length-take-le kept records S.within

  -- what was taken up may be told otherwise
  pub told_so : (first : ℕ) (Taken Taken' : ℕ → ℕ → Type 0) (q : List (Entry M)) (labels : List ℕ) (records : List (PassRecord M)) (kept : ℕ) → Sofar κ a levels origins C first Taken q labels records kept →
      ((u v : ℕ) → TouchIn C.plan C.tile u v → Taken' u v → Taken u v ⊎ Taken v u) → Sofar κ a levels origins C first Taken' q labels records kept
  told_so first Taken Taken' q labels records kept S was = record {
    passes = S.passes;
    survey = survey_retold κ O C.grid C.plan C.lawful C.cuts C.tile C.there C.marks levels origins C.flooded labels S.passes Taken Taken' S.survey was;
    low = S.low;
    listed = S.listed;
    within = S.within;
    room = S.room;
  }

  -- the cells of the tile are those of the area
  pub cells_same : tile_cells C.plan C.tile ≡ cells_of a
  cells_same = ap cells_of C.area

  -- each cell has a level, and an origin among the cells, which is a mouth
  pub origin_some : (v : ℕ) → v < cells_of a → get_or origins v None ≡ None → ⊥
  origin_some v h e = let o = C.flooded.from v (subst (λ n. v < n) (sym cells_same) h) in none_some (get_or origins v None) o.1 e o.3

  pub level_some : (v : ℕ) → v < cells_of a → get_or levels v None ≡ None → ⊥
  level_some v h e = let o = C.flooded.from v (subst (λ n. v < n) (sym cells_same) h) in none_some (get_or levels v None) o.0 e o.2

  pub origin_in_lem : (v e : ℕ) → v < cells_of a → get_or origins v None ≡ Some e → e < cells_of a
  origin_in_lem v e h is =
      let o = C.flooded.from v (subst (λ n. v < n) (sym cells_same) h) in
      let same : o.1 ≡ e = some_same (get_or origins v None) o.1 e o.3 is in
      subst (λ n. n < cells_of a) same (subst (λ n. o.1 < n) cells_same o.4.inside)

  pub mouth_some : (v e : ℕ) → v < cells_of a → get_or origins v None ≡ Some e → mouth_index a (cell_in a e).row (cell_in a e).col ≡ None → ⊥
  mouth_some v e h is none =
      let f = origin_found κ O C.grid C.plan C.lawful C.cuts C.tile C.there C.marks levels origins C.flooded v e (subst (λ n. v < n) (sym cells_same) h) is in
      none_some (mouth_index a (cell_in a e).row (cell_in a e).col) f.0 none (subst (λ b. mouth_index b (cell_in b e).row (cell_in b e).col ≡ Some f.0) C.area f.1)

  -- each mouth has a label
  pub mouth_below : (first : ℕ) (Taken : ℕ → ℕ → Type 0) (q : List (Entry M)) (labels : List ℕ) (records : List (PassRecord M)) (kept : ℕ) → Sofar κ a levels origins C first Taken q labels records kept →
      (e i : ℕ) → MouthIs κ a levels origins e i → i < length labels
  mouth_below first Taken q labels records kept S e i is =
      let low = index_below a (cell_in a e).row (cell_in a e).col i is in
      let many : tile_mouths C.plan C.tile ≡ border (height a) (width a) = ap (λ b. border (height b) (width b)) C.area in
      omega (arith, low, many, S.survey.long)

  wide : (d : ℕ) → d < cells_of a → 0 < width a
  wide d h = ⊎_elim (λ (e : width a ≡ 0). absurd (omega (arith, h, ap (λ w. height a * w) e, mul-zero (height a)))) (λ (ne : width a ≡ 0 → ⊥). omega (arith, ne)) (cases_eq (width a) 0)

  -- cells that touch are near
  pub touch_near : (u d : ℕ) → TouchIn C.plan C.tile u d → Near a u d
  touch_near u d T =
      let t : Touches (place_of (width a) u) (place_of (width a) d) = subst (λ b. Touches (place_of (width b) u) (place_of (width b) d)) C.area T.touch in
      record { inside = subst (λ n. d < n) cells_same T.to; above = t.0; below = t.1; left = t.2; right = t.3 }

  module _ (q : List (Entry M)) (first : ℕ) (x : Entry M) where
    -- nothing new is taken up from the cell b to the cell b'
    pub turn_moves : (b b' : ℕ) (labels : List ℕ) (records : List (PassRecord M)) (kept : ℕ) →
        ((d : ℕ) → TouchIn C.plan C.tile x.node d → Under κ a levels origins d x.node → d < b' → (get_or origins x.node None ≡ get_or origins d None) ⊎ (d < b)) →
        Turn κ a levels origins C q first x b labels records kept → Turn κ a levels origins C q first x b' labels records kept
    turn_moves b b' labels records kept none S = told_so first _ _ (x ∷ []) labels records kept S go
      where
        last : (c d : ℕ) → TouchIn C.plan C.tile c d → Under κ a levels origins d c → times c q ≡ 0 → (c ≡ x.node → ⊥) ⊎ (d < b') → Until κ a levels origins q x.node b c d
        last c d T U w (inl ne) = inr (U, w, inl ne)
        last c d T U w (inr lt) = ⊎_elim
            (λ (e : c ≡ x.node). ⊎_elim
            (λ same. inl (ap (λ z. get_or origins z None) e ∙ same))
            (λ low. inr (U, w, inr low))
            (none d (subst (λ z. TouchIn C.plan C.tile z d) e T) (subst (λ z. Under κ a levels origins d z) e U) lt))
            (λ (ne : c ≡ x.node → ⊥). inr (U, w, inl ne))
            (cases_eq c x.node)

        go : (c d : ℕ) → TouchIn C.plan C.tile c d → Until κ a levels origins q x.node b' c d → Until κ a levels origins q x.node b c d ⊎ Until κ a levels origins q x.node b d c
        go c d T (inl same) = inl (inl same)
        go c d T (inr r) = inl (last c d T r.0 r.1 r.2)

    -- the next cell is passed over: it is above, or has the same origin
    pub turn_passes : (v : ℕ) (labels : List ℕ) (records : List (PassRecord M)) (kept : ℕ) → (Under κ a levels origins v x.node → get_or origins x.node None ≡ get_or origins v None) →
        Turn κ a levels origins C q first x v labels records kept → Turn κ a levels origins C q first x (v + 1) labels records kept
    turn_passes v labels records kept same = turn_moves v (v + 1) labels records kept (λ d T U lt. ⊎_elim
        (λ (e : d ≡ v). inl (same (subst (λ z. Under κ a levels origins z x.node) e U) ∙ ap (λ z. get_or origins z None) (sym e)))
        (λ (ne : d ≡ v → ⊥). inr (omega (arith, ne)))
        (cases_eq d v))

    -- the rows of cells around a cell, from gap to gap
    module _ (labels : List ℕ) (records : List (PassRecord M)) (kept : ℕ) where
      jump : (b b' : ℕ) → ((d : ℕ) → Near a x.node d → d < b' → d < b) → Turn κ a levels origins C q first x b labels records kept → Turn κ a levels origins C q first x b' labels records kept
      jump b b' none = turn_moves b b' labels records kept (λ d T U lt. inr (none d (touch_near x.node d T) lt))

      to_first : Turn κ a levels origins C q first x 0 labels records kept → Turn κ a levels origins C q first x ((x.node / width a - 1) * width a) labels records kept
      to_first = jump 0 ((x.node / width a - 1) * width a) (λ d N lt. absurd (omega (arith, lt, div-add-mod' d (width a), mul_mono (x.node / width a - 1) (d / width a) (width a) (omega (arith, N.above)))))

      pub jump_first : (w top : ℕ) → w ≡ width a → top ≡ x.node / w - 1 → Turn κ a levels origins C q first x 0 labels records kept → Turn κ a levels origins C q first x (top * width a) labels records kept
      jump_first w top is-w is-top T = subst (λ b. Turn κ a levels origins C q first x (b * width a) labels records kept) (sym (is-top ∙ ap (λ z. x.node / z - 1) is-w)) (to_first T)

      to_left : (r : ℕ) → Turn κ a levels origins C q first x (r * width a) labels records kept → Turn κ a levels origins C q first x (r * width a + (x.node % width a - 1)) labels records kept
      to_left r = jump (r * width a) (r * width a + (x.node % width a - 1)) (λ d N lt. ⊎_elim
          (λ (less : d / width a < r). omega (arith, div-add-mod' d (width a), mul_step (d / width a) r (width a) less, mod-lt d (wide d N.inside)))
          (λ (more : r ≤ d / width a). absurd (omega (arith, lt, div-add-mod' d (width a), mul_mono r (d / width a) (width a) more, N.left)))
          (cases_lt (d / width a) r))

      pub jump_left : (w left r : ℕ) → w ≡ width a → left ≡ x.node % w - 1 → Turn κ a levels origins C q first x (r * width a) labels records kept → Turn κ a levels origins C q first x (r * w + left) labels records kept
      jump_left w left r is-w is-left T = subst (λ b. Turn κ a levels origins C q first x b labels records kept) (sym (ap (λ z. r * w + z) is-left ∙ ap (λ z. r * z + (x.node % z - 1)) is-w)) (to_left r T)

      from_right : (r : ℕ) → Turn κ a levels origins C q first x (r * width a + min (x.node % width a + 2) (width a)) labels records kept → Turn κ a levels origins C q first x ((r + 1) * width a) labels records kept
      from_right r = jump (r * width a + min (x.node % width a + 2) (width a)) ((r + 1) * width a) (λ d N lt. ⊎_elim
          (λ (less : d / width a < r + 1). omega (arith, div-add-mod' d (width a), mul_mono (d / width a) r (width a) (omega (arith, less)), mod-lt d (wide d N.inside), N.right))
          (λ (more : r + 1 ≤ d / width a). absurd (omega (arith, lt, div-add-mod' d (width a), mul_mono (r + 1) (d / width a) (width a) more)))
          (cases_lt (d / width a) (r + 1)))

      pub jump_right : (w right r : ℕ) → w ≡ width a → right ≡ min (x.node % w + 2) w → Turn κ a levels origins C q first x (r * w + right) labels records kept → Turn κ a levels origins C q first x ((r + 1) * width a) labels records kept
      jump_right w right r is-w is_right T = from_right r (subst (λ b. Turn κ a levels origins C q first x b labels records kept) (ap (λ z. r * w + z) is_right ∙ ap (λ z. r * z + min (x.node % z + 2) z) is-w) T)

      pub jump_last : (w h bottom r : ℕ) → w ≡ width a → h ≡ height a → bottom ≡ min (x.node / w + 2) h → bottom ≤ r → Turn κ a levels origins C q first x (r * width a) labels records kept → Turn κ a levels origins C q first x (cells_of a) labels records kept
      jump_last w h bottom r is-w is-h is-bottom past = jump (r * width a) (cells_of a) (λ d N lt.
          let rows = place_in (height a) (width a) d N.inside in
          let same : x.node / w ≡ x.node / width a = ap (λ z. x.node / z) is-w in
          let less : d / width a < r = omega (arith, past, is-bottom, is-h, same, N.below, rows.0) in
          omega (arith, div-add-mod' d (width a), mul_step (d / width a) r (width a) less, mod-lt d (wide d N.inside)))

    -- one cell more is looked at
    more_taken : (v c d : ℕ) → Until κ a levels origins q x.node (v + 1) c d → Until κ a levels origins q x.node v c d ⊎ ((c ≡ x.node) × (d ≡ v))
    more_taken v c d (inl same) = inl (inl same)
    more_taken v c d (inr r) = go r.2
      where
        go : (c ≡ x.node → ⊥) ⊎ (d < v + 1) → Until κ a levels origins q x.node v c d ⊎ ((c ≡ x.node) × (d ≡ v))
        go (inl ne) = inl (inr (r.0, r.1, inl ne))
        go (inr lt) = ⊎_elim
            (λ (e : c ≡ x.node). ⊎_elim (λ (is : d ≡ v). inr (e, is)) (λ (ne : d ≡ v → ⊥). let low : d < v = omega (arith, ne) in inl (inr (r.0, r.1, inr low))) (cases_eq d v))
            (λ (ne : c ≡ x.node → ⊥). inl (inr (r.0, r.1, inl ne)))
            (cases_eq c x.node)

    -- the cell v is near that of x, and its origin is another
    module _ (S : Stands κ a levels origins x) (v e : ℕ) (m : M) (N : Near a x.node v) (at_v : get_or origins v None ≡ Some e) (other : e ≡ x.origin → ⊥) (is_m : get_or levels v None ≡ Some m) (under : κ.leb m x.level ≡ true)
        (i j : ℕ) (from : MouthIs κ a levels origins x.origin i) (to : MouthIs κ a levels origins e j) where
      apart : place_of (width a) x.node ≡ place_of (width a) v → ⊥
      apart p = other (some_same (get_or origins v None) e x.origin at_v (ap (λ z. get_or origins z None) (sym is_v) ∙ S.origin))
        where
          is_v : x.node ≡ v
          is_v = sym (node_place (width a) x.node) ∙ ap (λ (c : Place). c.row * width a + c.col) p ∙ node_place (width a) v

      touching : TouchIn C.plan C.tile x.node v
      touching = record {
        from = subst (λ n. x.node < n) (sym cells_same) S.inside;
        to = subst (λ n. v < n) (sym cells_same) N.inside;
        touch = subst (λ b. Touches (place_of (width b) x.node) (place_of (width b) v)) (sym C.area) (N.above, N.below, N.left, N.right, apart);
      }

      origin_x : OriginAt C.plan C.tile origins x.node i
      origin_x = record { cell = x.origin; is = S.origin; mouth = subst (λ b. mouth_index b (cell_in b x.origin).row (cell_in b x.origin).col ≡ Some i) (sym C.area) from }

      origin_v : OriginAt C.plan C.tile origins v j
      origin_v = record { cell = e; is = at_v; mouth = subst (λ b. mouth_index b (cell_in b e).row (cell_in b e).col ≡ Some j) (sym C.area) to }

      higher : HigherOf κ levels x.node v x.level
      higher = record {
        one = x.level;
        other = m;
        at_u = S.level;
        at_v = is_m;
        higher = ⊎_elim
            (λ (le : κ.leb x.level m ≡ true). ap (λ b. cond b m x.level) le ∙ O.antisymmetric m x.level under le)
            (λ (gt : κ.leb x.level m ≡ false). ap (λ b. cond b m x.level) gt)
            (cases_Bool (κ.leb x.level m));
      }

      module _ (labels : List ℕ) (records : List (PassRecord M)) (kept : ℕ) (T : Turn κ a levels origins C q first x v labels records kept) where
        -- there is room for a pass between mouths that are not joined
        pub turn_room : (label labels i ≡ label labels j → ⊥) → kept < length records
        turn_room ne =
            let room = survey_room κ O C.grid C.plan C.lawful C.cuts C.tile C.there C.marks levels origins C.flooded labels T.passes _ (Until κ a levels origins q x.node (v + 1)) T.survey
            x.node v touching (λ c d t h. more_taken v c d h) i j origin_x origin_v x.level higher T.low.0 ne in
            omega (arith, room, kept_long first _ (x ∷ []) labels records kept T, T.room)

        -- the two mouths are joined, or were
        pub turn_joins : (labels' : List ℕ) (records' : List (PassRecord M)) (kept' : ℕ) → JoinedAt first i j x.level labels records kept labels' records' kept' → Turn κ a levels origins C q first x (v + 1) labels' records' kept'
        turn_joins labels' records' kept' (inl r) =
            subst (λ z. Turn κ a levels origins C q first x (v + 1) z records' kept') (sym r.1) (subst (λ z. Turn κ a levels origins C q first x (v + 1) labels z kept') (sym r.2) (subst (λ z. Turn κ a levels origins C q first x (v + 1) labels records z) (sym r.3) (record {
              passes = T.passes;
              survey = survey_skip κ O C.grid C.plan C.lawful C.cuts C.tile C.there C.marks levels origins C.flooded labels T.passes _ (Until κ a levels origins q x.node (v + 1)) T.survey
                  x.node v touching (λ c d t h. more_taken v c d h) i j origin_x origin_v x.level higher T.low.0 r.0;
              low = T.low;
              listed = T.listed;
              within = T.within;
              room = T.room;
            })))
        turn_joins labels' records' kept' (inr r) =
            let lt = turn_room r.0 in
            subst (λ z. Turn κ a levels origins C q first x (v + 1) labels' z kept') (sym r.2) (subst (λ z. Turn κ a levels origins C q first x (v + 1) labels' (set records kept (further first (i, j, x.level))) z) (sym r.3) (record {
              passes = T.passes ++ ((i, j, x.level) ∷ []);
              survey = (survey_keep κ O C.grid C.plan C.lawful C.cuts C.tile C.there C.marks levels origins C.flooded labels T.passes _ (Until κ a levels origins q x.node (v + 1)) T.survey
                  x.node v touching (λ c d t h. more_taken v c d h) i j origin_x origin_v x.level higher T.low.0 r.0 labels' r.1).0;
              low = (none_above_more κ.leb T.passes i j x.level T.low.0 (le_self O x.level), tt);
              listed = take_more_set records kept (further first (i, j, x.level)) lt ∙ ap (λ z. z ++ (further first (i, j, x.level) ∷ [])) T.listed ∙ sym (map_push (further first) T.passes (i, j, x.level));
              within = omega (arith, length-set records kept (further first (i, j, x.level)), lt);
              room = ap (λ n. n + 1) (length-set records kept (further first (i, j, x.level))) ∙ T.room;
            }))
