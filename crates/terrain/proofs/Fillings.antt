-- A sheet that is read, flooded, raised and written is filled. Assumes nothing.
use Rattle.std.proofs.Common.{◌≡◌, ℕ, ◌+◌, ◌*◌, ◌<◌, Bool, true, false, cond, List, [], ◌∷◌, length, get_or, Some, None, Option, sym, refl, ap, ◌∙◌, subst, ap₂, ⊎_elim, zero-add, arith}
use Rattle.std.proofs.lemmas.Bool.{cases_Bool}
use Rattle.marks.specs.Orders.{OrderLaws, highest}
use Rattle.sheets.specs.declared.copies.Place.{Place}
use Rattle.sheets.specs.declared.copies.Extent.{Extent}
use Rattle.marks.specs.Refusals.{accepted}
use Rattle.sheets.specs.Copies.{Copied, leaving, broken_rows}
use Rattle.sheets.specs.Grids.{mark, Grid, at}
use Rattle.sheets.specs.Layouts.{flat}
use Rattle.sheets.proofs.Checks.{passed}
use Rattle.sheets.proofs.Marks.{at-get_or, one_mark}
use Rattle.terrain.specs.Blocks.{HoldsBlock, misfits, read_block_told}
use Rattle.terrain.specs.Cells.{place, InSheet, node_of, place_of}
use Rattle.terrain.specs.CellLaws.{place_in, node_in, place_node, node_place}
use Rattle.terrain.specs.Fills.{dead_in, raised_from, raised, Finished, FilledSheet, SillsFill, size}
use Rattle.terrain.specs.Filled.{HasWay}
use Rattle.terrain.specs.Levels.{LevelsAreSills, new_mark, rises, Raised, risen}
use Rattle.terrain.specs.Terrains.{Kind, cell_at, mark_or, sheet_terrain}
use Rattle.terrain.specs.Ways.{Terrain, Walk, Way, worst, last, IsSill}
use Rattle.terrain.proofs.Marks.{le_self}
use Rattle.terrain.proofs.Raises.{count_same}
use Rattle.terrain.proofs.Bridges.{cells, cells_all, column_way}
use Rattle.terrain.proofs.Surfaces.{sills_filled, filled_sills}

-- two sheets with the same sides and the same marks have the same sills
module _ {M : Type 0} (κ : Kind M) (g h : Grid M) (is-rows : g.rows ≡ h.rows) (is-cols : g.cols ≡ h.cols) (alike : (c : Place) → InSheet g.rows g.cols c → mark_or κ.void (cell_at g c) ≡ mark_or κ.void (cell_at h c)) where
  abbrev G : Terrain M Place
  G = sheet_terrain κ g

  abbrev H : Terrain M Place
  H = sheet_terrain κ h

  open_first : (c : Place) (ds : List Place) → Walk G c ds → InSheet g.rows g.cols c
  open_first c [] w = w
  open_first c (d ∷ ds) w = w.0

  worst_same : (c : Place) (ds : List Place) → Walk G c ds → worst G c ds ≡ worst H c ds
  worst_same c [] w = alike c w
  worst_same c (d ∷ ds) w = ap₂ (highest κ.leb) (alike c w.0) (worst_same d ds w.2)

  there : (c : Place) → InSheet g.rows g.cols c → InSheet h.rows h.cols c
  there c i = (subst (λ n. c.row < n) is-rows i.0, subst (λ n. c.col < n) is-cols i.1)

  walk_there : (c : Place) (ds : List Place) → Walk G c ds → Walk H c ds
  walk_there c [] w = there c w
  walk_there c (d ∷ ds) w = (there c w.0, w.1, walk_there d ds w.2)

  pub way_there : (c : Place) (ds : List Place) → Way G c ds → Way H c ds × (worst G c ds ≡ worst H c ds)
  way_there c ds w = ((walk_there c ds w.0, subst (λ n. (sheet_terrain κ (record { rows = n; cols = h.cols; cell = h.cell })).Outlet (last c ds)) is-rows (subst (λ n. (sheet_terrain κ (record { rows = g.rows; cols = n; cell = h.cell })).Outlet (last c ds)) is-cols w.1)), worst_same c ds w.0)

module _ {M : Type 0} (κ : Kind M) (g h : Grid M) (is-rows : g.rows ≡ h.rows) (is-cols : g.cols ≡ h.cols) (alike : (c : Place) → InSheet g.rows g.cols c → mark_or κ.void (cell_at g c) ≡ mark_or κ.void (cell_at h c)) where
  back : (c : Place) → InSheet h.rows h.cols c → InSheet g.rows g.cols c
  back c i = (subst (λ n. c.row < n) (sym is-rows) i.0, subst (λ n. c.col < n) (sym is-cols) i.1)

  pub sill_same : (c : Place) (m : M) → IsSill (sheet_terrain κ g) c m → IsSill (sheet_terrain κ h) c m
  sill_same c m s =
      let way = way_there κ g h is-rows is-cols alike c s.reached.0 s.reached.1 in
      record {
        reached = (s.reached.0, way.0, sym way.1 ∙ s.reached.2);
        least = λ ds w.
            let there = way_there κ h g (sym is-rows) (sym is-cols) (λ d i. sym (alike d (back d i))) c ds w in
            subst (λ x. κ.leb m x ≡ true) (sym there.1) (s.least ds there.0);
      }

-- what was done to a sheet g whose sides the target h has
pub record Done {M : Type 0} (κ : Kind M) (g h h' : Grid M) (xs ys : List M) (ls : List (Option M)) : Type 0 where
  pub long : length xs ≡ size g
  pub same_long : length ys ≡ length xs
  pub read : HoldsBlock g (place 0 0) (record { height = g.rows; width = g.cols }) xs
  pub levels : LevelsAreSills κ g.rows g.cols xs ls
  pub new : Raised κ xs ys ls (length xs)
  pub wrote : Copied (flat g.rows g.cols ys) (place 0 0) h h' (place 0 0) g.rows g.cols

module _ {M : Type 0} (κ : Kind M) (O : OrderLaws κ.leb) (least : (x : M) → κ.leb κ.void x ≡ true) (g h h' : Grid M) (xs ys : List M) (ls : List (Option M)) (done : Done κ g h h' xs ys ls) where
  cell_read : (c : Place) → InSheet g.rows g.cols c → cell_at g c ≡ mark (get_or xs (node_of g.cols c) κ.void)
  cell_read c i =
      sym (λ k. g.cell (zero-add c.row k) (zero-add c.col k)) ∙ done.read c.row c.col i.0 i.1
      ∙ at-get_or xs (node_of g.cols c) κ.void (omega (arith, node_in g.rows g.cols c i, done.long))

  level_of : (c : Place) → InSheet g.rows g.cols c → (m : M) × (get_or ls (node_of g.cols c) None ≡ Some m) × IsSill (sheet_terrain κ g) c m
  level_of c i =
      let l = done.levels (node_of g.cols c) (node_in g.rows g.cols c i) in
      let at_c : IsSill (sheet_terrain κ (flat g.rows g.cols xs)) c l.0 = subst (λ d. IsSill (sheet_terrain κ (flat g.rows g.cols xs)) d l.0) (place_node g.cols c i.1) l.2 in
      (l.0, l.1, sill_same κ (flat g.rows g.cols xs) g refl refl (λ d j. ap (mark_or κ.void) (at-get_or xs (node_of g.cols d) κ.void (omega (arith, node_in g.rows g.cols d j, done.long)) ∙ sym (cell_read d j))) c l.0 at_c)

  cell_wrote : (c : Place) → InSheet g.rows g.cols c → cell_at h' c ≡ mark (new_mark κ (get_or xs (node_of g.cols c) κ.void) (get_or ls (node_of g.cols c) None))
  cell_wrote c i =
      let inside = node_in g.rows g.cols c i in
      sym (λ k. h'.cell (zero-add c.row k) (zero-add c.col k)) ∙ done.wrote.new c.row c.col i.0 i.1
      ∙ (λ k. at ys (zero-add c.row k * g.cols + zero-add c.col k))
      ∙ at-get_or ys (node_of g.cols c) κ.void (omega (arith, inside, done.long, done.same_long))
      ∙ ap mark (done.new.0 (node_of g.cols c) κ.void (omega (arith, inside, done.long)))

  finished : (c : Place) → InSheet g.rows g.cols c → Finished κ g h' c
  finished c i =
      let l = level_of c i in
      let x : M = get_or xs (node_of g.cols c) κ.void in
      let new : cell_at h' c ≡ mark (cond (κ.leb x κ.void) x l.0) = cell_wrote c i ∙ ap (λ y. mark (new_mark κ x y)) l.1 in
      record {
        voids = λ e.
            let is : x ≡ κ.void = one_mark x κ.void (sym (cell_read c i) ∙ e) in
            new ∙ ap (λ b. mark (cond b x l.0)) (ap (λ y. κ.leb y κ.void) is ∙ le_self O κ.void) ∙ ap mark is;
        sills = λ ne. ⊎_elim
            (λ (le : κ.leb x κ.void ≡ true). absurd (ne (cell_read c i ∙ ap mark (O.antisymmetric x κ.void le (least x)))))
            (λ (gt : κ.leb x κ.void ≡ false). (l.0, new ∙ ap (λ b. mark (cond b x l.0)) gt, l.2))
            (cases_Bool (κ.leb x κ.void));
      }

  pub sheet_filled : FilledSheet κ g h h'
  sheet_filled = record { rows = done.wrote.rows; cols = done.wrote.cols; cells = finished }

  pub raised_count : risen κ xs ls (length xs) ≡ raised κ g h'
  unfolding raised
  raised_count = ap (risen κ xs ls) done.long ∙ count_same (λ k. rises κ (get_or xs k κ.void) (get_or ls k None)) (λ u. raised_from κ (cell_at g (place_of g.cols u)) (cell_at h' (place_of g.cols u))) (size g) (λ u lt.
      let i = place_in g.rows g.cols u lt in
      let is = node_place g.cols u in
      sym (ap₂ (raised_from κ)
      (cell_read (place_of g.cols u) i ∙ ap (λ k. mark (get_or xs k κ.void)) is)
      (cell_wrote (place_of g.cols u) i ∙ ap (λ k. mark (new_mark κ (get_or xs k κ.void) (get_or ls k None))) is)))

-- the sills of a sheet are its filled surface
pub sills_fill : {M : Type 0} (κ : Kind M) (O : OrderLaws κ.leb) (g : Grid M) → SillsFill κ g
sills_fill κ O g s sill =
    let T = sheet_terrain κ g in
    let own : (c : Place) → HasWay T c → IsSill T c (s c) = λ c w. sill c (first c w.0 w.1.0) in (
      sills_filled T O s own (cells g.rows g.cols) (cells_all κ g),
      λ w filled c i. filled_sills T O s own (cells g.rows g.cols) (cells_all κ g) w filled c (column_way κ g c.row c.col i.0 i.1),
    )
  where
    first : (c : Place) (ds : List Place) → Walk (sheet_terrain κ g) c ds → InSheet g.rows g.cols c
    first c [] w = w
    first c (d ∷ ds) w = w.0

-- what was done, by sides that are the sheet's
pub done_from : {M : Type 0} (κ : Kind M) (g h h' : Grid M) (xs ys : List M) (ls : List (Option M)) (rows cols : ℕ) → rows ≡ g.rows → cols ≡ g.cols → length xs ≡ size g → length ys ≡ length xs → HoldsBlock g (place 0 0) (record { height = rows; width = cols }) xs → LevelsAreSills κ rows cols xs ls → Raised κ xs ys ls (length xs) → Copied (flat rows cols ys) (place 0 0) h h' (place 0 0) rows cols → Done κ g h h' xs ys ls
done_from κ g h h' xs ys ls rows cols is-rows is-cols long same_long read levels new wrote = record {
  long = long;
  same_long = same_long;
  read = subst (λ n. HoldsBlock g (place 0 0) (record { height = g.rows; width = n }) xs) is-cols (subst (λ n. HoldsBlock g (place 0 0) (record { height = n; width = cols }) xs) is-rows read);
  levels = subst (λ n. LevelsAreSills κ g.rows n xs ls) is-cols (subst (λ n. LevelsAreSills κ n cols xs ls) is-rows levels);
  new = new;
  wrote = subst (λ n. Copied (flat g.rows n ys) (place 0 0) h h' (place 0 0) g.rows n) is-cols (subst (λ n. Copied (flat n cols ys) (place 0 0) h h' (place 0 0) n cols) is-rows wrote);
}

-- an accepted read met no dead cell
pub none_dead : {M : Type 0} (g : Grid M) (rows cols len : ℕ) → rows ≡ g.rows → cols ≡ g.cols → accepted (tt {0}) ≡ read_block_told g (place 0 0) (record { height = rows; width = cols }) len → dead_in g ≡ false
none_dead g rows cols len is-rows is-cols e =
    let x : Extent = record { height = rows; width = cols } in
    let gone : Bool = broken_rows g (place 0 0) cols rows in
    let first = passed (leaving g (place 0 0) x) 6 ((misfits x len, 4) ∷ (gone, 7) ∷ []) tt tt e in
    let second = passed (misfits x len) 4 ((gone, 7) ∷ []) tt tt first.1 in
    sym (λ i. broken_rows g (place 0 0) (is-cols i) (is-rows i)) ∙ (passed gone 7 [] tt tt second.1).0
