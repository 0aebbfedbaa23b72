-- The mouths of a tile, counted in the tile and in the sheet. Assumes nothing.
use Rattle.std.proofs.Common.{◌≡◌, ℕ, ◌+◌, ◌-◌, ◌<◌, true, ◌⊎◌, ◌↔◌, List, Some, Option, sym, refl, ap, subst, subst₂, inl, inr, arith}
use Rattle.std.specs.List.{ContainsAt as Has}
use Rattle.std.proofs.lemmas.Bool.{cond-true}
use Rattle.sheets.specs.Grids.{Grid}
use Rattle.tiles.specs.Plans.{Plan, Lawful, height, width, tiles, tile_at, tile_of}
use Rattle.tiles.specs.Mouths.{is_mouth, mouth_in, mouth_index, mouth_base, after}
use Rattle.tiles.proofs.Tilings.{holding, tile_once}
use Rattle.tiles.proofs.Indices.{indexed, index_below}
use Rattle.tiles.proofs.Numberings.{base_more}
use Rattle.terrain.specs.Blocks.{HoldsBlock}
use Rattle.terrain.specs.Cells.{place}
use Rattle.terrain.specs.Levels.{LevelsAreSills, HaveOrigins}
use Rattle.terrain.specs.Terrains.{Kind, sheet_terrain}
use Rattle.seams.specs.Tilings.{Passes}
use Rattle.seams.specs.Trees.{ChainAt, one, more, TreeOf}
use Rattle.seams.specs.Joins.{Listed}
use Rattle.seams.specs.Sheets.{tiling_of, MouthAt, TileMouth, TileMouthAt, SheetTree, extent_of}
use Rattle.seams.specs.Surveys.{TileFlooded, Further}

-- the x-th mouth of an area is that of its tile
pub index_mouth : (p : Plan) → Lawful p → (t i j x : ℕ) → t < tiles p → mouth_index (tile_at p t) i j ≡ Some x → TileMouth p t x × TileMouthAt p t x (place i j)
index_mouth p l t i j x lt e =
    let h = (indexed (tile_at p t) i j x e).cell in
    let is : t ≡ tile_of p i j = tile_once p i j t l (holding (tile_at p t) i j h) in
    (index_below (tile_at p t) i j x e, subst (λ n. after (mouth_base p n) (mouth_index (tile_at p n) i j) ≡ Some (mouth_base p t + x)) is (ap (after (mouth_base p t)) e))

-- a mouth of a tile has an index in its area
pub mouth_index_lem : (p : Plan) (t i j : ℕ) → is_mouth p i j ≡ true → tile_of p i j ≡ t → (x : ℕ) × (mouth_index (tile_at p t) i j ≡ Some x)
mouth_index_lem p t i j m k = (_, cond-true (mouth_in (tile_at p t) i j) _ _ (subst (λ n. mouth_in (tile_at p n) i j ≡ true) k m))

-- what was read and flooded by sides and a place that are the tile's
pub tile_flooded : {M : Type 0} (κ : Kind M) (g : Grid M) (p : Plan) (t row col rows cols : ℕ) (marks : List M) (levels : List (Option M)) (origins : List (Option ℕ)) →
    row ≡ (tile_at p t).top → col ≡ (tile_at p t).left → rows ≡ height (tile_at p t) → cols ≡ width (tile_at p t) →
    HoldsBlock g (place row col) (record { height = rows; width = cols }) marks → LevelsAreSills κ rows cols marks levels → HaveOrigins κ rows cols marks levels origins →
    TileFlooded κ g p t marks levels origins
tile_flooded κ g p t row col rows cols marks levels origins is_row is-col is-rows is-cols read sills from = record {
  read = subst₂ (λ i j. HoldsBlock g (place i j) (extent_of (tile_at p t)) marks) is_row is-col (subst₂ (λ h w. HoldsBlock g (place row col) (record { height = h; width = w }) marks) is-rows is-cols read);
  sills = subst₂ (λ h w. LevelsAreSills κ h w marks levels) is-rows is-cols sills;
  from = subst₂ (λ h w. HaveOrigins κ h w marks levels origins) is-rows is-cols from;
}

-- A tree over the mouths of a tile, counted from 0, is one over their numbers in the sheet.
module _ {M : Type 0} (κ : Kind M) (g : Grid M) (p : Plan) (t : ℕ) (Q : Passes M ℕ) (passes : List (ℕ × ℕ × M)) (same : (b c : ℕ) (n : M) → Q b c n ↔ Further (mouth_base p t) passes b c n) where
  abbrev base : ℕ
  base = mouth_base p t

  nearer : (b c x y : ℕ) (n : M) → b ≡ base + x → c ≡ base + y → Q b c n → Has passes (x, y, n)
  nearer b c x y n eb ec q =
      let f = (same b c n).0 q in
      let is_x : f.0 ≡ x = omega (arith, f.2, eb) in
      let is_y : f.1 ≡ y = omega (arith, f.3, ec) in
      subst₂ (λ i j. Has passes (i, j, n)) is_x is_y f.4

  either_nearer : (b c x y : ℕ) (n : M) → b ≡ base + x → c ≡ base + y → Q b c n ⊎ Q c b n → Listed passes x y n ⊎ Listed passes y x n
  either_nearer b c x y n eb ec (inl q) = inl (nearer b c x y n eb ec q)
  either_nearer b c x y n eb ec (inr q) = inr (nearer c b y x n ec eb q)

  either_further : (x y : ℕ) (n : M) → Listed passes x y n ⊎ Listed passes y x n → Q (base + x) (base + y) n ⊎ Q (base + y) (base + x) n
  either_further x y n (inl h) = inl ((same (base + x) (base + y) n).1 (x, y, refl, refl, h))
  either_further x y n (inr h) = inr ((same (base + y) (base + x) n).1 (y, x, refl, refl, h))

  -- the number of a mouth that a pass leads to
  far_end_lem : (b c : ℕ) (n : M) → Q b c n ⊎ Q c b n → (y : ℕ) × (c ≡ base + y)
  far_end_lem b c n (inl q) = let f = (same b c n).0 q in (f.1, f.3)
  far_end_lem b c n (inr q) = let f = (same c b n).0 q in (f.0, f.2)

  chain_nearer : {b c : ℕ} {n : M} → ChainAt κ.leb Q b c n → (x y : ℕ) → b ≡ base + x → c ≡ base + y → ChainAt κ.leb (Listed passes) x y n
  chain_nearer (one {a = b} {b = c} {l = n} q) x y eb ec = one (either_nearer b c x y n eb ec q)
  chain_nearer (more {a = b} {b = d} {j = j} q r) x y eb ec =
      let z = far_end_lem b d j q in
      more (either_nearer b d x z.0 j eb z.1 q) (chain_nearer r z.0 y z.1 ec)

  chain_further : {x y : ℕ} {n : M} → ChainAt κ.leb (Listed passes) x y n → ChainAt κ.leb Q (base + x) (base + y) n
  chain_further (one {a = x} {b = y} {l = n} h) = one (either_further x y n h)
  chain_further (more {a = x} {b = z} {j = j} h r) = more (either_further x z j h) (chain_further r)

  pub tree_further : TreeOf (sheet_terrain κ g) (tiling_of p) t (TileMouth p t) (TileMouthAt p t) (Listed passes) → SheetTree κ g p t Q
  tree_further R = record {
    ends = λ b c n q.
        let f = (same b c n).0 q in
        let e = R.ends f.0 f.1 n f.4 in
        ((omega (arith, f.2), omega (arith, f.2, e.0, base_more p t)), (omega (arith, f.3), omega (arith, f.3, e.1, base_more p t)));
    levels = λ b c d e ob oc ib ic ne.
        let x : ℕ = b - base in
        let y : ℕ = c - base in
        let is_x : b ≡ base + x = omega (arith, ob) in
        let is_y : c ≡ base + y = omega (arith, oc) in
        let L = R.levels x y d e (omega (arith, ob, base_more p t)) (omega (arith, oc, base_more p t)) (subst (λ n. MouthAt p n d) is_x ib) (subst (λ n. MouthAt p n e) is_y ic) (λ f. ne (omega (arith, is_x, is_y, f))) in (
          L.0,
          record {
            reached = subst₂ (λ i j. ChainAt κ.leb Q i j L.0) (sym is_x) (sym is_y) (chain_further {n = L.0} L.1.reached);
            least = λ n r. L.1.least n (chain_nearer r x y is_x is_y);
          },
          L.2,
        );
  }
