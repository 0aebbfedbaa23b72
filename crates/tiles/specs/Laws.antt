-- What holds of the tiles and mouths of every cut list. Assumes nothing.
use Rattle.std.specs.Prelude.{◌≡◌, ℕ, ◌+◌, ◌-◌, ◌*◌, ◌<◌, ◌≤◌, true, ◌⊎◌, Some, ◌≢◌}
use Rattle.tiles.specs.Plans.{Plan, tiles, tile_at, tile_of, holds, height, width}
use Rattle.tiles.specs.Mouths.{mouths, mouth_base, pass_base, tile_mouths, is_mouth, mouth_number}

-- two places on one line are the same or next to each other
abbrev pub Near : ℕ → ℕ → Type 0
Near a b = (a ≤ b + 1) × (b ≤ a + 1)

-- the cell in row i and column j comes before that in row k and column l, in reading order
abbrev pub Before : ℕ → ℕ → ℕ → ℕ → Type 0
Before i j k l = (i < k) ⊎ ((i ≡ k) × (j < l))

-- The tiles cover the sheet: every cell lies in exactly one of them, and so does no cell outside the sheet. They are
-- numbered in reading order: tile 0 is in the corner, and after a tile comes the one to its right, or, after the last
-- in a band of rows, the first in the band below.
pub record Tiled (p : Plan) : Type 0 where
  pub some : 1 ≤ tiles p
  pub few : tiles p ≤ 1024
  pub exists : (i j : ℕ) → i < p.rows → j < p.cols → tile_of p i j < tiles p
  pub covers : (i j : ℕ) → i < p.rows → j < p.cols → holds (tile_at p (tile_of p i j)) i j ≡ true
  pub once : (i j t : ℕ) → t < tiles p → holds (tile_at p t) i j ≡ true → t ≡ tile_of p i j
  pub within : (i j t : ℕ) → t < tiles p → holds (tile_at p t) i j ≡ true → (i < p.rows) × (j < p.cols)
  pub tall : (t : ℕ) → t < tiles p → (1 ≤ height (tile_at p t)) × (height (tile_at p t) ≤ 64)
  pub wide : (t : ℕ) → t < tiles p → (1 ≤ width (tile_at p t)) × (width (tile_at p t) ≤ 64)
  pub corner : ((tile_at p 0).top ≡ 0) × ((tile_at p 0).left ≡ 0)
  pub beside : (t : ℕ) → t < tiles p → (tile_at p t).right < p.cols → ((tile_at p (t + 1)).top ≡ (tile_at p t).top) × ((tile_at p (t + 1)).left ≡ (tile_at p t).right)
  pub below : (t : ℕ) → t < tiles p → (tile_at p t).right ≡ p.cols → ((tile_at p (t + 1)).top ≡ (tile_at p t).bottom) × ((tile_at p (t + 1)).left ≡ 0)

-- The mouths are numbered tile after tile (`first`, `next`), each tile's in reading order (`reading`); a tile's numbers
-- are those from its first up to the next tile's first (`interval`, `owner`); every number below the count is that of
-- one cell (`found`, `single`), and every cell on its tile's border has one (`mouth`, `only`). A tile of one row or one
-- column is all mouths (`line`), any other has its ring (`ring`); each has a mouth (`some`), and one pass fewer than
-- mouths (`pass`). Cells on the sheet's edge (`edge`), and any two touching cells of different tiles (`seam`), are mouths.
pub record Numbered (p : Plan) : Type 0 where
  pub line : (t : ℕ) → t < tiles p → (height (tile_at p t) ≡ 1) ⊎ (width (tile_at p t) ≡ 1) → tile_mouths p t ≡ height (tile_at p t) * width (tile_at p t)
  pub ring : (t : ℕ) → t < tiles p → 2 ≤ height (tile_at p t) → 2 ≤ width (tile_at p t) → tile_mouths p t ≡ 2 * (height (tile_at p t) + width (tile_at p t)) - 4
  pub some : (t : ℕ) → t < tiles p → 1 ≤ tile_mouths p t
  pub first : mouth_base p 0 ≡ 0
  pub next : (t : ℕ) → mouth_base p (t + 1) ≡ mouth_base p t + tile_mouths p t
  pub pass : (t : ℕ) → t < tiles p → pass_base p (t + 1) ≡ pass_base p t + (tile_mouths p t - 1)
  pub interval : (i j a : ℕ) → mouth_number p i j ≡ Some a → (tile_of p i j < tiles p) × (mouth_base p (tile_of p i j) ≤ a) × (a < mouth_base p (tile_of p i j + 1)) × (a < mouths p)
  pub owner : (i j a t : ℕ) → mouth_number p i j ≡ Some a → mouth_base p t ≤ a → a < mouth_base p (t + 1) → t ≡ tile_of p i j
  pub reading : (i j k l a b : ℕ) → mouth_number p i j ≡ Some a → mouth_number p k l ≡ Some b → tile_of p i j ≡ tile_of p k l → Before i j k l → a < b
  pub found : (a : ℕ) → a < mouths p → (i : ℕ) × (j : ℕ) × (mouth_number p i j ≡ Some a)
  pub single : (i j k l a : ℕ) → mouth_number p i j ≡ Some a → mouth_number p k l ≡ Some a → (i ≡ k) × (j ≡ l)
  pub mouth : (i j : ℕ) → is_mouth p i j ≡ true → (a : ℕ) × (mouth_number p i j ≡ Some a)
  pub only : (i j a : ℕ) → mouth_number p i j ≡ Some a → is_mouth p i j ≡ true
  pub edge : (i j : ℕ) → i < p.rows → j < p.cols → ((i ≡ 0) ⊎ (i + 1 ≡ p.rows)) ⊎ ((j ≡ 0) ⊎ (j + 1 ≡ p.cols)) → is_mouth p i j ≡ true
  pub seam : (i j k l : ℕ) → i < p.rows → j < p.cols → k < p.rows → l < p.cols → Near i k → Near j l → (tile_of p i j ≢ tile_of p k l) → (is_mouth p i j ≡ true) × (is_mouth p k l ≡ true)
