-- How tiles and mouths are found by the bands they lie in, for the contracts inside the crate. Assumes nothing.
use Rattle.std.specs.Prelude.{◌≡◌, ℕ, ◌+◌, ◌*◌, ◌/◌, ◌%◌, ◌<◌, ◌≤◌, length}
use Rattle.tiles.specs.Plans.{Plan, abreast, tiles}
use Rattle.tiles.specs.Mouths.{mouth_base, tile_mouths}

-- band i of rows and band j of columns cross in the tile t
pub record Crossed (p : Plan) (t i j : ℕ) : Type 0 where
  pub exists : t < tiles p
  pub down : i ≡ t / abreast p
  pub across : j ≡ t % abreast p
  pub low : i ≤ length p.down
  pub right : j ≤ length p.across

-- the number of the first mouth in band i of rows
abbrev pub row_base : Plan → ℕ → ℕ
row_base p i = mouth_base p (i * abreast p)

-- the mouth a lies in band i of rows, and n mouths of that band come before it
pub record InRow (p : Plan) (a i n : ℕ) : Type 0 where
  pub exists : i ≤ length p.down
  pub number : row_base p i + n ≡ a
  pub below : a < row_base p (i + 1)

-- the mouth a lies in band i of rows and j of columns, and n mouths of that tile come before it
pub record InTile (p : Plan) (a i j n : ℕ) : Type 0 where
  pub exists : j ≤ length p.across
  pub number : mouth_base p (i * abreast p + j) + n ≡ a
  pub below : n < tile_mouths p (i * abreast p + j)
