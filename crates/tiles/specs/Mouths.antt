-- The mouths of tiles and their numbers: the cells on a tile's border, counted in reading order. Assumes nothing.
use Rattle.std.specs.Prelude.{ℕ, zero, suc, ◌+◌, ◌-◌, Bool, cond, ◌&&◌, ◌||◌, Some, None, Option, ◌==◌}
use Rattle.tiles.specs.Plans.{Plan, Area, height, width, holds, tile_at, tile_of, tiles}

-- in a rectangle of h rows and w columns the cell in row y and column x lies on the border
abbrev pub on_border : ℕ → ℕ → ℕ → ℕ → Bool
on_border h w y x = (y == 0 || y + 1 == h) || (x == 0 || x + 1 == w)

-- how many of the first x cells of row y lie on the border
unfoldable pub border_in_row : ℕ → ℕ → ℕ → ℕ → ℕ
border_in_row h w y zero = 0
border_in_row h w y (suc x) = border_in_row h w y x + cond (on_border h w y x) 1 0

-- how many cells of the first y rows lie on the border
unfoldable pub border_above : ℕ → ℕ → ℕ → ℕ
border_above h w zero = 0
border_above h w (suc y) = border_above h w y + border_in_row h w y w

-- how many border cells come, in reading order, before the cell in row y and column x
abbrev pub border_before : ℕ → ℕ → ℕ → ℕ → ℕ
border_before h w y x = border_above h w y + border_in_row h w y x

-- how many border cells there are
abbrev pub border : ℕ → ℕ → ℕ
border h w = border_above h w h

-- a cell of the sheet is a mouth of the area
abbrev pub mouth_in : Area → ℕ → ℕ → Bool
mouth_in a i j = holds a i j && on_border (height a) (width a) (i - a.top) (j - a.left)

-- the number of a mouth among those of its area, in reading order; none for a cell that is no mouth of it
abbrev pub mouth_index : Area → ℕ → ℕ → Option ℕ
mouth_index a i j = cond (mouth_in a i j) (Some (border_before (height a) (width a) (i - a.top) (j - a.left))) None

-- how many mouths the tile t has
abbrev pub tile_mouths : Plan → ℕ → ℕ
tile_mouths p t = border (height (tile_at p t)) (width (tile_at p t))

-- the number of the tile's first mouth: all mouths of the tiles before it come first
unfoldable pub mouth_base : Plan → ℕ → ℕ
mouth_base p zero = 0
mouth_base p (suc t) = mouth_base p t + tile_mouths p t

-- how many mouths there are
abbrev pub mouths : Plan → ℕ
mouths p = mouth_base p (tiles p)

-- how many passes there are: each tile has one fewer than mouths
abbrev pub passes : Plan → ℕ
passes p = mouths p - tiles p

-- where the passes of the tile t begin
abbrev pub pass_base : Plan → ℕ → ℕ
pass_base p t = mouth_base p t - t

-- a number n places further on
abbrev pub after : ℕ → Option ℕ → Option ℕ
after n None = None
after n (Some k) = Some (n + k)

-- a cell is a mouth: it lies on the border of its tile
abbrev pub is_mouth : Plan → ℕ → ℕ → Bool
is_mouth p i j = mouth_in (tile_at p (tile_of p i j)) i j

-- the number of a mouth among all mouths; none for a cell that is no mouth
abbrev pub mouth_number : Plan → ℕ → ℕ → Option ℕ
mouth_number p i j = after (mouth_base p (tile_of p i j)) (mouth_index (tile_at p (tile_of p i j)) i j)
