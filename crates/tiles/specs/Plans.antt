-- A cut sheet and its tiles. Assumes nothing.
use Rattle.std.specs.Prelude.{◌≡◌, ℕ, suc, ◌+◌, ◌-◌, ◌*◌, ◌/◌, ◌%◌, Bool, true, false, cond, ◌&&◌, List, [], ◌∷◌, length, take, Some, None, Option, nat_le, nat_lt}
use Rattle.tiles.specs.declared.division.Division.{Division}
use Rattle.tiles.specs.declared.cuts.CutList.{CutList}
use Rattle.tiles.specs.declared.block.Block.{Block}
use Rattle.tiles.specs.declared.places.Spot.{Spot}
use Rattle.tiles.specs.Rules.{lawful, side_outside, start, band_of}

-- the sides of a sheet, and the rows and columns at which bands begin
pub record Plan : Type 0 where
  pub rows : ℕ
  pub down : List ℕ
  pub cols : ℕ
  pub across : List ℕ

-- the plan with these sides and cuts
abbrev pub plan : ℕ → List ℕ → ℕ → List ℕ → Plan
plan rows down cols across = record { rows = rows; down = down; cols = cols; across = across }

-- the sides and cuts within the rules
pub record Lawful (p : Plan) : Type 0 where
  pub rows : side_outside p.rows ≡ false
  pub cols : side_outside p.cols ≡ false
  pub down : lawful p.rows p.down ≡ true
  pub across : lawful p.cols p.across ≡ true

-- the cuts that a division holds
abbrev pub cuts_of : Division → List ℕ
cuts_of d = take d.count d.cuts

-- the plan that a cut list holds
abbrev pub plan_of : CutList → Plan
plan_of c = record { rows = c.rows.side; down = cuts_of c.rows; cols = c.cols.side; across = cuts_of c.cols }

-- a rectangle of cells: its rows from top up to, but not with, bottom; its columns from left to right likewise
pub record Area : Type 0 where
  pub top : ℕ
  pub bottom : ℕ
  pub left : ℕ
  pub right : ℕ

-- the area of a block
abbrev pub area_of : Block → Area
area_of b = record { top = b.top; bottom = b.bottom; left = b.left; right = b.right }

-- how many rows it has
abbrev pub height : Area → ℕ
height a = a.bottom - a.top

-- how many columns it has
abbrev pub width : Area → ℕ
width a = a.right - a.left

-- the cell in row i and column j lies in the area
abbrev pub holds : Area → ℕ → ℕ → Bool
holds a i j = (nat_le a.top i && nat_lt i a.bottom) && (nat_le a.left j && nat_lt j a.right)

-- how many tiles stand side by side
abbrev pub abreast : Plan → ℕ
abreast p = length p.across + 1

-- how many tiles there are
abbrev pub tiles : Plan → ℕ
tiles p = (length p.down + 1) * abreast p

-- the tile where row band i and column band j cross
abbrev pub crossing : Plan → ℕ → ℕ → Area
crossing p i j = record {
  top = start p.rows p.down i;
  bottom = start p.rows p.down (suc i);
  left = start p.cols p.across j;
  right = start p.cols p.across (suc j);
}

-- the tile t; tiles are numbered in reading order
abbrev pub tile_at : Plan → ℕ → Area
tile_at p t = crossing p (t / abreast p) (t % abreast p)

-- the number of the tile of a cell
abbrev pub tile_of : Plan → ℕ → ℕ → ℕ
tile_of p i j = band_of p.down i * abreast p + band_of p.across j

-- a cell of the sheet
abbrev pub on_sheet : Plan → ℕ → ℕ → Bool
on_sheet p i j = nat_lt i p.rows && nat_lt j p.cols

-- the tile of a cell and the row and column in that tile; none for a cell that is not on the sheet
abbrev pub spot_of : Plan → ℕ → ℕ → Option Spot
spot_of p i j =
    cond (on_sheet p i j) (Some (record { tile = tile_of p i j; row = i - (tile_at p (tile_of p i j)).top; col = j - (tile_at p (tile_of p i j)).left })) None

-- the checks of a call about the tile t: whether there is none
abbrev pub tile_checks : Plan → ℕ → List (Bool × ℕ)
tile_checks p t = (nat_le (tiles p) t, 3) ∷ []
