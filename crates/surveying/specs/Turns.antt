-- How the passes of a flooded tile are chosen: its cells are taken in rising order of level, and looked at from each are the cells around it. Assumes nothing.
use Rattle.std.specs.Prelude.{◌≡◌, ℕ, ◌+◌, ◌*◌, ◌/◌, ◌%◌, ◌<◌, ◌≤◌, true, ◌⊎◌, List, [], ◌∷◌, map, length, get_or, take, Some, None, Option, ◌≢◌, slice_index_or, slice_set}
use Rattle.std.specs.List.{AllByRecursion, slice_get}
use Rattle.flood.specs.Places.{times}
use Rattle.flood.specs.declared.entry.Entry.{Entry}
use Rattle.sheets.specs.Grids.{Grid}
use Rattle.terrain.specs.Terrains.{Kind}
use Rattle.tiles.specs.Plans.{Plan, Lawful, Area, tiles, tile_at, height, width}
use Rattle.tiles.specs.Mouths.{mouth_index, tile_mouths}
use Rattle.tables.specs.declared.records.PassRecord.{PassRecord}
use Rattle.seams.specs.Joins.{NoneAbove, label, Relabelled}
use Rattle.seams.specs.Sheets.{Cuts, cell_in}
use Rattle.seams.specs.Surveys.{TileFlooded, Surveying}

-- the record of a pass whose ends are counted in the tile, where `first` is the number of its first mouth
abbrev pub further : {M : Type 0} → ℕ → ℕ × ℕ × M → PassRecord M
further first q = record { from = first + q.0; to = first + q.1; level = q.2 }

-- how many cells an area has
abbrev pub cells_of : Area → ℕ
cells_of a = height a * width a

-- v is a cell of the area, and its row and its column differ from those of the cell u by at most 1
pub record Near (a : Area) (u v : ℕ) : Type 0 where
  pub inside : v < cells_of a
  pub above : u / width a ≤ v / width a + 1
  pub below : v / width a ≤ u / width a + 1
  pub left : u % width a ≤ v % width a + 1
  pub right : v % width a ≤ u % width a + 1

-- the two mouths x and y are joined at a level, if their labels differ: a pass is noted, and the label of y is made that of x
abbrev pub JoinedAt : {M : Type 0} → ℕ → ℕ → ℕ → M → List ℕ → List (PassRecord M) → ℕ → List ℕ → List (PassRecord M) → ℕ → Type 0
JoinedAt first x y l labels records kept labels' records' kept' =
    ((label labels x ≡ label labels y) × (labels' ≡ labels) × (records' ≡ records) × (kept' ≡ kept))
    ⊎ ((label labels x ≢ label labels y) × Relabelled labels labels' (label labels x) (label labels y) × (records' ≡ slice_set records kept (further first (x, y, l))) × (kept' ≡ kept + 1))

module _ {M : Type 0} (κ : Kind M) (a : Area) (levels : List (Option M)) (origins : List (Option ℕ)) where
  -- the tile of some cut sheet that has the area was read and flooded, with these levels and origins
  pub record Flooded : Type 0 where
    pub grid : Grid M
    pub plan : Plan
    pub tile : ℕ
    pub marks : List M
    pub lawful : Lawful plan
    pub cuts : Cuts plan grid
    pub there : tile < tiles plan
    pub area : tile_at plan tile ≡ a
    pub flooded : TileFlooded κ grid plan tile marks levels origins

  -- the level of the cell d is at most that of the cell c
  pub record Under (d c : ℕ) : Type 0 where
    pub lower : M
    pub upper : M
    pub at_d : get_or levels d None ≡ Some lower
    pub at_c : get_or levels c None ≡ Some upper
    pub under : κ.leb lower upper ≡ true

  -- the pairs of cells taken up while the entries q wait: those of one origin, and each cell that does not wait with each that is not above it
  abbrev pub Besides : List (Entry M) → ℕ → ℕ → Type 0
  Besides q c d = (slice_index_or origins c None ≡ slice_index_or origins d None) ⊎ (Under d c × (times c q ≡ 0))

  -- the same in the turn of the cell u, from which the cells before b were looked at
  abbrev pub Until : List (Entry M) → ℕ → ℕ → ℕ → ℕ → Type 0
  Until q u b c d = (slice_index_or origins c None ≡ slice_index_or origins d None) ⊎ (Under d c × (times c q ≡ 0) × ((c ≢ u) ⊎ (d < b)))

  -- an entry has the level and the origin of its cell
  pub record Stands (x : Entry M) : Type 0 where
    pub inside : x.node < cells_of a
    pub level : get_or levels x.node None ≡ Some x.level
    pub origin : get_or origins x.node None ≡ Some x.origin

  -- the origin e of a cell is the i-th mouth of the area
  abbrev pub MouthIs : ℕ → ℕ → Type 0
  MouthIs e i = mouth_index a (cell_in a e).row (cell_in a e).col ≡ Some i

  -- Entries of the cells before i: one at most of each, and one of each cell that has a cell with another origin near it.
  pub record Lined (i : ℕ) (q : List (Entry M)) : Type 0 where
    pub stands : AllByRecursion Stands q
    pub before : AllByRecursion (λ x. x.node < i) q
    pub once : (v : ℕ) → times v q ≤ 1
    pub others : Flooded → (c d : ℕ) → c < i → Near a c d → times c q ≡ 0 → slice_index_or origins c None ≡ slice_index_or origins d None

  -- The labels of the mouths and the records of the passes kept, once the pairs `Taken` were taken up; no pass is above an entry of q.
  pub record Sofar (C : Flooded) (first : ℕ) (Taken : ℕ → ℕ → Type 0) (q : List (Entry M)) (labels : List ℕ) (records : List (PassRecord M)) (kept : ℕ) : Type 0 where
    pub passes : List (ℕ × ℕ × M)
    pub survey : Surveying κ C.grid C.plan C.tile levels origins labels passes Taken
    pub low : AllByRecursion (λ x. NoneAbove κ.leb x.level passes) q
    pub listed : take kept records ≡ map (further first) passes
    pub within : kept ≤ length records
    pub room : length records + 1 ≡ tile_mouths C.plan C.tile

  -- in the turn of the entry x, while q wait, looked at up to the cell b
  abbrev pub Turn : Flooded → List (Entry M) → ℕ → Entry M → ℕ → List ℕ → List (PassRecord M) → ℕ → Type 0
  Turn C q first x b = Sofar C first (Until q x.node b) (x ∷ [])

  -- it is some tile's turn
  abbrev pub SomeTurn : ℕ → Entry M → ℕ → List ℕ → List (PassRecord M) → ℕ → Type 0
  SomeTurn first x b labels records kept = (C : Flooded) × (q : List (Entry M)) × Turn C q first x b labels records kept

  -- whatever the tile, its turn goes on from the cell b to the cell b'
  abbrev pub GoesOn : ℕ → Entry M → ℕ → List ℕ → List (PassRecord M) → ℕ → ℕ → List ℕ → List (PassRecord M) → ℕ → Type 0
  GoesOn first x b labels records kept b' labels' records' kept' =
      (C : Flooded) (q : List (Entry M)) → Turn C q first x b labels records kept → Turn C q first x b' labels' records' kept'

  -- The mouths are linked: passes were noted in a table from the place `start` on, and the records elsewhere are as they were.
  pub record LinkedAt (C : Flooded) (first start : ℕ) (ps ps' : List (PassRecord M)) (count : ℕ) : Type 0 where
    pub labels : List ℕ
    pub records : List (PassRecord M)
    pub linked : Sofar C first (Besides []) [] labels records count
    pub new : (i : ℕ) → i < length records → slice_get ps' (start + i) ≡ slice_get records i
    pub rest : (k : ℕ) → (k < start) ⊎ (start + length records ≤ k) → slice_get ps' k ≡ slice_get ps k
    pub long : length ps' ≡ length ps
