-- The passes of a tile, chosen by rising levels, with a label for each mouth that tells which are joined. Assumes nothing.
use Rattle.std.specs.Prelude.{◌≡◌, ℕ, ◌+◌, ◌<◌, Bool, true, cond, ◌⊎◌, ◌↔◌, List, length, ◌==◌, ◌≢◌, nat_eq, slice_index}
use Rattle.std.specs.List.{ContainsAt as Has}
use Rattle.marks.specs.Orders.{highest}
use Rattle.terrain.specs.Cells.{count_below}
use Rattle.terrain.specs.Ways.{Terrain}
use Rattle.seams.specs.Tilings.{Tiling, Passes, Chain, Meet}

-- The passes that a list has: from, to, level.
abbrev pub Listed : {M N : Type 0} → List (N × N × M) → Passes M N
Listed ps a b l = Has ps (a, b, l)

-- a and b are joined over passes, at whatever level.
pub data Joined {M N : Type 0} (P : Passes M N) : N → N → Type 0 where
  same : {a : N} → Joined P a a
  via : {a b c : N} {l : M} → P a b l ⊎ P b a l → Joined P b c → Joined P a c

-- No level in the list is above l.
abbrev pub NoneAbove : {M N : Type 0} → (M → M → Bool) → M → List (N × N × M) → Type 0
NoneAbove {M} {N} leb l ps = (a b : N) (m : M) → Has ps (a, b, m) → leb m l ≡ true

-- l is the lowest level under which a chain of passes leads from a to b.
abbrev pub LowestChain : {M N : Type 0} → (M → M → Bool) → Passes M N → N → N → M → Type 0
LowestChain {M} leb P a b l = (t : M) → (leb l t ≡ true) ↔ Chain leb P t a b

-- The label of the mouth x.
abbrev pub label : List ℕ → ℕ → ℕ
label labels x = slice_index labels x

-- How many of the first m mouths have their own number for a label.
abbrev pub own_labels : List ℕ → ℕ → ℕ
own_labels labels m = count_below (λ x. nat_eq (label labels x) x) m

-- Each of m mouths has its own number for a label.
pub record Unjoined (m : ℕ) (labels : List ℕ) : Type 0 where
  pub long : length labels ≡ m
  pub each : (x : ℕ) → x < m → label labels x ≡ x

-- Every label b is made a, and the others are kept.
pub record Relabelled (labels labels' : List ℕ) (a b : ℕ) : Type 0 where
  pub long : length labels' ≡ length labels
  pub each : (x : ℕ) → x < length labels → label labels' x ≡ cond (label labels x == b) a (label labels x)

module _ {M N : Type 0} (G : Terrain M N) (T : Tiling N) (k : ℕ) where
  -- Some two nodes meet of which the nearest mouths are x and y, and l is the higher of their levels.
  pub record MeetAt (Is : ℕ → N → Type 0) (origin : N → N) (level : N → M) (x y : ℕ) (l : M) : Type 0 where
    pub one : N
    pub other : N
    pub meet : Meet G T k one other
    pub from : Is x (origin one)
    pub to : Is y (origin other)
    pub at_level : highest G.leb (level one) (level other) ≡ l

  -- Tile k, with m mouths, on its way to a tree. `Taken u v` says that the pair of nodes u and v was taken up; `passes` were kept, each where two
  -- nodes meet (`ends`); and `labels` tell what they join: two mouths have one label just if they are joined (`one`, `made`), each label is the
  -- number of a mouth and its own label (`within`, `own`), and each pass kept made two labels one (`count`). Any two mouths that are joined have a
  -- lowest level for it, and the nearest mouths of each pair taken up are joined no higher than the higher of the pair's levels.
  pub record Joining (m : ℕ) (Is : ℕ → N → Type 0) (origin : N → N) (level : N → M) (labels : List ℕ) (passes : List (ℕ × ℕ × M)) (Taken : N → N → Type 0) : Type 0 where
    pub long : length labels ≡ m
    pub within : (x : ℕ) → x < m → label labels x < m
    pub own : (x : ℕ) → x < m → label labels (label labels x) ≡ label labels x
    pub ends : (x y : ℕ) (l : M) → Has passes (x, y, l) → (x < m) × (y < m) × MeetAt Is origin level x y l
    pub one : (x y : ℕ) → x < m → y < m → label labels x ≡ label labels y → Joined (Listed passes) x y
    pub made : (x y : ℕ) (l : M) → Has passes (x, y, l) → label labels x ≡ label labels y
    pub lowest : (x y : ℕ) → x < m → y < m → (x ≢ y) → label labels x ≡ label labels y → (l : M) × LowestChain G.leb (Listed passes) x y l
    pub joined : (u v : N) → Meet G T k u v → Taken u v → (x y : ℕ) → Is x (origin u) → Is y (origin v) → Chain G.leb (Listed passes) (highest G.leb (level u) (level v)) x y
    pub count : length passes + own_labels labels m ≡ m
