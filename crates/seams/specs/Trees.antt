-- The tree of passes of a tile, over the numbers of its mouths. Assumes nothing.
use Rattle.std.specs.Prelude.{◌≡◌, ℕ, Bool, true, ◌⊎◌, List, ◌≢◌}
use Rattle.marks.specs.Orders.{highest}
use Rattle.terrain.specs.Ways.{Terrain, Walk, last, worst}
use Rattle.seams.specs.Tilings.{Tiling, Passes, own}

-- m is the least of the marks of which P holds.
pub record LeastOf {M : Type 0} (leb : M → M → Bool) (P : M → Type 0) (m : M) : Type 0 where
  pub reached : P m
  pub least : (l : M) → P l → leb m l ≡ true

-- A chain of passes from a to b, each taken in either direction; its highest level is l.
pub data ChainAt {M N : Type 0} (leb : M → M → Bool) (P : Passes M N) : N → N → M → Type 0 where
  one : {a b : N} {l : M} → P a b l ⊎ P b a l → ChainAt leb P a b l
  more : {a b c : N} {j l : M} → P a b j ⊎ P b a j → ChainAt leb P b c l → ChainAt leb P a c (highest leb j l)

-- Passes between numbers as passes between the nodes that have them: `Is x c` says that x is the number of c.
abbrev pub Placed : {M N : Type 0} → (ℕ → N → Type 0) → Passes M ℕ → Passes M N
Placed Is P c d l = (x : ℕ) × (y : ℕ) × Is x c × Is y d × P x y l

module _ {M N : Type 0} (G : Terrain M N) (T : Tiling N) (k : ℕ) where
  -- l is the worst mark of a walk from c to d that stays in tile k.
  abbrev pub InnerWalk : N → N → M → Type 0
  InnerWalk c d l = (ds : List N) × Walk (own G T k) c ds × (last c ds ≡ d) × (worst (own G T k) c ds ≡ l)

  -- The mouths of tile k are numbered: `Of x` says that x is such a number, and `Is x c` that it is that of the node c. Each number is that of one
  -- mouth of the tile, and each mouth of the tile has one number.
  pub record Counted (Of : ℕ → Type 0) (Is : ℕ → N → Type 0) : Type 0 where
    pub mouth : (x : ℕ) (c : N) → Of x → Is x c → T.Mouth c × (T.tile c ≡ k)
    pub number : (c : N) → T.Mouth c → T.tile c ≡ k → (x : ℕ) × Of x × Is x c
    pub found : (x : ℕ) → Of x → (c : N) × Is x c
    pub single : (x : ℕ) (c d : N) → Is x c → Is x d → c ≡ d
    pub alike : (x y : ℕ) (c : N) → Is x c → Is y c → x ≡ y

  -- The passes P are a tree over the numbered mouths of tile k: each is between two of them, any two of them are joined by a chain of passes,
  -- and the least highest level over the chains between two is the least worst mark over the walks inside the tile between them.
  pub record TreeOf (Of : ℕ → Type 0) (Is : ℕ → N → Type 0) (P : Passes M ℕ) : Type 0 where
    pub ends : (a b : ℕ) (l : M) → P a b l → Of a × Of b
    pub levels : (a b : ℕ) (c d : N) → Of a → Of b → Is a c → Is b d → (a ≢ b) →
        (m : M) × LeastOf G.leb (ChainAt G.leb P a b) m × LeastOf G.leb (InnerWalk c d) m
