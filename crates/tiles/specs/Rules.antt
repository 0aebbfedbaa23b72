-- How one side of a sheet is cut into bands, and which cuts are refused. Assumes nothing.
use Rattle.std.specs.Prelude.{ℕ, zero, suc, ◌+◌, ◌-◌, Bool, cond, not, ◌&&◌, ◌||◌, List, [], ◌∷◌, length, ◌==◌, nat_le, nat_lt, slice_index_or}

-- a band may reach from the place a up to the place b: it has a cell, and at most 64
abbrev pub band_fits : ℕ → ℕ → Bool
band_fits a b = nat_lt a b && nat_le (b - a) 64

-- from the place a on, the cuts rise and leave bands that may be, the last of them up to the side
abbrev pub bands : ℕ → ℕ → List ℕ → Bool
bands a side [] = band_fits a side
bands a side (c ∷ cs) = band_fits a c && bands c side cs

-- the cuts that a side may have: at most 31
abbrev pub lawful : ℕ → List ℕ → Bool
lawful side cs = nat_le (length cs) 31 && bands 0 side cs

-- a side that no sheet has
abbrev pub side_outside : ℕ → Bool
side_outside n = nat_lt n 1 || nat_lt 2048 n

-- the checks of a cut list, in their order: both sides, then all cuts
abbrev pub cut_checks : ℕ → List ℕ → ℕ → List ℕ → List (Bool × ℕ)
cut_checks rows down cols across =
    (side_outside rows || side_outside cols, 1) ∷ (not (lawful rows down && lawful cols across), 2) ∷ []

-- where band k begins; where it ends is where the next begins, and the last ends at the side
abbrev pub start : ℕ → List ℕ → ℕ → ℕ
start side cs zero = 0
start side cs (suc k) = slice_index_or cs k side

-- how many cells long band k is
abbrev pub band_size : ℕ → List ℕ → ℕ → ℕ
band_size side cs k = start side cs (suc k) - start side cs k

-- the band that a place is in: as many bands lie before it as there are cuts up to it
abbrev pub band_of : List ℕ → ℕ → ℕ
band_of [] i = 0
band_of (c ∷ cs) i = cond (nat_le c i) (suc (band_of cs i)) 0

-- how many of the first k bands are one cell long
unfoldable pub singles : ℕ → List ℕ → ℕ → ℕ
singles side cs zero = 0
singles side cs (suc k) = singles side cs k + cond (band_size side cs k == 1) 1 0
