-- The worked cases: small sheets that can be checked by hand. Assumes nothing.
use Rattle.std.specs.Prelude.{◌≡◌, ℕ, true, List, [], ◌∷◌, ℤ, pos, negsuc}
use Rattle.std.proofs.Common.{lit<}
use Rattle.std.specs.List.{AllByRecursion}
use Rattle.marks.specs.declared.height.Height.{Height}
use Rattle.marks.specs.declared.class.Class.{Class}
use Rattle.marks.specs.declared.class.Class.TheVariants.{Open, Strip, Wet}
use Rattle.marks.specs.Heights.{bits16}
use Rattle.marks.specs.Classes.{ranked}
use Rattle.sheets.specs.Grids.{is_dead, cell_of}
use Rattle.tiles.specs.Mouths.{border}
use Rattle.cases.specs.Sheets.{Case, Holds, heights, classes}

-- heights of so many decimetres
abbrev pub h1 : Height
h1 = record { dm = pos 1; fits = lit< tt }

abbrev pub h2 : Height
h2 = record { dm = pos 2; fits = lit< tt }

abbrev pub h3 : Height
h3 = record { dm = pos 3; fits = lit< tt }

abbrev pub h4 : Height
h4 = record { dm = pos 4; fits = lit< tt }

abbrev pub h5 : Height
h5 = record { dm = pos 5; fits = lit< tt }

abbrev pub h7 : Height
h7 = record { dm = pos 7; fits = lit< tt }

abbrev pub h8 : Height
h8 = record { dm = pos 8; fits = lit< tt }

abbrev pub h9 : Height
h9 = record { dm = pos 9; fits = lit< tt }

-- the void of heights
abbrev pub none : Height
none = heights.void

-- a row of some marks before others
abbrev pub row6 : {M : Type 0} → M → M → M → M → M → M → List M → List M
row6 a b c d e f rest = a ∷ b ∷ c ∷ d ∷ e ∷ f ∷ rest

abbrev pub row5 : {M : Type 0} → M → M → M → M → M → List M → List M
row5 a b c d e rest = a ∷ b ∷ c ∷ d ∷ e ∷ rest

abbrev pub row3 : {M : Type 0} → M → M → M → List M → List M
row3 a b c rest = a ∷ b ∷ c ∷ rest

-- one cell, and a void one
abbrev pub single : Case Height
single = record { rows = 1; cols = 1; marks = h7 ∷ []; finished = h7 ∷ [] }

abbrev pub empty : Case Height
empty = record { rows = 1; cols = 1; marks = none ∷ []; finished = none ∷ [] }

-- a pit in level ground fills to that level, and to a corner of the edge if one is lower
abbrev pub pit : Case Height
pit = record {
  rows = 3;
  cols = 3;
  marks = row3 h5 h5 h5 (row3 h5 h1 h5 (row3 h5 h5 h5 []));
  finished = row3 h5 h5 h5 (row3 h5 h5 h5 (row3 h5 h5 h5 []));
}

abbrev pub corner : Case Height
corner = record {
  rows = 3;
  cols = 3;
  marks = row3 h2 h5 h5 (row3 h5 h1 h5 (row3 h5 h5 h5 []));
  finished = row3 h2 h5 h5 (row3 h5 h2 h5 (row3 h5 h5 h5 []));
}

-- a void in a basin stays void, and does not drain it
abbrev pub lake : Case Height
lake = record {
  rows = 5;
  cols = 5;
  marks = row5 h9 h9 h9 h9 h9 (row5 h9 h2 h2 h2 h9 (row5 h9 h2 none h2 h9 (row5 h9 h2 h2 h2 h9 (row5 h9 h9 h9 h9 h9 []))));
  finished = row5 h9 h9 h9 h9 h9 (row5 h9 h9 h9 h9 h9 (row5 h9 h9 none h9 h9 (row5 h9 h9 h9 h9 h9 (row5 h9 h9 h9 h9 h9 []))));
}

-- two hollows: the left one runs off over the 7 into the right one, and that over the 5
abbrev pub hollows : Case Height
hollows = record {
  rows = 4;
  cols = 6;
  marks = row6 h9 h9 h9 h9 h9 h9 (row6 h9 h2 h3 h8 h1 h9 (row6 h9 h4 h2 h7 h1 h5 (row6 h9 h9 h9 h9 h9 h9 [])));
  finished = row6 h9 h9 h9 h9 h9 h9 (row6 h9 h7 h7 h8 h5 h9 (row6 h9 h7 h7 h7 h5 h5 (row6 h9 h9 h9 h9 h9 h9 [])));
}

-- open ground among wet, with a strip at one side
abbrev pub strip : Case Class
strip = record {
  rows = 3;
  cols = 3;
  marks = row3 Wet Wet Wet (row3 Strip Open Wet (row3 Wet Wet Wet []));
  finished = row3 Wet Wet Wet (row3 Strip Strip Wet (row3 Wet Wet Wet []));
}

-- what a worked case is about
pub data Worked : Type 0 where
  -- a sheet of heights, and one of classes, and what filling gives
  height_sheet : Case Height → Worked
  class_sheet : Case Class → Worked
  -- a tile of so many rows and columns, and how many mouths it has
  mouth_count : ℕ → ℕ → ℕ → Worked
  -- so many decimetres, and their code
  height_code : ℤ → ℕ → Worked
  -- a code that is no class's
  dead_class : ℕ → Worked

-- what it says
abbrev pub Says : Worked → Type 0
Says (height_sheet c) = Holds heights c
Says (class_sheet c) = Holds classes c
Says (mouth_count h w n) = border h w ≡ n
Says (height_code z c) = bits16 z ≡ c
Says (dead_class c) = is_dead (cell_of (ranked c)) ≡ true

-- the cases
abbrev pub cases : List Worked
cases =
    height_sheet single ∷ height_sheet empty ∷ height_sheet pit ∷ height_sheet corner ∷ height_sheet lake ∷ height_sheet hollows ∷ class_sheet strip
    ∷ mouth_count 1 5 5 ∷ mouth_count 2 2 4 ∷ mouth_count 64 64 252 ∷ height_code (pos 300) 0x012C ∷ height_code (negsuc 0) 0xFFFF ∷ dead_class 7 ∷ []

-- every one of them holds
abbrev pub CasesHold : Type 0
CasesHold = AllByRecursion Says cases
