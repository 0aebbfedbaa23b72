-- The sills of each case, and the next cell on a way out from each cell: with these the test is computed.
use Rattle.std.proofs.Common.{◌≡◌, ℕ, true, false, List, [], ◌∷◌, Some, sym, refl, ap, ◌∙◌, arith, le-leb, leb-false, leb-true}
use lib.Signed.{le_z}
use Rattle.std.proofs.lemmas.Int.{ints}
use Rattle.marks.specs.declared.height.Height.{Height}
use Rattle.marks.specs.declared.class.Class.{Class}
use Rattle.marks.specs.declared.class.Class.TheVariants.{Void, Open, Strip, Moist, Wet, Peat, Kept}
use Rattle.marks.specs.Classes.{rank, ranked}
use Rattle.marks.specs.Orders.{OrderLaws}
use Rattle.marks.specs.HeightsLemmas.{same_height, le_z_antisym}
use Rattle.tiles.proofs.Borders.{border_row, border_ring}
use Rattle.cases.specs.Sheets.{Case, Holds, heights, classes}
use Rattle.cases.specs.Worked.{h2, h5, h7, h8, h9, none, single, empty, pit, corner, lake, hollows, strip}
use Rattle.cases.proofs.Tests.{passes}
use Rattle.cases.proofs.Tested.{holds}
use Rattle.cases.proofs.cases_hold.Goals as goal

height_order : OrderLaws heights.leb
height_order = record { total = total; transitive = transitive; antisymmetric = λ x y h k. same_height x y (le_z_antisym x.dm y.dm h k) }
  where
    total : (x y : Height) → le_z x.dm y.dm ≡ false → le_z y.dm x.dm ≡ true
    total x y h = grind (arith, ints)

    transitive : (x y z : Height) → le_z x.dm y.dm ≡ true → le_z y.dm z.dm ≡ true → le_z x.dm z.dm ≡ true
    transitive x y z h k = grind (arith, ints)

height_least : (x : Height) → heights.leb heights.void x ≡ true
height_least x = let f = x.fits in grind (arith, ints)

class_order : OrderLaws classes.leb
class_order = record {
  total = λ x y h. le-leb (rank y) (rank x) (omega (arith, leb-false (rank x) (rank y) h));
  transitive = λ x y z h k. le-leb (rank x) (rank z) (omega (arith, leb-true (rank x) (rank y) h, leb-true (rank y) (rank z) k));
  antisymmetric = λ x y h k. same x y (omega (arith, leb-true (rank x) (rank y) h, leb-true (rank y) (rank x) k));
}
  where
    back : (x : Class) → ranked (rank x) ≡ Some x
    back Void = refl
    back Open = refl
    back Strip = refl
    back Moist = refl
    back Wet = refl
    back Peat = refl
    back Kept = refl

    some_same : (x y : Class) → Some x ≡ Some y → x ≡ y
    some_same x y e = cc

    same : (x y : Class) → rank x ≡ rank y → x ≡ y
    same x y e = some_same x y (sym (back x) ∙ ap ranked e ∙ back y)

class_least : (x : Class) → classes.leb classes.void x ≡ true
class_least x = le-leb 0 (rank x) (omega arith)

height_holds : (c : Case Height) (sills : List Height) (next : List ℕ) → passes heights c.rows c.cols c.marks sills next c.finished ≡ true → Holds heights c
height_holds c sills next ok = holds heights height_order height_least c.rows c.cols c.marks sills next c.finished ok

class_holds : (c : Case Class) (sills : List Class) (next : List ℕ) → passes classes c.rows c.cols c.marks sills next c.finished ≡ true → Holds classes c
class_holds c sills next ok = holds classes class_order class_least c.rows c.cols c.marks sills next c.finished ok

single_holds : Holds heights single
single_holds = height_holds single (h7 ∷ []) (0 ∷ []) refl

empty_holds : Holds heights empty
empty_holds = height_holds empty (none ∷ []) (0 ∷ []) refl

pit_holds : Holds heights pit
pit_holds = height_holds pit (h5 ∷ h5 ∷ h5 ∷ h5 ∷ h5 ∷ h5 ∷ h5 ∷ h5 ∷ h5 ∷ []) (0 ∷ 1 ∷ 2 ∷ 3 ∷ 0 ∷ 5 ∷ 6 ∷ 7 ∷ 8 ∷ []) refl

corner_holds : Holds heights corner
corner_holds = height_holds corner (h2 ∷ h5 ∷ h5 ∷ h5 ∷ h2 ∷ h5 ∷ h5 ∷ h5 ∷ h5 ∷ []) (0 ∷ 1 ∷ 2 ∷ 3 ∷ 0 ∷ 5 ∷ 6 ∷ 7 ∷ 8 ∷ []) refl

lake_holds : Holds heights lake
lake_holds = height_holds lake (h9 ∷ h9 ∷ h9 ∷ h9 ∷ h9 ∷ h9 ∷ h9 ∷ h9 ∷ h9 ∷ h9 ∷ h9 ∷ h9 ∷ h9 ∷ h9 ∷ h9 ∷ h9 ∷ h9 ∷ h9 ∷ h9 ∷ h9 ∷ h9 ∷ h9 ∷ h9 ∷ h9 ∷ h9 ∷ []) (0 ∷ 1 ∷ 2 ∷ 3 ∷ 4 ∷ 5 ∷ 0 ∷ 1 ∷ 2 ∷ 9 ∷ 10 ∷ 5 ∷ 6 ∷ 7 ∷ 14 ∷ 15 ∷ 10 ∷ 11 ∷ 12 ∷ 19 ∷ 20 ∷ 21 ∷ 22 ∷ 23 ∷ 24 ∷ []) refl

hollows_holds : Holds heights hollows
hollows_holds = height_holds hollows (h9 ∷ h9 ∷ h9 ∷ h9 ∷ h9 ∷ h9 ∷ h9 ∷ h7 ∷ h7 ∷ h8 ∷ h5 ∷ h9 ∷ h9 ∷ h7 ∷ h7 ∷ h7 ∷ h5 ∷ h5 ∷ h9 ∷ h9 ∷ h9 ∷ h9 ∷ h9 ∷ h9 ∷ []) (0 ∷ 1 ∷ 2 ∷ 3 ∷ 4 ∷ 5 ∷ 6 ∷ 8 ∷ 15 ∷ 10 ∷ 17 ∷ 11 ∷ 12 ∷ 8 ∷ 15 ∷ 10 ∷ 17 ∷ 17 ∷ 18 ∷ 19 ∷ 20 ∷ 21 ∷ 22 ∷ 23 ∷ []) refl

strip_holds : Holds classes strip
strip_holds = class_holds strip (Wet ∷ Wet ∷ Wet ∷ Strip ∷ Strip ∷ Wet ∷ Wet ∷ Wet ∷ Wet ∷ []) (0 ∷ 1 ∷ 2 ∷ 3 ∷ 3 ∷ 5 ∷ 6 ∷ 7 ∷ 8 ∷ []) refl

pub returns : goal.returns
returns c =
    (single_holds, (empty_holds, (pit_holds, (corner_holds, (lake_holds, (hollows_holds, (strip_holds, (border_row 5, (border_ring 2 2 (omega arith) (omega arith), (border_ring 64 64 (omega arith) (omega arith), (refl, (refl, (refl, tt)))))))))))))
