-- What a told answer says of the checks, and the checks of a told answer. Assumes nothing.
use Rattle.std.proofs.Common.{◌≡◌, ℕ, ◌+◌, ◌<◌, ◌≤◌, Bool, true, false, ltb, leb, List, [], ◌∷◌, ◌++◌, refl, ◌∙◌, arith}
use Rattle.std.proofs.lemmas.Bool.{ltb-false, leb-false, le-ltb, lt-leb, or_parts, or_from}
use Rattle.marks.specs.Refusals.{Told, accepted, refused, checked}
use Rattle.sheets.specs.Grids.{Side}
use Rattle.sheets.specs.Layouts.{bad_side}
use Rattle.sheets.specs.Runs.{overruns}

-- a check that fails refuses
pub fails : {X : Type 0} (b : Bool) (n : ℕ) (cs : List (Bool × ℕ)) (y : X) → b ≡ true → refused n 0 ≡ checked ((b, n) ∷ cs) y
fails true n cs y e = refl
fails false n cs y e = let z : ◌≡◌ {A = ℕ} 0 1 = cc in absurd (omega arith)

-- where a check passes, the others tell
pub passes : {X : Type 0} (b : Bool) (n : ℕ) (cs : List (Bool × ℕ)) (y : X) (t : Told X) → b ≡ false → t ≡ checked cs y → t ≡ checked ((b, n) ∷ cs) y
passes true n cs y t e h = let z : ◌≡◌ {A = ℕ} 0 1 = cc in absurd (omega arith)
passes false n cs y t e h = h

-- an accepted call passed its first check
pub passed : {X : Type 0} (b : Bool) (n : ℕ) (cs : List (Bool × ℕ)) (x y : X) → accepted x ≡ checked ((b, n) ∷ cs) y → (b ≡ false) × (accepted x ≡ checked cs y)
passed true n cs x y e = let z : ◌≡◌ {A = ℕ} 0 1 = cc in absurd (omega arith)
passed false n cs x y e = (refl, e)

-- an accepted answer is the answer
pub answer : {X : Type 0} (x y : X) → accepted x ≡ checked [] y → x ≡ y
answer x y e = cc

-- what refuses by one check refuses by it as the first of several
pub still_refused : {X Y : Type 0} (b : Bool) (m p n : ℕ) (cs : List (Bool × ℕ)) (x : X) (y : Y) → refused m p ≡ checked ((b, n) ∷ []) x → refused m p ≡ checked ((b, n) ∷ cs) y
still_refused true m p n cs x y e = let a : m ≡ n = cc in let z : p ≡ 0 = cc in cc
still_refused false m p n cs x y e = let z : ◌≡◌ {A = ℕ} 0 1 = cc in absurd (omega arith)

-- a check that passes tells nothing
pub past : {X : Type 0} (b : Bool) (n : ℕ) (cs : List (Bool × ℕ)) (y : X) (t : Told X) → b ≡ false → t ≡ checked ((b, n) ∷ cs) y → t ≡ checked cs y
past true n cs y t e h = let z : ◌≡◌ {A = ℕ} 0 1 = cc in absurd (omega arith)
past false n cs y t e h = h

-- what refuses by one check refuses by another of its number that fails with it
pub carried : {X Y : Type 0} (b d : Bool) (m p n : ℕ) (cs : List (Bool × ℕ)) (x : X) (y : Y) → (b ≡ true → d ≡ true) → refused m p ≡ checked ((b, n) ∷ []) x → refused m p ≡ checked ((d, n) ∷ cs) y
carried true d m p n cs x y f e = let a : m ≡ n = cc in let z : p ≡ 0 = cc in (λ i. refused (a i) (z i)) ∙ fails d n cs y (f refl)
carried false d m p n cs x y f e = let z : ◌≡◌ {A = ℕ} 0 1 = cc in absurd (omega arith)

-- what some checks refuse, they refuse before others too
pub refused_first : {X Y : Type 0} (cs ds : List (Bool × ℕ)) (m p : ℕ) (x : X) (y : Y) → refused m p ≡ checked cs x → refused m p ≡ checked (cs ++ ds) y
refused_first [] ds m p x y e = let z : ◌≡◌ {A = ℕ} 0 1 = cc in absurd (omega arith)
refused_first ((true, n) ∷ cs) ds m p x y e = let a : m ≡ n = cc in let z : p ≡ 0 = cc in λ i. refused (a i) (z i)
refused_first ((false, n) ∷ cs) ds m p x y e = refused_first cs ds m p x y e

-- where all of some checks pass, the others tell
pub passed_first : {X Y : Type 0} (cs ds : List (Bool × ℕ)) (x z : X) (y : Y) (t : Told Y) → accepted x ≡ checked cs z → t ≡ checked ds y → t ≡ checked (cs ++ ds) y
passed_first [] ds x z y t e h = h
passed_first ((true, n) ∷ cs) ds x z y t e h = let q : ◌≡◌ {A = ℕ} 0 1 = cc in absurd (omega arith)
passed_first ((false, n) ∷ cs) ds x z y t e h = passed_first cs ds x z y t e h

-- where no check is left, nothing is refused
pub not_refused : {X : Type 0} (m p : ℕ) (x : X) → refused m p ≡ checked [] x → ⊥
not_refused m p x e = let z : ◌≡◌ {A = ℕ} 0 1 = cc in omega arith

-- a side that is not bad is one that a sheet may have
pub side_lawful : (n : ℕ) → bad_side n ≡ false → Side n
side_lawful n e = let p = or_parts (ltb n 1) (ltb 2048 n) e in (ltb-false n 1 p.0, ltb-false 2048 n p.1)

-- a run that stays within the sides
pub run_fits : (rows cols row col n : ℕ) → overruns rows cols row col n ≡ false → (row < rows) × (col + n ≤ cols)
run_fits rows cols row col n e =
    let p = or_parts (leb rows row) (ltb cols (col + n)) e in (leb-false rows row p.0, ltb-false cols (col + n) p.1)

pub fits_run : (rows cols row col n : ℕ) → row < rows → col + n ≤ cols → overruns rows cols row col n ≡ false
fits_run rows cols row col n h k = or_from (leb rows row) (ltb cols (col + n)) (lt-leb rows row h) (le-ltb cols (col + n) k)
