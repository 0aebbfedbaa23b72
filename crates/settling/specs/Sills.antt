-- Settling: each mouth's level in the ground of mouths becomes its sill. Assumes nothing.
use Rattle.std.specs.Prelude.{◌≡◌, ℕ, ◌<◌, List, [], ◌∷◌, length, drop, Some, Ok, Err, Option, Result}
use Rattle.std.specs.List.{slice_get}
use Rattle.marks.specs.declared.refusal.Refusal.{Refusal}
use Rattle.marks.specs.Refusals.{Told, checked}
use Rattle.flood.specs.Calls.{short}
use Rattle.flood.specs.Grounds.{LeastWorst}
use Rattle.terrain.specs.Terrains.{Kind}
use Rattle.tiles.specs.Plans.{Plan, tiles}
use Rattle.tiles.specs.Mouths.{mouths}
use Rattle.tables.specs.declared.records.MouthRecord.{MouthRecord}
use Rattle.seams.specs.Sheets.{Cuts}
use Rattle.sheets.specs.Grids.{Grid}
use Rattle.tables.specs.Checks.{tables_short}
use Rattle.tables.specs.Surveyed.{Recorded, HaveSills}
use Rattle.tables.specs.Records.{Tables, mouth_with}
use Rattle.tables.specs.Links.{mouth_graph}

-- Each mouth keeps its mark, and its sill is its least worst level in the ground of mouths that the tables stood for;
-- records behind those of the mouths, and all passes, are as they were.
pub record Settled {M : Type 0} (κ : Kind M) (p : Plan) (w w' : Tables M) : Type 0 where
  pub sills : (a : ℕ) (r : MouthRecord M) → a < mouths p → slice_get w.mouths a ≡ Some r → (s : Option M) × (slice_get w'.mouths a ≡ Some (mouth_with r.mark s)) × LeastWorst (mouth_graph κ p w) a s
  pub behind : drop (mouths p) w'.mouths ≡ drop (mouths p) w.mouths
  pub passes : w'.passes ≡ w.passes

-- Tables that hold, of every tile, what a survey of one sheet left: settling them gives each mouth its sill in that sheet.
abbrev pub SettlesSheets : {M : Type 0} → Kind M → Plan → Tables M → Tables M → Result (Unit {0}) Refusal → Type 0
SettlesSheets {M} κ p w w' (Ok u) = (g : Grid M) → Cuts p g → ((t : ℕ) → t < tiles p → Recorded κ g p t w) → HaveSills κ g p w'
SettlesSheets κ p w w' (Err e) = Unit {0}

-- what settling the mouths tells: the tables, then the scratch, are too short
abbrev pub sills_told : {A B C : Type 0} → Plan → ℕ → ℕ → List A → List B → List C → Told (Unit {0})
sills_told p m q ls os hs = checked ((tables_short p m q, 4) ∷ (short (mouths p) ls os hs, 5) ∷ []) tt

-- what it leaves of the tables: accepted, the sills; refused, what they held
abbrev pub SillsLeft : {M : Type 0} → Kind M → Plan → Tables M → Tables M → Result (Unit {0}) Refusal → Type 0
SillsLeft κ p w w' (Ok u) = Settled κ p w w'
SillsLeft κ p w w' (Err e) = w' ≡ w

-- what it leaves of scratch: free, once it is accepted; refused, what it held
abbrev pub ScratchFree : {X : Type 0} → List X → List X → Result (Unit {0}) Refusal → Type 0
ScratchFree before after (Ok u) = length after ≡ length before
ScratchFree before after (Err e) = after ≡ before
