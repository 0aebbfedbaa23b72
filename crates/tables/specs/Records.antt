-- The table of mouths and the table of passes. Assumes nothing.
use Rattle.std.specs.Prelude.{ℕ, List, Some, None, Option}
use Rattle.std.specs.List.{slice_get}
use Rattle.tables.specs.declared.records.MouthRecord.{MouthRecord}
use Rattle.tables.specs.declared.records.PassRecord.{PassRecord}

-- both tables
pub record Tables (M : Type 0) : Type 0 where
  pub mouths : List (MouthRecord M)
  pub passes : List (PassRecord M)

-- the tables of these records
abbrev pub tables : {M : Type 0} → List (MouthRecord M) → List (PassRecord M) → Tables M
tables ms ps = record { mouths = ms; passes = ps }

-- a mouth's record with this mark and sill
abbrev pub mouth_with : {M : Type 0} → M → Option M → MouthRecord M
mouth_with m s = record { mark = m; sill = s }

-- the mark in a record; d, where there is none
abbrev pub mark_or : {M : Type 0} → M → Option (MouthRecord M) → M
mark_or d None = d
mark_or d (Some r) = r.mark

-- the mark in the record of the mouth a
abbrev pub mark_of : {M : Type 0} → M → List (MouthRecord M) → ℕ → M
mark_of d ms a = mark_or d (slice_get ms a)
