-- Which mouth stands where, and keeping levels as sills. Assumes nothing.
use Rattle.std.specs.Prelude.{◌≡◌, ℕ, ◌<◌, List, drop, Some, None, Option, slice_index_or}
use Rattle.std.specs.List.{slice_get}
use Rattle.tiles.specs.Plans.{Plan, tile_of}
use Rattle.tiles.specs.Mouths.{mouth_number}
use Rattle.tiles.specs.declared.places.Mouth.{Mouth}
use Rattle.tables.specs.declared.records.MouthRecord.{MouthRecord}
use Rattle.tables.specs.Records.{mouth_with}

-- the cell and the tile are those of the mouth a
pub record Stands (p : Plan) (a : ℕ) (m : Mouth) : Type 0 where
  pub number : mouth_number p m.row m.col ≡ Some a
  pub tile : m.tile ≡ tile_of p m.row m.col

-- the first n records have the levels as their sills, and the others are as they were
pub record Kept {M : Type 0} (ms : List (MouthRecord M)) (ls : List (Option M)) (n : ℕ) (ms' : List (MouthRecord M)) : Type 0 where
  pub new : (a : ℕ) (r : MouthRecord M) → a < n → slice_get ms a ≡ Some r → slice_get ms' a ≡ Some (mouth_with r.mark (slice_index_or ls a None))
  pub behind : drop n ms' ≡ drop n ms
