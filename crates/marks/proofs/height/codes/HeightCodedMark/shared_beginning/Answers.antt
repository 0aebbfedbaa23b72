use Rattle.marks.specs.Spells.{scanned_longest}
use Rattle.marks.proofs.height.codes.HeightCodedMark.shared_beginning.Goals as goal

pub returns : goal.returns
returns c = scanned_longest _ _ _ _ c.scan_height.ensures
