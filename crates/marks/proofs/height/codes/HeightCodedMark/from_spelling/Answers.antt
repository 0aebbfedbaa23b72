use Rattle.marks.specs.Spells.{scanned_short}
use Rattle.marks.proofs.height.codes.HeightCodedMark.from_spelling.Goals as goal

pub returns-else-end-bytes : goal.returns-else-end-bytes
returns-else-end-bytes c = scanned_short _ _ _ _ c.scan_height-end.ensures c.if-end-bytes.false
