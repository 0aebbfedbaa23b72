use Rattle.std.proofs.Common.{sym, ◌∙◌, w16}
use Rattle.std.proofs.lemmas.Int.{to_z-of_z}
use Rattle.marks.specs.HeightsLemmas.{height_of_code}
use Rattle.marks.proofs.height.codes.HeightCodedMark.from_code.Goals as goal

pub returns : goal.returns
returns c = sym (height_of_code c.args.code _ c.ranges.code.fits (to_z-of_z w16 c.cast_signed.result (record { sfits = c.cast_signed.type_inv }) ∙ c.cast_signed.ensures))
