use Rattle.std.proofs.Common.{sym, ◌∙◌, arith}
use Rattle.marks.specs.Spells.{class_none}
use Rattle.marks.proofs.Letters.{unlettered}
use Rattle.marks.proofs.class.codes.ClassCodedMark.shared_beginning.Goals as goal

pub returns-in_default : goal.returns-in_default
returns-in_default c = class_none _ (λ x some e. omega (arith, c.in_default.len_below))

pub returns-in_default-2 : goal.returns-in_default-2
returns-in_default-2 c = class_none _ (λ x some e. unlettered _ _ c.try_from.ensures (sym c.is_ok.ensures.value ∙ c.if-is_ok.false) x (e ∙ sym c.from.ensures))
