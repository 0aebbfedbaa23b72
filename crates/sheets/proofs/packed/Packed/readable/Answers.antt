use Rattle.std.proofs.Common.{◌≡◌, ℕ, ◌+◌, true, false, rules, tests, arith}
use Rattle.std.proofs.lemmas.Iterator.{cases_from_all, YieldsList-from_range}
use Rattle.sheets.specs.Grids.{is_dead}
use Rattle.sheets.specs.Layouts.{code_cell}
use Rattle.sheets.proofs.Codes.{all_over}
use Rattle.sheets.proofs.packed.Packed.readable.Goals as goal

pub returns : goal.returns
returns g c =
    let Alive : ℕ → Type 0 = λ k. is_dead (code_cell g.M.CodedMark.decoded c.args.self.now.bytes.now k) ≡ false in
    let Dead : ℕ → Type 0 = λ k. is_dead (code_cell g.M.CodedMark.decoded c.args.self.now.bytes.now k) ≡ true in
    all_over Alive Dead c.args.from c.args.len _ (cases_from_all _ _ _ Alive Dead c.all.ensures.ran (YieldsList-from_range c.args.from (c.args.from + c.args.len) c.args.len (cc) (omega arith)) (λ x q k. search (rules, tests)) (λ x q k. search (rules, tests)))
