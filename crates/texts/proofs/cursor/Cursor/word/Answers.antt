use Rattle.std.proofs.Common.{◌≡◌, drop, subst, arith}
use Rattle.grammar.specs.Grammars.{Found, lit}
use Rattle.grammar.proofs.Theory.{within_past}
use Rattle.texts.proofs.cursor.Cursor.word.Goals as goal

pub returns : goal.returns
returns c =
    let k = c.in_ok-end.ensures.1 in
    let bs = c.args.self.bytes.now in
    let within = within_past bs c.args.word.now k.after c.args.self.at c.in_ok-end.end c.args.self.inside k.split k.place in
    let is : c.in_ok-end.end ≡ c.new.result.at = omega (arith, c.new.ensures.at, within) in
    (tt, record { same = c.new.ensures.bytes; found = subst (λ e. Found (lit c.args.word.now) c.args.self.at (drop c.args.self.at bs) tt e) is k })
