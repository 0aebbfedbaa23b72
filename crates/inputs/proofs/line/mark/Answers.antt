use Rattle.std.proofs.Common.{◌≡◌, ℕ, ◌<◌, ◌≤◌, Ok, Err, Result, [], ◌∷◌, length, get_or, refl, arith}
use Rattle.std.proofs.lemmas.Result.{err_from_is_err_and}
use Rattle.grammar.specs.Grammars.{lit}
use Rattle.texts.specs.Cursors.{ReadsOn}
use Rattle.texts.specs.declared.cursor.Cursor.{Cursor}
use Rattle.texts.proofs.Scans.{no_byte}
use Rattle.inputs.proofs.Marks.{mark_lost}
use Rattle.inputs.proofs.line.mark.Goals.{in_default-via-in-Ok+else-left-gt0, in_default-via-in_default}
use Rattle.inputs.proofs.line.mark.Goals as goal

-- no blank stands where none was read
no_blank : (c : Cursor) (r : Result Cursor ℕ) → ReadsOn (lit (32 ∷ [])) c r → ((d : Cursor) → r ≡ Ok d → ⊥) → c.at < length c.bytes.now → get_or c.bytes.now c.at 0 ≡ 32 → ⊥
no_blank c (Ok d) h other inside first = other d refl
no_blank c (Err p) h other inside first = (no_byte 32 c p h).1 inside first

pub returns-in_err-word-in_default : goal.returns-in_err-word-in_default
returns-in_err-word-in_default c =
    let p = err_from_is_err_and c.from_residual.result c.from_residual.ensures.1 in
    let none : 1 ≤ c.args.left → c.args.from.at < length c.args.from.bytes.now → get_or c.args.from.bytes.now c.args.from.at 0 ≡ 32 → ⊥ = elim c.in_default.branch [
      | in_default-via-in-Ok+else-left-gt0 w ↦ λ some inside first. omega (arith, w.if-left-gt0.false)
      | in_default-via-in_default w ↦ λ some. no_blank c.args.from c.word.result c.word.ensures w.in_default.not-Ok
    ] in
    rw (p.1, p.2) (mark_lost c.args.left c.args.from none _ c.in_err-word-in_default.ensures)
