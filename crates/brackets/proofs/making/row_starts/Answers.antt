use Rattle.std.proofs.Common.{◌≡◌, vec_items, length, suc, sym, refl, ap, ◌∙◌, add-one, arith}
use Rattle.brackets.specs.Lines.{past_line, lines_on, row_starts}
use Rattle.brackets.proofs.Steps.{starts_none, starts_more, lines_long}
use Rattle.brackets.proofs.making.row_starts.Goals as goal

pub loop-k-init : goal.loop-k-init
loop-k-init c = (refl, c.new-starts.ensures.items ∙ starts_none c.args.bytes.now)

pub overflow_sub-bytes : goal.overflow_sub-bytes
overflow_sub-bytes c = omega (arith, ap length (c.next_line-rest.ensures ∙ ap past_line c.loop-k.invariant.0), lines_long (suc c.loop-k.k) c.args.bytes.now)

pub loop-k-preserved : goal.loop-k-preserved
loop-k-preserved c =
    let bs = c.args.bytes.now in
    let v = c.loop-k.invariant in
    let line = c.next_line-rest.ensures ∙ ap past_line v.0 in (
      line ∙ sym (ap (λ k. lines_on k bs) (add-one c.loop-k.k)),
      c.in_ok-push.ensures.items ∙ starts_more c.loop-k.k bs (vec_items c.loop-k.starts) _ v.1 line,
    )

pub returns : goal.returns
returns c = let all : c.loop-k.k ≡ c.args.rows = omega arith in c.loop-k.invariant.1 ∙ ap (λ k. row_starts k c.args.bytes.now) all
