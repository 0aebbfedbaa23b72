use Rattle.std.proofs.Common.{◌≡◌, ltb, [], ◌∷◌, ◌++◌, length, ap, ◌∙◌, append-nil, arith}
use Rattle.std.proofs.lemmas.List.{take_at, drop_all}
use Rattle.marks.specs.Refusals.{accepted}
use Rattle.sheets.proofs.Checks.{passes}
use Rattle.terrain.specs.Fills.{dead_in}
use Rattle.texts.specs.Texts.{text_of}
use Rattle.brackets.proofs.Rowwise.{measured}
use Rattle.brackets.proofs.writing.sheet_text.Goals as goal

pub put_text-requires : goal.put_text-requires
put_text-requires g c =
    let t = measured g.M.Spelled.named g.M.Spelled.spelled (g.S.Sheet.meaning c.args.sheet.now) (length c.args.scratch.now) c.in_ok-len.len c.in_ok-len.ensures.told in
    record { row = omega (arith, t.wide, c.text_length.auto.scratch); live = t.live; room = omega (arith, t.is, c.as_mut_slice.ensures.len, c.in_ok-text.ensures.len) }

pub returns : goal.returns
returns g c =
    let m = g.S.Sheet.meaning c.args.sheet.now in
    let w = text_of g.M.Spelled.named g.M.Spelled.spelled m in
    let room = length c.args.scratch.now in
    let t = measured g.M.Spelled.named g.M.Spelled.spelled m room c.in_ok-len.len c.in_ok-len.ensures.told in
    let long : length c.as_mut_slice.result.now ≡ length w = omega (arith, t.is, c.as_mut_slice.ensures.len, c.in_ok-text.ensures.len) in
    let is =
    take_at c.put_text.new.out _ c.in_ok-text.text.len (omega (arith, c.put_text.auto.out, c.as_mut_slice.ensures.len))
    ∙ c.put_text.ensures.leaves ∙ ap (λ l. w ++ l) (drop_all (length w) c.as_mut_slice.result.now (omega (arith, long))) ∙ append-nil w in
    record {
      told = passes (ltb room m.cols) 5 ((dead_in m, 7) ∷ []) w _ t.short (passes (dead_in m) 7 [] w _ t.live (ap accepted is));
      scratch = tt;
    }
