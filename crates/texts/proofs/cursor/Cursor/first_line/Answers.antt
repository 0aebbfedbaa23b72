use Rattle.std.proofs.lemmas.Result.{err_from_is_err_and}
use Rattle.texts.proofs.Heads.{lost0, lost1, lost2, lost3, lost4, found4, found_word, lost_word}
use Rattle.texts.proofs.cursor.Cursor.first_line.Goals as goal

pub returns-in_err-word : goal.returns-in_err-word
returns-in_err-word g c =
    let p = err_from_is_err_and c.from_residual.result c.from_residual.ensures.1 in
    rw (p.1, p.2) (lost0 g.M.Spelled.named c.args.self _ c.in_err-word.ensures)

pub returns-in_err-word-2 : goal.returns-in_err-word-2
returns-in_err-word-2 g c =
    let p = err_from_is_err_and c.from_residual-in_err-word-2.result c.from_residual-in_err-word-2.ensures.1 in
    let h0 = c.in_ok-word.ensures in
    rw (p.1, p.2) (lost1 g.M.Spelled.named c.args.self _ c.in_ok-word.field-0 h0.1 _ (lost_word _ _ c.in_ok-word.field-0 _ c.name.ensures c.in_err-word-2.ensures))

pub returns-in_err-first : goal.returns-in_err-first
returns-in_err-first g c =
    let p = err_from_is_err_and c.from_residual-in_err-first.result c.from_residual-in_err-first.ensures.1 in
    let h0 = c.in_ok-word.ensures in
    let h1 = c.in_ok-word-2.ensures in
    rw (p.1, p.2) (lost2 g.M.Spelled.named c.args.self _ c.in_ok-word.field-0 h0.1 _ c.in_ok-word-2.field-0 (found_word _ _ _ _ _ c.name.ensures h1.1) _ c.in_err-first.ensures)

pub returns-in_err-rows : goal.returns-in_err-rows
returns-in_err-rows g c =
    let p = err_from_is_err_and c.from_residual-in_err-rows.result c.from_residual-in_err-rows.ensures.1 in
    let h0 = c.in_ok-word.ensures in
    let h1 = c.in_ok-word-2.ensures in
    let h2 = c.in_ok-first.ensures in
    rw (p.1, p.2) (lost3 g.M.Spelled.named c.args.self _ c.in_ok-word.field-0 h0.1 _ c.in_ok-word-2.field-0 (found_word _ _ _ _ _ c.name.ensures h1.1) _ c.in_ok-first.first h2.1 _ c.in_err-rows.ensures)

pub returns-in_err-cols : goal.returns-in_err-cols
returns-in_err-cols g c =
    let p = err_from_is_err_and c.from_residual-in_err-cols.result c.from_residual-in_err-cols.ensures.1 in
    let h0 = c.in_ok-word.ensures in
    let h1 = c.in_ok-word-2.ensures in
    let h2 = c.in_ok-first.ensures in
    rw (p.1, p.2) (lost4 g.M.Spelled.named c.args.self _ c.in_ok-word.field-0 h0.1 _ c.in_ok-word-2.field-0 (found_word _ _ _ _ _ c.name.ensures h1.1) _ c.in_ok-first.first h2.1 _ c.in_ok-rows.second c.in_ok-rows.ensures _ c.in_err-cols.ensures)

pub returns : goal.returns
returns g c =
    let h0 = c.in_ok-word.ensures in
    let h1 = c.in_ok-word-2.ensures in
    let h2 = c.in_ok-first.ensures in
    found4 g.M.Spelled.named c.args.self _ c.in_ok-word.field-0 h0.1 _ c.in_ok-word-2.field-0 (found_word _ _ _ _ _ c.name.ensures h1.1) _ c.in_ok-first.first h2.1 _ c.in_ok-rows.second c.in_ok-rows.ensures _ _ c.in_ok-cols.ensures
