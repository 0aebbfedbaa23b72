use Rattle.std.proofs.Common.{◌≡◌, ℕ, suc, ◌-◌, ◌<◌, ◌≤◌, Bool, true, false, List, [], ◌∷◌, Ok, Err, Result, MatchResult, length, get_or, take, drop, vec_items, sym, refl, ap, ◌∙◌, arith, length-drop}
use Rattle.std.proofs.lemmas.List.{take_all}
use Rattle.std.proofs.lemmas.Bool.Decides.{when_true, when_false}
use Rattle.marks.specs.declared.refusal.Refusal.{Refusal}
use Rattle.marks.specs.declared.refusal.Refusal.TheVariants.{DeadCell}
use Rattle.sheets.specs.Runs.{overruns}
use Rattle.sheets.proofs.Checks.{fails, passes, passed, run_fits}
use Rattle.brackets.specs.Lines.{lines_on, row_starts}
use Rattle.brackets.proofs.Steps.{starts_long, starts_at}
use Rattle.brackets.proofs.Along.{run_alive, run_dead, run_held}
use Rattle.brackets.proofs.making.TextSheet.read.Goals as goal

-- the row is there, and its line begins where the sheet says
begins : (rows cols row col n : ℕ) (bs starts : List ℕ) → overruns rows cols row col n ≡ false → starts ≡ row_starts rows bs → (row < length starts) × ((x : ℕ) → x ≡ get_or starts row x → (x ≤ length bs) × (take (length bs - x) (drop x bs) ≡ lines_on (suc row) bs))
begins rows cols row col n bs starts left s =
    let inside : row < rows = (run_fits rows cols row col n left).0 in
    let long : length starts ≡ rows = ap length s ∙ starts_long rows bs in (
      omega arith,
      λ x is.
          let at = starts_at rows row x bs inside in
          let here : x ≡ get_or (row_starts rows bs) row x = is ∙ ap (λ l. get_or l row x) s in
          (omega (arith, at.0), take_all (length bs - x) (drop x bs) (omega (arith, length-drop x bs)) ∙ ap (λ k. drop k bs) here ∙ at.1),
    )

pub index-requires : goal.index-requires
index-requires g c =
    let s = c.args.self.now in
    omega (arith, s.starts.ok.0, (begins s.sides.rows s.sides.cols c.args.row c.args.col _ s.bytes.now (vec_items s.starts) (passed _ _ [] _ _ c.in_ok-start_of_run.ensures).0 s.begin).0)

pub slice_bounds-line-count : goal.slice_bounds-line-count
slice_bounds-line-count g c =
    let s = c.args.self.now in
    ((begins s.sides.rows s.sides.cols c.args.row c.args.col _ s.bytes.now (vec_items s.starts) (passed _ _ [] _ _ c.in_ok-start_of_run.ensures).0 s.begin).1 c.index.result.now c.index.ensures).0

pub slice_bounds-line-start : goal.slice_bounds-line-start
slice_bounds-line-start g c =
    let s = c.args.self.now in
    ((begins s.sides.rows s.sides.cols c.args.row c.args.col _ s.bytes.now (vec_items s.starts) (passed _ _ [] _ _ c.in_ok-start_of_run.ensures).0 s.begin).1 c.index.result.now c.index.ensures).0

pub returns-then-not-readable-clause-told : goal.returns-then-not-readable-clause-told
returns-then-not-readable-clause-told g c =
    let s = c.args.self.now in
    let line = ((begins s.sides.rows s.sides.cols c.args.row c.args.col _ s.bytes.now (vec_items s.starts) (passed _ _ [] _ _ c.in_ok-start_of_run.ensures).0 s.begin).1 c.index.result.now c.index.ensures).1 in
    let d = when_false _ _ c.if-not-readable.true c.readable.ensures in
    passes _ _ (_ ∷ []) _ _ (passed _ _ [] _ _ c.in_ok-start_of_run.ensures).0
    (fails _ _ [] _ (run_dead g.M.CodedMark.decoded g.M.Spelled.spelled s.sides.rows s.sides.cols s.bytes.now c.args.row c.args.col _ c.skip_parts-first.result.now c.skip_parts-from.result.now line c.skip_parts-first.ensures c.skip_parts-from.ensures (length c.args.out.now) d.0 d.1 d.2))

-- nothing is refused of cells that are not dead
filled : {A : Type 0} (n : ℕ) (dead : ℕ → Bool) (r : Result (Unit {0}) Refusal) → MatchResult r (λ _. A) (λ e. (e ≡ DeadCell) × ((k : ℕ) × (k < n) × (dead k ≡ true))) → ((k : ℕ) → k < n → dead k ≡ false) → (r ≡ Ok tt) × A
filled n dead (Ok u) h live = (refl, h)
filled n dead (Err e) h live = let d = h.1 in let z : true ≡ false = sym d.2 ∙ live d.0 d.1 in let w : ◌≡◌ {A = ℕ} 0 1 = cc in absurd (omega arith)

pub returns-clause-told : goal.returns-clause-told
returns-clause-told g c =
    let s = c.args.self.now in
    let line = ((begins s.sides.rows s.sides.cols c.args.row c.args.col _ s.bytes.now (vec_items s.starts) (passed _ _ [] _ _ c.in_ok-start_of_run.ensures).0 s.begin).1 c.index.result.now c.index.ensures).1 in
    let live = when_true _ _ c.if-not-readable.false c.readable.ensures in
    let ok = filled _ _ c.fill.result c.fill.ensures live in
    rw ok.0 (passes _ _ (_ ∷ []) _ _ (passed _ _ [] _ _ c.in_ok-start_of_run.ensures).0
    (passes _ _ [] _ _ (run_alive g.M.CodedMark.decoded g.M.Spelled.spelled s.sides.rows s.sides.cols s.bytes.now c.args.row c.args.col _ c.skip_parts-first.result.now c.skip_parts-from.result.now line c.skip_parts-first.ensures c.skip_parts-from.ensures (length c.args.out.now) live) refl))

pub returns-clause-leaves : goal.returns-clause-leaves
returns-clause-leaves g c =
    let s = c.args.self.now in
    let line = ((begins s.sides.rows s.sides.cols c.args.row c.args.col _ s.bytes.now (vec_items s.starts) (passed _ _ [] _ _ c.in_ok-start_of_run.ensures).0 s.begin).1 c.index.result.now c.index.ensures).1 in
    let ok = filled _ _ c.fill.result c.fill.ensures (when_true _ _ c.if-not-readable.false c.readable.ensures) in
    rw ok.0 (c.fill.auto.out, run_held g.M.CodedMark.decoded g.M.Spelled.spelled s.sides.rows s.sides.cols s.bytes.now c.args.row c.args.col _ c.skip_parts-first.result.now c.skip_parts-from.result.now line c.skip_parts-first.ensures c.skip_parts-from.ensures c.fill.new.out (λ k lt. ok.1 k (omega (arith, c.fill.auto.out))))
