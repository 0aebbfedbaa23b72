use Rattle.std.proofs.Common.{◌≡◌, ℕ, ◌+◌, ◌-◌, ◌<◌, ◌≤◌, ◌++◌, ◌&&◌, leb, ltb, cond, List, length, take, drop, Some, None, Option, option_map, sym, refl, ap, ap₂, ◌∙◌, length-drop, add-one, rules, tests, of_calls, arith}
use Rattle.std.specs.List.{slice_get, filter_map, range_with_len}
use Rattle.std.proofs.lemmas.Iterator.{YieldsList-from_slice, YieldsList-from_range, serves_from_Range}
use Rattle.std.proofs.lemmas.Iterator.Adapters.{option_map_id}
use Rattle.std.proofs.lemmas.Iterator.Consumers.{YieldsList-at, YieldsList-from_filter_map, YieldsList-from_chain, nth_from_yields_List}
use Rattle.terrain.specs.Terrains.{Kind, kind_of}
use Rattle.tiles.specs.Plans.{Plan, Lawful, plan_of, tile_of, tiles}
use Rattle.tiles.specs.Mouths.{mouth_number, mouth_base, pass_base, tile_mouths, passes}
use Rattle.tiles.proofs.Tilings.{lawful_plan, tile_exists}
use Rattle.tiles.proofs.Seams.{numbered}
use Rattle.tables.specs.Picks.{picked}
use Rattle.tables.specs.Records.{Tables, tables}
use Rattle.tables.specs.declared.records.PassRecord.{PassRecord}
use Rattle.tables.specs.Links.{seam_at, pass_at, pass_link, far_end, tile_of_mouth, mouth_crossings}
use Rattle.tables.proofs.Linked.{listed, unlisted}
use Rattle.tables.proofs.Reading.{tile_read, records}
use Rattle.settling.proofs.Picked.{picked_range, firsts, same, dropped}
use Rattle.settling.proofs.ground.meaning.MouthGroundGround.crossing.Goals as goal

-- what the chain gives is what is picked over seams, and then by passes
crossed : {M : Type 0} (κ : Kind M) (p : Plan) (w : Tables M) → Lawful p → (i j a t place u v : ℕ) (ys : List (PassRecord M)) (o : Option (ℕ × M)) → mouth_number p i j ≡ Some a → t ≡ tile_of p i j → passes p ≤ length w.passes → u ≡ mouth_base p t → v ≡ mouth_base p (t + 1) → ys ≡ take (tile_mouths p t - 1) (drop (pass_base p t) w.passes) →
    option_map (λ x. x) o ≡ slice_get (filter_map (seam_at κ p w.mouths a) (range_with_len 0 9) ++ filter_map (λ q. cond ((leb u q.from && ltb q.from v) && (leb u q.to && ltb q.to v)) (far_end a q) None) ys) place → o ≡ slice_get (mouth_crossings κ p w a) place
crossed κ p w law i j a t place u v ys o e is-t room is-u is-v is-ys is =
    let h : t < tiles p = rw is-t (tile_exists p i j) in
    let tile : t ≡ tile_of_mouth p a = is-t ∙ sym (tile_read κ p law w.mouths a 0 i j e) in
    let n : ℕ = tile_mouths p t - 1 in
    let b : ℕ = pass_base p t in
    let r = records p law t (mouth_base p t) (tile_mouths p t) h refl refl in
    let enough : n ≤ length (drop b w.passes) = omega (arith, r.within, room, length-drop b w.passes) in
    let numbers : filter_map (λ q. cond ((leb u q.from && ltb q.from v) && (leb u q.to && ltb q.to v)) (far_end a q) None) ys ≡ filter_map (λ q. pass_link p t a (Some q)) (take n (drop b w.passes)) =
    ap₂ (λ x y. filter_map (λ q. cond ((leb x q.from && ltb q.from y) && (leb x q.to && ltb q.to y)) (far_end a q) None) ys) is-u (is-v ∙ ap (mouth_base p) (add-one t)) ∙ ap (filter_map (λ q. pass_link p t a (Some q))) is-ys in
    let links : filter_map (λ q. pass_link p t a (Some q)) (take n (drop b w.passes)) ≡ picked (pass_at p w.passes a) 0 (tile_mouths p (tile_of_mouth p a) - 1) =
    firsts (pass_link p t a) (drop b w.passes) n enough
    ∙ same _ (pass_at p w.passes a) (λ k. ap (pass_link p t a) (dropped w.passes b k) ∙ ap (λ z. pass_link p z a (slice_get w.passes (pass_base p z + k))) tile) 0 n
    ∙ ap (λ z. picked (pass_at p w.passes a) 0 (tile_mouths p z - 1)) tile in
    sym (option_map_id o) ∙ is ∙ ap₂ (λ xs zs. slice_get (xs ++ zs) place) (picked_range (seam_at κ p w.mouths a) 0 9) (numbers ∙ links)
    ∙ ap (λ xs. slice_get xs place) (sym (listed κ p w law a ((numbered p law).interval i j a e).3))

pub returns-in_err-mouth : goal.returns-in_err-mouth
returns-in_err-mouth g c =
    let s = c.args.self.now in
    c.from_residual.ensures
    ∙ sym (ap (λ xs. slice_get xs c.args.place) (unlisted (kind_of g.M.Order g.M.Mark.lowest) (plan_of s.cuts) (tables s.mouths.now s.passes.now) (lawful_plan s.cuts) c.args.node c.in_err-mouth.ensures))

pub tile_numbers-numbers-requires : goal.tile_numbers-numbers-requires
tile_numbers-numbers-requires g c = rw c.in_ok-mouth.ensures.1 (tile_exists (plan_of c.args.self.now.cuts) c.in_ok-mouth.mouth.row c.in_ok-mouth.mouth.col)

pub tile_passes-passes-requires-clause-tile : goal.tile_passes-passes-requires-clause-tile
tile_passes-passes-requires-clause-tile g c = rw c.in_ok-mouth.ensures.1 (tile_exists (plan_of c.args.self.now.cuts) c.in_ok-mouth.mouth.row c.in_ok-mouth.mouth.col)

pub nth-requires : goal.nth-requires
nth-requires g c = (λ e. (tt, tt, serves_from_Range (λ x q r. search of_calls) (λ x low high κs p n w r l u f v κs' t. search rules)), λ e. (tt, tt, search of_calls))

pub returns : goal.returns
returns g c =
    let s = c.args.self.now in
    let m = c.in_ok-mouth.mouth in
    let p = plan_of s.cuts in
    let κ = kind_of g.M.Order g.M.Mark.lowest in
    let r = c.tile_numbers-numbers.result in
    crossed κ p (tables s.mouths.now s.passes.now) (lawful_plan s.cuts) m.row m.col c.args.node m.tile c.args.place r.start r.end c.tile_passes-passes.result.now c.nth.result c.in_ok-mouth.ensures.0 c.in_ok-mouth.ensures.1 s.passed c.tile_numbers-numbers.ensures.start c.tile_numbers-numbers.ensures.end c.tile_passes-passes.ensures
    (nth_from_yields_List c.nth.result _ c.args.place c.nth.ensures.ran
    (YieldsList-from_chain {s = c.chain.result}
    (YieldsList-at c.chain.ensures.first (YieldsList-from_filter_map {s = c.filter_map-seams.result} _ (seam_at κ p s.mouths.now c.args.node) (YieldsList-from_range 0 9 9 c.filter_map-seams.ensures.source (omega arith)) c.filter_map-seams.ensures.closure (λ x r q k. search (rules, tests))))
    (YieldsList-at c.chain.ensures.second (YieldsList-from_filter_map {s = c.filter_map-links.result} _ (λ q. cond ((leb r.start q.from && ltb q.from r.end) && (leb r.start q.to && ltb q.to r.end)) (far_end c.args.node q) None) (YieldsList-from_slice c.tile_passes-passes.result.now cc) c.filter_map-links.ensures.closure (λ x r q k. search (rules, tests))))
    c.chain.ensures.first_done c.chain.ensures.second_done))
