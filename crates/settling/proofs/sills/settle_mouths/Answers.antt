use Rattle.std.proofs.Common.{◌≡◌, ℕ, ◌≤◌, Bool, true, false, cond, ltb, List, [], ◌∷◌, length, get_or, drop, Some, None, Option, refl, subst, arith}
use Rattle.std.proofs.lemmas.Bool.{or_parts, ltb-false}
use Rattle.marks.specs.Refusals.{accepted, checked}
use Rattle.sheets.proofs.Checks.{passed}
use Rattle.marks.specs.Orders.{OrderLaws}
use Rattle.flood.specs.Calls.{short}
use Rattle.flood.specs.Grounds.{Graph, Found, Flooded, LeastWorst}
use Rattle.terrain.specs.Terrains.{Kind, kind_of}
use Rattle.tiles.specs.Plans.{Plan, plan_of}
use Rattle.tiles.specs.Mouths.{mouths, passes}
use Rattle.tables.specs.declared.records.MouthRecord.{MouthRecord}
use Rattle.tables.specs.Checks.{tables_short}
use Rattle.tables.specs.Records.{Tables, tables}
use Rattle.tables.specs.Links.{mouth_graph}
use Rattle.tables.proofs.Graphs.{settled_sills}
use Rattle.tiles.proofs.Tilings.{lawful_plan}
use Rattle.settling.specs.Grounds.{Kept}
use Rattle.settling.specs.Sills.{Settled}
use Rattle.settling.proofs.sills.settle_mouths.Goals as goal

-- a list that is not too short
first_long : {A B C : Type 0} (n : ℕ) (xs : List A) (ys : List B) (zs : List C) → short n xs ys zs ≡ false → n ≤ length xs
first_long n xs ys zs e = ltb-false (length xs) n (go (ltb (length xs) n) e)
  where
    go : (b : Bool) → cond b true (cond (ltb (length ys) n) true (ltb (length zs) n)) ≡ false → b ≡ false
    go true x = let z : ◌≡◌ {A = ℕ} 0 1 = cc in absurd (omega arith)
    go false x = refl

-- what an accepted flood needed
roomy : {A B C : Type 0} (p : Plan) (m q : ℕ) (ls : List A) (os : List B) (hs : List C) → accepted (tt {0}) ≡ checked ((tables_short p m q, 4) ∷ (short (mouths p) ls os hs, 5) ∷ []) tt → (mouths p ≤ m) × (mouths p ≤ length ls)
roomy p m q ls os hs e =
    let r = passed (tables_short p m q) 4 ((short (mouths p) ls os hs, 5) ∷ []) tt tt e in
    let s = passed (short (mouths p) ls os hs) 5 [] tt tt r.1 in
    (ltb-false m (mouths p) (or_parts (ltb m (mouths p)) (ltb q (passes p)) r.0).0, first_long (mouths p) ls os hs s.0)

-- a level that a flood found is the least worst
found_least : {M : Type 0} (g : Graph M) (v : ℕ) (l : Option M) (o : Option ℕ) → Found g v l o → LeastWorst g v l
found_least g v (Some l) (Some e) f = ((e, f.0), f.1)
found_least g v (Some l) None f = absurd f
found_least g v None (Some e) f = absurd f
found_least g v None None f = f

-- the levels kept as sills settle the tables
settled : {M : Type 0} (κ : Kind M) (p : Plan) (w : Tables M) (ls : List (Option M)) (os : List (Option ℕ)) (n : ℕ) (ms : List (MouthRecord M)) → n ≡ mouths p → Flooded (mouth_graph κ p w) ls os → Kept w.mouths ls n ms → Settled κ p w (tables ms w.passes)
settled κ p w ls os n ms is f k = record {
  sills = λ a r lt e. (get_or ls a None, k.new a r (omega (arith, is)) e, found_least (mouth_graph κ p w) a (get_or ls a None) (get_or os a None) (f a lt));
  behind = subst (λ m. drop m ms ≡ drop m w.mouths) is k.behind;
  passes = refl;
}

pub keep_sills-requires : goal.keep_sills-requires
keep_sills-requires g c =
    let r = roomy (plan_of c.args.cuts.now) (length c.args.mouths.now) (length c.args.passes.now) c.args.levels.now c.args.origins.now c.args.heap.now c.in_ok-flood_mouths.ensures.told in
    (omega (arith, r.0, c.mouths.ensures.value), omega (arith, r.1, c.mouths.ensures.value, c.flood_mouths.auto.levels))

pub returns : goal.returns
returns g c =
    let κ = kind_of g.M.Order g.M.Mark.lowest in
    let p = plan_of c.args.cuts.now in
    let w = tables c.args.mouths.now c.args.passes.now in
    let O : OrderLaws κ.leb = record { total = g.met.M.Order.total; transitive = g.met.M.Order.transitive; antisymmetric = g.met.M.Order.antisymmetric } in
    let done = settled κ p w c.flood_mouths.new.levels c.flood_mouths.new.origins c.mouths.result c.keep_sills.new.mouths c.mouths.ensures.value c.in_ok-flood_mouths.ensures.leaves.0 c.keep_sills.ensures in
    record {
      told = c.in_ok-flood_mouths.ensures.told;
      leaves = done;
      sills = λ sheet fit all. settled_sills κ O sheet p (lawful_plan c.args.cuts.now) fit w all c.keep_sills.new.mouths done.sills;
      scratch = (c.flood_mouths.auto.levels, (c.flood_mouths.auto.origins, c.flood_mouths.auto.heap));
    }
