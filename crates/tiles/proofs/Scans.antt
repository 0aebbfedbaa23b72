-- Reading the cuts of a side from the first to the last. Assumes nothing.
use Rattle.std.proofs.Common.{◌≡◌, ℕ, suc, ◌+◌, ◌-◌, ◌<◌, ◌≤◌, true, false, cond, List, [], length, get_or, drop, Some, None, sym, refl, ap, ◌∙◌, add-one, arith}
use Rattle.std.proofs.lemmas.Bool.{le-leb, cond-true, cond-false}
use Rattle.std.proofs.lemmas.List.{get_or_default}
use Rattle.tiles.specs.Rules.{band_fits, bands, lawful, start, band_size, singles}
use Rattle.tiles.proofs.Bands.{start_past, bands_more, bands_no, bands_end, singles_yes, singles_no, singles_few}

-- the first i cuts keep the rules so far: the last of them, and how many bands of one cell they end
pub record Scanned (side : ℕ) (cs : List ℕ) (last single i : ℕ) : Type 0 where
  pub rest : bands last side (drop i cs) ≡ bands 0 side cs
  pub ends : last ≡ start side cs i
  pub count : single ≡ singles side cs i

pub scan_none : (side : ℕ) (cs : List ℕ) → Scanned side cs 0 0 0
unfolding singles
scan_none side cs = record { rest = refl; ends = refl; count = refl }

pub scan_few : (side last single i : ℕ) (cs : List ℕ) → Scanned side cs last single i → single ≤ i
scan_few side last single i cs s = omega (arith, s.count, singles_few side cs i)

here : (side i : ℕ) (cs : List ℕ) → i < length cs → get_or cs i 0 ≡ start side cs (i + 1)
here side i cs lt = get_or_default cs i 0 side lt ∙ sym (ap (start side cs) (add-one i))

long : (side last single i : ℕ) (cs : List ℕ) → Scanned side cs last single i → i < length cs → band_size side cs i ≡ get_or cs i 0 - last
long side last single i cs s lt = omega (arith, s.ends, get_or_default cs i 0 side lt)

pub scan_single : (side last single i : ℕ) (cs : List ℕ) → Scanned side cs last single i → i < length cs → band_fits last (get_or cs i 0) ≡ true → get_or cs i 0 - last ≡ 1 → Scanned side cs (get_or cs i 0) (single + 1) (i + 1)
scan_single side last single i cs s lt fit one = record {
  rest = sym (bands_more last side i cs lt fit) ∙ s.rest;
  ends = here side i cs lt;
  count = omega (arith, s.count, singles_yes side cs i (long side last single i cs s lt ∙ one));
}

pub scan_longer : (side last single i : ℕ) (cs : List ℕ) → Scanned side cs last single i → i < length cs → band_fits last (get_or cs i 0) ≡ true → (get_or cs i 0 - last ≡ 1 → ⊥) → Scanned side cs (get_or cs i 0) single (i + 1)
scan_longer side last single i cs s lt fit more = record {
  rest = sym (bands_more last side i cs lt fit) ∙ s.rest;
  ends = here side i cs lt;
  count = s.count ∙ sym (singles_no side cs i (λ e. more (sym (long side last single i cs s lt) ∙ e)));
}

-- cuts that break a rule
few : (side : ℕ) (cs : List ℕ) → length cs ≤ 31 → lawful side cs ≡ bands 0 side cs
few side cs h = rw (le-leb (length cs) 31 h)

refused : {X : Type 0} (side last single i : ℕ) (cs : List ℕ) (x : X) → length cs ≤ 31 → Scanned side cs last single i → bands last side (drop i cs) ≡ false → None ≡ cond (lawful side cs) (Some x) None
refused side last single i cs x le s e = sym (cond-false (lawful side cs) (Some x) None (few side cs le ∙ sym s.rest ∙ e))

pub bad_cut : {X : Type 0} (side last single i : ℕ) (cs : List ℕ) (x : X) → length cs ≤ 31 → Scanned side cs last single i → i < length cs → band_fits last (get_or cs i 0) ≡ false → None ≡ cond (lawful side cs) (Some x) None
bad_cut side last single i cs x le s lt e = refused side last single i cs x le s (bands_no last side i cs lt e)

pub bad_end : {X : Type 0} (side last single i : ℕ) (cs : List ℕ) (x : X) → length cs ≤ 31 → Scanned side cs last single i → length cs ≤ i → band_fits last side ≡ false → None ≡ cond (lawful side cs) (Some x) None
bad_end side last single i cs x le s end e = refused side last single i cs x le s (bands_end last side i cs end ∙ e)

-- cuts that keep them
accepted : (side last single i : ℕ) (cs : List ℕ) → length cs ≤ 31 → Scanned side cs last single i → length cs ≤ i → band_fits last side ≡ true → lawful side cs ≡ true
accepted side last single i cs le s end fit = few side cs le ∙ sym s.rest ∙ bands_end last side i cs end ∙ fit

end_long : (side last single i : ℕ) (cs : List ℕ) → Scanned side cs last single i → i ≡ length cs → band_size side cs (length cs) ≡ side - last
end_long side last single i cs s e = omega (arith, s.ends, ap (start side cs) e, start_past side cs (suc (length cs)) (omega arith))

pub whole_single : (side last single i : ℕ) (cs : List ℕ) → length cs ≤ 31 → Scanned side cs last single i → i ≡ length cs → band_fits last side ≡ true → side - last ≡ 1 → Some (single + 1) ≡ cond (lawful side cs) (Some (singles side cs (length cs + 1))) None
whole_single side last single i cs le s e fit one =
    ap Some (omega (arith, s.count, ap (singles side cs) e, singles_yes side cs (length cs) (end_long side last single i cs s e ∙ one)))
    ∙ sym (cond-true (lawful side cs) _ _ (accepted side last single i cs le s (omega arith) fit))

pub whole_longer : (side last single i : ℕ) (cs : List ℕ) → length cs ≤ 31 → Scanned side cs last single i → i ≡ length cs → band_fits last side ≡ true → (side - last ≡ 1 → ⊥) → Some single ≡ cond (lawful side cs) (Some (singles side cs (length cs + 1))) None
whole_longer side last single i cs le s e fit more =
    ap Some (s.count ∙ ap (singles side cs) e ∙ sym (singles_no side cs (length cs) (λ w. more (sym (end_long side last single i cs s e) ∙ w))))
    ∙ sym (cond-true (lawful side cs) _ _ (accepted side last single i cs le s (omega arith) fit))

-- a side of one cell, uncut, is one band of one cell
pub one_cell : 1 ≡ singles 1 [] 1
unfolding singles
one_cell = refl
