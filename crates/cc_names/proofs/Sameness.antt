-- Conditions that count as the same are equal, and speak of no key.
use Rattle.std.proofs.Common.{◌≡◌, List, [], ◌∷◌, true, false, refl, ap, ◌∙◌}
use Rattle.std.specs.Prelude.{◌||◌}
use Rattle.std.specs.Ordering.{int_eq}
use Rattle.std.proofs.lemmas.Bool.Decides.{Decides-eqb, Decides-int_eq}
use Rattle.std.proofs.lemmas.Slice.Eq.{bytes_eq-Decides}
use Rattle.mc_cmd.specs.Command.{Cmp, less, less_equal, equal, greater_equal, greater, Range, exactly, from, up_to, between}
use Rattle.mc_cmd.proofs.FormLemmas.{and_first, and_second}
use Rattle.cc_line.specs.Place.{Spot, scratch, placed}
use Rattle.cc_line.specs.Step.{Check, in_range, compare, stands, Cond, holds, fails}
use Rattle.cc_names.specs.Names.{check_speaks, cond_speaks, conds_speak}
use Rattle.cc_names.specs.Same.{same_spot, same_range, same_comparison, same_check, same_cond, same_conds}

spots_same : (x y : Spot) → same_spot x y ≡ true → x ≡ y
spots_same (scratch h) (scratch g) e = ap scratch ((bytes_eq-Decides h g).0 e)
spots_same (placed i) (placed j) e = ap placed ((Decides-eqb i j).0 e)
spots_same (scratch h) (placed j) e = absurd cc
spots_same (placed i) (scratch g) e = absurd cc

ranges_same : (q r : Range) → same_range q r ≡ true → q ≡ r
ranges_same (exactly y) (exactly z) e = ap exactly ((Decides-int_eq y z).0 e)
ranges_same (from y) (from z) e = ap from ((Decides-int_eq y z).0 e)
ranges_same (up_to y) (up_to z) e = ap up_to ((Decides-int_eq y z).0 e)
ranges_same (between y z) (between u v) e =
    ap (λ a. between a z) ((Decides-int_eq y u).0 (and_first (int_eq y u) _ e))
    ∙ ap (between u) ((Decides-int_eq z v).0 (and_second (int_eq y u) _ e))
ranges_same (exactly y) (from z) e = absurd cc
ranges_same (exactly y) (up_to z) e = absurd cc
ranges_same (exactly y) (between u v) e = absurd cc
ranges_same (from y) (exactly z) e = absurd cc
ranges_same (from y) (up_to z) e = absurd cc
ranges_same (from y) (between u v) e = absurd cc
ranges_same (up_to y) (exactly z) e = absurd cc
ranges_same (up_to y) (from z) e = absurd cc
ranges_same (up_to y) (between u v) e = absurd cc
ranges_same (between y z) (exactly u) e = absurd cc
ranges_same (between y z) (from u) e = absurd cc
ranges_same (between y z) (up_to u) e = absurd cc

comparisons_same : (c d : Cmp) → same_comparison c d ≡ true → c ≡ d
comparisons_same less less e = refl
comparisons_same less_equal less_equal e = refl
comparisons_same equal equal e = refl
comparisons_same greater_equal greater_equal e = refl
comparisons_same greater greater e = refl
comparisons_same less less_equal e = absurd cc
comparisons_same less equal e = absurd cc
comparisons_same less greater_equal e = absurd cc
comparisons_same less greater e = absurd cc
comparisons_same less_equal less e = absurd cc
comparisons_same less_equal equal e = absurd cc
comparisons_same less_equal greater_equal e = absurd cc
comparisons_same less_equal greater e = absurd cc
comparisons_same equal less e = absurd cc
comparisons_same equal less_equal e = absurd cc
comparisons_same equal greater_equal e = absurd cc
comparisons_same equal greater e = absurd cc
comparisons_same greater_equal less e = absurd cc
comparisons_same greater_equal less_equal e = absurd cc
comparisons_same greater_equal equal e = absurd cc
comparisons_same greater_equal greater e = absurd cc
comparisons_same greater less e = absurd cc
comparisons_same greater less_equal e = absurd cc
comparisons_same greater equal e = absurd cc
comparisons_same greater greater_equal e = absurd cc

checks_same : (c d : Check) → same_check c d ≡ true → (c ≡ d) × (check_speaks c ≡ false)
checks_same (in_range x q) (in_range y r) e = (
  ap (λ z. in_range z q) (spots_same x y (and_first (same_spot x y) _ e)) ∙ ap (in_range y) (ranges_same q r (and_second (same_spot x y) _ e)),
  refl,
)
checks_same (compare x c y) (compare u d v) e =
    let f = and_second (same_spot x u) _ e in (
      ap (λ z. compare z c y) (spots_same x u (and_first (same_spot x u) _ e))
          ∙ (ap (λ z. compare u z y) (comparisons_same c d (and_first (same_comparison c d) _ f)) ∙ ap (compare u d) (spots_same y v (and_second (same_comparison c d) _ f))),
      refl,
    )
checks_same (in_range x q) (compare y c z) e = absurd cc
checks_same (in_range x q) (stands p) e = absurd cc
checks_same (compare x c y) (in_range z q) e = absurd cc
checks_same (compare x c y) (stands p) e = absurd cc
checks_same (stands p) (in_range x q) e = absurd cc
checks_same (stands p) (compare x c y) e = absurd cc
checks_same (stands p) (stands q) e = absurd cc

cond_same : (c d : Cond) → same_cond c d ≡ true → (c ≡ d) × (cond_speaks c ≡ false)
cond_same (holds c) (holds d) e = let h = checks_same c d e in (ap holds h.0, h.1)
cond_same (fails c) (fails d) e = let h = checks_same c d e in (ap fails h.0, h.1)
cond_same (holds c) (fails d) e = absurd cc
cond_same (fails c) (holds d) e = absurd cc

pub conds_same : (cs ds : List Cond) → same_conds cs ds ≡ true → (cs ≡ ds) × (conds_speak cs ≡ false)
conds_same [] [] e = (refl, refl)
conds_same (c ∷ cs) (d ∷ ds) e =
    let g = conds_same cs ds (and_first (same_conds cs ds) _ e) in
    let h = cond_same c d (and_second (same_conds cs ds) _ e) in
    (ap (λ b. b ∷ cs) h.0 ∙ ap (λ bs. d ∷ bs) g.0, ap (λ b. b || conds_speak cs) h.1 ∙ g.1)
conds_same [] (d ∷ ds) e = absurd cc
conds_same (c ∷ cs) [] e = absurd cc
