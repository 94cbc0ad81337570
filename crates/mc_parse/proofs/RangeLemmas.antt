-- Numbers from 0 up, and ranges, are read by their numbers as the grammar reads them.
use Rattle.std.proofs.Common.{◌≡◌, ◌<◌, ◌^◌, ℤ, [], ◌∷◌, ◌++◌, length, Bool, true, false, Option, Some, None, refl, sym, ap, ◌∙◌, subst, arith}
use Rattle.std.specs.Prelude.{pos, negsuc, codes, if◌then◌else◌, option_map, option_and_then}
use Rattle.std.specs.Fmt.{signed_decimal}
use Rattle.std.proofs.lemmas.Fmt.{decimal_nonempty}
use Rattle.std.proofs.lemmas.Bool.{ltb-true}
use lib.Signed.{mag}
use Rattle.mc_nbt.specs.Word.{is_int}
use Rattle.mc_nbt.proofs.TestLemmas.{and_first, and_second, and_both, some_same}
use Rattle.mc_cmd.specs.Form.{Text, Last, strip, lacks, cut_at}
use Rattle.mc_cmd.specs.Command.{Range, exactly, from, up_to, between}
use Rattle.mc_cmd.specs.Word.{number, natural, is_natural, is_at_most, range, range_text, range_fits}
use Rattle.mc_cmd.proofs.FormLemmas.{IsLast, cut_at_none, cut_at_text, cut_at_spells, strip_spells, and_then_some, map_some}
use Rattle.mc_cmd.proofs.WordLemmas.{number_is, natural_is, range_is, all_lack, is_number_byte, int_bytes}
use Rattle.mc_parse.specs.steps.Range.{natural_in, between_read, last_read, from_read, ends_read, second_dot, range_in, range_read}
use Rattle.mc_parse.proofs.FormLemmas.{same_reads}

-- numbers from 0 up
natural_int : (z : ℤ) → is_natural z ≡ true → is_int z ≡ true
natural_int (pos n) h = h
natural_int (negsuc n) h = absurd cc

abbrev by_number : Last ℤ
by_number = record { text = signed_decimal; fits = is_natural; read = λ w. natural_in (number.read w) }

by_number_spells : (w : Text) (z : ℤ) → natural_in (number.read w) ≡ Some z → (w ≡ signed_decimal z) × (is_natural z ≡ true)
by_number_spells w z h = go (number.read w) refl h
  where
    tested : (y : ℤ) (b : Bool) → w ≡ signed_decimal y → is_natural y ≡ b → (if b then Some y else None) ≡ Some z → (w ≡ signed_decimal z) × (is_natural z ≡ true)
    tested y true e f h =
        let x : y ≡ z = some_same y z h in
        (e ∙ ap signed_decimal x, ap is_natural (sym x) ∙ f)
    tested y false e f h = absurd cc

    go : (o : Option ℤ) → number.read w ≡ o → natural_in o ≡ Some z → (w ≡ signed_decimal z) × (is_natural z ≡ true)
    go None e h = absurd cc
    go (Some y) e h = tested y (is_natural y) (number_is.spells w y e).0 refl h

by_number_is : IsLast by_number
by_number_is = record {
  reads = λ z h. ap natural_in (number_is.reads z (natural_int z h)) ∙ ap (λ b. if b then Some z else None) h;
  spells = by_number_spells;
}

pub natural_by_number : (w : Text) → natural_in (number.read w) ≡ natural.read w
natural_by_number = same_reads by_number natural by_number_is natural_is (λ z. refl) (λ z. refl)

-- ranges
no_dot : (z : ℤ) → is_int z ≡ true → lacks 46 (signed_decimal z) ≡ true
no_dot z h = all_lack is_number_byte 46 refl (signed_decimal z) (int_bytes z (ltb-true _ _ h))

nonempty : (z : ℤ) → mag z < 2 ^ 31 → 0 < length (signed_decimal z)
nonempty (pos n) lt = decimal_nonempty n (omega arith)
nonempty (negsuc n) lt = omega arith

from_behind : (a b : Text) → 0 < length a → ends_read a b ≡ from_read a b
from_behind [] b h = absurd (omega arith)
from_behind (d ∷ a) b h = refl

last_behind : (n : ℤ) (b : Text) → 0 < length b → last_read n b ≡ between_read n (number.read b)
last_behind n [] h = absurd (omega arith)
last_behind n (c ∷ b) h = refl

range_reads : (r : Range) → range_fits r ≡ true → range_read (range_text r) ≡ Some r
range_reads (exactly n) h = ap (range_in (signed_decimal n)) (cut_at_none 46 (signed_decimal n) (no_dot n h)) ∙ ap (option_map exactly) (number_is.reads n h)
range_reads (from n) h =
    ap (range_in (signed_decimal n ++ codes "..")) (cut_at_text 46 (signed_decimal n) (46 ∷ []) (no_dot n h))
    ∙ from_behind (signed_decimal n) [] (nonempty n (ltb-true _ _ h)) ∙ ap (option_and_then (λ n. last_read n [])) (number_is.reads n h)
range_reads (up_to n) h = ap (option_map up_to) (number_is.reads n h)
range_reads (between n m) h =
    let a = and_first _ _ h in
    let g = and_second (is_int n) _ h in
    let b = and_first _ _ g in
    ap (range_in (signed_decimal n ++ (codes ".." ++ signed_decimal m))) (cut_at_text 46 (signed_decimal n) (46 ∷ signed_decimal m) (no_dot n a))
    ∙ from_behind (signed_decimal n) (signed_decimal m) (nonempty n (ltb-true _ _ a))
    ∙ ap (option_and_then (λ n. last_read n (signed_decimal m))) (number_is.reads n a)
    ∙ last_behind n (signed_decimal m) (nonempty m (ltb-true _ _ b))
    ∙ ap (between_read n) (number_is.reads m b)
    ∙ ap (λ c. if c then Some (between n m) else None) (and_second (is_int m) _ g)

abbrev RangeSpelled : Text → Range → Type 0
RangeSpelled w r = (w ≡ range_text r) × (range_fits r ≡ true)

one_spells : (w : Text) (r : Range) (f : ℤ → Range) → option_map f (number.read w) ≡ Some r → (z : ℤ) × (f z ≡ r) × (w ≡ signed_decimal z) × (is_int z ≡ true)
one_spells w r f h =
    let m = map_some f (number.read w) r h in
    let s = number_is.spells w m.0 m.1 in
    (m.0, m.2, s.0, s.1)

between_spells : (n m : ℤ) (r : Range) (c : Bool) → is_int n ≡ true → is_int m ≡ true → is_at_most n m ≡ c → (if c then Some (between n m) else None) ≡ Some r → RangeSpelled (signed_decimal n ++ (codes ".." ++ signed_decimal m)) r
between_spells n m r true f g e h = subst (RangeSpelled (signed_decimal n ++ (codes ".." ++ signed_decimal m))) (some_same _ r h) (refl, and_both _ _ f (and_both _ _ g e))
between_spells n m r false f g e h = absurd cc

last_spells : (n : ℤ) (b : Text) (r : Range) → is_int n ≡ true → last_read n b ≡ Some r → RangeSpelled (signed_decimal n ++ (codes ".." ++ b)) r
last_spells n [] r f h = subst (RangeSpelled (signed_decimal n ++ codes "..")) (some_same _ r h) (refl, f)
last_spells n (c ∷ b) r f h = go (number.read (c ∷ b)) refl h
  where
    go : (o : Option ℤ) → number.read (c ∷ b) ≡ o → between_read n o ≡ Some r → RangeSpelled (signed_decimal n ++ (codes ".." ++ (c ∷ b))) r
    go None e h = absurd cc
    go (Some m) e h =
        let s = number_is.spells (c ∷ b) m e in
        let P : Text → Type 0 = λ w. RangeSpelled (signed_decimal n ++ (codes ".." ++ w)) r in
        subst P (sym s.0) (between_spells n m r (is_at_most n m) f s.1 refl h)

ends_spells : (a b : Text) (r : Range) → ends_read a b ≡ Some r → RangeSpelled (a ++ (codes ".." ++ b)) r
ends_spells [] b r h =
    let s = one_spells b r up_to h in
    subst (RangeSpelled (codes ".." ++ b)) s.1 (ap (λ w. codes ".." ++ w) s.2, s.3)
ends_spells (d ∷ a) b r h =
    let q = and_then_some (λ n. last_read n b) (number.read (d ∷ a)) r h in
    let s = number_is.spells (d ∷ a) q.0 q.1 in
    let P : Text → Type 0 = λ w. RangeSpelled (w ++ (codes ".." ++ b)) r in
    subst P (sym s.0) (last_spells q.0 b r s.1 q.2)

range_spells : (w : Text) (r : Range) → range_read w ≡ Some r → RangeSpelled w r
range_spells w r h = go (cut_at 46 w) refl h
  where
    dotted : (p : Text × Text) (o : Option Text) → cut_at 46 w ≡ Some p → strip (46 ∷ []) p.1 ≡ o → second_dot p.0 o ≡ Some r → RangeSpelled w r
    dotted p None e f h = absurd cc
    dotted p (Some b) e f h =
        let x : w ≡ p.0 ++ (codes ".." ++ b) = cut_at_spells 46 w p.0 p.1 e ∙ ap (λ t. p.0 ++ (46 ∷ t)) (strip_spells (46 ∷ []) p.1 b f) in
        let P : Text → Type 0 = λ w. RangeSpelled w r in
        subst P (sym x) (ends_spells p.0 b r h)

    go : (o : Option (Text × Text)) → cut_at 46 w ≡ o → range_in w o ≡ Some r → RangeSpelled w r
    go None e h =
        let s = one_spells w r exactly h in
        subst (RangeSpelled w) s.1 (s.2, s.3)
    go (Some p) e h = dotted p (strip (46 ∷ []) p.1) e refl h

by_ends_is : IsLast (record { text = range_text; fits = range_fits; read = range_read })
by_ends_is = record { reads = range_reads; spells = range_spells }

pub range_by_ends : (w : Text) → range_read w ≡ range.read w
range_by_ends = same_reads (record { text = range_text; fits = range_fits; read = range_read }) range by_ends_is range_is (λ r. refl) (λ r. refl)
