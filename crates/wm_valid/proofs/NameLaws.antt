-- The names of exports that were seen.
use Rattle.std.proofs.Common.{◌≡◌, ℕ, ◌+◌, List, Bool, true, false, not, Some, refl, sym, ◌∙◌, below_more, arith}
use Rattle.std.specs.Prelude.{slice_get}
use Rattle.std.specs.BTreeSet.{BTreeSet, Updates, contains}
use Rattle.std.specs.Cmp.Lexicographic.{slice_cmp}
use Rattle.std.specs.Ordering.{is_eq, nat_cmp}
use Rattle.std.specs.Str.{bytes_eq}
use Rattle.std.proofs.lemmas.Bool.{cases_Bool, cond-true, cond-false}
use Rattle.std.proofs.lemmas.Map.Text.{is_eq-slice_cmp}
use Rattle.std.proofs.lemmas.Slice.Eq.{bytes_eq-Decides}
use mathlib.Core.Logic.{⊎_elim}
use denote.Ref.{Bor}
use Rattle.wm_ast.specs.declared.module.Export.{Export}
use Rattle.wm_valid.specs.steps.Names.{HasName, Earlier, NamesBefore}

-- texts in order
abbrev pub in_order : (x y : Bor (List ℕ)) → Rattle.std.specs.declared.cmp.Ordering.Ordering
in_order x y = slice_cmp nat_cmp x.now y.now

-- an export before an index is before the next one too
later : (es : List Export) (index : ℕ) (name : List ℕ) → Earlier es index name → Earlier es (index + 1) name
later es index name e = record { place = e.place; export = e.export; before = omega arith; there = e.there; same = e.same }

-- the set with one more name
pub one_seen : (es : List Export) (index : ℕ) (old new : BTreeSet (Bor (List ℕ))) (k : Bor (List ℕ)) (e : Export) → slice_get es index ≡ Some e → k.now ≡ e.name
    → Updates in_order old new k true → NamesBefore es index old → NamesBefore es (index + 1) new
one_seen es index old new k e at is changed before = record {
  seen = λ q found. ⊎_elim
      (λ (same : is_eq (slice_cmp nat_cmp k.now q.now) ≡ true). record { place = index; export = e; before = omega arith; there = at; same = sym is ∙ (bytes_eq-Decides k.now q.now).0 (sym (is_eq-slice_cmp k.now q.now) ∙ same) })
      (λ (apart : is_eq (slice_cmp nat_cmp k.now q.now) ≡ false). later es index q.now (before.seen q (sym (changed.0 q ∙ cond-false (is_eq (slice_cmp nat_cmp k.now q.now)) true (contains in_order old q) apart) ∙ found)))
      (cases_Bool (is_eq (slice_cmp nat_cmp k.now q.now)));
  all = λ q earlier. ⊎_elim
      (λ (same : is_eq (slice_cmp nat_cmp k.now q.now) ≡ true). changed.0 q ∙ cond-true (is_eq (slice_cmp nat_cmp k.now q.now)) true (contains in_order old q) same)
      (λ (apart : is_eq (slice_cmp nat_cmp k.now q.now) ≡ false). changed.0 q ∙ (cond-false (is_eq (slice_cmp nat_cmp k.now q.now)) true (contains in_order old q) apart ∙ before.all q (sooner q earlier apart)))
      (cases_Bool (is_eq (slice_cmp nat_cmp k.now q.now)));
}
  where
    sooner : (q : Bor (List ℕ)) → Earlier es (index + 1) q.now → is_eq (slice_cmp nat_cmp k.now q.now) ≡ false → Earlier es index q.now
    sooner q earlier apart =
        below_more (λ (n : ℕ). (x : Export) → slice_get es n ≡ Some x → x.name ≡ q.now → Earlier es index q.now) index
        (λ n sooner' x at' same'. record { place = n; export = x; before = sooner'; there = at'; same = same' })
        (λ x at' same'. let met : k.now ≡ q.now = cc in
        let equal : bytes_eq k.now q.now ≡ true = (bytes_eq-Decides k.now q.now).1 met in
        let differ : bytes_eq k.now q.now ≡ false = sym (is_eq-slice_cmp k.now q.now) ∙ apart in absurd (cc))
        earlier.place earlier.before earlier.export earlier.there earlier.same

un_not : (b : Bool) → not b ≡ false → b ≡ true
un_not true h = refl
un_not false h = absurd (cc)

set : (b : Bool) → not b ≡ true → b ≡ true → ⊥
set true h e = absurd (cc)
set false h e = absurd (cc)

-- a name that was seen stands at an export before
pub stale : (es : List Export) (index : ℕ) (names : BTreeSet (Bor (List ℕ))) (q : Bor (List ℕ)) (added : Bool) → added ≡ not (contains in_order names q) → added ≡ false → NamesBefore es index names → Earlier es index q.now
stale es index names q added is none before = before.seen q (un_not (contains in_order names q) (sym is ∙ none))

-- a name that was not seen stands at no export before
pub fresh : (es : List Export) (index : ℕ) (names : BTreeSet (Bor (List ℕ))) (q : Bor (List ℕ)) (added : Bool) → added ≡ not (contains in_order names q) → added ≡ true → NamesBefore es index names → Earlier es index q.now → ⊥
fresh es index names q added is new before earlier = let had : HasName names q = before.all q earlier in absurd (set (contains in_order names q) (sym is ∙ new) had)
