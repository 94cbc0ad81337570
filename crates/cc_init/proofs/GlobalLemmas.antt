-- The globals of a module, and the acts that append them.
use Rattle.std.proofs.Common.{◌≡◌, ℕ, zero, suc, ◌+◌, ◌-◌, ◌*◌, ◌<◌, ◌≤◌, List, [], ◌∷◌, ◌++◌, length, take, drop, replicate, get_or, Option, Some, None, refl, sym, ap, ◌∙◌, add-one, arith}
use Rattle.std.specs.Prelude.{pos, option_to_list, slice_get}
use Rattle.std.proofs.lemmas.List.{append-nil, map-append, take_more}
use Rattle.mc_nbt.specs.declared.value.Value.{Value}
use Rattle.cc_line.specs.declared.item.Item.{Item}
use Rattle.cc_line.specs.declared.step.Act.{Act as Made}
use Rattle.cc_line.specs.Item.{Items, first, join, no_more, step_item}
use Rattle.cc_line.specs.Routine.{value_ints}
use Rattle.cc_line.specs.Sight.{in_memory}
use Rattle.cc_line.specs.Key.{key_globals}
use Rattle.cc_line.specs.State.{at_key, ints}
use Rattle.cc_line.specs.Step.{Act, run_act, append_value_to}
use Rattle.cc_line.specs.View.{act_view, item_view, items_view}
use Rattle.cc_line.proofs.ItemViewLemmas.{join_assoc, join_none, view_pushed}
use Rattle.cc_call.specs.Acts.{acts_then}
use Rattle.cc_call.specs.View.{acts_view}
use Rattle.cc_init.specs.Init.{ints_acts, globals_acts}
use Rattle.cc_init.specs.steps.Instantiating.{appending_acts}

-- ---- acts

abbrev pub alone : List Act → Items
alone acts = acts_then acts no_more

acts_joined : (xs : List Act) (ys : Items) → acts_then xs ys ≡ join (alone xs) ys
acts_joined [] ys = refl
acts_joined (x ∷ xs) ys = ap (first (step_item (run_act x))) (acts_joined xs ys)

acts_both : (xs ys : List Act) → alone (xs ++ ys) ≡ join (alone xs) (alone ys)
acts_both [] ys = refl
acts_both (x ∷ xs) ys = ap (first (step_item (run_act x))) (acts_both xs ys)

-- acts behind others
pub acts_pushed : (a b c : Items) (xs ys : List Act) → b ≡ join a (alone xs) → c ≡ join b (alone ys) → c ≡ join a (alone (xs ++ ys))
acts_pushed a b c xs ys e f =
    f ∙ ap (λ x. join x (alone ys)) e ∙ join_assoc a (alone xs) (alone ys) ∙ ap (join a) (sym (acts_both xs ys))

pub act_pushed : (old new : List Item) (x : Item) (a : Act) → new ≡ old ++ (x ∷ []) → item_view x ≡ step_item (run_act a) → items_view new ≡ join (items_view old) (alone (a ∷ []))
act_pushed old new x a e v =
    sym (join_none (items_view new)) ∙ ap (λ l. join (items_view l) no_more) e ∙ view_pushed old x no_more ∙ ap (λ y. join (items_view old) (first y no_more)) v

pub acts_pushed_twice : (a b c d : Items) (xs ys zs : List Act) → b ≡ join a (alone xs) → c ≡ join b (alone ys) → d ≡ join c (alone zs) → d ≡ join a (alone (xs ++ (ys ++ zs)))
acts_pushed_twice a b c d xs ys zs e f g = acts_pushed a b d xs (ys ++ zs) e (acts_pushed b c d ys zs f g)

-- four times
pub acts_pushed_four : (a b c d e : Items) (ws xs ys zs : List Act) → b ≡ join a (alone ws) → c ≡ join b (alone xs) → d ≡ join c (alone ys) → e ≡ join d (alone zs) → e ≡ join a (alone (ws ++ (xs ++ (ys ++ zs))))
acts_pushed_four a b c d e ws xs ys zs f g h i = acts_pushed a b e ws (xs ++ (ys ++ zs)) f (acts_pushed_twice b c d e xs ys zs g h i)

-- and the way on behind a piece
pub onward_pushed : (a b c : Items) (xs : List Act) (onward : ℕ → List Act) (k n : ℕ) → b ≡ join a (alone xs) → c ≡ join b (alone (onward n)) → n ≡ k + 1 → c ≡ join a (alone (xs ++ onward (suc k)))
onward_pushed a b c xs onward k n e f g = acts_pushed a b c xs (onward (suc k)) e (f ∙ ap (λ j. join b (alone (onward j))) (g ∙ add-one k))

pub no_acts : (a : Items) → a ≡ join a (alone [])
no_acts a = sym (join_none a)

-- acts of a list, one after the other
pub acts_more : (a b c : Items) (acts : List Made) (i : ℕ) (x : Made) → i < length acts → b ≡ join a (alone (acts_view (take i acts))) → c ≡ join b (alone (act_view (get_or acts i x) ∷ [])) → c ≡ join a (alone (acts_view (take (i + 1) acts)))
acts_more a b c acts i x lt e f =
    acts_pushed a b c (acts_view (take i acts)) (act_view (get_or acts i x) ∷ []) e f
    ∙ ap (λ l. join a (alone l)) (sym (map-append act_view (take i acts) (get_or acts i x ∷ [])) ∙ ap acts_view (sym (take_more acts i x lt)))

-- one act more
pub act_told : (a b c : Items) (xs : List Act) (x y : Act) → b ≡ join a (alone xs) → c ≡ join b (alone (x ∷ [])) → x ≡ y → c ≡ join a (alone (xs ++ y ∷ []))
act_told a b c xs x y e f g = acts_pushed a b c xs (y ∷ []) e (f ∙ ap (λ z. join b (alone (z ∷ []))) g)

-- ---- globals

globals_both : (x : ℕ) (v : Value) (vs : List Value) → globals_acts x (v ∷ vs) ≡ globals_acts x (v ∷ []) ++ globals_acts (suc x) vs
globals_both x v vs =
    ap (λ (l : List Act). append_value_to (at_key in_memory key_globals) (ints (replicate (length (value_ints v)) (pos 0))) ∷ (l ++ globals_acts (suc x) vs)) (sym (append-nil (ints_acts x 0 (value_ints v))))

-- what is still to append, from this index on
abbrev pub left_acts : List Value → ℕ → ℕ → List Act
left_acts vs from i = globals_acts (from + i) (take (140 - i) (drop (from + i) vs))

pub left_first : (vs : List Value) (from before : ℕ) → from ≡ before * 140 → left_acts vs from 0 ≡ appending_acts vs before
left_first vs from before e =
    ap (λ k. globals_acts k (take 140 (drop k vs))) (let h : from + 0 ≡ 140 * before = omega arith in h)

drop_beyond : (n : ℕ) (vs : List Value) → length vs ≤ n → drop n vs ≡ []
drop_beyond zero [] h = refl
drop_beyond zero (v ∷ vs) h = absurd (omega arith)
drop_beyond (suc n) [] h = refl
drop_beyond (suc n) (v ∷ vs) h = drop_beyond n vs (omega arith)

take_nothing : (n : ℕ) → take {A = Value} n [] ≡ []
take_nothing zero = refl
take_nothing (suc n) = refl

nothing_left : (vs : List Value) (from i : ℕ) → length vs ≤ from + i → left_acts vs from i ≡ []
nothing_left vs from i h = ap (globals_acts (from + i)) (ap (take (140 - i)) (drop_beyond (from + i) vs h) ∙ take_nothing (140 - i))

none_beyond : (vs : List Value) (x : ℕ) → length vs ≤ x → slice_get vs x ≡ None
none_beyond [] x h = refl
none_beyond (v ∷ vs) zero h = absurd (omega arith)
none_beyond (v ∷ vs) (suc x) h = none_beyond vs x (omega arith)

pub nothing_at : (a : Items) (x : ℕ) (vs : List Value) → length vs ≤ x → a ≡ join a (alone (globals_acts x (option_to_list (slice_get vs x))))
nothing_at a x vs h = sym (join_none a) ∙ ap (λ (p : Option Value). join a (alone (globals_acts x (option_to_list p)))) (sym (none_beyond vs x h))

-- behind the last there is none
pub none_pushed : (old whole : Items) (vs : List Value) (from i x : ℕ) → x ≡ from + i → length vs ≤ x → join old (alone (left_acts vs from i)) ≡ whole → join old (alone (left_acts vs from (i + 1))) ≡ whole
none_pushed old whole vs from i x at h e =
    ap (λ l. join old (alone l)) (nothing_left vs from (i + 1) (omega arith) ∙ sym (nothing_left vs from i (omega arith))) ∙ e

-- those from an index on begin with the one there
taken : (n : ℕ) (vs : List Value) (x : ℕ) → take (suc n) (drop x vs) ≡ option_to_list (slice_get vs x) ++ take n (drop (suc x) vs)
taken n [] zero = sym (take_nothing n)
taken n [] (suc x) = sym (take_nothing n)
taken n (v ∷ vs) zero = refl
taken n (v ∷ vs) (suc x) = taken n vs x

none_at : (vs : List Value) (x : ℕ) → slice_get vs x ≡ None → length vs ≤ x
none_at [] x e = omega arith
none_at (v ∷ vs) zero e = absurd cc
none_at (v ∷ vs) (suc x) e = let h : length vs ≤ x = none_at vs x e in let r : suc (length vs) ≤ suc x = omega arith in r

-- one global more is appended
global_pushed : (old now whole : Items) (vs : List Value) (from i x : ℕ) (v : Value) → i < 140 → x ≡ from + i → slice_get vs x ≡ Some v → now ≡ join old (alone (globals_acts x (v ∷ [])))
    → join old (alone (left_acts vs from i)) ≡ whole → join now (alone (left_acts vs from (i + 1))) ≡ whole
global_pushed old now whole vs from i x v low at is n h =
    let rest : List Value = take (140 - (i + 1)) (drop (from + (i + 1)) vs) in
    let t : take (140 - i) (drop (from + i) vs) ≡ v ∷ rest =
    ap (λ k. take k (drop (from + i) vs)) (let e : 140 - i ≡ suc (140 - (i + 1)) = omega arith in e)
    ∙ taken (140 - (i + 1)) vs (from + i)
    ∙ ap (λ k. option_to_list (slice_get vs k) ++ take (140 - (i + 1)) (drop (suc (from + i)) vs)) (sym at)
    ∙ ap (λ (o : Option Value). option_to_list o ++ take (140 - (i + 1)) (drop (suc (from + i)) vs)) is
    ∙ ap (λ k. v ∷ take (140 - (i + 1)) (drop k vs)) (let e : suc (from + i) ≡ from + (i + 1) = omega arith in e) in
    let a : left_acts vs from i ≡ globals_acts x (v ∷ []) ++ left_acts vs from (i + 1) =
    ap (globals_acts (from + i)) t ∙ ap (λ k. globals_acts k (v ∷ rest)) (sym at) ∙ globals_both x v rest ∙ ap (λ k. globals_acts x (v ∷ []) ++ globals_acts k rest) (let e : suc x ≡ from + (i + 1) = omega arith in e) in
    ap (λ y. join y (alone (left_acts vs from (i + 1)))) n
    ∙ join_assoc old (alone (globals_acts x (v ∷ []))) (alone (left_acts vs from (i + 1)))
    ∙ ap (join old) (sym (acts_both (globals_acts x (v ∷ [])) (left_acts vs from (i + 1))) ∙ ap alone (sym a))
    ∙ h

pub more_pushed : (old now whole : Items) (vs : List Value) (from i x : ℕ) → i < 140 → x ≡ from + i → now ≡ join old (alone (globals_acts x (option_to_list (slice_get vs x))))
    → join old (alone (left_acts vs from i)) ≡ whole → join now (alone (left_acts vs from (i + 1))) ≡ whole
more_pushed old now whole vs from i x low at n h = by (slice_get vs x) refl n
  where
    by : (o : Option Value) → slice_get vs x ≡ o → now ≡ join old (alone (globals_acts x (option_to_list o))) → join now (alone (left_acts vs from (i + 1))) ≡ whole
    by None e n = ap (λ y. join y (alone (left_acts vs from (i + 1)))) (n ∙ join_none old) ∙ none_pushed old whole vs from i x at (none_at vs x e) h
    by (Some v) e n = global_pushed old now whole vs from i x v low at e n h

pub all_pushed : (items : List Item) (whole : Items) (vs : List Value) (from i : ℕ) → 140 ≤ i → join (items_view items) (alone (left_acts vs from i)) ≡ whole → items_view items ≡ whole
all_pushed items whole vs from i h e =
    let s : 140 - i ≡ 0 = omega arith in
    sym (join_none (items_view items)) ∙ ap (λ k. join (items_view items) (alone (globals_acts (from + i) (take k (drop (from + i) vs))))) (sym s) ∙ e
