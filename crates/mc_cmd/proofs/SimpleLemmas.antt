-- Commands other than `execute` are read as they are spelled, and what is read is spelled so.
use Rattle.std.proofs.Common.{◌≡◌, List, [], ◌∷◌, ◌++◌, Bool, true, false, Option, Some, None, refl, sym, ap, ◌∙◌}
use Rattle.std.specs.Prelude.{codes, nat_eq, if◌then◌else◌, ◌&&◌, option_map, option_and_then}
use Rattle.mc_nbt.specs.Tree.{Part}
use Rattle.mc_nbt.specs.Path.{is_path}
use Rattle.mc_nbt.proofs.TestLemmas.{and_first, and_second}
use Rattle.mc_cmd.specs.Form.{Text, Last, strip, closed, follow, lacks}
use Rattle.mc_cmd.specs.Word.{objective, function, is_id, is_function}
use Rattle.mc_cmd.specs.Value.{path, value}
use Rattle.mc_cmd.specs.Command.{Simple, objective_add, score_set, score_add, score_remove, score_get, score_op, score_reset, data_get, set_value, set_from, append_value, append_from, data_remove, call, call_with, return_value, chain_length}
use Rattle.mc_cmd.specs.Grammar.{score, data_place, score_front, place_front, score_after, place_within, modified, objective_add_form, score_set_form, score_add_form, score_remove_form, score_get_form, score_op_form, score_reset_form, data_get_form, set_value_form, set_from_form, append_value_form, append_from_form, data_remove_form, call_form, call_with_form, return_value_form, chain_length_text, score_set_of, score_add_of, score_remove_of, score_get_of, score_op_of, score_reset_of, data_get_of, set_value_of, set_from_of, append_value_of, append_from_of, data_remove_of, call_with_of, simple_text, simple_fits, simple_read, simple}
use Rattle.mc_cmd.proofs.FormLemmas.{IsLast, IsFront, after_is, before_is, closed_is, both_is, ended_is, follow_is, after_none, strip_text, and_both, Told, told_some, told_or, told_fixed, or_some, or_none}
use Rattle.mc_cmd.proofs.WordLemmas.{number_is, natural_is, objective_is, function_is, holder_front, objective_front, id_front, function_front, op_front, function_bare}
use Rattle.mc_cmd.proofs.ValueLemmas.{path_is, path_front, value_is}

score_is : IsLast score
score_is = follow_is _ _ holder_front objective_is

data_place_is : IsLast data_place
data_place_is = follow_is _ _ id_front path_is

pub score_front_is : IsFront score_front
score_front_is = both_is _ _ holder_front objective_front

pub place_front_is : IsFront place_front
place_front_is = both_is _ _ id_front path_front

pub score_after_is : (w : Text) → IsFront (score_after w)
score_after_is w = before_is w score_front score_front_is

pub place_within_is : (w u : Text) → IsFront (place_within w u)
place_within_is w u = before_is w (closed place_front u) (closed_is place_front u place_front_is)

objective_add_is : IsLast objective_add_form
objective_add_is = after_is (codes "scoreboard objectives add ") _ (ended_is objective (codes " dummy") objective_is)

score_set_is : IsLast score_set_form
score_set_is = follow_is _ _ (score_after_is (codes "scoreboard players set ")) number_is

score_add_is : IsLast score_add_form
score_add_is = follow_is _ _ (score_after_is (codes "scoreboard players add ")) natural_is

score_remove_is : IsLast score_remove_form
score_remove_is = follow_is _ _ (score_after_is (codes "scoreboard players remove ")) natural_is

score_get_is : IsLast score_get_form
score_get_is = after_is (codes "scoreboard players get ") _ score_is

score_op_is : IsLast score_op_form
score_op_is = follow_is _ _ (score_after_is (codes "scoreboard players operation ")) (follow_is _ _ op_front score_is)

score_reset_is : IsLast score_reset_form
score_reset_is = after_is (codes "scoreboard players reset ") _ score_is

data_get_is : IsLast data_get_form
data_get_is = after_is (codes "data get storage ") _ data_place_is

-- a place that is changed, and by what
modified_is : {A : Type 0} (u : Text) (l : Last A) → IsLast l → IsLast (follow (modified u) l)
modified_is u l i = follow_is (modified u) l (place_within_is (codes "data modify storage ") u) i

set_value_is : IsLast set_value_form
set_value_is = modified_is (codes "set value ") value value_is

set_from_is : IsLast set_from_form
set_from_is = modified_is (codes "set from storage ") data_place data_place_is

append_value_is : IsLast append_value_form
append_value_is = modified_is (codes "append value ") value value_is

append_from_is : IsLast append_from_form
append_from_is = modified_is (codes "append from storage ") data_place data_place_is

data_remove_is : IsLast data_remove_form
data_remove_is = after_is (codes "data remove storage ") _ data_place_is

call_is : IsLast call_form
call_is = after_is (codes "function ") _ function_is

call_with_is : IsLast call_with_form
call_with_is = after_is (codes "function ") _ (follow_is _ _ function_front (after_is (codes "with storage ") _ data_place_is))

return_value_is : IsLast return_value_form
return_value_is = after_is (codes "return ") _ number_is

simple_told : (t : Text) → Told simple_text simple_fits t (simple_read t)
simple_told t =
    told_or simple_text simple_fits objective_add_form objective_add_is objective_add t _ (λ x. refl) (λ x. refl)
    (told_or simple_text simple_fits score_set_form score_set_is score_set_of t _ (λ x. refl) (λ x. refl)
    (told_or simple_text simple_fits score_add_form score_add_is score_add_of t _ (λ x. refl) (λ x. refl)
    (told_or simple_text simple_fits score_remove_form score_remove_is score_remove_of t _ (λ x. refl) (λ x. refl)
    (told_or simple_text simple_fits score_get_form score_get_is score_get_of t _ (λ x. refl) (λ x. refl)
    (told_or simple_text simple_fits score_op_form score_op_is score_op_of t _ (λ x. refl) (λ x. refl)
    (told_or simple_text simple_fits score_reset_form score_reset_is score_reset_of t _ (λ x. refl) (λ x. refl)
    (told_or simple_text simple_fits data_get_form data_get_is data_get_of t _ (λ x. refl) (λ x. refl)
    (told_or simple_text simple_fits set_value_form set_value_is set_value_of t _ (λ x. refl) (λ x. refl)
    (told_or simple_text simple_fits set_from_form set_from_is set_from_of t _ (λ x. refl) (λ x. refl)
    (told_or simple_text simple_fits append_value_form append_value_is append_value_of t _ (λ x. refl) (λ x. refl)
    (told_or simple_text simple_fits append_from_form append_from_is append_from_of t _ (λ x. refl) (λ x. refl)
    (told_or simple_text simple_fits data_remove_form data_remove_is data_remove_of t _ (λ x. refl) (λ x. refl)
    (told_or simple_text simple_fits call_form call_is call t _ (λ x. refl) (λ x. refl)
    (told_or simple_text simple_fits call_with_form call_with_is call_with_of t _ (λ x. refl) (λ x. refl)
    (told_or simple_text simple_fits return_value_form return_value_is return_value t _ (λ x. refl) (λ x. refl)
    (told_fixed simple_text simple_fits chain_length_text chain_length t None refl refl tt))))))))))))))))

-- where a place is changed otherwise, the whole isn't read
modified_none : {A : Type 0} (u : Text) (l : Last A) (i : Text) (ps : List Part) (t : Text) → is_id i ≡ true → is_path ps ≡ true → strip u t ≡ None → (follow (modified u) l).read (codes "data modify storage " ++ (i ++ (32 ∷ (path.text ps ++ (32 ∷ t))))) ≡ None
modified_none {A = A} u l i ps t f g e =
    let there : Text = place_front.text (i, ps) t in
    let finish : Option ((Text × List Part) × Text) → Option ((Text × List Part) × A) = λ o. option_and_then (λ q. option_map (λ b. (q.0, b)) (l.read q.1)) o in
    let closing : Option ((Text × List Part) × Text) → Option ((Text × List Part) × Text) = λ o. option_and_then (λ p. option_map (λ r. (p.0, r)) (strip u p.1)) o in
    ap (λ (o : Option Text). finish (option_and_then (closed place_front u).read o)) (strip_text (codes "data modify storage ") there)
    ∙ ap (λ (o : Option ((Text × List Part) × Text)). finish (closing o)) (place_front_is.reads (i, ps) t (and_both _ _ f g))
    ∙ ap (λ (o : Option Text). finish (option_map (λ r. ((i, ps), r)) o)) e

-- a text with a space is no function's name
space_there : (w t : Text) → lacks 32 (w ++ (32 ∷ t)) ≡ false
space_there [] t = refl
space_there (b ∷ w) t = go (nat_eq b 32) (space_there w t)
  where
    go : (c : Bool) → lacks 32 (w ++ (32 ∷ t)) ≡ false → (if c then false else lacks 32 (w ++ (32 ∷ t))) ≡ false
    go true e = refl
    go false e = e

function_none : (w t : Text) → function.read (w ++ (32 ∷ t)) ≡ None
function_none w t = go (is_function (w ++ (32 ∷ t))) refl
  where
    go : (b : Bool) → is_function (w ++ (32 ∷ t)) ≡ b → (if b then Some (w ++ (32 ∷ t)) else None) ≡ None
    go true e =
        let x : true ≡ false = sym (function_bare (w ++ (32 ∷ t)) e) ∙ space_there w t in
        absurd cc
    go false e = refl

simple_reads : (c : Simple) → simple_fits c ≡ true → simple_read (simple_text c) ≡ Some c
simple_reads (objective_add o) e = or_some _ objective_add o _ (objective_add_is.reads o e)
simple_reads (score_set h o z) e = or_some _ score_set_of ((h, o), z) _ (score_set_is.reads ((h, o), z) e)
simple_reads (score_add h o z) e = or_some _ score_add_of ((h, o), z) _ (score_add_is.reads ((h, o), z) e)
simple_reads (score_remove h o z) e = or_some _ score_remove_of ((h, o), z) _ (score_remove_is.reads ((h, o), z) e)
simple_reads (score_get h o) e = or_some _ score_get_of (h, o) _ (score_get_is.reads (h, o) e)
simple_reads (score_op h o f i q) e = or_some _ score_op_of ((h, o), (f, (i, q))) _ (score_op_is.reads ((h, o), (f, (i, q))) e)
simple_reads (score_reset h o) e = or_some _ score_reset_of (h, o) _ (score_reset_is.reads (h, o) e)
simple_reads (data_get i ps) e = or_some _ data_get_of (i, ps) _ (data_get_is.reads (i, ps) e)
simple_reads (set_value i ps v) e = or_some _ set_value_of ((i, ps), v) _ (set_value_is.reads ((i, ps), v) e)
simple_reads (set_from i ps j qs) e =
    let there = and_first (is_id i && is_path ps) _ e in
    let name = and_first (is_id i) _ there in
    let place = and_second (is_id i) _ there in
    let rest : Text = codes "set from storage " ++ data_place.text (j, qs) in
    or_none _ set_value_of _ (modified_none (codes "set value ") value i ps rest name place refl)
    ∙ or_some _ set_from_of ((i, ps), (j, qs)) _ (set_from_is.reads ((i, ps), (j, qs)) e)
simple_reads (append_value i ps v) e =
    let there = and_first (is_id i && is_path ps) _ e in
    let name = and_first (is_id i) _ there in
    let place = and_second (is_id i) _ there in
    let rest : Text = codes "append value " ++ value.text v in
    or_none _ set_value_of _ (modified_none (codes "set value ") value i ps rest name place refl)
    ∙ or_none _ set_from_of _ (modified_none (codes "set from storage ") data_place i ps rest name place refl)
    ∙ or_some _ append_value_of ((i, ps), v) _ (append_value_is.reads ((i, ps), v) e)
simple_reads (append_from i ps j qs) e =
    let there = and_first (is_id i && is_path ps) _ e in
    let name = and_first (is_id i) _ there in
    let place = and_second (is_id i) _ there in
    let rest : Text = codes "append from storage " ++ data_place.text (j, qs) in
    or_none _ set_value_of _ (modified_none (codes "set value ") value i ps rest name place refl)
    ∙ or_none _ set_from_of _ (modified_none (codes "set from storage ") data_place i ps rest name place refl)
    ∙ or_none _ append_value_of _ (modified_none (codes "append value ") value i ps rest name place refl)
    ∙ or_some _ append_from_of ((i, ps), (j, qs)) _ (append_from_is.reads ((i, ps), (j, qs)) e)
simple_reads (data_remove i ps) e = or_some _ data_remove_of (i, ps) _ (data_remove_is.reads (i, ps) e)
simple_reads (call f) e = or_some _ call f _ (call_is.reads f e)
simple_reads (call_with f i ps) e =
    or_none _ call _ (after_none (codes "function ") function (f ++ (32 ∷ (codes "with storage " ++ data_place.text (i, ps)))) (function_none f (codes "with storage " ++ data_place.text (i, ps))))
    ∙ or_some _ call_with_of (f, (i, ps)) _ (call_with_is.reads (f, (i, ps)) e)
simple_reads (return_value z) e = or_some _ return_value z _ (return_value_is.reads z e)
simple_reads chain_length e = refl

pub simple_is : IsLast simple
simple_is = record { reads = simple_reads; spells = λ t a h. told_some simple_text simple_fits t a _ h (simple_told t) }
