-- Accesses are lines, and weigh at most so much.
use Rattle.std.proofs.Common.{◌≡◌, ℕ, ◌+◌, ◌/◌, ◌<◌, ◌≤◌, List, [], ◌∷◌, ◌++◌, length, Bool, true, false, refl, ◌∙◌, arith}
use Rattle.std.specs.Prelude.{pos, negsuc, ◌&&◌, if◌then◌else◌, nat_le, nat_eq, codes}
use Rattle.std.specs.Fmt.{digits, decimal}
use Rattle.std.proofs.lemmas.Bool.{lt-ltb, le-leb, leb-true, leb-false}
use Rattle.std.proofs.lemmas.Fmt.{length-decimal-le}
use Rattle.std.proofs.lemmas.List.Folds.{list_all-append}
use Rattle.mc_nbt.specs.Path.{is_path}
use Rattle.mc_nbt.specs.Word.{is_key}
use Rattle.mc_nbt.proofs.TestLemmas.{and_both}
use Rattle.mc_cmd.specs.Form.{Text}
use Rattle.mc_cmd.specs.Command.{subtract, add, multiply, between}
use Rattle.mc_cmd.specs.Word.{range_fits, is_small_byte, is_function_name, is_holder}
use Rattle.mc_cmd.specs.Chain.{cmd_weight}
use Rattle.wm_ast.specs.declared.operation.LoadOp.{LoadOp}
use Rattle.wm_ast.specs.declared.operation.LoadOp.TheVariants.{I32Load, I32Load8S, I32Load8U, I32Load16S, I32Load16U}
use Rattle.wm_ast.specs.declared.operation.StoreOp.{StoreOp}
use Rattle.wm_ast.specs.declared.operation.StoreOp.TheVariants.{I32Store, I32Store8, I32Store16}
use Rattle.cc_line.specs.Key.{score_window, score_four}
use Rattle.cc_line.specs.Place.{scratch, Home, in_score, in_list, home}
use Rattle.cc_line.specs.Step.{Act, Step, increase, decrease, combine, load_place, keep_place, load_site, keep_site, in_range, fails, run_act, load_home, keep_home, said_command, step_weight, steps_weight}
use Rattle.cc_line.specs.Fit.{scratch_fits, conds_fit, step_fits, steps_fit}
use Rattle.cc_line.specs.Item.{Items, step_item, call_when, no_more, first, join, steps_items, items_most, items_fit}
use Rattle.cc_line.proofs.Numerals.{decimal_small}
use Rattle.cc_line.proofs.RunLemmas.{steps_most, steps_all_fit, join_most, join_fits}
use Rattle.cc_mem.specs.Address.{filling_at, at_i, at_r, stop_step, unless_inside, most_near, no_offset, is_told, lost_steps, take_steps, return_steps, again_steps, page_steps, locate_steps, there_item, move_steps, add_steps, far_steps, split_steps, start_steps, empty_steps, least_place, beside_window, move_items, move_name, find_items, address_items}
use Rattle.cc_mem.specs.Load.{access_items}
use Rattle.cc_mem.specs.Size.{memory_site}
use Rattle.cc_mem.specs.Store.{write_items}
use Rattle.cc_mem.specs.Law.{AreLines, LoadsAreLines, StoresAreLines, SizesAreLines}
use Rattle.cc_mem.proofs.AddressNumbers.{told_is}

-- ---- items one after the other

pub both_lines : (xs ys : Items) (m n : ℕ) → AreLines xs m → AreLines ys n → AreLines (join xs ys) (m + n)
both_lines xs ys m n a b = record {
  fits = join_fits xs ys a.fits b.fits;
  weigh = (let w = join_most xs ys in let v = a.weigh in let u = b.weigh in omega arith);
}

-- steps that fit, and weigh so much
pub steps_lines : (xs : List Step) (n : ℕ) → steps_fit xs ≡ true → steps_weight xs ≤ n → AreLines (steps_items xs) n
steps_lines xs n f w = record { fits = steps_all_fit xs f; weigh = (let e = steps_most xs in omega arith) }

pub both_fit : (xs ys : List Step) → steps_fit xs ≡ true → steps_fit ys ≡ true → steps_fit (xs ++ ys) ≡ true
both_fit xs ys f g = list_all-append step_fits xs ys ∙ and_both _ _ f g

pub both_weigh : (xs ys : List Step) → steps_weight (xs ++ ys) ≡ steps_weight xs + steps_weight ys
both_weigh [] ys = let e : steps_weight ys ≡ 0 + steps_weight ys = omega arith in e
both_weigh (x ∷ xs) ys = let i = both_weigh xs ys in omega arith

-- ---- places

pub loads_fit : (h : Text) (i : ℕ) → scratch_fits h ≡ true → i < 2147483648 → step_fits (run_act (load_place h i)) ≡ true
loads_fit h i f l = and_both _ _ f (lt-ltb i 2147483648 l)

pub keeps_fit : (h : Text) (i : ℕ) → scratch_fits h ≡ true → i < 2147483648 → step_fits (run_act (keep_place i h)) ≡ true
keeps_fit h i f l = and_both _ _ (lt-ltb i 2147483648 l) f

pub load_light : (h : Text) (i : ℕ) → step_weight (run_act (load_place h i)) ≤ 2
load_light h i = by_home (home i)
  where
    by_home : (q : Home) → cmd_weight (said_command (load_home [] h q)) ≤ 2
    by_home (in_score j) = omega arith
    by_home (in_list j) = omega arith

pub keep_light : (h : Text) (i : ℕ) → step_weight (run_act (keep_place i h)) ≤ 2
keep_light h i = by_home (home i)
  where
    by_home : (q : Home) → cmd_weight (said_command (keep_home [] q h)) ≤ 2
    by_home (in_score j) = omega arith
    by_home (in_list j) = omega arith

-- ---- addresses

i_fits : scratch_fits (codes "#i") ≡ true
unfolding is_holder
i_fits = refl

lost_lines : AreLines (steps_items lost_steps) 3
unfolding is_holder
lost_lines = record { fits = refl; weigh = omega arith }

empty_lines : (sure : Bool) → AreLines (steps_items (empty_steps sure)) 4
unfolding is_holder is_path is_key
empty_lines true = record { fits = refl; weigh = omega arith }
empty_lines false = record { fits = refl; weigh = omega arith }

far_fits : (b : Bool) → steps_fit (if b then [] else unless_inside (negsuc 33554431) ∷ []) ≡ true
unfolding is_holder
far_fits true = refl
far_fits false = refl

-- a near offset less, and more
take_fits : (offset : ℕ) → steps_fit (take_steps offset) ≡ true
unfolding is_holder
take_fits offset = by (is_told offset) refl
  where
    by : (b : Bool) → is_told offset ≡ b → steps_fit (if b then run_act (decrease at_i offset) ∷ [] else []) ≡ true
    by true e = let l = told_is offset e in let k : offset ≤ most_near = l.1 in and_both _ _ (lt-ltb offset 2147483648 (omega arith)) refl
    by false e = refl

return_fits : (offset : ℕ) → steps_fit (return_steps offset) ≡ true
unfolding is_holder
return_fits offset = by (is_told offset) refl
  where
    by : (b : Bool) → is_told offset ≡ b → steps_fit (if b then run_act (increase at_i offset) ∷ [] else []) ≡ true
    by true e = let l = told_is offset e in let k : offset ≤ most_near = l.1 in and_both _ _ (lt-ltb offset 2147483648 (omega arith)) refl
    by false e = refl

add_fits : (offset : ℕ) (b : Bool) → offset < no_offset → steps_fit (if b then [] else run_act (increase at_i offset) ∷ []) ≡ true
unfolding is_holder
add_fits offset true l = refl
add_fits offset false l = and_both _ _ (lt-ltb offset 2147483648 (omega arith)) refl

split_fits : steps_fit split_steps ≡ true
unfolding is_holder
split_fits = refl

base_fits : step_fits (run_act (combine at_i subtract (scratch score_window))) ≡ true
unfolding is_holder
base_fits = refl

start_fits : (a offset : ℕ) → a < 2147483648 → offset < no_offset → steps_fit (start_steps a offset) ≡ true
start_fits a offset l o =
    and_both _ _ (loads_fit (codes "#i") a i_fits l)
    (both_fit (far_steps offset) _ (far_fits (nat_le offset most_near))
    (and_both _ _ base_fits
    (both_fit (add_steps offset) split_steps (add_fits offset (nat_eq offset 0) o) split_fits)))

extras : (offset : ℕ) → steps_weight (far_steps offset) + steps_weight (add_steps offset) ≤ 3
extras offset = by (nat_le offset most_near) (nat_eq offset 0)
  where
    by : (b d : Bool) → steps_weight (if b then [] else unless_inside (negsuc 33554431) ∷ []) + steps_weight (if d then [] else run_act (increase at_i offset) ∷ []) ≤ 3
    by true true = omega arith
    by true false = omega arith
    by false true = omega arith
    by false false = omega arith

start_light : (a offset : ℕ) → steps_weight (start_steps a offset) ≤ 9
start_light a offset =
    let i = load_light (codes "#i") a in
    let f = both_weigh (far_steps offset) (run_act (combine at_i subtract (scratch score_window)) ∷ (add_steps offset ++ split_steps)) in
    let d = both_weigh (add_steps offset) split_steps in
    let e = extras offset in
    omega arith

beside_fits : (offset : ℕ) → conds_fit (beside_window offset) ≡ true
unfolding is_holder
beside_fits offset = by (least_place offset) (least_low (nat_le offset most_near) refl)
  where
    least_low : (b : Bool) → nat_le offset most_near ≡ b → (if b then (offset + 3) / 4 else 0) ≤ 16383
    least_low true e = let l : offset ≤ most_near = leb-true offset most_near e in omega arith
    least_low false e = omega arith

    by : (n : ℕ) → n ≤ 16383 → conds_fit (fails (in_range at_i (between (pos n) (pos 16383))) ∷ []) ≡ true
    by n l =
        let range : range_fits (between (pos n) (pos 16383)) ≡ true = and_both _ _ (lt-ltb n 2147483648 (omega arith)) (le-leb n 16383 l) in
        and_both _ _ (and_both _ _ range refl) refl

-- ---- the helper that moves the window

move_named : (offset : ℕ) → is_function_name (move_name offset) ≡ true
move_named offset = by (is_told offset) refl
  where
    text : Text
    text = codes "h_mem_move_" ++ decimal offset

    by : (b : Bool) → is_told offset ≡ b → is_function_name (if b then text else codes "h_mem_move") ≡ true
    by true e =
        let l = told_is offset e in
        let k : offset ≤ most_near = l.1 in
        let long : length (decimal offset) ≤ 10 = length-decimal-le 10 offset (omega arith) (omega arith) (omega arith) in
        and_both _ _ (list_all-append is_small_byte (codes "h_mem_move_") (decimal offset) ∙ decimal_small offset (omega arith))
        (and_both _ _ (le-leb 1 (length text) (omega arith)) (le-leb (length text) 64 (omega arith)))
    by false e = refl

again_fits : (offset : ℕ) → steps_fit (again_steps offset) ≡ true
unfolding is_holder
again_fits offset =
    both_fit (run_act (combine at_i multiply (scratch score_four)) ∷ (run_act (combine at_i add at_r) ∷ (run_act (combine at_i add (scratch score_window)) ∷ [])))
    (take_steps offset ++ (unless_inside (pos no_offset) ∷ return_steps offset)) refl
    (both_fit (take_steps offset) (unless_inside (pos no_offset) ∷ return_steps offset) (take_fits offset) (both_fit (unless_inside (pos no_offset) ∷ []) (return_steps offset) refl (return_fits offset)))

page_fits : steps_fit (split_steps ++ page_steps) ≡ true
unfolding is_holder is_path is_key digits
page_fits = refl

found_fits : items_fit (first there_item (steps_items move_steps)) ≡ true
unfolding is_holder is_path is_key digits
found_fits = refl

move_fits : (offset : ℕ) → is_function_name (move_name offset) && items_fit (move_items offset) ≡ true
move_fits offset =
    and_both _ _ (move_named offset)
    (join_fits (steps_items (locate_steps offset)) (first there_item (steps_items move_steps))
    (steps_all_fit (locate_steps offset) (both_fit (again_steps offset) (split_steps ++ page_steps) (again_fits offset) page_fits)) found_fits)

move_light : (offset : ℕ) → items_most (move_items offset) ≤ 27
move_light offset =
    let j = join_most (steps_items (locate_steps offset)) (first there_item (steps_items move_steps)) in
    let l = steps_most (locate_steps offset) in
    let b = both_weigh (again_steps offset) (split_steps ++ page_steps) in
    let a = again_light (is_told offset) in
    omega arith
  where
    part : Bool → Act → List Step
    part b x = if b then run_act x ∷ [] else []

    again_light : (b : Bool) → steps_weight (run_act (combine at_i multiply (scratch score_four)) ∷ (run_act (combine at_i add at_r) ∷ (run_act (combine at_i add (scratch score_window))
        ∷ (part b (decrease at_i offset) ++ (unless_inside (pos no_offset) ∷ part b (increase at_i offset)))))) ≤ 7
    again_light true = omega arith
    again_light false = omega arith

place_fits_too : step_fits (run_act (keep_site (filling_at (codes "i")) (codes "#i"))) ≡ true
unfolding is_holder is_path is_key
place_fits_too = refl

find_lines : (sure : Bool) (a offset : ℕ) → a < 2147483648 → offset < no_offset → AreLines (find_items sure a offset) 44
find_lines sure a offset l o =
    let m = move_light offset in
    let beside : AreLines (first (call_when (beside_window offset) (move_name offset) (move_items offset)) (first (step_item (run_act (keep_site (filling_at (codes "i")) (codes "#i")))) no_more)) 31 =
    record {
      fits = and_both _ _ (and_both _ _ (beside_fits offset) (move_fits offset)) (and_both _ _ place_fits_too refl);
      weigh = omega arith;
    } in
    both_lines (steps_items (empty_steps sure)) _ 4 40 (empty_lines sure)
    (both_lines (steps_items (start_steps a offset)) _ 9 31 (steps_lines (start_steps a offset) 9 (start_fits a offset l o) (start_light a offset)) beside)

pub address_lines : (sure : Bool) (a offset : ℕ) → a < 2147483648 → AreLines (address_items sure a offset) 44
address_lines sure a offset l = by (nat_le no_offset offset) refl
  where
    by : (b : Bool) → nat_le no_offset offset ≡ b → AreLines (if b then steps_items lost_steps else find_items sure a offset) 44
    by true e = let q = lost_lines in let w = q.weigh in record { fits = q.fits; weigh = omega arith }
    by false e = find_lines sure a offset l (leb-false no_offset offset e)

-- ---- loads

access_lines : (op : LoadOp) → AreLines (access_items op) 42
unfolding is_holder is_path is_key digits
access_lines I32Load = record { fits = refl; weigh = omega arith }
access_lines I32Load8S = record { fits = refl; weigh = omega arith }
access_lines I32Load8U = record { fits = refl; weigh = omega arith }
access_lines I32Load16S = record { fits = refl; weigh = omega arith }
access_lines I32Load16U = record { fits = refl; weigh = omega arith }
access_lines _ = record { fits = refl; weigh = omega arith }

pub u_fits : scratch_fits (codes "#u") ≡ true
unfolding is_holder
u_fits = refl

pub s_fits : scratch_fits (codes "#s") ≡ true
unfolding is_holder
s_fits = refl

pub stop_fits : step_fits stop_step ≡ true
unfolding is_holder
stop_fits = refl

pub loads_are_lines : LoadsAreLines
loads_are_lines sure op a offset r l k =
    let w = keep_light (codes "#u") r in
    let end : AreLines (first (step_item stop_step) (first (step_item (run_act (keep_place r (codes "#u")))) no_more)) 4 =
    record { fits = and_both _ _ stop_fits (and_both _ _ (keeps_fit (codes "#u") r u_fits k) refl); weigh = omega arith } in
    both_lines (address_items sure a offset) _ 44 46 (address_lines sure a offset l) (both_lines (access_items op) _ 42 4 (access_lines op) end)

-- ---- stores

write_lines : (op : StoreOp) → AreLines (write_items op) 69
unfolding is_holder is_path is_key digits
write_lines I32Store = record { fits = refl; weigh = omega arith }
write_lines I32Store8 = record { fits = refl; weigh = omega arith }
write_lines I32Store16 = record { fits = refl; weigh = omega arith }
write_lines _ = record { fits = refl; weigh = omega arith }

pub stores_are_lines : StoresAreLines
stores_are_lines sure op a offset v l k =
    let w = load_light (codes "#s") v in
    let begin : AreLines (first (step_item (run_act (load_place (codes "#s") v))) no_more) 2 =
    record { fits = and_both _ _ (loads_fit (codes "#s") v s_fits k) refl; weigh = omega arith } in
    let end : AreLines (first (step_item stop_step) no_more) 2 = record { fits = and_both _ _ stop_fits refl; weigh = omega arith } in
    both_lines (address_items sure a offset) _ 44 73 (address_lines sure a offset l)
    (both_lines (first (step_item (run_act (load_place (codes "#s") v))) no_more) _ 2 71 begin (both_lines (write_items op) (first (step_item stop_step) no_more) 69 2 (write_lines op) end))

-- ---- the size

size_fits : step_fits (run_act (load_site (codes "#a") memory_site)) ≡ true
unfolding is_holder is_path is_key
size_fits = refl

pub a_fits : scratch_fits (codes "#a") ≡ true
unfolding is_holder
a_fits = refl

pub sizes_are_lines : SizesAreLines
sizes_are_lines r k =
    let w = keep_light (codes "#a") r in
    record { fits = and_both _ _ size_fits (and_both _ _ (keeps_fit (codes "#a") r a_fits k) refl); weigh = omega arith }
