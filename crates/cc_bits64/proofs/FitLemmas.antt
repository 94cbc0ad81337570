-- All operations fit, and what they weigh.
use Rattle.std.proofs.Common.{◌≡◌, ℕ, suc, ◌+◌, ◌<◌, ◌≤◌, List, true, refl, arith}
use Rattle.std.specs.Prelude.{pos, ◌++◌, codes}
use Rattle.std.proofs.lemmas.Bool.{ltb-true, lt-ltb}
use Rattle.mc_nbt.proofs.TestLemmas.{and_both}
use Rattle.mc_nbt.specs.Path.{is_path}
use Rattle.mc_nbt.specs.Word.{is_key}
use Rattle.mc_cmd.specs.Form.{Text}
use Rattle.mc_cmd.specs.Word.{is_holder, is_function_name}
use Rattle.wm_ast.specs.declared.operation.NumOp.{NumOp}
use Rattle.wm_ast.specs.declared.operation.NumOp.TheVariants.{I32And, I32Or, I32Xor, I32Clz, I32Ctz, I32Popcnt, I64And, I64Or, I64Xor, I64Shl, I64ShrS, I64ShrU, I64Rotl, I64Rotr, I64Clz, I64Ctz, I64Popcnt}
use Rattle.cc_line.specs.Key.{key_turn_left, key_turn_right}
use Rattle.cc_line.specs.Fit.{place_fits, scratch_fits, site_fits, steps_fit}
use Rattle.cc_line.specs.Step.{Step}
use Rattle.cc_line.specs.OpenStep.{open_steps_fit}
use Rattle.cc_line.specs.Item.{fill_item, Items, first, join, steps_items, items_fit, items_most}
use Rattle.cc_line.proofs.RunLemmas.{join_fits, join_most, steps_all_fit}
use Rattle.cc_line.proofs.OnPlacesLemmas.{load_most, keep_most, a_fits, b_fits}
use Rattle.cc_line.proofs.WeightLemmas.{set_weighs}
use Rattle.cc_bits.specs.Line.{choice_site}
use Rattle.cc_bits.specs.Shifting.{look_row}
use Rattle.cc_bits.specs.Operation as words
use Rattle.cc_bits.proofs.OperationLemmas as word_laws
use Rattle.cc_bits64.specs.Halves.{halves_items, small_result, two_loads, sum_items, sum_steps, popcnt_items, choose_steps, choose_items, whole_half, zeros_items}
use Rattle.cc_bits64.specs.Shifting.{negate_count, word_left, word_right, word_right_signed, word_turned, shift_left, turn_left, shift_right, shift_right_signed, tell_count, looked_items, both_kept, shift_items, by_words}
use Rattle.cc_bits64.specs.Operation.{op_items, op_most}
use Rattle.cc_bits64.proofs.Places.{both_from}

-- ---- places

fits_below : (i j : ℕ) → i ≤ j → place_fits j ≡ true → place_fits i ≡ true
fits_below i j l e = let lt : j < 2147483648 = ltb-true j 2147483648 e in lt-ltb i 2147483648 (omega arith)

k_fits : scratch_fits (codes "#k") ≡ true
unfolding is_holder
k_fits = refl

-- ---- parts

sum_fits : steps_fit sum_steps ≡ true
unfolding is_holder
sum_fits = refl

choose_fits : steps_fit choose_steps ≡ true
unfolding is_holder
choose_fits = refl

whole_fits : steps_fit whole_half ≡ true
unfolding is_holder
whole_fits = refl

tell_fits : steps_fit tell_count ≡ true
unfolding is_holder is_path is_key
tell_fits = refl

left_looks : open_steps_fit (look_row key_turn_left) ≡ true
unfolding is_holder is_path is_key
left_looks = refl

right_looks : open_steps_fit (look_row key_turn_right) ≡ true
unfolding is_holder is_path is_key
right_looks = refl

choice_site_fits : site_fits choice_site ≡ true
unfolding is_path is_key
choice_site_fits = refl

left_fits : steps_fit (by_words word_left) ≡ true
unfolding is_holder
left_fits = refl

right_fits : steps_fit (by_words word_right) ≡ true
unfolding is_holder
right_fits = refl

right_signed_fits : steps_fit (by_words word_right_signed) ≡ true
unfolding is_holder
right_signed_fits = refl

turned_fits : steps_fit (by_words word_turned) ≡ true
unfolding is_holder
turned_fits = refl

negated_fits : steps_fit (negate_count ++ by_words word_turned) ≡ true
unfolding is_holder
negated_fits = refl

shift_left_fits : steps_fit shift_left ≡ true
unfolding is_holder
shift_left_fits = refl

turn_left_fits : steps_fit turn_left ≡ true
unfolding is_holder
turn_left_fits = refl

shift_right_fits : steps_fit shift_right ≡ true
unfolding is_holder
shift_right_fits = refl

shift_right_signed_fits : steps_fit shift_right_signed ≡ true
unfolding is_holder
shift_right_signed_fits = refl

-- ---- on places

two_loads_fit : (p q : ℕ) (xs : Items) → place_fits p ≡ true → place_fits q ≡ true → items_fit xs ≡ true → items_fit (two_loads p q xs) ≡ true
two_loads_fit p q xs fp fq f = and_both _ _ (and_both _ _ a_fits fp) (and_both _ _ (and_both _ _ b_fits fq) f)

small_fits : (a : ℕ) → place_fits a ≡ true → place_fits (suc a) ≡ true → items_fit (small_result a (codes "#a")) ≡ true
small_fits a fa fb = and_both _ _ (and_both _ _ fa a_fits) (and_both _ _ (and_both _ _ fb refl) refl)

both_fit : (a : ℕ) (g h : Text) → scratch_fits g ≡ true → scratch_fits h ≡ true → place_fits a ≡ true → place_fits (suc a) ≡ true → items_fit (both_from a g h) ≡ true
both_fit a g h fg fh fa fb = and_both _ _ (and_both _ _ fa fg) (and_both _ _ (and_both _ _ fb fh) refl)

sum_items_fit : (a : ℕ) (xs : List Step) → steps_fit xs ≡ true → place_fits a ≡ true → place_fits (suc a) ≡ true → items_fit (sum_items a xs) ≡ true
sum_items_fit a xs f fa fb = two_loads_fit a (suc a) (join (steps_items xs) (small_result a (codes "#a"))) fa fb (join_fits (steps_items xs) (small_result a (codes "#a")) (steps_all_fit xs f) (small_fits a fa fb))

choose_items_fit : (a p q : ℕ) → place_fits p ≡ true → place_fits q ≡ true → place_fits a ≡ true → place_fits (suc a) ≡ true → items_fit (choose_items a p q) ≡ true
choose_items_fit a p q fp fq fa fb =
    two_loads_fit p q (join (steps_items choose_steps) (both_from a (codes "#b") (codes "#a"))) fp fq
    (join_fits (steps_items choose_steps) (both_from a (codes "#b") (codes "#a")) (steps_all_fit choose_steps choose_fits) (both_fit a (codes "#b") (codes "#a") b_fits a_fits fa fb))

-- the places of an operation's operands
module _ (a : ℕ) (f : place_fits (a + 3) ≡ true) where
  f0 : place_fits a ≡ true
  f0 = fits_below a (a + 3) (omega arith) f

  f1 : place_fits (suc a) ≡ true
  f1 = fits_below (suc a) (a + 3) (omega arith) f

  f2 : place_fits (suc (suc a)) ≡ true
  f2 = fits_below (suc (suc a)) (a + 3) (omega arith) f

  f3 : place_fits (suc (suc (suc a))) ≡ true
  f3 = fits_below (suc (suc (suc a))) (a + 3) (omega arith) f

  halves_fit : (op : NumOp) → items_fit (halves_items op a) ≡ true
  halves_fit op =
      join_fits (words.op_items op a (suc (suc a)) a) (words.op_items op (suc a) (suc (suc (suc a))) (suc a))
      (word_laws.all_fit op a (suc (suc a)) a f0 f2 f0) (word_laws.all_fit op (suc a) (suc (suc (suc a))) (suc a) f1 f3 f1)

  popcnt_fits : items_fit (popcnt_items a) ≡ true
  popcnt_fits =
      let ys : Items = words.op_items I32Popcnt (suc a) (suc a) (suc a) in
      join_fits (words.op_items I32Popcnt a a a) (join ys (sum_items a sum_steps)) (word_laws.all_fit I32Popcnt a a a f0 f0 f0)
      (join_fits ys (sum_items a sum_steps) (word_laws.all_fit I32Popcnt (suc a) (suc a) (suc a) f1 f1 f1) (sum_items_fit a sum_steps sum_fits f0 f1))

  zeros_fit : (op : NumOp) (p q : ℕ) → place_fits p ≡ true → place_fits q ≡ true → items_fit (zeros_items op a p q) ≡ true
  zeros_fit op p q fp fq =
      let ys : Items = words.op_items op a a a in
      join_fits (choose_items a p q) (join ys (sum_items a whole_half)) (choose_items_fit a p q fp fq f0 f1)
      (join_fits ys (sum_items a whole_half) (word_laws.all_fit op a a a f0 f0 f0) (sum_items_fit a whole_half whole_fits f0 f1))

  shift_fits : (g t : Text) (before after : List Step) → is_function_name g ≡ true → open_steps_fit (look_row t) ≡ true → steps_fit before ≡ true → steps_fit after ≡ true → items_fit (shift_items g t before after a) ≡ true
  shift_fits g t before after n fl fb fa =
      let looked : Items = first (fill_item g choice_site (look_row t)) (steps_items after) in
      and_both _ _ (and_both _ _ a_fits f0) (and_both _ _ (and_both _ _ b_fits f1) (and_both _ _ (and_both _ _ k_fits f2)
      (join_fits (steps_items before) (join (looked_items g t after) (both_kept a)) (steps_all_fit before fb)
      (join_fits (looked_items g t after) (both_kept a)
      (join_fits (steps_items tell_count) looked (steps_all_fit tell_count tell_fits)
      (and_both _ _ (and_both _ _ n (and_both _ _ choice_site_fits fl)) (steps_all_fit after fa)))
      (both_fit a (codes "#a") (codes "#b") a_fits b_fits f0 f1)))))

pub all_fit : (op : NumOp) (a : ℕ) → place_fits (a + 3) ≡ true → items_fit (op_items op a) ≡ true
all_fit I64And a f = halves_fit a f I32And
all_fit I64Or a f = halves_fit a f I32Or
all_fit I64Xor a f = halves_fit a f I32Xor
all_fit I64Clz a f = zeros_fit a f I32Clz (suc a) a (f1 a f) (f0 a f)
all_fit I64Ctz a f = zeros_fit a f I32Ctz a (suc a) (f0 a f) (f1 a f)
all_fit I64Popcnt a f = popcnt_fits a f
all_fit I64Shl a f = shift_fits a f (codes "h_cc_bits64_left") key_turn_left (by_words word_left) shift_left refl left_looks left_fits shift_left_fits
all_fit I64ShrS a f = shift_fits a f (codes "h_cc_bits64_right") key_turn_right (by_words word_right_signed) shift_right_signed refl right_looks right_signed_fits shift_right_signed_fits
all_fit I64ShrU a f = shift_fits a f (codes "h_cc_bits64_right") key_turn_right (by_words word_right) shift_right refl right_looks right_fits shift_right_fits
all_fit I64Rotl a f = shift_fits a f (codes "h_cc_bits64_left") key_turn_left (by_words word_turned) turn_left refl left_looks turned_fits turn_left_fits
all_fit I64Rotr a f = shift_fits a f (codes "h_cc_bits64_left") key_turn_left (negate_count ++ by_words word_turned) turn_left refl left_looks negated_fits turn_left_fits
all_fit _ a f = refl

-- ---- what they weigh

two_loads_most : (p q : ℕ) (xs : Items) (n : ℕ) → items_most xs ≤ n → items_most (two_loads p q xs) ≤ n + 4
two_loads_most p q xs n e = let la = load_most (codes "#a") p in let lb = load_most (codes "#b") q in omega arith

both_most : (a : ℕ) (g h : Text) → items_most (both_from a g h) ≤ 4
both_most a g h = let ka = keep_most a g in let kb = keep_most (suc a) h in omega arith

small_most : (a : ℕ) → items_most (small_result a (codes "#a")) ≤ 3
small_most a = let ka = keep_most a (codes "#a") in let s = set_weighs (suc a) (pos 0) in omega arith

sum_most : (a : ℕ) (xs : List Step) (n : ℕ) → items_most (steps_items xs) ≡ n → items_most (sum_items a xs) ≤ n + 7
sum_most a xs n e =
    let j = join_most (steps_items xs) (small_result a (codes "#a")) in
    let s = small_most a in
    let l : items_most (join (steps_items xs) (small_result a (codes "#a"))) ≤ n + 3 = omega arith in
    let t = two_loads_most a (suc a) (join (steps_items xs) (small_result a (codes "#a"))) (n + 3) l in
    omega arith

choose_most : (a p q : ℕ) → items_most (choose_items a p q) ≤ 10
choose_most a p q =
    let j = join_most (steps_items choose_steps) (both_from a (codes "#b") (codes "#a")) in
    let b = both_most a (codes "#b") (codes "#a") in
    let e : items_most (steps_items choose_steps) ≡ 2 = refl in
    two_loads_most p q (join (steps_items choose_steps) (both_from a (codes "#b") (codes "#a"))) 6 (omega arith)

halves_most : (op : NumOp) (a n : ℕ) → words.most op ≡ n → items_most (halves_items op a) ≤ n + n
halves_most op a n e =
    let j = join_most (words.op_items op a (suc (suc a)) a) (words.op_items op (suc a) (suc (suc (suc a))) (suc a)) in
    let x = word_laws.all_most op a (suc (suc a)) a in
    let y = word_laws.all_most op (suc a) (suc (suc (suc a))) (suc a) in
    omega arith

popcnt_most : (a : ℕ) → items_most (popcnt_items a) ≤ 80
popcnt_most a =
    let xs : Items = words.op_items I32Popcnt a a a in
    let ys : Items = words.op_items I32Popcnt (suc a) (suc a) (suc a) in
    let j = join_most xs (join ys (sum_items a sum_steps)) in
    let k = join_most ys (sum_items a sum_steps) in
    let x : items_most xs ≤ 36 = word_laws.all_most I32Popcnt a a a in
    let y : items_most ys ≤ 36 = word_laws.all_most I32Popcnt (suc a) (suc a) (suc a) in
    let z = sum_most a sum_steps 1 refl in
    omega arith

zeros_most : (op : NumOp) (a p q n : ℕ) → words.most op ≡ n → items_most (zeros_items op a p q) ≤ n + 19
zeros_most op a p q n e =
    let ys : Items = words.op_items op a a a in
    let j = join_most (choose_items a p q) (join ys (sum_items a whole_half)) in
    let k = join_most ys (sum_items a whole_half) in
    let x = choose_most a p q in
    let y = word_laws.all_most op a a a in
    let z = sum_most a whole_half 2 refl in
    omega arith

shift_most : (f t : Text) (before after : List Step) (a i j : ℕ) → items_most (steps_items before) ≡ i → items_most (looked_items f t after) ≡ j → items_most (shift_items f t before after a) ≤ i + j + 10
shift_most f t before after a i j eb el =
    let la = load_most (codes "#a") a in
    let lb = load_most (codes "#b") (suc a) in
    let lk = load_most (codes "#k") (suc (suc a)) in
    let m = join_most (steps_items before) (join (looked_items f t after) (both_kept a)) in
    let n = join_most (looked_items f t after) (both_kept a) in
    let k = both_most a (codes "#a") (codes "#b") in
    omega arith

pub all_most : (op : NumOp) (a : ℕ) → items_most (op_items op a) ≤ op_most op
all_most I64And a = halves_most I32And a 44 refl
all_most I64Or a = halves_most I32Or a 47 refl
all_most I64Xor a = halves_most I32Xor a 48 refl
all_most I64Clz a = zeros_most I32Clz a (suc a) a 30 refl
all_most I64Ctz a = zeros_most I32Ctz a a (suc a) 40 refl
all_most I64Popcnt a = popcnt_most a
all_most I64Shl a = shift_most (codes "h_cc_bits64_left") key_turn_left (by_words word_left) shift_left a 7 17 refl refl
all_most I64ShrS a = shift_most (codes "h_cc_bits64_right") key_turn_right (by_words word_right_signed) shift_right_signed a 9 22 refl refl
all_most I64ShrU a = shift_most (codes "h_cc_bits64_right") key_turn_right (by_words word_right) shift_right a 7 24 refl refl
all_most I64Rotl a = shift_most (codes "h_cc_bits64_left") key_turn_left (by_words word_turned) turn_left a 8 24 refl refl
all_most I64Rotr a = shift_most (codes "h_cc_bits64_left") key_turn_left (negate_count ++ by_words word_turned) turn_left a 10 24 refl refl
all_most _ a = omega arith
