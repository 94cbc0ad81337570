-- All operations: what they do, that they fit, and what they weigh.
use Rattle.std.proofs.Common.{◌≡◌, ℕ, ◌+◌, ◌≤◌, List, [], ◌∷◌, true, refl, arith}
use Rattle.std.specs.Prelude.{ℤ, pos, codes}
use Rattle.std.specs.Int.{w8, w16, w32}
use Rattle.mc_nbt.proofs.TestLemmas.{and_both}
use Rattle.mc_nbt.specs.Path.{is_path}
use Rattle.mc_nbt.specs.Word.{is_key}
use Rattle.mc_cmd.specs.Form.{Text}
use Rattle.mc_cmd.specs.Word.{is_holder, is_function_name}
use Rattle.wm_ast.specs.declared.operation.NumOp.{NumOp}
use Rattle.wm_ast.specs.declared.operation.NumOp.TheVariants.{I32Clz, I32Ctz, I32Popcnt, I32Extend8S, I32Extend16S, I32And, I32Or, I32Xor, I32Shl, I32ShrS, I32ShrU, I32Rotl, I32Rotr}
use Rattle.wm_ast.specs.Integer.{iand, ior, ixor, ishl, ishr_s, ishr_u, irotl, irotr, iclz, ictz, ipopcnt, iextend_s}
use Rattle.cc_line.specs.declared.table.Table.{Table}
use Rattle.cc_line.specs.declared.table.Table.TheVariants.{Ones}
use Rattle.cc_line.specs.Key.{key_left, key_right_signed, key_right, key_turn_left, key_turn_right}
use Rattle.cc_line.specs.Fit.{place_fits, scratch_fits, site_fits, steps_fit, step_fits}
use Rattle.cc_line.specs.Core.{core_on_one, CoreMakesOne}
use Rattle.cc_line.specs.Step.{Step}
use Rattle.cc_line.specs.OpenStep.{OpenStep, open_steps_fit}
use Rattle.cc_line.specs.Item.{call_item, fill_item, Items, no_more, first, join, steps_items, items_fit, items_most}
use Rattle.cc_line.specs.Routine.{PerformsOne, PerformsTwoStanding}
use Rattle.cc_line.proofs.RenameLemmas.{core_makes_one}
use Rattle.cc_line.proofs.RunLemmas.{join_fits, join_most, steps_all_fit}
use Rattle.cc_line.proofs.OnPlacesLemmas.{one_fits, one_most, load_most, keep_most, a_fits, b_fits}
use Rattle.cc_line.proofs.TableLemmas.{table_fits}
use Rattle.cc_bits.specs.Line.{choice_site, table_site, lays, still, keeps, one_step, of_one, of_two}
use Rattle.cc_bits.specs.Counting.{extend_steps, clz_steps, ctz_steps}
use Rattle.cc_bits.specs.Shifting.{count_steps, look_number, look_row, filled_items, shl_steps, shr_s_steps, shr_u_steps, rotate_steps, shl_items, shr_s_items, shr_u_items, rotl_items, rotr_items}
use Rattle.cc_bits.specs.Digit.{bytes_steps, ones_steps, popcnt_items, told_steps, split_steps, found_steps, sum_steps, less_both, both_items, or_body, xor_body, and_items, or_items, xor_items}
use Rattle.cc_bits.specs.Operation.{is_unary, is_binary, one_items, op_items, most}
use Rattle.cc_bits.proofs.LookLemmas.{one_performs, two_performs}
use Rattle.cc_bits.proofs.UnaryLemmas.{core_performs, clz_makes, ctz_makes, extend8_makes, extend16_makes}
use Rattle.cc_bits.proofs.ShiftLemmas.{shl_comes, shr_s_comes, shr_u_comes, rotl_comes, rotr_comes}
use Rattle.cc_bits.proofs.OnesLemmas.{popcnt_comes}
use Rattle.cc_bits.proofs.DigitLemmas.{and_comes, or_comes, xor_comes}

-- ---- what they do

pub unary_performs : (op : NumOp) → is_unary op ≡ true → (a b r : ℕ) → PerformsOne op (op_items op a b r) a r
unary_performs I32Clz k a b r = core_performs clz_steps (iclz w32) clz_makes a r
unary_performs I32Ctz k a b r = core_performs ctz_steps (ictz w32) ctz_makes a r
unary_performs I32Popcnt k a b r = one_performs popcnt_items (codes "#d") (ipopcnt w32) popcnt_comes a r
unary_performs I32Extend8S k a b r = core_performs (extend_steps (pos 256) (pos 128)) (iextend_s w8 w32) extend8_makes a r
unary_performs I32Extend16S k a b r = core_performs (extend_steps (pos 65536) (pos 32768)) (iextend_s w16 w32) extend16_makes a r
unary_performs _ k a b r = absurd cc

pub binary_performs : (op : NumOp) → is_binary op ≡ true → (a b r : ℕ) → PerformsTwoStanding op (op_items op a b r) a b r
binary_performs I32And k a b r = two_performs and_items (codes "#d") (iand w32) and_comes a b r
binary_performs I32Or k a b r = two_performs or_items (codes "#e") (ior w32) or_comes a b r
binary_performs I32Xor k a b r = two_performs xor_items (codes "#e") (ixor w32) xor_comes a b r
binary_performs I32Shl k a b r = two_performs shl_items (codes "#a") (ishl w32) shl_comes a b r
binary_performs I32ShrS k a b r = two_performs shr_s_items (codes "#a") (ishr_s w32) shr_s_comes a b r
binary_performs I32ShrU k a b r = two_performs shr_u_items (codes "#a") (ishr_u w32) shr_u_comes a b r
binary_performs I32Rotl k a b r = two_performs rotl_items (codes "#a") (irotl w32) rotl_comes a b r
binary_performs I32Rotr k a b r = two_performs rotr_items (codes "#a") (irotr w32) rotr_comes a b r
binary_performs _ k a b r = absurd cc

-- ---- that they fit

-- a core of one operand on places
one_items_fit : (core : List Step) (x z : ℤ) (a r : ℕ) → CoreMakesOne core x z → place_fits a ≡ true → place_fits r ≡ true → items_fit (one_items a r core) ≡ true
one_items_fit core x z a r m fa fr = one_fits (core_on_one core) a r (core_makes_one core x z m).fits fa fr

-- operands and result of two
two_items_fit : (xs : Items) (h : Text) (a b r : ℕ) → items_fit xs ≡ true → scratch_fits h ≡ true → place_fits a ≡ true → place_fits b ≡ true → place_fits r ≡ true → items_fit (of_two a b r xs h) ≡ true
two_items_fit xs h a b r f g fa fb fr = and_both _ _ (and_both _ _ a_fits fa) (and_both _ _ (and_both _ _ b_fits fb) (join_fits xs (one_step (keeps r h) no_more) f (and_both _ _ (and_both _ _ fr g) refl)))

d_fits : scratch_fits (codes "#d") ≡ true
unfolding is_holder
d_fits = refl

e_fits : scratch_fits (codes "#e") ≡ true
unfolding is_holder
e_fits = refl

table_site_fits : site_fits table_site ≡ true
unfolding is_path is_key
table_site_fits = refl

choice_site_fits : site_fits choice_site ≡ true
unfolding is_path is_key
choice_site_fits = refl

lays_fit : (t : Table) → step_fits (lays t) ≡ true
lays_fit t = and_both _ _ table_site_fits (table_fits t).0

count_fits : steps_fit count_steps ≡ true
unfolding is_holder is_path is_key
count_fits = refl

shl_looks : open_steps_fit (look_number key_left) ≡ true
unfolding is_holder is_path is_key
shl_looks = refl

shr_s_looks : open_steps_fit (look_number key_right_signed) ≡ true
unfolding is_holder is_path is_key
shr_s_looks = refl

shr_u_looks : open_steps_fit (look_number key_right) ≡ true
unfolding is_holder is_path is_key
shr_u_looks = refl

rotl_looks : open_steps_fit (look_row key_turn_left) ≡ true
unfolding is_holder is_path is_key
rotl_looks = refl

rotr_looks : open_steps_fit (look_row key_turn_right) ≡ true
unfolding is_holder is_path is_key
rotr_looks = refl

shl_fits : steps_fit shl_steps ≡ true
unfolding is_holder
shl_fits = refl

shr_s_fits : steps_fit shr_s_steps ≡ true
unfolding is_holder
shr_s_fits = refl

shr_u_fits : steps_fit shr_u_steps ≡ true
unfolding is_holder
shr_u_fits = refl

rotate_fits : steps_fit rotate_steps ≡ true
unfolding is_holder
rotate_fits = refl

shift_fits : (f : Text) (ls : List OpenStep) (xs : List Step) → is_function_name f ≡ true → open_steps_fit ls ≡ true → steps_fit xs ≡ true → items_fit (filled_items f ls xs) ≡ true
shift_fits f ls xs k g h =
    join_fits (steps_items count_steps) (first (fill_item f choice_site ls) (steps_items xs)) (steps_all_fit count_steps count_fits)
    (and_both _ _ (and_both _ _ k (and_both _ _ choice_site_fits g)) (steps_all_fit xs h))

told_fits : steps_fit told_steps ≡ true
unfolding is_holder is_path is_key
told_fits = refl

split_fits : open_steps_fit split_steps ≡ true
unfolding is_holder is_path is_key
split_fits = refl

found_fits : open_steps_fit found_steps ≡ true
unfolding is_holder is_path is_key
found_fits = refl

sum_fits : steps_fit sum_steps ≡ true
unfolding is_holder
sum_fits = refl

less_fits : steps_fit (less_both ∷ less_both ∷ []) ≡ true
unfolding is_holder
less_fits = refl

once_fits : steps_fit (less_both ∷ []) ≡ true
unfolding is_holder
once_fits = refl

both_fit : items_fit both_items ≡ true
both_fit =
    join_fits (steps_items told_steps) (first (fill_item (codes "h_cc_bits_bytes") choice_site split_steps) (first (fill_item (codes "h_cc_bits_both") choice_site found_steps) no_more)) (steps_all_fit told_steps told_fits)
    (and_both _ _ (and_both _ _ refl (and_both _ _ choice_site_fits split_fits)) (and_both _ _ (and_both _ _ refl (and_both _ _ choice_site_fits found_fits)) refl))

less_body_fits : (xs : List Step) → steps_fit xs ≡ true → items_fit (join (steps_items sum_steps) (join both_items (steps_items xs))) ≡ true
less_body_fits xs f = join_fits (steps_items sum_steps) (join both_items (steps_items xs)) (steps_all_fit sum_steps sum_fits) (join_fits both_items (steps_items xs) both_fit (steps_all_fit xs f))

called_fits : (f : Text) (xs : Items) → is_function_name f ≡ true → items_fit xs ≡ true → items_fit (first (call_item f xs) no_more) ≡ true
called_fits f xs k g = and_both _ _ (and_both _ _ k g) refl

bytes_fit : steps_fit bytes_steps ≡ true
unfolding is_holder is_path is_key
bytes_fit = refl

ones_fit : open_steps_fit ones_steps ≡ true
unfolding is_holder is_path is_key
ones_fit = refl

popcnt_fits : items_fit popcnt_items ≡ true
popcnt_fits =
    join_fits (steps_items bytes_steps) (first (fill_item (codes "h_cc_bits_popcnt") choice_site (still (lays Ones) ∷ ones_steps)) no_more) (steps_all_fit bytes_steps bytes_fit)
    (and_both _ _ (and_both _ _ refl (and_both _ _ choice_site_fits (and_both _ _ (lays_fit Ones) ones_fit))) refl)

pub all_fit : (op : NumOp) (a b r : ℕ) → place_fits a ≡ true → place_fits b ≡ true → place_fits r ≡ true → items_fit (op_items op a b r) ≡ true
all_fit I32Clz a b r fa fb fr = one_items_fit clz_steps _ _ a r (clz_makes 0 (omega arith)) fa fr
all_fit I32Ctz a b r fa fb fr = one_items_fit ctz_steps _ _ a r (ctz_makes 0 (omega arith)) fa fr
all_fit I32Popcnt a b r fa fb fr = and_both _ _ (and_both _ _ a_fits fa) (join_fits popcnt_items (one_step (keeps r (codes "#d")) no_more) popcnt_fits (and_both _ _ (and_both _ _ fr d_fits) refl))
all_fit I32Extend8S a b r fa fb fr = one_items_fit (extend_steps (pos 256) (pos 128)) _ _ a r (extend8_makes 0 (omega arith)) fa fr
all_fit I32Extend16S a b r fa fb fr = one_items_fit (extend_steps (pos 65536) (pos 32768)) _ _ a r (extend16_makes 0 (omega arith)) fa fr
all_fit I32And a b r fa fb fr = two_items_fit and_items (codes "#d") a b r (called_fits (codes "h_cc_bits_and") both_items refl both_fit) d_fits fa fb fr
all_fit I32Or a b r fa fb fr = two_items_fit or_items (codes "#e") a b r (called_fits (codes "h_cc_bits_or") or_body refl (less_body_fits (less_both ∷ []) once_fits)) e_fits fa fb fr
all_fit I32Xor a b r fa fb fr = two_items_fit xor_items (codes "#e") a b r (called_fits (codes "h_cc_bits_xor") xor_body refl (less_body_fits (less_both ∷ less_both ∷ []) less_fits)) e_fits fa fb fr
all_fit I32Shl a b r fa fb fr = two_items_fit shl_items (codes "#a") a b r (shift_fits (codes "h_cc_bits_shl") (look_number key_left) shl_steps refl shl_looks shl_fits) a_fits fa fb fr
all_fit I32ShrS a b r fa fb fr = two_items_fit shr_s_items (codes "#a") a b r (shift_fits (codes "h_cc_bits_shr_s") (look_number key_right_signed) shr_s_steps refl shr_s_looks shr_s_fits) a_fits fa fb fr
all_fit I32ShrU a b r fa fb fr = two_items_fit shr_u_items (codes "#a") a b r (shift_fits (codes "h_cc_bits_shr_u") (look_number key_right) shr_u_steps refl shr_u_looks shr_u_fits) a_fits fa fb fr
all_fit I32Rotl a b r fa fb fr = two_items_fit rotl_items (codes "#a") a b r (shift_fits (codes "h_cc_bits_rotl") (look_row key_turn_left) rotate_steps refl rotl_looks rotate_fits) a_fits fa fb fr
all_fit I32Rotr a b r fa fb fr = two_items_fit rotr_items (codes "#a") a b r (shift_fits (codes "h_cc_bits_rotr") (look_row key_turn_right) rotate_steps refl rotr_looks rotate_fits) a_fits fa fb fr
all_fit _ a b r fa fb fr = refl

-- ---- what they weigh

one_items_most : (xs : Items) (h : Text) (a r n : ℕ) → items_most xs ≡ n → items_most (of_one a r xs h) ≤ n + 4
one_items_most xs h a r n e =
    let la = load_most (codes "#a") a in
    let lr = keep_most r h in
    let j = join_most xs (one_step (keeps r h) no_more) in
    omega arith

two_items_most : (xs : Items) (h : Text) (a b r n : ℕ) → items_most xs ≡ n → items_most (of_two a b r xs h) ≤ n + 6
two_items_most xs h a b r n e =
    let la = load_most (codes "#a") a in
    let lb = load_most (codes "#b") b in
    let lr = keep_most r h in
    let j = join_most xs (one_step (keeps r h) no_more) in
    omega arith

pub all_most : (op : NumOp) (a b r : ℕ) → items_most (op_items op a b r) ≤ most op
all_most I32Clz a b r = one_most (core_on_one clz_steps) a r 26 (λ x. refl)
all_most I32Ctz a b r = one_most (core_on_one ctz_steps) a r 36 (λ x. refl)
all_most I32Popcnt a b r = one_items_most popcnt_items (codes "#d") a r 32 refl
all_most I32Extend8S a b r = one_most (core_on_one (extend_steps (pos 256) (pos 128))) a r 4 (λ x. refl)
all_most I32Extend16S a b r = one_most (core_on_one (extend_steps (pos 65536) (pos 32768))) a r 4 (λ x. refl)
all_most I32And a b r = two_items_most and_items (codes "#d") a b r 38 refl
all_most I32Or a b r = two_items_most or_items (codes "#e") a b r 41 refl
all_most I32Xor a b r = two_items_most xor_items (codes "#e") a b r 42 refl
all_most I32Shl a b r = two_items_most shl_items (codes "#a") a b r 8 refl
all_most I32ShrS a b r = two_items_most shr_s_items (codes "#a") a b r 10 refl
all_most I32ShrU a b r = two_items_most shr_u_items (codes "#a") a b r 14 refl
all_most I32Rotl a b r = two_items_most rotl_items (codes "#a") a b r 18 refl
all_most I32Rotr a b r = two_items_most rotr_items (codes "#a") a b r 18 refl
all_most _ a b r = omega arith

pub all_light : (op : NumOp) → most op ≤ 450
all_light I32Clz = omega arith
all_light I32Ctz = omega arith
all_light I32Popcnt = omega arith
all_light I32Extend8S = omega arith
all_light I32Extend16S = omega arith
all_light I32And = omega arith
all_light I32Or = omega arith
all_light I32Xor = omega arith
all_light I32Shl = omega arith
all_light I32ShrS = omega arith
all_light I32ShrU = omega arith
all_light I32Rotl = omega arith
all_light I32Rotr = omega arith
all_light _ = omega arith
