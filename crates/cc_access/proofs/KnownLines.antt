-- Accesses whose address may be known are lines, and weigh at most so much.
use Rattle.std.proofs.Common.{◌≡◌, ℕ, suc, ◌+◌, ◌-◌, ◌/◌, ◌%◌, ◌<◌, ◌≤◌, [], ◌∷◌, Some, None, Bool, true, false, refl, ap, arith}
use Rattle.std.specs.Prelude.{not, if◌then◌else◌, codes}
use Rattle.std.specs.Fmt.{digits}
use Rattle.std.proofs.lemmas.Bool.{lt-ltb}
use Rattle.mc_nbt.specs.Path.{is_path}
use Rattle.mc_nbt.specs.Word.{is_key}
use Rattle.mc_nbt.proofs.TestLemmas.{and_both}
use Rattle.mc_cmd.specs.Command.{Op, multiply, divide, remainder}
use Rattle.mc_cmd.specs.Word.{is_holder}
use Rattle.mc_cmd.specs.Chain.{cmd_weight}
use Rattle.wm_ast.specs.declared.operation.LoadOp.{LoadOp}
use Rattle.wm_ast.specs.declared.operation.LoadOp.TheVariants.{I32Load, I32Load8S, I32Load8U, I32Load16S, I32Load16U, I64Load, I64Load8S, I64Load8U, I64Load16S, I64Load16U, I64Load32S, I64Load32U}
use Rattle.wm_ast.specs.declared.operation.StoreOp.{StoreOp}
use Rattle.wm_ast.specs.declared.operation.StoreOp.TheVariants.{I32Store, I32Store8, I32Store16, I64Store}
use Rattle.wm_ast.specs.Operation.{load_width, store_width}
use Rattle.cc_line.specs.Place.{Home, in_score, in_list, home}
use Rattle.cc_line.specs.Step.{run_act, place_to_site, site_to_place, home_to_site, site_to_home, said_command, steps_weight}
use Rattle.cc_line.specs.Fit.{is_swap, site_fits, spot_fits, steps_fit}
use Rattle.cc_line.specs.Item.{Items, join, steps_items}
use Rattle.cc_mem.specs.Law.{AreLines}
use Rattle.cc_mem.specs.Address.{no_offset}
use Rattle.cc_mem.specs.Load.{scale}
use Rattle.cc_mem.proofs.Lines.{both_lines, steps_lines, loads_fit, keeps_fit, load_light, keep_light, u_fits, s_fits}
use Rattle.cc_mem.proofs.WordSums.{by_four}
use Rattle.cc_access.specs.Access.{low_load, low_store, zero_steps, high_steps}
use Rattle.cc_access.specs.Known.{byte_in, word_path, is_known, part_steps, word_steps, high_word, known_load, change_steps, put_steps, high_put, known_store, loads_at, stores_at}
use Rattle.cc_access.specs.KnownLaw.{LoadsByAreLines, StoresByAreLines}
use Rattle.cc_access.specs.Law.{load_most, store_most}
use Rattle.cc_access.proofs.KnownLaws.{known_is}
use Rattle.cc_access.proofs.Weights.{zero_lines, sign_lines, none_lines, loads_are_lines, stores_are_lines}

-- ---- paths, and scales

path_fits : (at : ℕ) → at < 2147483648 → site_fits (word_path at) ≡ true
unfolding is_path is_key
path_fits at l = and_both _ _ (and_both _ _ (lt-ltb (at / 65536) 2147483648 (omega arith)) (and_both _ _ (lt-ltb (at / 4 % 16384) 2147483648 (omega arith)) refl)) refl

scale_fits : (i : ℕ) → i < 4 → spot_fits (scale i) ≡ true
unfolding is_holder digits
scale_fits = by_four (λ i. spot_fits (scale i) ≡ true) refl refl refl refl

-- ---- loads

part_fits : (at : ℕ) (op last : Op) (i j r : ℕ) → at < 2147483648 → i < 4 → j < 4 → r < 2147483648 → is_swap op ≡ false → is_swap last ≡ false → steps_fit (part_steps at op i last j r) ≡ true
part_fits at op last i j r l hi hj lr e f =
    and_both _ _ (and_both _ _ u_fits (path_fits at l))
    (and_both _ _ (and_both _ _ u_fits (and_both _ _ (scale_fits i hi) (not_swap op e)))
    (and_both _ _ (and_both _ _ u_fits (and_both _ _ (scale_fits j hj) (not_swap last f))) (and_both _ _ (keeps_fit (codes "#u") r u_fits lr) refl)))
  where
    not_swap : (op : Op) → is_swap op ≡ false → not (is_swap op) ≡ true
    not_swap op e = ap not e

part_light : (at : ℕ) (op last : Op) (i j r : ℕ) → steps_weight (part_steps at op i last j r) ≤ 6
part_light at op last i j r = let w = keep_light (codes "#u") r in omega arith

part_lines : (at : ℕ) (op last : Op) (i j r : ℕ) → at < 2147483648 → i < 4 → j < 4 → r < 2147483648 → is_swap op ≡ false → is_swap last ≡ false → AreLines (steps_items (part_steps at op i last j r)) 6
part_lines at op last i j r l hi hj lr e f = steps_lines (part_steps at op i last j r) 6 (part_fits at op last i j r l hi hj lr e f) (part_light at op last i j r)

whole_lines : (at r : ℕ) → at < 2147483648 → r < 2147483648 → AreLines (steps_items (run_act (site_to_place r (word_path at)) ∷ [])) 2
whole_lines at r l k = steps_lines (run_act (site_to_place r (word_path at)) ∷ []) 2 (and_both _ _ (and_both _ _ (lt-ltb r 2147483648 k) (path_fits at l)) refl) (let w = light (home r) in omega arith)
  where
    light : (q : Home) → cmd_weight (said_command (site_to_home [] q (word_path at))) ≤ 2
    light (in_score j) = omega arith
    light (in_list j) = omega arith

more_lines : (xs : Items) (m n : ℕ) → m ≤ n → AreLines xs m → AreLines xs n
more_lines xs m n l a = record { fits = a.fits; weigh = (let w = a.weigh in omega arith) }

word_lines : (op : LoadOp) (at r : ℕ) → at < 2147483648 → r < 2147483648 → AreLines (steps_items (word_steps op at r)) 6
word_lines I32Load8U at r l k = part_lines at divide remainder (byte_in at) 1 r l (omega arith) (omega arith) k refl refl
word_lines I32Load8S at r l k = part_lines at multiply divide (3 - byte_in at) 3 r l (omega arith) (omega arith) k refl refl
word_lines I32Load16U at r l k = part_lines at divide remainder (byte_in at) 2 r l (omega arith) (omega arith) k refl refl
word_lines I32Load16S at r l k = part_lines at multiply divide (2 - byte_in at) 2 r l (omega arith) (omega arith) k refl refl
word_lines _ at r l k = more_lines (steps_items (run_act (site_to_place r (word_path at)) ∷ [])) 2 6 (omega arith) (whole_lines at r l k)

high_lines : (op : LoadOp) (a : ℕ) → a + 1 < 2147483648 → AreLines (steps_items (high_steps op a)) 5
high_lines I64Load8S a l = sign_lines a l
high_lines I64Load16S a l = sign_lines a l
high_lines I64Load32S a l = sign_lines a l
high_lines I64Load8U a l = more_lines (steps_items (zero_steps a)) 1 5 (omega arith) (zero_lines a l)
high_lines I64Load16U a l = more_lines (steps_items (zero_steps a)) 1 5 (omega arith) (zero_lines a l)
high_lines I64Load32U a l = more_lines (steps_items (zero_steps a)) 1 5 (omega arith) (zero_lines a l)
high_lines _ a l = more_lines (steps_items []) 0 5 (omega arith) none_lines

word_first_lines : (op : LoadOp) (at a : ℕ) → at < no_offset → a + 1 < 2147483648 → AreLines (high_word op at a) 6
word_first_lines I64Load at a l k = word_lines I32Load (at + 4) (suc a) (omega arith) (omega arith)
word_first_lines _ at a l k = record { fits = refl; weigh = omega arith }

pub known_load_lines : (op : LoadOp) (at a : ℕ) → at < no_offset → a + 1 < 2147483648 → AreLines (known_load op at a) 17
known_load_lines op at a l k =
    both_lines (high_word op at a) (join (steps_items (word_steps (low_load op) at a)) (steps_items (high_steps op a))) 6 11 (word_first_lines op at a l k)
    (both_lines (steps_items (word_steps (low_load op) at a)) (steps_items (high_steps op a)) 6 5 (word_lines (low_load op) at a (omega arith) (omega arith)) (high_lines op a k))

load_room : (op : LoadOp) → 90 ≤ load_most op
load_room I64Load = omega arith
load_room I64Load8S = omega arith
load_room I64Load16S = omega arith
load_room I64Load32S = omega arith
load_room I64Load8U = omega arith
load_room I64Load16U = omega arith
load_room I64Load32U = omega arith
load_room _ = omega arith

pub loads_by_lines : LoadsByAreLines
loads_by_lines least None sure op a offset l = loads_are_lines sure op a offset l
loads_by_lines least (Some u) sure op a offset l = by (is_known least (load_width op) (u + offset)) refl
  where
    by : (c : Bool) → is_known least (load_width op) (u + offset) ≡ c → AreLines (loads_at (if c then Some (u + offset) else None) sure op a offset) (load_most op)
    by true e =
        let k = (known_is least (load_width op) (u + offset) e).small in
        let m = load_room op in
        more_lines (known_load op (u + offset) a) 17 (load_most op) (omega arith) (known_load_lines op (u + offset) a k l)
    by false e = loads_are_lines sure op a offset l

-- ---- stores

change_fits : (width at v : ℕ) → width < 4 → at < 2147483648 → v < 2147483648 → steps_fit (change_steps width at v) ≡ true
unfolding is_holder
change_fits width at v w l k =
    let low : byte_in at < 4 = omega arith in
    let byte : spot_fits (scale (byte_in at)) ≡ true = scale_fits (byte_in at) low in
    let wide : spot_fits (scale width) ≡ true = scale_fits width w in
    and_both _ _ (loads_fit (codes "#s") v s_fits k)
    (and_both _ _ (path_fits at l)
    (and_both _ _ (and_both _ _ byte refl)
    (and_both _ _ (and_both _ _ wide refl)
    (and_both _ _ (and_both _ _ wide refl)
    (and_both _ _ (and_both _ _ byte refl)
    (and_both _ _ (and_both _ _ (path_fits at l) refl) refl))))))

change_light : (width at v : ℕ) → steps_weight (change_steps width at v) ≤ 14
change_light width at v = let w = load_light (codes "#s") v in omega arith

change_lines : (width at v : ℕ) → width < 4 → at < 2147483648 → v < 2147483648 → AreLines (steps_items (change_steps width at v)) 14
change_lines width at v w l k = steps_lines (change_steps width at v) 14 (change_fits width at v w l k) (change_light width at v)

whole_put_lines : (at v : ℕ) → at < 2147483648 → v < 2147483648 → AreLines (steps_items (run_act (place_to_site (word_path at) v) ∷ [])) 2
whole_put_lines at v l k = steps_lines (run_act (place_to_site (word_path at) v) ∷ []) 2 (and_both _ _ (and_both _ _ (path_fits at l) (lt-ltb v 2147483648 k)) refl) (let w = light (home v) in omega arith)
  where
    light : (q : Home) → cmd_weight (said_command (home_to_site [] (word_path at) q)) ≤ 2
    light (in_score j) = omega arith
    light (in_list j) = omega arith

put_lines : (op : StoreOp) (at v : ℕ) → at < 2147483648 → v < 2147483648 → AreLines (steps_items (put_steps op at v)) 14
put_lines I32Store8 at v l k = change_lines 1 at v (omega arith) l k
put_lines I32Store16 at v l k = change_lines 2 at v (omega arith) l k
put_lines _ at v l k = more_lines (steps_items (run_act (place_to_site (word_path at) v) ∷ [])) 2 14 (omega arith) (whole_put_lines at v l k)

put_first_lines : (op : StoreOp) (at v : ℕ) → at < no_offset → v + 1 < 2147483648 → AreLines (high_put op at v) 14
put_first_lines I64Store at v l k = put_lines I32Store (at + 4) (suc v) (omega arith) (omega arith)
put_first_lines _ at v l k = record { fits = refl; weigh = omega arith }

pub known_store_lines : (op : StoreOp) (at a : ℕ) → at < no_offset → a + 2 < 2147483648 → AreLines (known_store op at a) 28
known_store_lines op at a l k =
    both_lines (high_put op at (suc a)) (steps_items (put_steps (low_store op) at (suc a))) 14 14 (put_first_lines op at (suc a) l (omega arith)) (put_lines (low_store op) at (suc a) (omega arith) (omega arith))

store_room : (op : StoreOp) → 117 ≤ store_most op
store_room I64Store = omega arith
store_room _ = omega arith

pub stores_by_lines : StoresByAreLines
stores_by_lines least None sure op a offset l = stores_are_lines sure op a offset l
stores_by_lines least (Some u) sure op a offset l = by (is_known least (store_width op) (u + offset)) refl
  where
    by : (c : Bool) → is_known least (store_width op) (u + offset) ≡ c → AreLines (stores_at (if c then Some (u + offset) else None) sure op a offset) (store_most op)
    by true e =
        let k = (known_is least (store_width op) (u + offset) e).small in
        let m = store_room op in
        more_lines (known_store op (u + offset) a) 28 (store_most op) (omega arith) (known_store_lines op (u + offset) a k l)
    by false e = stores_are_lines sure op a offset l
