-- The helpers that accesses call have names of the crate's list.
use Rattle.std.proofs.Common.{◌≡◌, ◌∙◌, ap, refl, ℕ, ◌+◌, ◌<◌, ◌≤◌, List, [], ◌∷◌, ◌++◌, length, length-append, Bool, true, false, Some, arith}
use Rattle.std.specs.Prelude.{codes, drop, nat_le, pos, if◌then◌else◌}
use Rattle.std.specs.Fmt.{decimal}
use Rattle.std.proofs.lemmas.Bool.{leb-true}
use Rattle.std.proofs.lemmas.Fmt.{decimal_injective}
use Rattle.mc_cmd.specs.Command.{add, exactly, multiply}
use Rattle.mc_cmd.specs.Form.{Text}
use Rattle.mc_cmd.proofs.FormLemmas.{and_second}
use Rattle.wm_ast.specs.declared.operation.LoadOp.{LoadOp}
use Rattle.wm_ast.specs.declared.operation.LoadOp.TheVariants.{I32Load, I32Load8S, I32Load8U, I32Load16S, I32Load16U}
use Rattle.wm_ast.specs.declared.operation.StoreOp.{StoreOp}
use Rattle.wm_ast.specs.declared.operation.StoreOp.TheVariants.{I32Store, I32Store8, I32Store16}
use Rattle.cc_line.specs.Item.{call_when, first, Items, items_texts, join, no_more, step_item, steps_items}
use Rattle.cc_line.specs.Key.{score_four, score_window}
use Rattle.cc_line.specs.OpenStep.{open_act, open_keep_site, open_load_site, open_when}
use Rattle.cc_line.specs.Place.{scratch}
use Rattle.cc_line.specs.Step.{combine, Cond, decrease, holds, in_range, increase, keep_place, keep_site, load_place, run_act, Step}
use Rattle.cc_text.specs.Tables.{IsOwn, IsWithin, ItemNamed, ItemsNamed, lines_named, NamedHelper, numbered}
use Rattle.cc_text.proofs.NamedItems.{helpers_named, named_both, named_call, named_call_when, named_either, named_fill, named_fill_when, named_steps, no_helper}
use Rattle.cc_text.proofs.NamedLemmas.{both_begin, numbered_begin, numbered_found, numbered_long}
use Rattle.cc_mem.specs.Address.{address_items, at_i, at_r, beside_window, choice_site, empty_steps, filling_at, filling_site, find_items, is_told, lost_steps, move_items, move_name, move_steps, no_offset, page_steps, split_steps, start_steps}
use Rattle.cc_mem.specs.Address.{missing_step, stop_step, there_item, there_steps, told_word, unless_inside, window_word}
use Rattle.cc_mem.specs.Helpers.{beginning, helpers, near_offsets, offset_helper, shared_helpers}
use Rattle.cc_mem.specs.Load.{access_items, byte_s_steps, byte_u_steps, glue_steps, glued_items, half_over_items, half_over_s_items, half_s_steps, half_u_steps, is_last, is_over, is_unaligned, load_items, next_item, next_items, next_steps, over_item, over_steps, pair_steps, sign_step, told_item, word_item}
use Rattle.cc_mem.specs.Store.{across_items, change_steps, half_across_items, half_items, half_over_steps, is_calm, not_last, spread_steps, store_items, write_first, write_items, write_second}

-- ---- those of offsets

-- the window moved for an offset that is told in the helper's name, or isn't
abbrev again : Bool → ℕ → List Step
again told offset =
    run_act (combine at_i multiply (scratch score_four))
    ∷ (run_act (combine at_i add at_r)
    ∷ (run_act (combine at_i add (scratch score_window))
    ∷ ((if told then run_act (decrease at_i offset) ∷ [] else [])
    ++ (unless_inside (pos no_offset) ∷ (if told then run_act (increase at_i offset) ∷ [] else [])))))

abbrev locate : Bool → ℕ → List Step
locate told offset = again told offset ++ (split_steps ++ page_steps)

abbrev moves : Bool → ℕ → Items
moves told offset = join (steps_items (locate told offset)) (first there_item (steps_items move_steps))

enough : (offset : ℕ) → offset ≤ 8192 → offset < near_offsets
unfolding near_offsets
enough offset h = let l : offset < 8193 = omega arith in l

low : (j : ℕ) → j < near_offsets → j < 8193
unfolding near_offsets
low j h = let l : j < 8193 = h in l

same_offset : (j n : ℕ) → j < near_offsets → n < near_offsets → codes "h_mem_move_" ++ decimal j ≡ codes "h_mem_move_" ++ decimal n → j ≡ n
same_offset j n h l e =
    let a : j < 8193 = low j h in
    let b : n < 8193 = low n l in
    decimal_injective j n (omega arith) (omega arith) (ap (drop 11) e)

offset_found : (ns : Text) (n : ℕ) → n < near_offsets → lines_named helpers ns (codes "h_mem_move_" ++ decimal n) ≡ Some (items_texts ns (move_items n))
offset_found ns n h = numbered_found offset_helper near_offsets n ns (λ j l e. same_offset j n l h e) h

move_found : (ns : Text) (offset : ℕ) (b : Bool) → is_told offset ≡ b → lines_named helpers ns (if b then codes "h_mem_move_" ++ decimal offset else codes "h_mem_move") ≡ Some (items_texts ns (moves b offset))
move_found ns offset true e =
    let near : offset ≤ 8192 = leb-true offset 8192 (and_second (nat_le 1 offset) (nat_le offset 8192) e) in
    offset_found ns offset (enough offset near) ∙ ap (λ b. Some (items_texts ns (moves b offset))) e
move_found ns offset false e = refl

near_few : near_offsets ≤ 8193
unfolding near_offsets
near_few = let h : 8193 ≤ 8193 = omega arith in h

pub helpers_own : IsOwn beginning helpers 10000
helpers_own = record {
  names = both_begin beginning shared_helpers (numbered offset_helper near_offsets) refl (numbered_begin beginning offset_helper near_offsets (λ n. refl));
  few =
      let e : length (numbered offset_helper near_offsets) ≡ near_offsets = numbered_long offset_helper near_offsets in
      let f : length helpers ≡ length shared_helpers + length (numbered offset_helper near_offsets) = length-append shared_helpers (numbered offset_helper near_offsets) in
      let n : near_offsets ≤ 8193 = near_few in
      omega arith;
}

module _ (all : List NamedHelper) (w : IsWithin helpers all) where
  there_named : ItemNamed all there_item
  there_named = named_fill all helpers w (codes "h_mem_there") choice_site there_steps (λ ns. refl)

  moves_named : (b : Bool) (offset : ℕ) → ItemsNamed all (moves b offset)
  moves_named b offset = named_both all (steps_items (locate b offset)) (first there_item (steps_items move_steps)) (named_steps all (locate b offset)) (there_named, named_steps all move_steps)

  move_named : (cs : List Cond) (offset : ℕ) → ItemNamed all (call_when cs (move_name offset) (move_items offset))
  move_named cs offset ns = (w ns (move_name offset) (items_texts ns (move_items offset)) (move_found ns offset (is_told offset) refl), helpers_named all ns (move_items offset) (moves_named (is_told offset) offset))

  address_named : (sure : Bool) (a offset : ℕ) → ItemsNamed all (address_items sure a offset)
  address_named sure a offset =
      let moved : Items = first (call_when (beside_window offset) (move_name offset) (move_items offset)) (first (step_item (run_act (keep_site (filling_at (codes "i")) (codes "#i")))) no_more) in
      named_either all (nat_le no_offset offset) (steps_items lost_steps) (find_items sure a offset) (named_steps all lost_steps)
      (named_both all (steps_items (empty_steps sure)) (join (steps_items (start_steps a offset)) moved) (named_steps all (empty_steps sure))
      (named_both all (steps_items (start_steps a offset)) moved (named_steps all (start_steps a offset)) (move_named (beside_window offset) offset, (no_helper, tt))))

  -- ---- words

  word_named : ItemNamed all word_item
  word_named = named_fill all helpers w (codes "h_mem_word") filling_site (open_act (open_load_site (codes "#u") window_word) ∷ []) (λ ns. refl)

  next_named : ItemNamed all next_item
  next_named =
      named_call all helpers w (codes "h_mem_next") next_items (λ ns. refl)
      (named_both all (steps_items next_steps) (first over_item (first there_item (first (step_item missing_step) (first told_item no_more)))) (named_steps all next_steps) (
        named_call_when all helpers w is_over (codes "h_mem_over") (steps_items over_steps) (λ ns. refl) (named_steps all over_steps),
        (there_named, (no_helper, (named_fill all helpers w (codes "h_mem_told") choice_site (open_act (open_load_site (codes "#d") told_word) ∷ []) (λ ns. refl), tt))),
      ))

  second_named : ItemNamed all write_second
  second_named = named_fill_when all helpers w (is_calm ∷ []) (codes "h_mem_put_told") choice_site (open_act (open_keep_site told_word (codes "#d")) ∷ []) (λ ns. refl)

  first_named : ItemNamed all write_first
  first_named = named_fill_when all helpers w (is_calm ∷ []) (codes "h_mem_put_word") filling_site (open_act (open_keep_site window_word (codes "#u")) ∷ []) (λ ns. refl)

  -- ---- loads

  glued_named : ItemsNamed all glued_items
  glued_named = (next_named, (no_helper, (named_fill all helpers w (codes "h_mem_glue") filling_site glue_steps (λ ns. refl), tt)))

  over_named : ItemsNamed all half_over_items
  over_named = (word_named, (next_named, named_steps all pair_steps))

  over_s_named : ItemsNamed all half_over_s_items
  over_s_named = named_both all half_over_items (steps_items (sign_step ∷ [])) over_named (named_steps all (sign_step ∷ []))

  read_named : (op : LoadOp) → ItemsNamed all (access_items op)
  read_named I32Load = (word_named, (named_call_when all helpers w is_unaligned (codes "h_mem_load32") glued_items (λ ns. refl) glued_named, tt))
  read_named I32Load8S = (no_helper, (named_fill all helpers w (codes "h_mem_byte_s") filling_site byte_s_steps (λ ns. refl), tt))
  read_named I32Load8U = (no_helper, (named_fill all helpers w (codes "h_mem_byte_u") filling_site byte_u_steps (λ ns. refl), tt))
  read_named I32Load16S = (no_helper, (named_fill all helpers w (codes "h_mem_half_s") filling_site half_s_steps (λ ns. refl), (named_call_when all helpers w is_last (codes "h_mem_load16s") half_over_s_items (λ ns. refl) over_s_named, tt)))
  read_named I32Load16U = (no_helper, (named_fill all helpers w (codes "h_mem_half_u") filling_site half_u_steps (λ ns. refl), (named_call_when all helpers w is_last (codes "h_mem_load16u") half_over_items (λ ns. refl) over_named, tt)))
  read_named _ = tt

  pub load_named : (sure : Bool) (op : LoadOp) (a offset r : ℕ) → ItemsNamed all (load_items sure op a offset r)
  load_named sure op a offset r =
      let kept : Items = first (step_item stop_step) (first (step_item (run_act (keep_place r (codes "#u")))) no_more) in
      named_both all (address_items sure a offset) (join (access_items op) kept) (address_named sure a offset)
      (named_both all (access_items op) kept (read_named op) (no_helper, (no_helper, tt)))

  -- ---- stores

  across_named : ItemsNamed all across_items
  across_named = (word_named, (next_named, (no_helper, (named_fill all helpers w (codes "h_mem_spread") filling_site spread_steps (λ ns. refl), (second_named, (first_named, tt))))))

  halves_named : ItemsNamed all half_items
  halves_named = (named_fill all helpers w (codes "h_mem_change16") filling_site (change_steps 2) (λ ns. refl), (first_named, tt))

  halves_across_named : ItemsNamed all half_across_items
  halves_across_named =
      (word_named, (next_named, named_both all (steps_items half_over_steps) (first write_second (first write_first no_more)) (named_steps all half_over_steps) (second_named, (first_named, tt))))

  write_named : (op : StoreOp) → ItemsNamed all (write_items op)
  write_named I32Store = (
    named_fill all helpers w (codes "h_mem_put") filling_site (open_when (is_calm ∷ (holds (in_range at_r (exactly (pos 0))) ∷ [])) (open_keep_site window_word (codes "#s")) ∷ []) (λ ns. refl),
    (named_call_when all helpers w is_unaligned (codes "h_mem_store32") across_items (λ ns. refl) across_named, tt),
  )
  write_named I32Store8 = (no_helper, (named_fill all helpers w (codes "h_mem_change8") filling_site (change_steps 1) (λ ns. refl), (first_named, tt)))
  write_named I32Store16 = (
    no_helper,
    (
      named_call_when all helpers w not_last (codes "h_mem_store16") half_items (λ ns. refl) halves_named,
      (named_call_when all helpers w is_last (codes "h_mem_store16_over") half_across_items (λ ns. refl) halves_across_named, tt),
    ),
  )
  write_named _ = tt

  pub store_named : (sure : Bool) (op : StoreOp) (a offset v : ℕ) → ItemsNamed all (store_items sure op a offset v)
  store_named sure op a offset v =
      let stop : Items = first (step_item stop_step) no_more in
      named_both all (address_items sure a offset) (first (step_item (run_act (load_place (codes "#s") v))) (join (write_items op) stop)) (address_named sure a offset)
      (no_helper, named_both all (write_items op) stop (write_named op) (no_helper, tt))
