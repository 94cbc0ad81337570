-- Accesses to memory, and what grows it, name no score of the scheduler, have few ways out, and are as light as the table of
-- costs says.
use Rattle.std.proofs.Common.{◌≡◌, ℕ, suc, ◌+◌, ◌≤◌, ◌<◌, [], ◌∷◌, ◌++◌, Option, Some, None, Bool, true, false, refl, arith}
use Rattle.std.specs.Prelude.{if◌then◌else◌, nat_le, nat_eq, pos, negsuc, codes}
use Rattle.std.specs.List.{list_all}
use Rattle.mc_nbt.proofs.TestLemmas.{and_both}
use Rattle.mc_cmd.specs.Command.{subtract}
use Rattle.wm_ast.specs.declared.operation.LoadOp.{LoadOp}
use Rattle.wm_ast.specs.declared.operation.LoadOp.TheVariants.{I32Load, I32Load8S, I32Load8U, I32Load16S, I32Load16U, I64Load, I64Load8S, I64Load8U, I64Load16S, I64Load16U, I64Load32S, I64Load32U}
use Rattle.wm_ast.specs.declared.operation.StoreOp.{StoreOp}
use Rattle.wm_ast.specs.declared.operation.StoreOp.TheVariants.{I32Store, I32Store8, I32Store16, I64Store}
use Rattle.wm_ast.specs.Operation.{load_width, store_width}
use Rattle.cc_line.specs.Key.{score_window}
use Rattle.cc_line.specs.Place.{scratch}
use Rattle.cc_line.specs.Step.{set_spot, increase, decrease, combine, load_place, keep_site, run_act, when}
use Rattle.cc_line.specs.Item.{call_when, step_item, Items, no_more, first, join, steps_items}
use Rattle.cc_mem.specs.Address.{at_i, filling_at, stop_step, empty_steps, most_near, no_offset, is_told, lost_steps, add_steps, outside, unless_inside, far_steps, split_steps, start_steps, beside_window, take_steps, return_steps, again_steps, page_steps, locate_steps, there_item, move_steps, move_items, move_name, find_items, address_items}
use Rattle.cc_bulk.specs.Grow.{grow_items}
use Rattle.cc_mem.specs.Law.{AreLines}
use Rattle.cc_bulk.specs.Copy.{toward_steps, onward_steps, copy_byte_items}
use Rattle.cc_bulk.specs.Fill.{reach_items, more_steps, less_steps, fill_byte_items}
use Rattle.cc_mem.specs.Load.{access_items, load_items as load_word}
use Rattle.cc_mem.specs.Size.{size_items}
use Rattle.cc_mem.specs.Store.{write_items, store_items as store_word}
use Rattle.cc_bulk.proofs.GrowLines.{grows_lines}
use Rattle.cc_bulk.proofs.FillLines.{reaches_lines, fills_lines, copies_lines}
use Rattle.cc_mem.proofs.Lines.{sizes_are_lines}
use Rattle.cc_access.specs.Access.{next_offset, high_steps, before_load, load_items, low_load, low_store, store_items}
use Rattle.cc_access.specs.Known.{word_steps, high_word, known_load, put_steps, high_put, known_store, known_address, loads_at, loads_by, stores_at, stores_by}
use Rattle.cc_access.specs.Law.{load_most, store_most}
use Rattle.cc_cut.specs.Cost.{load_cost, store_cost}
use Rattle.cc_pieces.proofs.Weights.{is_meek, Meek, steps_meek, join_meek, Sound, meek_sound}
use Rattle.cc_body.proofs.NumberLines.{NumbersAreLines}
use Rattle.cc_body.proofs.OperationWeights.{both_meek}

-- with more ways out
more_meek : (n : ℕ) (xs : Items) → Meek 0 xs → Meek n xs
more_meek n xs m = let f = m.few in record { avoids = m.avoids; few = omega arith }

-- ---- addresses

far_meek : (offset : ℕ) → list_all is_meek (far_steps offset) ≡ true
far_meek offset = go (nat_le offset most_near)
  where
    go : (b : Bool) → list_all is_meek (if b then [] else when outside (set_spot at_i (negsuc 33554431)) ∷ []) ≡ true
    go true = refl
    go false = refl

add_meek : (offset : ℕ) → list_all is_meek (add_steps offset) ≡ true
add_meek offset = go (nat_eq offset 0)
  where
    go : (b : Bool) → list_all is_meek (if b then [] else run_act (increase at_i offset) ∷ []) ≡ true
    go true = refl
    go false = refl

start_meek : (a offset : ℕ) → Meek 0 (steps_items (start_steps a offset))
start_meek a offset =
    steps_meek (start_steps a offset)
    (both_meek (far_steps offset) (run_act (combine at_i subtract (scratch score_window)) ∷ (add_steps offset ++ split_steps)) (far_meek offset) (both_meek (add_steps offset) split_steps (add_meek offset) refl))

-- the offset of a helper that moves the window
take_meek : (offset : ℕ) → list_all is_meek (take_steps offset) ≡ true
take_meek offset = go (is_told offset)
  where
    go : (b : Bool) → list_all is_meek (if b then run_act (decrease at_i offset) ∷ [] else []) ≡ true
    go true = refl
    go false = refl

return_meek : (offset : ℕ) → list_all is_meek (return_steps offset) ≡ true
return_meek offset = go (is_told offset)
  where
    go : (b : Bool) → list_all is_meek (if b then run_act (increase at_i offset) ∷ [] else []) ≡ true
    go true = refl
    go false = refl

locate_meek : (offset : ℕ) → list_all is_meek (locate_steps offset) ≡ true
locate_meek offset =
    both_meek (again_steps offset) (split_steps ++ page_steps) (both_meek (take_steps offset) (unless_inside (pos no_offset) ∷ return_steps offset) (take_meek offset) (return_meek offset)) refl

move_meek : (offset : ℕ) → Meek 0 (move_items offset)
move_meek offset =
    join_meek 0 0 (steps_items (locate_steps offset)) (first there_item (steps_items move_steps)) (steps_meek (locate_steps offset) (locate_meek offset)) (record { avoids = refl; few = omega arith })

-- the page may have to become the window
reach_meek : (offset : ℕ)
    → Meek 0 (first (call_when (beside_window offset) (move_name offset) (move_items offset)) (first (step_item (run_act (keep_site (filling_at (codes "i")) (codes "#i")))) no_more))
reach_meek offset = record { avoids = and_both _ _ (move_meek offset).avoids refl; few = omega arith }

empty_meek : (sure : Bool) → Meek 1 (steps_items (empty_steps sure))
empty_meek true = record { avoids = refl; few = omega arith }
empty_meek false = record { avoids = refl; few = omega arith }

find_meek : (sure : Bool) (a offset : ℕ) → Meek 1 (find_items sure a offset)
find_meek sure a offset =
    join_meek 1 0 (steps_items (empty_steps sure)) _ (empty_meek sure)
    (join_meek 0 0 (steps_items (start_steps a offset)) _ (start_meek a offset) (reach_meek offset))

address_meek : (sure : Bool) (a offset : ℕ) → Meek 1 (address_items sure a offset)
address_meek sure a offset = go (nat_le no_offset offset)
  where
    go : (b : Bool) → Meek 1 (if b then steps_items lost_steps else find_items sure a offset)
    go true = record { avoids = refl; few = omega arith }
    go false = find_meek sure a offset

-- ---- accesses

access_meek : (op : LoadOp) → Meek 0 (access_items op)
access_meek I32Load = record { avoids = refl; few = omega arith }
access_meek I32Load8S = record { avoids = refl; few = omega arith }
access_meek I32Load8U = record { avoids = refl; few = omega arith }
access_meek I32Load16S = record { avoids = refl; few = omega arith }
access_meek I32Load16U = record { avoids = refl; few = omega arith }
access_meek op = record { avoids = refl; few = omega arith }

load_word_meek : (sure : Bool) (op : LoadOp) (a offset r : ℕ) → Meek 2 (load_word sure op a offset r)
load_word_meek sure op a offset r =
    join_meek 1 1 (address_items sure a offset) _ (address_meek sure a offset)
    (join_meek 0 1 (access_items op) _ (access_meek op) (record { avoids = refl; few = omega arith }))

write_meek : (op : StoreOp) → Meek 0 (write_items op)
write_meek I32Store = record { avoids = refl; few = omega arith }
write_meek I32Store8 = record { avoids = refl; few = omega arith }
write_meek I32Store16 = record { avoids = refl; few = omega arith }
write_meek op = record { avoids = refl; few = omega arith }

-- the value is brought, written where no trap is recorded, and the list ends where one is
put_meek : (op : StoreOp) (v : ℕ) → Meek 1 (first (step_item (run_act (load_place (codes "#s") v))) (join (write_items op) (first (step_item stop_step) no_more)))
put_meek op v =
    join_meek 0 1 (first (step_item (run_act (load_place (codes "#s") v))) no_more) (join (write_items op) (first (step_item stop_step) no_more)) (record { avoids = refl; few = omega arith })
    (join_meek 0 1 (write_items op) (first (step_item stop_step) no_more) (write_meek op) (record { avoids = refl; few = omega arith }))

store_word_meek : (sure : Bool) (op : StoreOp) (a offset v : ℕ) → Meek 2 (store_word sure op a offset v)
store_word_meek sure op a offset v = join_meek 1 1 (address_items sure a offset) _ (address_meek sure a offset) (put_meek op v)

-- ---- accesses of all widths

-- what goes before a load, and what follows it
before_load_meek : (sure : Bool) (op : LoadOp) (a offset : ℕ) → Meek 2 (before_load sure op a offset)
before_load_meek sure I64Load a offset = load_word_meek sure I32Load a (next_offset offset) (suc a)
before_load_meek sure op a offset = record { avoids = refl; few = omega arith }

high_meek : (op : LoadOp) (a : ℕ) → Meek 0 (steps_items (high_steps op a))
high_meek I64Load8S a = record { avoids = refl; few = omega arith }
high_meek I64Load16S a = record { avoids = refl; few = omega arith }
high_meek I64Load32S a = record { avoids = refl; few = omega arith }
high_meek I64Load8U a = record { avoids = refl; few = omega arith }
high_meek I64Load16U a = record { avoids = refl; few = omega arith }
high_meek I64Load32U a = record { avoids = refl; few = omega arith }
high_meek op a = record { avoids = refl; few = omega arith }

load_meek : (sure : Bool) (op : LoadOp) (a offset : ℕ) → Meek 4 (load_items sure op a offset)
load_meek sure op a offset =
    join_meek 2 2 (before_load sure op a offset) _ (before_load_meek sure op a offset)
    (join_meek 2 0 (load_word sure (low_load op) a offset a) (steps_items (high_steps op a)) (load_word_meek sure (low_load op) a offset a) (high_meek op a))

-- at a known address there is no way out
word_meek : (op : LoadOp) (address r : ℕ) → Meek 0 (steps_items (word_steps op address r))
word_meek I32Load8U address r = record { avoids = refl; few = omega arith }
word_meek I32Load8S address r = record { avoids = refl; few = omega arith }
word_meek I32Load16U address r = record { avoids = refl; few = omega arith }
word_meek I32Load16S address r = record { avoids = refl; few = omega arith }
word_meek op address r = record { avoids = refl; few = omega arith }

high_word_meek : (op : LoadOp) (address a : ℕ) → Meek 0 (high_word op address a)
high_word_meek I64Load address a = word_meek I32Load (address + 4) (suc a)
high_word_meek op address a = record { avoids = refl; few = omega arith }

known_load_meek : (op : LoadOp) (address a : ℕ) → Meek 0 (known_load op address a)
known_load_meek op address a =
    join_meek 0 0 (high_word op address a) _ (high_word_meek op address a)
    (join_meek 0 0 (steps_items (word_steps (low_load op) address a)) (steps_items (high_steps op a)) (word_meek (low_load op) address a) (high_meek op a))

loads_meek : (least : ℕ) (known : Option ℕ) (sure : Bool) (op : LoadOp) (a offset : ℕ) → Meek 4 (loads_by least known sure op a offset)
loads_meek least known sure op a offset = by (known_address least (load_width op) known offset)
  where
    by : (o : Option ℕ) → Meek 4 (loads_at o sure op a offset)
    by None = load_meek sure op a offset
    by (Some address) = more_meek 4 (known_load op address a) (known_load_meek op address a)

load_costs : (op : LoadOp) → load_most op + 4 ≤ load_cost op
load_costs I64Load = omega arith
load_costs I64Load8S = omega arith
load_costs I64Load16S = omega arith
load_costs I64Load32S = omega arith
load_costs I64Load8U = omega arith
load_costs I64Load16U = omega arith
load_costs I64Load32U = omega arith
load_costs op = omega arith

-- how many ways out a store has
abbrev store_ways : StoreOp → ℕ
store_ways I64Store = 4
store_ways _ = 2

store_meek : (sure : Bool) (op : StoreOp) (a offset : ℕ) → Meek (store_ways op) (store_items sure op a offset)
store_meek sure I64Store a offset =
    join_meek 2 2 (store_word sure I32Store a (next_offset offset) (suc (suc a))) (store_word sure I32Store a offset (suc a)) (store_word_meek sure I32Store a (next_offset offset) (suc (suc a)))
    (store_word_meek sure I32Store a offset (suc a))
store_meek sure op a offset = store_word_meek sure (low_store op) a offset (suc a)

-- at a known address
put_steps_meek : (op : StoreOp) (address v : ℕ) → Meek 0 (steps_items (put_steps op address v))
put_steps_meek I32Store8 address v = record { avoids = refl; few = omega arith }
put_steps_meek I32Store16 address v = record { avoids = refl; few = omega arith }
put_steps_meek op address v = record { avoids = refl; few = omega arith }

high_put_meek : (op : StoreOp) (address v : ℕ) → Meek 0 (high_put op address v)
high_put_meek I64Store address v = put_steps_meek I32Store (address + 4) (suc v)
high_put_meek op address v = record { avoids = refl; few = omega arith }

known_store_meek : (op : StoreOp) (address a : ℕ) → Meek 0 (known_store op address a)
known_store_meek op address a =
    join_meek 0 0 (high_put op address (suc a)) (steps_items (put_steps (low_store op) address (suc a))) (high_put_meek op address (suc a)) (put_steps_meek (low_store op) address (suc a))

stores_meek : (least : ℕ) (known : Option ℕ) (sure : Bool) (op : StoreOp) (a offset : ℕ) → Meek (store_ways op) (stores_by least known sure op a offset)
stores_meek least known sure op a offset = by (known_address least (store_width op) known offset)
  where
    by : (o : Option ℕ) → Meek (store_ways op) (stores_at o sure op a offset)
    by None = store_meek sure op a offset
    by (Some address) = more_meek (store_ways op) (known_store op address a) (known_store_meek op address a)

store_costs : (op : StoreOp) → store_most op + store_ways op ≤ store_cost op
store_costs I64Store = omega arith
store_costs op = omega arith

-- ---- weights

-- with the charges of the ways out to a trap
module _ (lines : NumbersAreLines) where
  pub load_sound : (least : ℕ) (known : Option ℕ) (sure : Bool) (op : LoadOp) (a offset : ℕ) → a + 1 < 2147483648 → Sound (load_cost op) (loads_by least known sure op a offset)
  load_sound least known sure op a offset h =
      let x : AreLines (loads_by least known sure op a offset) (load_most op) = lines.loads least known sure op a offset h in
      meek_sound 4 (load_most op) (load_cost op) (loads_by least known sure op a offset) x.fits (loads_meek least known sure op a offset) x.weigh (load_costs op)

  pub store_sound : (least : ℕ) (known : Option ℕ) (sure : Bool) (op : StoreOp) (a offset : ℕ) → a + 2 < 2147483648 → Sound (store_cost op) (stores_by least known sure op a offset)
  store_sound least known sure op a offset h =
      let x : AreLines (stores_by least known sure op a offset) (store_most op) = lines.stores least known sure op a offset h in
      meek_sound (store_ways op) (store_most op) (store_cost op) (stores_by least known sure op a offset) x.fits (stores_meek least known sure op a offset) x.weigh (store_costs op)

pub size_sound : (r : ℕ) → r < 2147483648 → Sound 4 (size_items r)
size_sound r l =
    let x : AreLines (size_items r) 4 = sizes_are_lines r l in
    meek_sound 0 4 4 (size_items r) x.fits (record { avoids = refl; few = omega arith }) x.weigh (omega arith)

-- the step that grows it, and the piece that appends pages
pub grow_sound : (most a : ℕ) → most < 2147483648 → a < 2147483648 → Sound 14 (grow_items most a)
grow_sound most a h l =
    let x : AreLines (grow_items most a) 14 = grows_lines most a h l in
    meek_sound 0 14 14 (grow_items most a) x.fits (record { avoids = refl; few = omega arith }) x.weigh (omega arith)

-- ---- bytes of fills and copies

pub reach_sound : (a n : ℕ) → a < 2147483648 → n < 2147483648 → Sound 17 (reach_items a n)
reach_sound a n h l =
    let x : AreLines (reach_items a n) 16 = reaches_lines a n h l in
    meek_sound 1 16 17 (reach_items a n) x.fits (record { avoids = refl; few = omega arith }) x.weigh (omega arith)

pub fill_byte_sound : (sure : Bool) (p q r : ℕ) → p < 2147483648 → q < 2147483648 → r < 2147483648 → Sound 77 (fill_byte_items sure p q r)
fill_byte_sound sure p q r h k l =
    let x : AreLines (fill_byte_items sure p q r) 75 = fills_lines sure p q r h k l in
    meek_sound 2 75 77 (fill_byte_items sure p q r) x.fits
    (join_meek 2 0 (store_word sure I32Store8 p 0 q) (steps_items (more_steps p ++ less_steps r)) (store_word_meek sure I32Store8 p 0 q) (record { avoids = refl; few = omega arith })) x.weigh (omega arith)

pub copy_byte_sound : (sure : Bool) (p q r : ℕ) → p < 2147483648 → q < 2147483648 → r < 2147483648 → Sound 161 (copy_byte_items sure p q r)
copy_byte_sound sure p q r h k l =
    let x : AreLines (copy_byte_items sure p q r) 157 = copies_lines sure p q r h k l in
    meek_sound 4 157 161 (copy_byte_items sure p q r) x.fits
    (join_meek 0 4 (steps_items (toward_steps p q r)) _ (record { avoids = refl; few = omega arith })
    (join_meek 2 2 (load_word sure I32Load8U q 0 r) _ (load_word_meek sure I32Load8U q 0 r)
    (join_meek 2 0 (store_word sure I32Store8 p 0 r) (steps_items (onward_steps p q r)) (store_word_meek sure I32Store8 p 0 r) (record { avoids = refl; few = omega arith })))) x.weigh (omega arith)
