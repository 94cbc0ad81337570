-- The items of loads and stores of all widths are short, whether their address is known or not.
use Rattle.std.proofs.Common.{◌≡◌, ℕ, suc, Option, Some, None, Bool, true, refl}
use Rattle.wm_ast.specs.declared.operation.LoadOp.{LoadOp}
use Rattle.wm_ast.specs.declared.operation.LoadOp.TheVariants.{I32Load, I32Load8S, I32Load8U, I32Load16S, I32Load16U}
use Rattle.wm_ast.specs.declared.operation.LoadOp.TheVariants.{I64Load, I64Load8S, I64Load8U, I64Load16S, I64Load16U, I64Load32S, I64Load32U}
use Rattle.wm_ast.specs.declared.operation.StoreOp.{StoreOp}
use Rattle.wm_ast.specs.declared.operation.StoreOp.TheVariants.{I32Store, I32Store8, I32Store16, I64Store}
use Rattle.wm_ast.specs.Operation.{load_width, store_width}
use Rattle.cc_line.specs.Item.{Items, join, steps_items}
use Rattle.cc_text.specs.Short.{items_short}
use Rattle.cc_text.proofs.ShortItems.{short_join}
use Rattle.cc_mem.specs.Load.{load_items as load_word}
use Rattle.cc_mem.specs.Store.{store_items as store_word}
use Rattle.cc_mem.proofs.ShortAccesses.{load_short as load_word_short, store_short as store_word_short}
use Rattle.cc_access.specs.Access.{before_load, before_store, high_steps, load_items, low_load, low_store, next_offset, store_items}
use Rattle.cc_access.specs.Known.{high_put, high_word, known_address, known_load, known_store, loads_at, loads_by, put_steps, stores_at, stores_by, word_steps}

high_short : (op : LoadOp) (a : ℕ) → items_short (steps_items (high_steps op a)) ≡ true
high_short I64Load8S a = refl
high_short I64Load16S a = refl
high_short I64Load32S a = refl
high_short I64Load8U a = refl
high_short I64Load16U a = refl
high_short I64Load32U a = refl
high_short _ a = refl

before_load_short : (sure : Bool) (op : LoadOp) (a offset : ℕ) → items_short (before_load sure op a offset) ≡ true
before_load_short sure I64Load a offset = load_word_short sure I32Load a (next_offset offset) (suc a)
before_load_short sure _ a offset = refl

pub load_items_short : (sure : Bool) (op : LoadOp) (a offset : ℕ) → items_short (load_items sure op a offset) ≡ true
load_items_short sure op a offset =
    let low : Items = load_word sure (low_load op) a offset a in
    short_join (before_load sure op a offset) (join low (steps_items (high_steps op a))) (before_load_short sure op a offset)
    (short_join low (steps_items (high_steps op a)) (load_word_short sure (low_load op) a offset a) (high_short op a))

before_store_short : (sure : Bool) (op : StoreOp) (a offset : ℕ) → items_short (before_store sure op a offset) ≡ true
before_store_short sure I64Store a offset = store_word_short sure I32Store a (next_offset offset) (suc (suc a))
before_store_short sure _ a offset = refl

pub store_items_short : (sure : Bool) (op : StoreOp) (a offset : ℕ) → items_short (store_items sure op a offset) ≡ true
store_items_short sure op a offset =
    let low : Items = store_word sure (low_store op) a offset (suc a) in
    short_join (before_store sure op a offset) low (before_store_short sure op a offset) (store_word_short sure (low_store op) a offset (suc a))

-- ---- at a known address

word_short : (op : LoadOp) (address r : ℕ) → items_short (steps_items (word_steps op address r)) ≡ true
word_short I32Load8U address r = refl
word_short I32Load8S address r = refl
word_short I32Load16U address r = refl
word_short I32Load16S address r = refl
word_short _ address r = refl

high_word_short : (op : LoadOp) (address a : ℕ) → items_short (high_word op address a) ≡ true
high_word_short I64Load address a = refl
high_word_short _ address a = refl

known_load_short : (op : LoadOp) (address a : ℕ) → items_short (known_load op address a) ≡ true
known_load_short op address a =
    let low : Items = steps_items (word_steps (low_load op) address a) in
    short_join (high_word op address a) (join low (steps_items (high_steps op a))) (high_word_short op address a)
    (short_join low (steps_items (high_steps op a)) (word_short (low_load op) address a) (high_short op a))

pub loads_short : (least : ℕ) (known : Option ℕ) (sure : Bool) (op : LoadOp) (a offset : ℕ) → items_short (loads_by least known sure op a offset) ≡ true
loads_short least known sure op a offset = go (known_address least (load_width op) known offset)
  where
    go : (o : Option ℕ) → items_short (loads_at o sure op a offset) ≡ true
    go None = load_items_short sure op a offset
    go (Some address) = known_load_short op address a

put_steps_short : (op : StoreOp) (address v : ℕ) → items_short (steps_items (put_steps op address v)) ≡ true
put_steps_short I32Store8 address v = refl
put_steps_short I32Store16 address v = refl
put_steps_short _ address v = refl

high_put_short : (op : StoreOp) (address v : ℕ) → items_short (high_put op address v) ≡ true
high_put_short I64Store address v = refl
high_put_short _ address v = refl

known_store_short : (op : StoreOp) (address a : ℕ) → items_short (known_store op address a) ≡ true
known_store_short op address a =
    short_join (high_put op address (suc a)) (steps_items (put_steps (low_store op) address (suc a))) (high_put_short op address (suc a)) (put_steps_short (low_store op) address (suc a))

pub stores_short : (least : ℕ) (known : Option ℕ) (sure : Bool) (op : StoreOp) (a offset : ℕ) → items_short (stores_by least known sure op a offset) ≡ true
stores_short least known sure op a offset = go (known_address least (store_width op) known offset)
  where
    go : (o : Option ℕ) → items_short (stores_at o sure op a offset) ≡ true
    go None = store_items_short sure op a offset
    go (Some address) = known_store_short op address a
