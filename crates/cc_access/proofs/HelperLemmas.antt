-- The helpers that loads and stores call have names of the list of `cc_mem`.
use Rattle.std.proofs.Common.{ℕ, suc, ◌+◌, List, Bool, Option, Some, None}
use Rattle.wm_ast.specs.declared.operation.LoadOp.{LoadOp}
use Rattle.wm_ast.specs.declared.operation.LoadOp.TheVariants.{I32Load, I64Load}
use Rattle.wm_ast.specs.declared.operation.StoreOp.{StoreOp}
use Rattle.wm_ast.specs.declared.operation.StoreOp.TheVariants.{I32Store, I64Store}
use Rattle.wm_ast.specs.Operation.{load_width, store_width}
use Rattle.cc_line.specs.Item.{Items, join, steps_items}
use Rattle.cc_line.specs.Step.{Step}
use Rattle.cc_text.specs.Tables.{IsWithin, ItemsNamed, NamedHelper}
use Rattle.cc_text.proofs.NamedItems.{named_both, named_steps}
use Rattle.cc_mem.specs.Helpers.{helpers}
use Rattle.cc_mem.specs.Load as words
use Rattle.cc_mem.specs.Store as words_kept
use Rattle.cc_mem.proofs.HelperLemmas as word_helpers
use Rattle.cc_access.specs.Access.{before_load, before_store, high_steps, load_items, low_load, low_store, next_offset, store_items}
use Rattle.cc_access.specs.Known.{high_put, high_word, known_address, loads_at, loads_by, put_steps, stores_at, stores_by, word_steps}

module _ (all : List NamedHelper) (w : IsWithin helpers all) where
  load_word : (sure : Bool) (op : LoadOp) (a offset r : ℕ) → ItemsNamed all (words.load_items sure op a offset r)
  load_word sure op a offset r = word_helpers.load_named all w sure op a offset r

  store_word : (sure : Bool) (op : StoreOp) (a offset v : ℕ) → ItemsNamed all (words_kept.store_items sure op a offset v)
  store_word sure op a offset v = word_helpers.store_named all w sure op a offset v

  before_load_named : (sure : Bool) (op : LoadOp) (a offset : ℕ) → ItemsNamed all (before_load sure op a offset)
  before_load_named sure I64Load a offset = load_word sure I32Load a (next_offset offset) (suc a)
  before_load_named sure _ a offset = tt

  load_named : (sure : Bool) (op : LoadOp) (a offset : ℕ) → ItemsNamed all (load_items sure op a offset)
  load_named sure op a offset =
      let low : Items = words.load_items sure (low_load op) a offset a in
      named_both all (before_load sure op a offset) (join low (steps_items (high_steps op a))) (before_load_named sure op a offset)
      (named_both all low (steps_items (high_steps op a)) (load_word sure (low_load op) a offset a) (named_steps all (high_steps op a)))

  before_store_named : (sure : Bool) (op : StoreOp) (a offset : ℕ) → ItemsNamed all (before_store sure op a offset)
  before_store_named sure I64Store a offset = store_word sure I32Store a (next_offset offset) (suc (suc a))
  before_store_named sure _ a offset = tt

  store_named : (sure : Bool) (op : StoreOp) (a offset : ℕ) → ItemsNamed all (store_items sure op a offset)
  store_named sure op a offset =
      named_both all (before_store sure op a offset) (words_kept.store_items sure (low_store op) a offset (suc a)) (before_store_named sure op a offset)
      (store_word sure (low_store op) a offset (suc a))

  -- at a known address there are steps alone
  high_word_named : (op : LoadOp) (address a : ℕ) → ItemsNamed all (high_word op address a)
  high_word_named I64Load address a = named_steps all (word_steps I32Load (address + 4) (suc a))
  high_word_named _ address a = tt

  loads_at_named : (o : Option ℕ) (sure : Bool) (op : LoadOp) (a offset : ℕ) → ItemsNamed all (loads_at o sure op a offset)
  loads_at_named None sure op a offset = load_named sure op a offset
  loads_at_named (Some address) sure op a offset =
      let low : List Step = word_steps (low_load op) address a in
      named_both all (high_word op address a) (join (steps_items low) (steps_items (high_steps op a))) (high_word_named op address a)
      (named_both all (steps_items low) (steps_items (high_steps op a)) (named_steps all low) (named_steps all (high_steps op a)))

  pub loads_named : (least : ℕ) (known : Option ℕ) (sure : Bool) (op : LoadOp) (a offset : ℕ) → ItemsNamed all (loads_by least known sure op a offset)
  loads_named least known sure op a offset = loads_at_named (known_address least (load_width op) known offset) sure op a offset

  high_put_named : (op : StoreOp) (address v : ℕ) → ItemsNamed all (high_put op address v)
  high_put_named I64Store address v = named_steps all (put_steps I32Store (address + 4) (suc v))
  high_put_named _ address v = tt

  stores_at_named : (o : Option ℕ) (sure : Bool) (op : StoreOp) (a offset : ℕ) → ItemsNamed all (stores_at o sure op a offset)
  stores_at_named None sure op a offset = store_named sure op a offset
  stores_at_named (Some address) sure op a offset =
      let low : List Step = put_steps (low_store op) address (suc a) in
      named_both all (high_put op address (suc a)) (steps_items low) (high_put_named op address (suc a)) (named_steps all low)

  pub stores_named : (least : ℕ) (known : Option ℕ) (sure : Bool) (op : StoreOp) (a offset : ℕ) → ItemsNamed all (stores_by least known sure op a offset)
  stores_named least known sure op a offset = stores_at_named (known_address least (store_width op) known offset) sure op a offset
