-- What the example does: its start function ends, and so does the call of its export.
use Rattle.std.proofs.Common.{◌≡◌, ℕ, zero, suc, ◌≤◌, ◌*◌, List, [], ◌∷◌, ◌++◌, length, drop, replicate, false, Some, None, pos, refl, sym, ap, subst, ◌∙◌, arith, lit≤, length-drop, inl, inr, ◌⊎◌}
use Rattle.std.specs.Prelude.{slice_get, nat_lt}
use Rattle.std.proofs.lemmas.Bool.{le-ltb}
use Rattle.std.proofs.lemmas.List.{length-replicate}
use Rattle.mc_nbt.specs.declared.value.Value.{Value}
use Rattle.mc_nbt.specs.declared.value.Value.TheVariants as values
use Rattle.wm_ast.specs.declared.answer.TrapKind.TheVariants.{Unreachable}
use Rattle.wm_ast.specs.declared.module.Limits.{Limits}
use Rattle.wm_ast.specs.declared.module.Module.{Module}
use Rattle.wm_ast.specs.declared.operation.LoadOp.TheVariants.{I64Load}
use Rattle.wm_ast.specs.declared.operation.StoreOp.TheVariants.{I64Store}
use Rattle.wm_ast.specs.After.{after, settled_by, settled, one_more, IsNext}
use Rattle.wm_ast.specs.Code.{Op, store, load, loop, br, nil, cons}
use Rattle.wm_ast.specs.Configuration.{Config, Item, Items, value, instruction, frame, label, more, empty, items_of}
use Rattle.wm_ast.specs.Simple.{Executed, done, simple}
use Rattle.wm_ast.specs.Instance.{first_config, first_store, call_config, zeros}
use Rattle.wm_ast.specs.Step.{Reduct, Progress, Next, Ended, Trapped, progress, go_on, at_frame, at_label, effect_of}
use Rattle.wm_ast.specs.Store.{Store, items_at}
use Rattle.witness.specs.Example.{Bodies, bodies, module_of, example, dying, code, run, initial, one}
use Rattle.witness.proofs.Seen.{AreSeen, are_seen}

-- the store before and after the start function, with these bytes behind those of the data segment
abbrev store_with : ℕ → List ℕ → Store
store_with global rest = record { globals = values.I64 (pos global) ∷ []; memory = initial ++ rest; table = Some 1 ∷ [] }

-- the bytes of 301
abbrev written : List ℕ
written = 45 ∷ 1 ∷ 0 ∷ 0 ∷ 0 ∷ 0 ∷ 0 ∷ 0 ∷ []

module _ (begin : ℕ) (b : Bodies) (e : AreSeen b) (memories : List Limits) where
  -- whatever the memories are
  abbrev m : Module
  m = record (module_of begin b) { mems = memories }

  starts_with : first_store m ≡ store_with 1 (drop 8 (zeros (slice_get memories 0)))
  starts_with = rw (e.first, e.offset) refl

  abbrev longs : ℕ → List Value
  longs n = values.I64 (pos n) ∷ []

  abbrev held : ℕ → Item
  held n = value (values.I64 (pos n))

  -- in the frame of a call with 301, with these items left of its body
  abbrev inside : Store → Items → Config
  inside s is = record { store = s; term = more (frame 1 0 (longs 301) (more (label 1 nil is) empty)) empty }

  -- what such a term comes to, by what its next instruction does, with these items behind that
  abbrev reduced : Store → Op → Items → Executed → Reduct
  reduced s op is x = go_on empty (at_frame s [] 1 0 [] (go_on empty (at_label s (longs 301) 1 nil [] (go_on is (effect_of (longs 301) op x)))))

  -- it goes on
  abbrev goes : Store → Items → Op → Items → Executed → Progress
  goes s all op is x = settled_by (inside s all) (reduced s op is x)

  -- one step more
  abbrev around : Store → Op → Items → Executed → Progress
  around s op is x = settled m (progress s (reduced s op is x))

  abbrev behind : ℕ → Items
  behind n = items_of (code (drop n run))

  -- so many steps more
  abbrev further : ℕ → Progress → Progress
  further zero p = p
  further (suc n) p = one_more m (further n p)

  module _ (rest : List ℕ) (f : nat_lt (length (initial ++ rest)) 16 ≡ false) (h : nat_lt (length (initial ++ (written ++ drop 8 rest))) 16 ≡ false) (k : nat_lt (length (initial ++ (written ++ drop 8 rest))) 8 ≡ false) where
    abbrev before_it : Store
    before_it = store_with 2 rest

    abbrev after_it : Store
    after_it = store_with 2 (written ++ drop 8 rest)

    abbrev begun : Config
    begun = call_config before_it 0 (longs 301)

    stores_it : simple m before_it (longs 301) (store I64Store 3 0) (values.I64 (pos 301) ∷ values.I32 (pos 8) ∷ []) ≡ done after_it (longs 301) []
    stores_it = rw f refl

    loads_first : simple m after_it (longs 301) (load I64Load 3 0) (values.I32 (pos 0) ∷ []) ≡ done after_it (longs 301) (longs 35)
    loads_first = rw (k, items_at) refl

    loads_it : simple m after_it (longs 301) (load I64Load 3 0) (values.I32 (pos 8) ∷ values.I64 (pos 35) ∷ []) ≡ done after_it (longs 301) (values.I64 (pos 301) ∷ values.I64 (pos 35) ∷ [])
    loads_it = rw (h, items_at) refl

    abbrev stores : Op
    stores = store I64Store 3 0

    abbrev loads : Op
    loads = load I64Load 3 0

    abbrev entered : Items
    entered = more (value (values.I32 (pos 8))) (more (held 301) (behind 2))

    enters : after m begun 2 ≡ Next (inside before_it entered)
    enters = rw e.run (ap (goes before_it entered stores (behind 3)) stores_it)

    stored : after m begun 3 ≡ Next (inside after_it (behind 3))
    stored = ap (one_more m) enters ∙ (ap (around before_it stores (behind 3)) stores_it ∙ ap (goes after_it (behind 3) loads (behind 5)) loads_first)

    loaded_first : after m begun 4 ≡ Next (inside after_it (more (held 35) (behind 5)))
    loaded_first = ap (one_more m) stored ∙ (ap (around after_it loads (behind 5)) loads_first ∙ ap (goes after_it (more (held 35) (behind 5)) loads (behind 7)) loads_it)

    loaded_it : after m begun 5 ≡ Next (inside after_it (more (held 35) (more (held 301) (behind 7))))
    loaded_it = ap (one_more m) loaded_first ∙ ap (around after_it loads (behind 7)) loads_it

    goes_on : (s : Config) → after m s 47 ≡ further 42 (after m s 5)
    goes_on s = refl

    computes : further 42 (Next (inside after_it (more (held 35) (more (held 301) (behind 7))))) ≡ Ended (longs 70) after_it
    computes = rw (e.lower, e.lower) refl

    run_ends : after m begun 47 ≡ Ended (longs 70) after_it
    run_ends = goes_on begun ∙ (ap (further 42) loaded_it ∙ computes)

module _ (b : Bodies) (e : AreSeen b) (memories : List Limits) where
  abbrev rest_of : List ℕ
  rest_of = drop 8 (zeros (slice_get memories 0))

  start_ends : (rest : List ℕ) → after (m 2 b e memories) (record (first_config (m 2 b e memories)) { store = store_with 1 rest }) 4 ≡ Ended [] (store_with 2 rest)
  start_ends rest = rw e.start refl

  first_ends : after (m 2 b e memories) (first_config (m 2 b e memories)) 4 ≡ Ended [] (store_with 2 rest_of)
  first_ends =
      subst (λ (s : Store). after (m 2 b e memories) (record (first_config (m 2 b e memories)) { store = s }) 4 ≡ Ended [] (store_with 2 rest_of))
      (sym (starts_with 2 b e memories)) (start_ends rest_of)

  fail_traps : (s : Store) → after (m 4 b e memories) (record (first_config (m 4 b e memories)) { store = s }) 2 ≡ Trapped Unreachable s
  fail_traps s = rw e.fail refl

  call_traps : (s : Store) → after (m 2 b e memories) (call_config s 4 []) 2 ≡ Trapped Unreachable s
  call_traps s = rw e.fail refl

  -- a loop that branches to its own beginning
  abbrev spinning : Op
  spinning = loop None (code (br 0 ∷ []))

  abbrev before_loop : Store → Config
  before_loop s = record { store = s; term = more (frame 0 3 [] (more (label 0 nil (more (instruction spinning) empty)) empty)) empty }

  abbrev in_loop : Store → Config
  in_loop s = record { store = s; term = more (frame 0 3 [] (more (label 0 nil (more (label 0 (cons spinning nil) (more (instruction (br 0)) empty)) empty)) empty)) empty }

  spins : (s : Store) (n : ℕ) → (after (m 2 b e memories) (call_config s 3 []) (suc n) ≡ Next (before_loop s)) ⊎ (after (m 2 b e memories) (call_config s 3 []) (suc n) ≡ Next (in_loop s))
  spins s zero = inl (rw e.spin refl)
  spins s (suc n) = elim (spins s n) [ inl is ↦ inr (ap (one_more (m 2 b e memories)) is) | inr is ↦ inl (ap (one_more (m 2 b e memories)) is) ]

  goes_on_for_ever : (s : Store) (n : ℕ) → IsNext (after (m 2 b e memories) (call_config s 3 []) n)
  goes_on_for_ever s zero = tt
  goes_on_for_ever s (suc n) = elim (spins s n) [ inl is ↦ subst IsNext (sym is) tt | inr is ↦ subst IsNext (sym is) tt ]

-- the bytes behind those of the data segment
others : List ℕ
others = drop 8 (zeros (slice_get (one ∷ []) 0))

others_long : 8 ≤ length others
unfolding others
others_long = long_after (65536 * 1) (lit≤ tt)
  where
    long_after : (n : ℕ) → 16 ≤ n → 8 ≤ length {A = ℕ} (drop 8 (replicate n 0))
    long_after n h = simp (length-drop, length-replicate) (omega arith)

-- the store that the start function leaves, and that which the call leaves
pub left : Store
left = store_with 2 others

pub left_after : Store
left_after = store_with 2 (written ++ drop 8 others)

pub start_is : after example (first_config example) 4 ≡ Ended [] left
unfolding left others
start_is =
    first_ends bodies are_seen (one ∷ [])

pub run_is : after example (call_config left 0 (values.I64 (pos 301) ∷ [])) 47 ≡ Ended (values.I64 (pos 70) ∷ []) left_after
unfolding left left_after
run_is =
    run_ends 2 bodies are_seen (one ∷ []) others
    (le-ltb (length (initial ++ others)) 16 (omega (arith, others_long)))
    (le-ltb (length (initial ++ (written ++ drop 8 others))) 16 (omega arith))
    (le-ltb (length (initial ++ (written ++ drop 8 others))) 8 (omega arith))

pub fail_is : after example (call_config left 4 []) 2 ≡ Trapped Unreachable left
fail_is = call_traps bodies are_seen (one ∷ []) left

pub spin_is : (n : ℕ) → IsNext (after example (call_config left 3 []) n)
spin_is = goes_on_for_ever bodies are_seen (one ∷ []) left

pub dying_is : after dying (first_config dying) 2 ≡ Trapped Unreachable (first_store dying)
dying_is = fail_traps bodies are_seen (one ∷ []) (first_store dying)
