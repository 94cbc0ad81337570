-- Each move is the steps that it says.
use Rattle.std.proofs.Common.{◌≡◌, ℕ, zero, suc, List, [], ◌∷◌, ◌++◌, length, drop, Bool, true, false, cond}
use Rattle.std.proofs.Common.{Option, Some, None, refl, sym, ap, subst, ◌∙◌, ℤ, pos, negsuc, arith}
use Rattle.std.specs.Prelude.{nat_lt, ◌==◌}
use Rattle.std.proofs.lemmas.List.{take_all, drop_all}
use Rattle.std.proofs.lemmas.Bool.{eqb-true, le-ltb}
use Rattle.mc_nbt.specs.declared.value.Value.{Value}
use Rattle.mc_nbt.specs.declared.value.Value.TheVariants.{I32, I64}
use Rattle.wm_ast.specs.declared.answer.TrapKind.{TrapKind}
use Rattle.wm_ast.specs.declared.answer.TrapKind.TheVariants.{StackExhausted}
use Rattle.wm_ast.specs.declared.limit.TheConstants.{MAX_FRAMES}
use Rattle.wm_ast.specs.declared.module.Module.{Module}
use Rattle.wm_ast.specs.After.{settled_by}
use Rattle.wm_ast.specs.Code.{Op, block, loop, if_else, br, br_if, br_table, return, call, call_indirect, const}
use Rattle.wm_ast.specs.Code.{Code, nil, cons}
use Rattle.wm_ast.specs.Configuration.{Item, instruction, label, frame, Items, empty, more, Config, item_of, items_of}
use Rattle.wm_ast.specs.Configuration.{append, after_values}
use Rattle.wm_ast.specs.Simple.{Executed, done, repeats, fault, unfit, if_nonzero, simple}
use Rattle.wm_ast.specs.Step.{Effect, becomes, traps, no_rule, Reduct, irreducible, values, rewritten, branching, returning, trapping, top}
use Rattle.wm_ast.specs.Step.{chosen, Target, function, refused, unknown, target, effect_of, called, enter_over, enter}
use Rattle.wm_ast.specs.Step.{enter_target, op_step, lands, at_frame, go_on, items_step, reduct, Next, Trapped, progress}
use Rattle.wm_ast.specs.Step.{step}
use Rattle.wm_ast.specs.Store.{Store, Callee, callee_of}
use Rattle.wm_flat.specs.Flat.{Level, Activation, Flat, starting, running, finished, join, count_of, again_of, plug}
use Rattle.wm_flat.specs.Flat.{around, term_of, config_of, goes, fails, over, none, Moved, past, handed, handed_some, opened, opens}
use Rattle.wm_flat.specs.Flat.{calls, starts, carried, jump, leave, does, inside, calls_target, op_move, code_move, move}
use Rattle.wm_flat.specs.Steps.{Reach, Steps, IsStuck}
use Rattle.wm_flat.proofs.Walk.{append-after, after-append, append-empty, walked, out_of, around_reduct, plug_step}
use Rattle.wm_flat.proofs.Walk.{around_step, out_rewritten, out_trapping, out_returning, around_trapping}
use Rattle.wm_flat.proofs.Walk.{around_rewritten, out_irreducible, around_irreducible, around_branching}

items-join : (is js : Code) → items_of (join is js) ≡ append (items_of is) (items_of js)
items-join nil js = refl
items-join (cons i is) js = ap (more (item_of i)) (items-join is js)

-- values of a sequence that another one hands on
landed : (us vs : List Value) (is rest : Items)
    → after_values vs (append (after_values us is) rest) ≡ after_values (us ++ vs) (append is rest)
landed us vs is rest = ap (after_values vs) (append-after us is rest) ∙ sym (after-append us vs (append is rest))

-- the term of an activation with another body
abbrev with_body : List Activation → Activation → List Value → Items → Items
with_body cs a locals is = around cs (frame a.results a.func locals is)

-- From the configuration c the reduction does what the move tells, and is stuck where there is none.
abbrev Does : Module → Store → Config → Moved → Type 0
Does m s c none = IsStuck m c
Does m s c x = Steps m s c x

module _ (m : Module) (s : Store) (cs : List Activation) (a : Activation) where
  -- what the whole term comes to, by what the innermost sequence does
  abbrev whole : List Level → Reduct → Reduct
  whole lvs r = around_reduct s cs a.results a.func (out_of s a.locals lvs r)

  whole_is : (lvs : List Level) (vs : List Value) (is : Items)
      → items_step m (with_body cs a a.locals (plug lvs (after_values vs is))) 0 s [] []
      ≡ whole lvs (items_step m is (suc (length cs)) s a.locals vs)
  whole_is lvs vs is =
      around_step m cs a.results a.func a.locals (plug lvs (after_values vs is)) s
      ∙ ap (around_reduct s cs a.results a.func)
      (plug_step m lvs (after_values vs is) (suc (length cs)) s a.locals
      ∙ ap (out_of s a.locals lvs) (walked m vs is (suc (length cs)) s a.locals))

  whole_rewritten : (lvs : List Level) (s' : Store) (locals : List Value) (is : Items)
      → whole lvs (rewritten s' locals is) ≡ rewritten s' [] (with_body cs a locals (plug lvs is))
  whole_rewritten lvs s' locals is =
      ap (around_reduct s cs a.results a.func) (out_rewritten lvs s s' a.locals locals is)
      ∙ around_rewritten cs s s' a.results a.func locals (plug lvs is)

  whole_trapping : (lvs : List Level) (k : TrapKind) → whole lvs (trapping k) ≡ trapping k
  whole_trapping lvs k =
      ap (around_reduct s cs a.results a.func) (out_trapping lvs s a.locals k)
      ∙ around_trapping cs s a.results a.func k

  whole_irreducible : (lvs : List Level) → whole lvs irreducible ≡ irreducible
  whole_irreducible lvs =
      ap (around_reduct s cs a.results a.func) (out_irreducible lvs s a.locals)
      ∙ around_irreducible cs s a.results a.func

  -- a term for which no rule fits, after some steps
  stuck_at : (c t : Config) (n : ℕ) (lvs : List Level) → Reach m n c t → reduct m t ≡ whole lvs irreducible
      → IsStuck m c
  stuck_at c t n lvs h e = (n, t, h, ap (progress t.store) (e ∙ whole_irreducible lvs))

  next_is : (t : Config) (lvs : List Level) (s' : Store) (locals : List Value) (is is' : Items)
      → t.store ≡ s → reduct m t ≡ whole lvs (rewritten s' locals is) → is ≡ is'
      → step m t ≡ Next (record { store = s'; term = with_body cs a locals (plug lvs is') })
  next_is t lvs s' locals is is' st e k =
      ap (progress t.store) (e ∙ whole_rewritten lvs s' locals is)
      ∙ ap (λ (x : Items). Next (record { store = s'; term = with_body cs a locals (plug lvs x) })) k

  -- a branch, from a term whose one step is the last of so many
  carried_agrees : (n k : ℕ) (c t : Config) (lv : Level) (lvs : List Level) (o : Option (List Value)) → t.store ≡ s
      → Reach m k c t → ((d : Config) → step m t ≡ Next d → Reach m n c d)
      → reduct m t
      ≡ whole lvs
      (go_on (items_of lv.block.rest) (lands s a.locals lv.values (items_of (again_of lv.block.op)) o))
      → Does m s c (carried m s cs a n lv lvs o)
  carried_agrees n k c t lv lvs None st before lead e = stuck_at c t k lvs before e
  carried_agrees n k c t lv lvs (Some us) st before lead e =
      lead _
      (next_is t lvs s a.locals _
      (after_values (us ++ lv.values) (items_of (join (again_of lv.block.op) lv.block.rest))) st e
      (landed us lv.values (items_of (again_of lv.block.op)) (items_of lv.block.rest)
      ∙ ap (after_values (us ++ lv.values)) (sym (items-join (again_of lv.block.op) lv.block.rest))))

  jump_agrees : (n k : ℕ) (c t : Config) (l : ℕ) (vs : List Value) (lvs : List Level) → t.store ≡ s
      → Reach m k c t → ((d : Config) → step m t ≡ Next d → Reach m n c d)
      → reduct m t ≡ whole lvs (branching l vs)
      → Does m s c (jump m s cs a n l vs lvs)
  jump_agrees n k c t l vs [] st before lead e =
      (k, t, before, ap (progress t.store) (e ∙ around_branching cs s a.results a.func l vs))
  jump_agrees n k c t zero vs (lv ∷ lvs) st before lead e =
      carried_agrees n k c t lv lvs (top (count_of lv.block.op) vs) st before lead e
  jump_agrees n k c t (suc l) vs (lv ∷ lvs) st before lead e = jump_agrees n k c t l vs lvs st before lead e

-- The end of a frame.

module _ (m : Module) where
  -- the values that an activation hands on stand in the place of its frame
  handed_agrees : (s : Store) (cs : List Activation) (c : Config) (n f : ℕ) (us : List Value) (r : Reduct) → c.store ≡ s
      → reduct m c ≡ around_reduct s cs n f r
      → ((locals vs : List Value) → at_frame s locals n f vs r ≡ becomes s locals vs (after_values us empty))
      → Does m s c (handed s cs us)
  handed_agrees s [] c n f us r st e h = (
    config_of s (finished us),
    ap (progress c.store) (e ∙ ap (go_on empty) (h [] []))
        ∙ ap (λ (x : Items). Next (record { store = s; term = x })) (append-empty (after_values us empty)),
    refl,
  )
  handed_agrees s (a ∷ cs) c n f us r st e h = (
    config_of s (running cs (record a { values = us ++ a.values })),
    next_is m s cs a c a.levels s a.locals _ (after_values (us ++ a.values) (items_of a.code)) st
        (e ∙ ap (λ d. whole m s cs a a.levels (go_on (items_of a.code) d)) (h a.locals a.values))
        (landed us a.values empty (items_of a.code)),
    refl,
  )

  -- no rule fits where there are too few values for the results
  frame_stuck : (s : Store) (cs : List Activation) (n f : ℕ) (r : Reduct)
      → ((locals vs : List Value) → at_frame s locals n f vs r ≡ no_rule) → around_reduct s cs n f r ≡ irreducible
  frame_stuck s [] n f r h = ap (go_on empty) (h [] [])
  frame_stuck s (c ∷ cs) n f r h =
      ap (λ (d : Effect). around_reduct s cs c.results c.func (out_of s c.locals c.levels (go_on (items_of c.code) d)))
      (h c.locals c.values)
      ∙ around_irreducible (c ∷ cs) s n f

  returned_agrees : (s : Store) (cs : List Activation) (c : Config) (n f : ℕ) (vs : List Value)
      (o : Option (List Value)) → top n vs ≡ o → c.store ≡ s → reduct m c ≡ around_reduct s cs n f (returning vs)
      → Does m s c (handed_some s cs o)
  returned_agrees s cs c n f vs None k st e = (
    0,
    c,
    refl,
    ap (progress c.store)
        (e ∙ frame_stuck s cs n f (returning vs) (λ locals ws. ap (lands s locals ws empty) k)),
  )
  returned_agrees s cs c n f vs (Some us) k st e =
      handed_agrees s cs c n f us (returning vs) st e (λ locals ws. ap (lands s locals ws empty) k)

-- Instructions.

module _ (m : Module) (s : Store) (cs : List Activation) (a : Activation) where
  abbrev here : Config
  here = config_of s (running cs a)

  -- the number of frames round what is inside the activation
  abbrev deep : ℕ
  deep = suc (length cs)

  module _ (i : Op) (vs : List Value) (is : Code) (code : a.code ≡ cons i is) (over : a.values ≡ vs) where
    term_is : term_of (running cs a)
        ≡ with_body cs a a.locals (plug a.levels (after_values vs (more (item_of i) (items_of is))))
    term_is =
        ap (λ (l : List Value). with_body cs a a.locals (plug a.levels (after_values l (items_of a.code)))) over
        ∙ ap (λ (x : Code). with_body cs a a.locals (plug a.levels (after_values vs (items_of x)))) code

    module _ (ins : item_of i ≡ instruction i) where
      reduct_is : reduct m here ≡ whole m s cs a a.levels (go_on (items_of is) (op_step m deep s a.locals i vs))
      reduct_is =
          ap (λ (x : Items). items_step m x 0 s [] [])
          (term_is
          ∙ ap
          (λ (x : Item). with_body cs a a.locals (plug a.levels (after_values vs (more x (items_of is))))) ins)
          ∙ whole_is m s cs a a.levels vs (more (instruction i) (items_of is))

      reduct_by : (e : Effect) → op_step m deep s a.locals i vs ≡ e
          → reduct m here ≡ whole m s cs a a.levels (go_on (items_of is) e)
      reduct_by e k = reduct_is ∙ ap (λ d. whole m s cs a a.levels (go_on (items_of is) d)) k

      -- other items stand in the place of the instruction
      becomes_agrees : (s' : Store) (locals ws : List Value) (js js' : Items)
          → op_step m deep s a.locals i vs ≡ becomes s' locals ws js
          → after_values ws (append js (items_of is)) ≡ js'
          → step m here ≡ Next (record { store = s'; term = with_body cs a locals (plug a.levels js') })
      becomes_agrees s' locals ws js js' k w =
          next_is m s cs a here a.levels s' locals _ js' refl (reduct_by (becomes s' locals ws js) k) w

      trap_agrees : (k : TrapKind) → op_step m deep s a.locals i vs ≡ traps k → step m here ≡ Trapped k s
      trap_agrees k e = ap (progress s) (reduct_by (traps k) e ∙ whole_trapping m s cs a a.levels k)

      stuck_agrees : op_step m deep s a.locals i vs ≡ no_rule → IsStuck m here
      stuck_agrees e = stuck_at m s cs a here here 0 a.levels refl (reduct_by no_rule e)

      does_agrees : (x : Executed) → op_step m deep s a.locals i vs ≡ effect_of a.locals i x
          → Does m s here (does m s cs a i is x)
      does_agrees (done s' locals ws) k =
          (_, becomes_agrees s' locals ws empty (after_values ws (items_of is)) k refl, refl)
      does_agrees (repeats s' ws) k = (
        _,
        becomes_agrees s' a.locals ws (more (instruction i) empty)
            (after_values ws (more (item_of i) (items_of is))) k
            (ap (λ (x : Item). after_values ws (more x (items_of is))) (sym ins)),
        refl,
      )
      does_agrees (fault n) k = (here, refl, refl, trap_agrees n k)
      does_agrees unfit k = stuck_agrees k

      inside_agrees : (ws : List Value) (first : List ℕ) (body : Code)
          → op_step m deep s a.locals i vs
          ≡ becomes s a.locals ws (more (label (count_of i) (again_of i) (items_of body)) empty)
          → Does m s here (inside m s cs a i is ws first body)
      inside_agrees ws first body k = (
        _,
        becomes_agrees s a.locals ws (more (label (count_of i) (again_of i) (items_of body)) empty)
            (after_values ws (more (label (count_of i) (again_of i) (items_of body)) (items_of is))) k refl,
        refl,
      )

      -- another instruction stands in the place of this one first
      abbrev put : Op → List Value → Config
      put j ws = config_of s (running cs (record a { values = ws; code = cons j is }))

      puts : (j : Op) (ws : List Value) → item_of j ≡ instruction j
          → op_step m deep s a.locals i vs ≡ becomes s a.locals ws (more (instruction j) empty)
          → step m here ≡ Next (put j ws)
      puts j ws p k =
          becomes_agrees s a.locals ws (more (instruction j) empty)
          (after_values ws (more (item_of j) (items_of is))) k
          (ap (λ (x : Item). after_values ws (more x (items_of is))) (sym p))

      branch_agrees : (l : ℕ) (ws : List Value)
          → op_step m deep s a.locals i vs ≡ becomes s a.locals ws (more (instruction (br l)) empty)
          → Does m s here (jump m s cs a 2 l ws a.levels)
      branch_agrees l ws k =
          jump_agrees m s cs a 2 1 here (put (br l) ws) l ws a.levels refl
          (put (br l) ws, puts (br l) ws refl k, refl)
          (λ d w. (put (br l) ws, puts (br l) ws refl k, (d, w, refl)))
          (whole_is m s cs a a.levels ws (more (instruction (br l)) (items_of is)))

  branch_if : (l : ℕ) (n : ℤ) (vs : List Value) (is : Code) → a.code ≡ cons (br_if l) is → a.values ≡ I32 n ∷ vs
      → Does m s here
      (if_nonzero n (jump m s cs a 2 l vs a.levels) (goes 1 s (running cs (past a (br_if l) is a.locals vs))))
  branch_if l (pos zero) vs is c v = (
    _,
    becomes_agrees (br_if l) (I32 (pos zero) ∷ vs) is c v refl s a.locals vs empty (after_values vs (items_of is))
        refl refl,
    refl,
  )
  branch_if l (pos (suc n)) vs is c v = branch_agrees (br_if l) (I32 (pos (suc n)) ∷ vs) is c v refl l vs refl
  branch_if l (negsuc n) vs is c v = branch_agrees (br_if l) (I32 (negsuc n) ∷ vs) is c v refl l vs refl

  -- a call, from a term whose one step is the last of so many
  module _ (i : Op) (n : ℕ) (t : Config) (store : t.store ≡ s) (before : Reach m n here t)
      (lead : (d : Config) → step m t ≡ Next d → Reach m (suc n) here d) where
    opens_agrees : (f : ℕ) (c : Callee) (vs : List Value) (is : Code) (o : Option (List Value))
        → reduct m t ≡ whole m s cs a a.levels (go_on (items_of is) (enter_over m deep s a.locals f c vs o))
        → Does m s here (opens n s (past a i is a.locals (drop (length c.takes) vs) ∷ cs) f c o)
    opens_agrees f c vs is None e = stuck_at m s cs a here t n a.levels before e
    opens_agrees f c vs is (Some us) e =
        lead _
        (next_is m s cs a t a.levels s a.locals _
        (after_values (drop (length c.takes) vs) (more (called m deep s a.locals f c us) (items_of is))) store e refl)

    calls_agrees : (f : ℕ) (vs : List Value) (is : Code) (o : Option Callee)
        → reduct m t ≡ whole m s cs a a.levels (go_on (items_of is) (enter m deep s a.locals f vs o))
        → Does m s here (calls n s cs (past a i is a.locals vs) f vs o)
    calls_agrees f vs is None e = stuck_at m s cs a here t n a.levels before e
    calls_agrees f vs is (Some c) e = by_depth (nat_lt deep MAX_FRAMES) e
      where
        by_depth : (b : Bool)
            → reduct m t
            ≡ whole m s cs a a.levels
            (go_on (items_of is)
            (cond b (enter_over m deep s a.locals f c vs (top (length c.takes) vs)) (traps StackExhausted)))
            → Does m s here
            (cond b
            (opens n s (past a i is a.locals (drop (length c.takes) vs) ∷ cs) f c (top (length c.takes) vs))
            (fails n StackExhausted))
        by_depth true k = opens_agrees f c vs is (top (length c.takes) vs) k
        by_depth false k = (
          t,
          store,
          before,
          ap (progress t.store) (k ∙ whole_trapping m s cs a a.levels StackExhausted)
              ∙ ap (Trapped StackExhausted) store,
        )

  target_agrees : (i : Op) (vs ws : List Value) (is : Code) (x : Target) → a.code ≡ cons i is → a.values ≡ vs
      → item_of i ≡ instruction i → op_step m deep s a.locals i vs ≡ enter_target m deep s a.locals ws x
      → Does m s here (calls_target m s cs a i is ws x)
  target_agrees i vs ws is (function f) c v e k =
      let mid : Config = config_of s (running cs (record a { values = ws; code = cons (call f) is })) in
      let first : step m here ≡ Next mid = puts i vs is c v e (call f) ws refl k in
      calls_agrees i 1 mid refl (mid, first, refl) (λ d w. (mid, first, (d, w, refl))) f ws is (callee_of m f)
      (whole_is m s cs a a.levels ws (more (instruction (call f)) (items_of is)))
  target_agrees i vs ws is (refused n) c v e k = (here, refl, refl, trap_agrees i vs is c v e n k)
  target_agrees i vs ws is unknown c v e k = stuck_agrees i vs is c v e k

  op_agrees : (i : Op) (vs : List Value) (is : Code) → a.code ≡ cons i is → a.values ≡ vs
      → Does m s here (op_move m s cs a i vs is)
  op_agrees (const v) vs is c k = ap (λ (x : Items). record { store = s; term = x }) (term_is (const v) vs is c k)
  op_agrees (block ty body) vs is c k = inside_agrees (block ty body) vs is c k refl vs (0 ∷ []) body refl
  op_agrees (loop ty body) vs is c k = inside_agrees (loop ty body) vs is c k refl vs (0 ∷ []) body refl
  op_agrees (if_else ty first second) (I32 n ∷ vs) is c k =
      inside_agrees (if_else ty first second) (I32 n ∷ vs) is c k refl vs
      (if_nonzero n (0 ∷ 0 ∷ []) (1 ∷ 0 ∷ [])) (if_nonzero n first second) refl
  op_agrees (if_else ty first second) (I64 n ∷ vs) is c k = stuck_agrees (if_else ty first second) (I64 n ∷ vs) is c k refl refl
  op_agrees (if_else ty first second) [] is c k = stuck_agrees (if_else ty first second) [] is c k refl refl
  op_agrees (br l) vs is c k =
      jump_agrees m s cs a 1 0 here here l vs a.levels refl refl (λ d w. (d, w, refl)) (reduct_is (br l) vs is c k refl)
  op_agrees (br_if l) (I32 n ∷ vs) is c k = branch_if l n vs is c k
  op_agrees (br_if l) (I64 n ∷ vs) is c k = stuck_agrees (br_if l) (I64 n ∷ vs) is c k refl refl
  op_agrees (br_if l) [] is c k = stuck_agrees (br_if l) [] is c k refl refl
  op_agrees (br_table ls l) (I32 n ∷ vs) is c k =
      branch_agrees (br_table ls l) (I32 n ∷ vs) is c k refl (chosen ls l n) vs refl
  op_agrees (br_table ls l) (I64 n ∷ vs) is c k = stuck_agrees (br_table ls l) (I64 n ∷ vs) is c k refl refl
  op_agrees (br_table ls l) [] is c k = stuck_agrees (br_table ls l) [] is c k refl refl
  op_agrees return vs is c k =
      returned_agrees m s cs here a.results a.func vs (top a.results vs) refl refl
      (reduct_is return vs is c k refl
      ∙ ap (around_reduct s cs a.results a.func) (out_returning a.levels s a.locals vs))
  op_agrees (call f) vs is c k =
      calls_agrees (call f) 0 here refl refl (λ d w. (d, w, refl)) f vs is (callee_of m f)
      (reduct_is (call f) vs is c k refl)
  op_agrees (call_indirect n) (I32 i ∷ vs) is c k =
      target_agrees (call_indirect n) (I32 i ∷ vs) vs is (target m s n i) c k refl refl
  op_agrees i vs is c k = does_agrees i vs is c k refl (simple m s a.locals i vs) refl

  -- The first of the two steps of a branch that is taken, and of a call through the table.

  abbrev put_next : Op → List Value → Code → Config
  put_next j vs is = config_of s (running cs (record a { values = vs; code = cons j is }))

  pub puts_branch_if : (l : ℕ) (n : ℤ) (vs : List Value) (is : Code) → a.code ≡ cons (br_if l) is
      → a.values ≡ I32 n ∷ vs → (n ≡ pos 0 → ⊥) → step m here ≡ Next (put_next (br l) vs is)
  puts_branch_if l (pos zero) vs is c v h = absurd (h refl)
  puts_branch_if l (pos (suc n)) vs is c v h =
      puts (br_if l) (I32 (pos (suc n)) ∷ vs) is c v refl (br l) vs refl refl
  puts_branch_if l (negsuc n) vs is c v h = puts (br_if l) (I32 (negsuc n) ∷ vs) is c v refl (br l) vs refl refl

  pub puts_branch_table : (ls : List ℕ) (l : ℕ) (n : ℤ) (vs : List Value) (is : Code)
      → a.code ≡ cons (br_table ls l) is → a.values ≡ I32 n ∷ vs
      → step m here ≡ Next (put_next (br (chosen ls l n)) vs is)
  puts_branch_table ls l n vs is c v =
      puts (br_table ls l) (I32 n ∷ vs) is c v refl (br (chosen ls l n)) vs refl refl

  pub puts_call : (n f : ℕ) (i : ℤ) (vs : List Value) (is : Code) → a.code ≡ cons (call_indirect n) is
      → a.values ≡ I32 i ∷ vs → target m s n i ≡ function f → step m here ≡ Next (put_next (call f) vs is)
  puts_call n f i vs is c v t =
      puts (call_indirect n) (I32 i ∷ vs) is c v refl (call f) vs refl
      (ap (enter_target m deep s a.locals vs) t)

  -- the end of a sequence
  leave_agrees : a.code ≡ nil → Does m s here (leave m s cs a a.levels)
  leave_agrees c = by_levels a.levels refl (ap body_step c ∙ whole_is m s cs a a.levels a.values empty)
    where
      body_step : Code → Reduct
      body_step x = items_step m (with_body cs a a.locals (plug a.levels (after_values a.values (items_of x)))) 0 s [] []

      by_levels : (lvs : List Level) → a.levels ≡ lvs → reduct m here ≡ whole m s cs a lvs (values a.values)
          → Does m s here (leave m s cs a lvs)
      by_levels [] k e = handed_agrees m s cs here a.results a.func a.values (values a.values) refl e (λ locals vs. refl)
      by_levels (lv ∷ lvs) k e = (
        _,
        next_is m s cs a here lvs s a.locals _
            (after_values (a.values ++ lv.values) (items_of lv.block.rest)) refl e
            (landed a.values lv.values empty (items_of lv.block.rest)),
        refl,
      )

  code_agrees : (is : Code) → a.code ≡ is → Does m s here (code_move m s cs a is)
  code_agrees nil e = leave_agrees e
  code_agrees (cons i is) e = op_agrees i a.values is e refl

-- A call from outside.

-- what is done is done by the steps
weakened : (m : Module) (s : Store) (c : Config) (x : Moved) → Does m s c x → Steps m s c x
weakened m s c (goes n s' f) h = h
weakened m s c (fails n k) h = h
weakened m s c (over vs) h = h
weakened m s c none h = tt

module _ (m : Module) where
  starts_agrees : (s : Store) (f : ℕ) (vs : List Value) (o : Option Callee)
      → reduct m (config_of s (starting f vs)) ≡ go_on empty (enter m 0 s [] f vs o)
      → Steps m s (config_of s (starting f vs)) (starts s f vs o)
  starts_agrees s f vs None e = tt
  starts_agrees s f vs (Some c) e = by_length (length vs == length c.takes) refl
    where
      by_length : (b : Bool) → (length vs == length c.takes) ≡ b
          → Steps m s (config_of s (starting f vs)) (cond b (goes 1 s (running [] (opened f c vs))) none)
      by_length false k = tt
      by_length true k =
          let same : length vs ≡ length c.takes = eqb-true (length vs) (length c.takes) k in
          let taken : top (length c.takes) vs ≡ Some vs =
          rw (le-ltb (length vs) (length c.takes) (omega arith))
          (ap Some (take_all (length c.takes) vs (omega arith))) in
          let none_left : drop (length c.takes) vs ≡ [] = drop_all (length c.takes) vs (omega arith) in
          let did : enter m 0 s [] f vs (Some c) ≡ becomes s [] [] (more (called m 0 s [] f c vs) empty) =
          ap (enter_over m 0 s [] f c vs) taken
          ∙ ap (λ (l : List Value). becomes s [] l (more (called m 0 s [] f c vs) empty)) none_left in
          (_, ap (progress s) (e ∙ ap (go_on empty) did), refl)

  pub agree : (s : Store) (c : Flat) → Steps m s (config_of s c) (move m s c)
  agree s (starting f vs) =
      starts_agrees s f vs (callee_of m f) (walked m vs (more (instruction (call f)) empty) 0 s [])
  agree s (running cs a) =
      weakened m s (config_of s (running cs a)) (move m s (running cs a)) (code_agrees m s cs a a.code refl)
  agree s (finished vs) = ap (settled_by (config_of s (finished vs))) (walked m vs empty 0 s [])

  pub no_move : (s : Store) (cs : List Activation) (a : Activation) → move m s (running cs a) ≡ none
      → IsStuck m (config_of s (running cs a))
  no_move s cs a e = subst (Does m s (config_of s (running cs a))) e (code_agrees m s cs a a.code refl)
