-- Steps of an activation, by its next instruction.
use Rattle.std.proofs.Common.{◌≡◌, ℕ, zero, suc, List, [], ◌∷◌, ◌++◌, length, drop, Option, Some, None, refl, ap, ◌∙◌, ℤ, pos, negsuc, Bool, true, false, cond}
use Rattle.std.specs.Prelude.{nat_lt, ◌==◌}
use Rattle.wm_ast.specs.Configuration.{Items, items_of, after_values, frame}
use Rattle.mc_nbt.specs.declared.value.Value.{Value}
use Rattle.mc_nbt.specs.declared.value.Value.TheVariants.{I32, I64}
use Rattle.wm_ast.specs.declared.answer.TrapKind.{TrapKind}
use Rattle.wm_ast.specs.declared.answer.TrapKind.TheVariants.{StackExhausted}
use Rattle.wm_ast.specs.declared.limit.TheConstants.{MAX_FRAMES}
use Rattle.wm_ast.specs.declared.module.Module.{Module}
use Rattle.wm_ast.specs.declared.module.ValType.{ValType}
use Rattle.wm_ast.specs.Code.{Op, block, loop, if_else, br, br_if, br_table, return, call, call_indirect, const, Code, nil, cons}
use Rattle.wm_ast.specs.Simple.{Executed, done, repeats, fault, unfit, simple}
use Rattle.wm_ast.specs.Step.{Next, Trapped, step, top, chosen, Target, target, function, refused, unknown}
use Rattle.wm_ast.specs.Store.{Store, Callee, callee_of}
use Rattle.wm_flat.specs.Flat.{Level, Activation, Flat, starting, running, finished, starts, opened, around, plug, config_of, move, none, goes, Moved, op_move, code_move, jump, carried, join, again_of, count_of, handed, handed_some, calls, opens, leave, calls_target, does, fails, next, with_op}
use Rattle.wm_reduce.specs.steps.Plain.{IsPlain}
use Rattle.wm_reduce.specs.steps.Seen.{begun}
use Rattle.wm_flat.proofs.ByMove.{one_step, trap_step}
use Rattle.wm_flat.proofs.Agree.{puts_branch_if, puts_branch_table, puts_call}
use Rattle.wm_reduce.specs.steps.Values.{first_i32}

-- a level without its place
abbrev pub bare : Op → Code → List Value → Level
bare i is vs = record { block = record { place = []; before = nil; op = i; rest = is }; values = vs }

module _ (m : Module) (s : Store) (cs : List Activation) (a : Activation) where
  -- with this instruction next, and then these
  abbrev pub at : Op → Code → Activation
  at i is = record a { code = cons i is }

  -- inside a block, over these operands
  abbrev pub in_block : Op → Code → List Value → Code → Activation
  in_block i is vs body = record a { code = body; levels = bare i is vs ∷ a.levels; values = [] }

  -- behind the instruction
  abbrev pub over : Code → List Value → Activation
  over is vs = record a { code = is; values = vs }

  pub block_step : (ty : Option ValType) (body is : Code)
      → step m (config_of s (running cs (at (block ty body) is))) ≡ Next (config_of s (running cs (in_block (block ty nil) is a.values body)))
  block_step ty body is = one_step m s (running cs (at (block ty body) is)) s _ (running cs (in_block (block ty nil) is a.values body)) refl refl

  pub loop_step : (ty : Option ValType) (body is : Code)
      → step m (config_of s (running cs (at (loop ty body) is))) ≡ Next (config_of s (running cs (in_block (loop ty body) is a.values body)))
  loop_step ty body is = one_step m s (running cs (at (loop ty body) is)) s _ (running cs (in_block (loop ty body) is a.values body)) refl refl

  module _ (ty : Option ValType) (first second is : Code) where
    pub choose_zero : (vs : List Value) → a.values ≡ I32 (pos 0) ∷ vs
        → step m (config_of s (running cs (at (if_else ty first second) is))) ≡ Next (config_of s (running cs (in_block (block ty nil) is vs second)))
    choose_zero vs e =
        one_step m s (running cs (at (if_else ty first second) is)) s _ (running cs (in_block (block ty nil) is vs second))
        (ap (λ (l : List Value). op_move m s cs (at (if_else ty first second) is) (if_else ty first second) l is) e) refl

    pub choose_nonzero : (n : ℤ) (vs : List Value) → (n ≡ pos 0 → ⊥) → a.values ≡ I32 n ∷ vs
        → step m (config_of s (running cs (at (if_else ty first second) is))) ≡ Next (config_of s (running cs (in_block (block ty nil) is vs first)))
    choose_nonzero (pos zero) vs h e = absurd (h refl)
    choose_nonzero (pos (suc n)) vs h e =
        one_step m s (running cs (at (if_else ty first second) is)) s _ (running cs (in_block (block ty nil) is vs first))
        (ap (λ (l : List Value). op_move m s cs (at (if_else ty first second) is) (if_else ty first second) l is) e) refl
    choose_nonzero (negsuc n) vs h e =
        one_step m s (running cs (at (if_else ty first second) is)) s _ (running cs (in_block (block ty nil) is vs first))
        (ap (λ (l : List Value). op_move m s cs (at (if_else ty first second) is) (if_else ty first second) l is) e) refl

    no_choice : (l : List Value) → first_i32 l ≡ None
        → op_move m s cs (at (if_else ty first second) is) (if_else ty first second) l is ≡ none
    no_choice [] e = refl
    no_choice (I32 n ∷ vs) e = cc
    no_choice (I64 n ∷ vs) e = refl

    pub choose_stuck : first_i32 a.values ≡ None → move m s (running cs (at (if_else ty first second) is)) ≡ none
    choose_stuck e = no_choice a.values e

  -- Branches.

  jump_at : (n l : ℕ) (vs : List Value) (lvs : List Level) (lv : Level) (outer : List Level) → drop l lvs ≡ lv ∷ outer
      → (b : Activation) → jump m s cs b n l vs lvs ≡ carried m s cs b n lv outer (top (count_of lv.block.op) vs)
  jump_at n l vs [] lv outer e b = absurd (nothing l e)
    where
      nothing : (l : ℕ) → drop l [] ≡ lv ∷ outer → ⊥
      nothing zero e = cc
      nothing (suc l) e = cc
  jump_at n zero vs (x ∷ lvs) lv outer e b =
      let same : x ≡ lv = cc in let others : lvs ≡ outer = cc in
      ap (λ (y : Level). carried m s cs b n y lvs (top (count_of y.block.op) vs)) same
      ∙ ap (λ (ys : List Level). carried m s cs b n lv ys (top (count_of lv.block.op) vs)) others
  jump_at n (suc l) vs (x ∷ lvs) lv outer e b = jump_at n l vs lvs lv outer e b

  no_jump : (n l : ℕ) (vs : List Value) (lvs : List Level) → drop l lvs ≡ []
      → (b : Activation) → jump m s cs b n l vs lvs ≡ none
  no_jump n l vs [] e b = refl
  no_jump n zero vs (x ∷ lvs) e b = cc
  no_jump n (suc l) vs (x ∷ lvs) e b = no_jump n l vs lvs e b

  pub branch_step : (l : ℕ) (is : Code) (lv : Level) (outer : List Level) (us : List Value) → drop l a.levels ≡ lv ∷ outer
      → top (count_of lv.block.op) a.values ≡ Some us
      → step m (config_of s (running cs (at (br l) is)))
      ≡ Next (config_of s (running cs (record a { code = join (again_of lv.block.op) lv.block.rest; levels = outer; values = us ++ lv.values })))
  branch_step l is lv outer us e t =
      one_step m s (running cs (at (br l) is)) s _ (running cs (record a { code = join (again_of lv.block.op) lv.block.rest; levels = outer; values = us ++ lv.values }))
      (jump_at 1 l a.values a.levels lv outer e (at (br l) is) ∙ ap (carried m s cs (at (br l) is) 1 lv outer) t) refl

  pub branch_nowhere : (l : ℕ) (is : Code) → drop l a.levels ≡ [] → move m s (running cs (at (br l) is)) ≡ none
  branch_nowhere l is e = no_jump 1 l a.values a.levels e (at (br l) is)

  pub branch_short : (l : ℕ) (is : Code) (lv : Level) (outer : List Level) → drop l a.levels ≡ lv ∷ outer
      → top (count_of lv.block.op) a.values ≡ None → move m s (running cs (at (br l) is)) ≡ none
  branch_short l is lv outer e t =
      jump_at 1 l a.values a.levels lv outer e (at (br l) is) ∙ ap (carried m s cs (at (br l) is) 1 lv outer) t

  pub if_zero : (l : ℕ) (is : Code) (vs : List Value) → a.values ≡ I32 (pos 0) ∷ vs
      → step m (config_of s (running cs (at (br_if l) is))) ≡ Next (config_of s (running cs (over is vs)))
  if_zero l is vs e =
      one_step m s (running cs (at (br_if l) is)) s _ (running cs (over is vs))
      (ap (λ (x : List Value). op_move m s cs (at (br_if l) is) (br_if l) x is) e) refl

  pub if_nonzero : (l : ℕ) (is : Code) (n : ℤ) (vs : List Value) → (n ≡ pos 0 → ⊥) → a.values ≡ I32 n ∷ vs
      → step m (config_of s (running cs (at (br_if l) is))) ≡ Next (config_of s (running cs (over (cons (br l) is) vs)))
  if_nonzero l is n vs h e = puts_branch_if m s cs (at (br_if l) is) l n vs is refl e h

  no_if : (l : ℕ) (is : Code) (x : List Value) → first_i32 x ≡ None → op_move m s cs (at (br_if l) is) (br_if l) x is ≡ none
  no_if l is [] e = refl
  no_if l is (I32 n ∷ vs) e = cc
  no_if l is (I64 n ∷ vs) e = refl

  pub if_stuck : (l : ℕ) (is : Code) → first_i32 a.values ≡ None → move m s (running cs (at (br_if l) is)) ≡ none
  if_stuck l is e = no_if l is a.values e

  pub table_step : (ls : List ℕ) (l : ℕ) (is : Code) (n : ℤ) (vs : List Value) → a.values ≡ I32 n ∷ vs
      → step m (config_of s (running cs (at (br_table ls l) is))) ≡ Next (config_of s (running cs (over (cons (br (chosen ls l n)) is) vs)))
  table_step ls l is n vs e = puts_branch_table m s cs (at (br_table ls l) is) ls l n vs is refl e

  no_table : (ls : List ℕ) (l : ℕ) (is : Code) (x : List Value) → first_i32 x ≡ None → op_move m s cs (at (br_table ls l) is) (br_table ls l) x is ≡ none
  no_table ls l is [] e = refl
  no_table ls l is (I32 n ∷ vs) e = cc
  no_table ls l is (I64 n ∷ vs) e = refl

  pub table_stuck : (ls : List ℕ) (l : ℕ) (is : Code) → first_i32 a.values ≡ None → move m s (running cs (at (br_table ls l) is)) ≡ none
  table_stuck ls l is e = no_table ls l is a.values e

-- The end of a frame, and of a block.

module _ (m : Module) (s : Store) where
  pub return_out : (a : Activation) (is : Code) (us : List Value) → top a.results a.values ≡ Some us
      → step m (config_of s (running [] (record a { code = cons return is }))) ≡ Next (config_of s (finished us))
  return_out a is us t =
      one_step m s (running [] (record a { code = cons return is })) s (finished us) (finished us)
      (ap (handed_some s []) t) refl

  pub return_to : (a c : Activation) (cs : List Activation) (is : Code) (us : List Value) → top a.results a.values ≡ Some us
      → step m (config_of s (running (c ∷ cs) (record a { code = cons return is })))
      ≡ Next (config_of s (running cs (record c { values = us ++ c.values })))
  return_to a c cs is us t =
      one_step m s (running (c ∷ cs) (record a { code = cons return is })) s (running cs (record c { values = us ++ c.values }))
      (running cs (record c { values = us ++ c.values }))
      (ap (handed_some s (c ∷ cs)) t) refl

  pub return_short : (cs : List Activation) (a : Activation) (is : Code) → top a.results a.values ≡ None
      → move m s (running cs (record a { code = cons return is })) ≡ none
  return_short cs a is t = ap (handed_some s cs) t

  -- with nothing left, outside all blocks
  ending : (cs : List Activation) (a : Activation) → a.code ≡ nil → a.levels ≡ []
      → move m s (running cs a) ≡ handed s cs a.values
  ending cs a e k = ap (code_move m s cs a) e ∙ ap (leave m s cs a) k

  pub end_out : (a : Activation) → a.code ≡ nil → a.levels ≡ []
      → step m (config_of s (running [] a)) ≡ Next (config_of s (finished a.values))
  end_out a e k =
      one_step m s (running [] a) s (finished a.values) (finished a.values) (ending [] a e k) refl

  pub end_to : (a c : Activation) (cs : List Activation) → a.code ≡ nil → a.levels ≡ []
      → step m (config_of s (running (c ∷ cs) a)) ≡ Next (config_of s (running cs (record c { values = a.values ++ c.values })))
  end_to a c cs e k =
      one_step m s (running (c ∷ cs) a) s (running cs (record c { values = a.values ++ c.values }))
      (running cs (record c { values = a.values ++ c.values })) (ending (c ∷ cs) a e k) refl

  pub leave_step : (cs : List Activation) (a : Activation) (lv : Level) (outer : List Level) → a.code ≡ nil → a.levels ≡ lv ∷ outer
      → step m (config_of s (running cs a))
      ≡ Next (config_of s (running cs (record a { code = lv.block.rest; levels = outer; values = a.values ++ lv.values })))
  leave_step cs a lv outer e k =
      one_step m s (running cs a) s _ (running cs (record a { code = lv.block.rest; levels = outer; values = a.values ++ lv.values }))
      (ap (code_move m s cs a) e ∙ ap (leave m s cs a) k) refl

-- Calls.

module _ (m : Module) (s : Store) (cs : List Activation) (a : Activation) (f : ℕ) (is : Code) where
  abbrev calling : Flat
  calling = running cs (record a { code = cons (call f) is })

  abbrev called : Option Callee → Moved
  called o = calls 0 s cs (record a { place = next a.place; before = with_op a.before (call f); code = is }) f a.values o

  abbrev opening : Callee → Option (List Value) → Moved
  opening c o = opens 0 s (record a { place = next a.place; before = with_op a.before (call f); code = is; values = drop (length c.takes) a.values } ∷ cs) f c o

  pub call_nothing : callee_of m f ≡ None → move m s calling ≡ none
  call_nothing e = ap called e

  pub call_deep : (c : Callee) → callee_of m f ≡ Some c → nat_lt (suc (length cs)) MAX_FRAMES ≡ false
      → step m (config_of s calling) ≡ Trapped StackExhausted s
  call_deep c e d = trap_step m s calling StackExhausted (ap called e ∙ ap (λ (b : Bool). cond b (opening c (top (length c.takes) a.values)) (fails 0 StackExhausted)) d)

  called_by : (c : Callee) → callee_of m f ≡ Some c → nat_lt (suc (length cs)) MAX_FRAMES ≡ true
      → move m s calling ≡ opening c (top (length c.takes) a.values)
  called_by c e d = ap called e ∙ ap (λ (b : Bool). cond b (opening c (top (length c.takes) a.values)) (fails 0 StackExhausted)) d

  pub call_short : (c : Callee) → callee_of m f ≡ Some c → nat_lt (suc (length cs)) MAX_FRAMES ≡ true
      → top (length c.takes) a.values ≡ None → move m s calling ≡ none
  call_short c e d t = called_by c e d ∙ ap (opening c) t

  pub call_step : (c : Callee) (us : List Value) → callee_of m f ≡ Some c → nat_lt (suc (length cs)) MAX_FRAMES ≡ true
      → top (length c.takes) a.values ≡ Some us
      → step m (config_of s calling)
      ≡ Next (config_of s (running (record a { code = is; values = drop (length c.takes) a.values } ∷ cs) (begun f c us)))
  call_step c us e d t =
      one_step m s calling s _ (running (record a { code = is; values = drop (length c.takes) a.values } ∷ cs) (begun f c us))
      (called_by c e d ∙ ap (opening c) t) refl

module _ (m : Module) (s : Store) (cs : List Activation) (a : Activation) (n : ℕ) (is : Code) where
  abbrev indirect : Flat
  indirect = running cs (record a { code = cons (call_indirect n) is })

  pub indirect_step : (f : ℕ) (i : ℤ) (vs : List Value) → a.values ≡ I32 i ∷ vs → target m s n i ≡ function f
      → step m (config_of s indirect) ≡ Next (config_of s (running cs (record a { code = cons (call f) is; values = vs })))
  indirect_step f i vs e t = puts_call m s cs (record a { code = cons (call_indirect n) is }) n f i vs is refl e t

  abbrev through : List Value → Target → Moved
  through vs x = calls_target m s cs (record a { code = cons (call_indirect n) is }) (call_indirect n) is vs x

  abbrev with_values : List Value → Moved
  with_values l = op_move m s cs (record a { code = cons (call_indirect n) is }) (call_indirect n) l is

  pub indirect_trap : (k : TrapKind) (i : ℤ) (vs : List Value) → a.values ≡ I32 i ∷ vs → target m s n i ≡ refused k
      → step m (config_of s indirect) ≡ Trapped k s
  indirect_trap k i vs e t = trap_step m s indirect k (ap with_values e ∙ ap (through vs) t)

  pub indirect_stuck : (i : ℤ) (vs : List Value) → a.values ≡ I32 i ∷ vs → target m s n i ≡ unknown → move m s indirect ≡ none
  indirect_stuck i vs e t = ap with_values e ∙ ap (through vs) t

  nowhere : (x : List Value) → first_i32 x ≡ None → with_values x ≡ none
  nowhere [] e = refl
  nowhere (I32 i ∷ vs) e = cc
  nowhere (I64 i ∷ vs) e = refl

  pub indirect_short : first_i32 a.values ≡ None → move m s indirect ≡ none
  indirect_short e = nowhere a.values e

-- Instructions without a body that go to no other place.

module _ (m : Module) (s : Store) (cs : List Activation) (a : Activation) (is : Code) where
  plain_move : (i : Op) (vs : List Value) → IsPlain i → op_move m s cs (record a { code = cons i is }) i vs is
      ≡ does m s cs (record a { code = cons i is }) i is (simple m s a.locals i vs)
  plain_move (const v) vs h = absurd h
  plain_move (block ty body) vs h = absurd h
  plain_move (loop ty body) vs h = absurd h
  plain_move (if_else ty first second) vs h = absurd h
  plain_move (br l) vs h = absurd h
  plain_move (br_if l) vs h = absurd h
  plain_move (br_table ls l) vs h = absurd h
  plain_move return vs h = absurd h
  plain_move (call f) vs h = absurd h
  plain_move (call_indirect n) vs h = absurd h
  plain_move i vs h = refl

  module _ (i : Op) (h : IsPlain i) where
    abbrev plain : Flat
    plain = running cs (record a { code = cons i is })

    plain_is : (x : Executed) → simple m s a.locals i a.values ≡ x
        → move m s plain ≡ does m s cs (record a { code = cons i is }) i is x
    plain_is x e = plain_move i a.values h ∙ ap (does m s cs (record a { code = cons i is }) i is) e

    pub done_step : (s' : Store) (own vs : List Value) → simple m s a.locals i a.values ≡ done s' own vs
        → step m (config_of s plain) ≡ Next (config_of s' (running cs (record a { code = is; locals = own; values = vs })))
    done_step s' own vs e =
        one_step m s plain s' _ (running cs (record a { code = is; locals = own; values = vs })) (plain_is (done s' own vs) e) refl

    pub repeat_step : (s' : Store) (vs : List Value) → simple m s a.locals i a.values ≡ repeats s' vs
        → step m (config_of s plain) ≡ Next (config_of s' (running cs (record a { code = cons i is; values = vs })))
    repeat_step s' vs e =
        one_step m s plain s' _ (running cs (record a { code = cons i is; values = vs })) (plain_is (repeats s' vs) e) refl

    pub fault_step : (k : TrapKind) → simple m s a.locals i a.values ≡ fault k → step m (config_of s plain) ≡ Trapped k s
    fault_step k e = trap_step m s plain k (plain_is (fault k) e)

    pub plain_stuck : simple m s a.locals i a.values ≡ unfit → move m s plain ≡ none
    plain_stuck e = plain_is unfit e

-- A call from outside.

module _ (m : Module) (s : Store) (f : ℕ) (vs : List Value) where
  pub nothing_begins : callee_of m f ≡ None → move m s (starting f vs) ≡ none
  nothing_begins e = ap (starts s f vs) e

  abbrev by_count : Callee → Bool → Moved
  by_count c b = cond b (goes 1 s (running [] (opened f c vs))) none

  pub begins_short : (c : Callee) → callee_of m f ≡ Some c → (length vs == length c.takes) ≡ false → move m s (starting f vs) ≡ none
  begins_short c e k = ap (starts s f vs) e ∙ ap (by_count c) k

  pub begins_step : (c : Callee) → callee_of m f ≡ Some c → (length vs == length c.takes) ≡ true
      → step m (config_of s (starting f vs)) ≡ Next (config_of s (running [] (begun f c vs)))
  begins_step c e k = one_step m s (starting f vs) s (running [] (opened f c vs)) (running [] (begun f c vs)) (ap (starts s f vs) e ∙ ap (by_count c) k) refl

-- Constants at the start of a sequence are operands.
pub same_term : (s : Store) (cs : List Activation) (a : Activation) (vs ws : List Value) (is js : Code)
    → after_values vs (items_of is) ≡ after_values ws (items_of js)
    → config_of s (running cs (record a { code = is; values = vs })) ≡ config_of s (running cs (record a { code = js; values = ws }))
same_term s cs a vs ws is js e = ap (λ (x : Items). record { store = s; term = around cs (frame a.results a.func a.locals (plug a.levels x)) }) e
