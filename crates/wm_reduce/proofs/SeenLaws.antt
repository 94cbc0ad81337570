-- Steps of the code's values.
use Rattle.std.proofs.Common.{◌≡◌, ℕ, zero, suc, ◌<◌, ◌≤◌, take, List, [], ◌∷◌, ◌++◌, length, drop, map, Bool, true, false, Option, Some, None, refl, sym, ap, subst, ◌∙◌, ℤ, arith}
use Rattle.std.specs.Prelude.{slice_get, MatchOption}
use Rattle.std.specs.Borrow.{Bor}
use Rattle.std.specs.Int.{w32, cast_unsigned}
use Rattle.std.proofs.lemmas.Bool.{le-ltb, lt-ltb}
use Rattle.std.proofs.lemmas.List.{append-nil, length-map}
use Rattle.wm_ast.specs.declared.limit.TheConstants.{MAX_FRAMES}
use Rattle.wm_ast.specs.declared.answer.TrapKind.TheVariants.{StackExhausted}
use Rattle.wm_reduce.specs.declared.function.Function.{Function}
use Rattle.mc_nbt.specs.declared.value.Value.{Value}
use Rattle.mc_nbt.specs.declared.value.Value.TheVariants.{I32}
use Rattle.wm_ast.specs.declared.answer.TrapKind.{TrapKind}
use Rattle.wm_ast.specs.declared.instruction.Instr.{Instr}
use Rattle.wm_ast.specs.declared.module.Module.{Module}
use Rattle.wm_ast.specs.declared.module.ValType.{ValType}
use Rattle.wm_ast.specs.Code.{br, return, call, call_indirect, Code, nil, cons}
use Rattle.wm_ast.specs.Step.{Progress, Next, Trapped, step, arity, top, target_of, function, refused, unknown, Target}
use Rattle.wm_ast.specs.Store.{Store, Callee, callee_of}
use Rattle.wm_ast.specs.View.{code_of}
use Rattle.wm_flat.specs.Flat.{Activation, running, finished, config_of, move, none, join, again_of, count_of}
use Rattle.wm_reduce.specs.declared.calls.Label.{Label}
use Rattle.wm_reduce.specs.declared.calls.Label.TheVariants.{Behind, Again}
use Rattle.wm_reduce.specs.declared.calls.LoopStart.{LoopStart}
use Rattle.wm_reduce.specs.declared.calls.Block.{Block}
use Rattle.wm_reduce.specs.declared.calls.Activation.{Activation as Call}
use Rattle.wm_reduce.specs.declared.calls.Calls.{Calls}
use Rattle.wm_reduce.specs.TermView.{seen, seen_calls, seen_block, label_op}
use Rattle.wm_reduce.specs.steps.Seen.{Shows, begun, IsEntered, ready, at_end}
use Rattle.wm_reduce.specs.steps.Values.{IsCarried}
use Rattle.wm_reduce.proofs.Moves.{in_block, branch_step, branch_short, branch_nowhere, return_out, return_to}
use Rattle.wm_reduce.proofs.Moves.{call_deep, call_short, call_step}
use Rattle.wm_reduce.proofs.Moves.{end_out, end_to, leave_step, indirect_step, indirect_trap, indirect_stuck}

-- what an option gave where it is none
pub no_item : {T : Type 0} (o : Option T) (P : Type 0) (Q : T → Type 0) → MatchOption o P Q → ((x : T) → o ≡ Some x → ⊥) → P
no_item None P Q h n = h
no_item (Some x) P Q h n = absurd (n x refl)

pub drop-map : {A B : Type 0} (f : A → B) (n : ℕ) (xs : List A) → drop n (map f xs) ≡ map f (drop n xs)
drop-map f zero xs = refl
drop-map f (suc n) [] = refl
drop-map f (suc n) (x ∷ xs) = drop-map f n xs

pub not_carried : (b : Bool) (o : Option (List Value)) (under over : List Value) → b ≡ false → IsCarried b o under over → o ≡ None
not_carried b o under over e h = subst (λ (x : Bool). IsCarried x o under over) e h

pub did_carry : (b : Bool) (o : Option (List Value)) (under over : List Value) → b ≡ true → IsCarried b o under over
    → (us : List Value) × (o ≡ Some us) × (over ≡ us ++ under)
did_carry b o under over e h = subst (λ (x : Bool). IsCarried x o under over) e h

-- none is taken
pub top_none : (vs : List Value) → top 0 vs ≡ Some []
top_none vs = rw (le-ltb (length vs) 0 (omega arith)) refl

pub to_calls : (s : Store) (p : Progress) (cs ds : List Activation) (a b : Activation) → ds ≡ cs → b ≡ a
    → p ≡ Next (config_of s (running cs a)) → p ≡ Next (config_of s (running ds b))
to_calls s p cs ds a b e k w =
    w ∙ ap (λ (xs : List Activation). Next (config_of s (running xs a))) (sym e)
    ∙ ap (λ (x : Activation). Next (config_of s (running ds x))) (sym k)

-- a step to the same calls
pub to_same : (s : Store) (p : Progress) (c d : Calls) → d ≡ c → p ≡ Next (config_of s (running (seen_calls c.callers) (seen c.current)))
    → p ≡ Next (config_of s (running (seen_calls d.callers) (seen d.current)))
to_same s p c d e w = w ∙ ap (λ (x : Calls). Next (config_of s (running (seen_calls x.callers) (seen x.current)))) (sym e)

-- a step into a block is one to these calls
pub into_block : (m : Module) (s : Store) (p : Progress) (c d : Calls) (label : Label) (body rest : Bor (List Instr))
    → IsEntered c label body rest d
    → p ≡ Next (config_of s (running (seen_calls c.callers) (in_block m s (seen_calls c.callers) (seen c.current) (label_op label) (code_of rest.now) c.current.values (code_of body.now))))
    → p ≡ Next (config_of s (running (seen_calls d.callers) (seen d.current)))
into_block m s p c d label body rest h w =
    to_calls s p (seen_calls c.callers) (seen_calls d.callers) _ (seen d.current) (ap seen_calls h.callers) h.inside w

module _ (m : Module) (s : Store) (c : Calls) where
  abbrev around : List Activation
  around = seen_calls c.callers

  abbrev here : Activation
  here = seen c.current

  -- Branches.

  pub block_at : (bs new : List Block) (l : ℕ) (b : Block) → bs ≡ drop l c.current.blocks → bs ≡ b ∷ new
      → drop l (map seen_block c.current.blocks) ≡ seen_block b ∷ map seen_block new
  block_at bs new l b e k = drop-map seen_block l c.current.blocks ∙ ap (map seen_block) (sym e ∙ k)

  pub no_block : (bs : List Block) (l : ℕ) (is : Code) → bs ≡ drop l c.current.blocks → bs ≡ []
      → move m s (ready c (br l) is) ≡ none
  no_block bs l is e k =
      branch_nowhere m s around here l is (drop-map seen_block l c.current.blocks ∙ ap (map seen_block) (sym e ∙ k))

  module _ (l : ℕ) (is : Code) (b : Block) (new : List Block) (there : drop l (map seen_block c.current.blocks) ≡ seen_block b ∷ map seen_block new) where
    pub behind_short : (ty : Option ValType) → b.label ≡ Behind ty → top (arity ty) c.current.values ≡ None
        → move m s (ready c (br l) is) ≡ none
    behind_short ty k t =
        branch_short m s around here l is (seen_block b) (map seen_block new) there
        (ap (λ (x : Label). top (count_of (label_op x)) c.current.values) k ∙ t)

    abbrev landing : Label → List Value → Progress
    landing x vs = Next (config_of s (running around (record here { code = join (again_of (label_op x)) (code_of b.rest.now); levels = map seen_block new; values = vs })))

    pub behind_step : (ty : Option ValType) (us over : List Value) → b.label ≡ Behind ty
        → top (arity ty) c.current.values ≡ Some us → over ≡ us ++ b.values
        → step m (config_of s (ready c (br l) is)) ≡ landing (Behind ty) over
    behind_step ty us over k t o =
        branch_step m s around here l is (seen_block b) (map seen_block new) us there
        (ap (λ (x : Label). top (count_of (label_op x)) c.current.values) k ∙ t)
        ∙ ap (λ (x : Label). landing x (us ++ b.values)) k ∙ ap (landing (Behind ty)) (sym o)

    pub again_step : (start : LoopStart) → b.label ≡ Again start
        → step m (config_of s (ready c (br l) is)) ≡ landing (Again start) b.values
    again_step start k =
        branch_step m s around here l is (seen_block b) (map seen_block new) [] there
        (ap (λ (x : Label). top (count_of (label_op x)) c.current.values) k ∙ top_none c.current.values)
        ∙ ap (λ (x : Label). landing x b.values) k

  -- The end of a block or frame.

  pub leave_block : (b : Block) (new : List Block) (over : List Value) → c.current.blocks ≡ b ∷ new
      → over ≡ c.current.values ++ b.values
      → step m (config_of s (at_end c)) ≡ Next (config_of s (running around (record here { code = code_of b.rest.now; levels = map seen_block new; values = over })))
  leave_block b new over e o =
      leave_step m s around (record here { code = nil }) (seen_block b) (map seen_block new) refl (ap (map seen_block) e)
      ∙ ap (λ (vs : List Value). Next (config_of s (running around (record here { code = code_of b.rest.now; levels = map seen_block new; values = vs })))) (sym o)

  pub return_outside : (is : Code) (b : Bool) (under over : List Value) → c.callers ≡ [] → b ≡ true → under ≡ []
      → IsCarried b (top (arity c.current.gives) c.current.values) under over
      → step m (config_of s (ready c return is)) ≡ Next (config_of s (finished over))
  return_outside is b under over e t n h =
      let d = did_carry b (top (arity c.current.gives) c.current.values) under over t h in
      let whole : d.0 ≡ over = sym (append-nil d.0) ∙ ap (λ (vs : List Value). d.0 ++ vs) (sym n) ∙ sym d.2 in
      ap (λ (cs : List Call). step m (config_of s (running (seen_calls cs) (record here { code = cons return is })))) e
      ∙ return_out m s here is d.0 d.1 ∙ ap (λ (vs : List Value). Next (config_of s (finished vs))) whole

  pub return_inside : (is : Code) (b : Bool) (d : Call) (cs : List Call) (over : List Value) → c.callers ≡ d ∷ cs → b ≡ true
      → IsCarried b (top (arity c.current.gives) c.current.values) d.values over
      → step m (config_of s (ready c return is)) ≡ Next (config_of s (running (seen_calls cs) (record (seen d) { values = over })))
  return_inside is b d cs over e t h =
      let x = did_carry b (top (arity c.current.gives) c.current.values) d.values over t h in
      ap (λ (cs : List Call). step m (config_of s (running (seen_calls cs) (record here { code = cons return is })))) e
      ∙ return_to m s here (seen d) (seen_calls cs) is x.0 x.1
      ∙ ap (λ (vs : List Value). Next (config_of s (running (seen_calls cs) (record (seen d) { values = vs })))) (sym x.2)

  -- Calls through the table.

  module _ (t : ℕ) (is : Code) (i : ℤ) (vs : List Value) (table : List (Option ℕ)) (o : c.current.values ≡ I32 i ∷ vs) (e : s.table ≡ table) where
    abbrev element_at : List (Option ℕ) → Target
    element_at entries = target_of m (slice_get m.types t) (slice_get entries (cast_unsigned w32 i))

    pub through_table : (f : ℕ) → function f ≡ element_at table
        → step m (config_of s (ready c (call_indirect t) is)) ≡ Next (config_of s (running around (record here { code = cons (call f) is; values = vs })))
    through_table f k = indirect_step m s around here t is f i vs o (ap element_at e ∙ sym k)

    pub refused_call : (k : TrapKind) → refused k ≡ element_at table → step m (config_of s (ready c (call_indirect t) is)) ≡ Trapped k s
    refused_call k w = indirect_trap m s around here t is k i vs o (ap element_at e ∙ sym w)

    pub unknown_call : unknown ≡ element_at table → move m s (ready c (call_indirect t) is) ≡ none
    unknown_call w = indirect_stuck m s around here t is i vs o (ap element_at e ∙ sym w)

-- Results of a function.

module _ (m : Module) (s : Store) (a : Activation) (callers : List Call) (results : List Value) (e : a.code ≡ nil) (k : a.levels ≡ []) (v : a.values ≡ results) where
  pub hand_out : callers ≡ [] → step m (config_of s (running (seen_calls callers) a)) ≡ Next (config_of s (finished results))
  hand_out n =
      ap (λ (cs : List Call). step m (config_of s (running (seen_calls cs) a))) n ∙ end_out m s a e k
      ∙ ap (λ (vs : List Value). Next (config_of s (finished vs))) v

  pub hand_to : (c : Call) (cs : List Call) (over : List Value) → callers ≡ c ∷ cs → over ≡ results ++ c.values
      → step m (config_of s (running (seen_calls callers) a)) ≡ Next (config_of s (running (seen_calls cs) (record (seen c) { values = over })))
  hand_to c cs over n o =
      ap (λ (xs : List Call). step m (config_of s (running (seen_calls xs) a))) n ∙ end_to m s a (seen c) (seen_calls cs) e k
      ∙ ap (λ (vs : List Value). Next (config_of s (running (seen_calls cs) (record (seen c) { values = vs ++ c.values })))) v
      ∙ ap (λ (vs : List Value). Next (config_of s (running (seen_calls cs) (record (seen c) { values = vs })))) (sym o)

-- A call.

module _ (m : Module) (s : Store) (c : Calls) (f : ℕ) (rest : Bor (List Instr)) (callee : Callee) (found : callee_of m f ≡ Some callee) where
  depth_is : length (seen_calls c.callers) ≡ length c.callers
  depth_is = length-map c.callers seen

  pub too_deep : MAX_FRAMES ≤ suc (length c.callers) → step m (config_of s (ready c (call f) (code_of rest.now))) ≡ Trapped StackExhausted s
  too_deep h =
      let d = depth_is in
      call_deep m s (seen_calls c.callers) (seen c.current) f (code_of rest.now) callee found (le-ltb (suc (length (seen_calls c.callers))) MAX_FRAMES (omega arith))

  pub too_few : suc (length c.callers) < MAX_FRAMES → length c.current.values < length callee.takes
      → move m s (ready c (call f) (code_of rest.now)) ≡ none
  too_few h k =
      let d = depth_is in
      call_short m s (seen_calls c.callers) (seen c.current) f (code_of rest.now) callee found (lt-ltb (suc (length (seen_calls c.callers))) MAX_FRAMES (omega arith))
      (rw (lt-ltb (length c.current.values) (length callee.takes) k) refl)

  pub call_opens : (fn : Function) (r : Calls) (left : List Value) (pushed : List Call) (called : Call) → Shows fn callee
      → suc (length c.callers) < MAX_FRAMES → fn.takes ≤ length c.current.values
      → r ≡ record c { current = record c.current { pending = None; code = rest } }
      → left ≡ drop fn.takes r.current.values → pushed ≡ record r.current { values = left } ∷ r.callers
      → seen called ≡ begun f callee (take (length callee.takes) r.current.values)
      → step m (config_of s (ready c (call f) (code_of rest.now))) ≡ Next (config_of s (running (seen_calls pushed) (seen called)))
  call_opens fn r left pushed called w h k e v p q =
      let d = depth_is in
      let n = length callee.takes in
      let same : n ≡ fn.takes = w.takes in
      let enough : n ≤ length c.current.values = omega arith in
      let taken : top n c.current.values ≡ Some (take n c.current.values) = rw (le-ltb (length c.current.values) n enough) refl in
      let left_is : left ≡ drop n c.current.values =
      v ∙ ap (λ (x : ℕ). drop x r.current.values) (sym same) ∙ ap (λ (x : Calls). drop n x.current.values) e in
      let callers_are : seen_calls pushed ≡ record (seen c.current) { code = code_of rest.now; values = drop n c.current.values } ∷ seen_calls c.callers =
      ap seen_calls p ∙ ap (λ (x : Calls). seen (record x.current { values = left }) ∷ seen_calls x.callers) e
      ∙ ap (λ (vs : List Value). record (seen c.current) { code = code_of rest.now; values = vs } ∷ seen_calls c.callers) left_is in
      let called_is : seen called ≡ begun f callee (take n c.current.values) =
      q ∙ ap (λ (x : Calls). begun f callee (take n x.current.values)) e in
      to_calls s _ _ (seen_calls pushed) _ (seen called) callers_are called_is
      (call_step m s (seen_calls c.callers) (seen c.current) f (code_of rest.now) callee (take n c.current.values) found
      (lt-ltb (suc (length (seen_calls c.callers))) MAX_FRAMES (omega arith)) taken)
