-- A call from outside: its arguments are handed in, and it is refused, or a job begins.
use Rattle.std.proofs.Common.{◌≡◌, ℕ, zero, suc, ◌<◌, ◌≤◌, List, [], ◌∷◌, length, Option, Some, None, Bool, true, false, refl, sym, ap, ◌∙◌, subst, arith}
use Rattle.std.specs.Prelude.{ℤ, pos, codes, map, if◌then◌else◌, All, slice_get, option_map, option_and_then}
use Rattle.std.specs.Int.{w32, int_wrap}
use Rattle.std.specs.List.{list_all}
use Rattle.std.proofs.lemmas.List.Elements.{All-nil, All-cons}
use Rattle.std.proofs.lemmas.Option.{slice_get_within, slice_get-map}
use Rattle.mc_nbt.specs.Tree.{Tree, int, list_of, depth, items_depth, items}
use Rattle.mc_nbt.specs.Value.{kind_of, is_value}
use Rattle.mc_nbt.specs.declared.value.Value.{Value}
use Rattle.mc_nbt.specs.declared.value.Value.TheVariants as values
use Rattle.mc_cmd.specs.declared.TheConstants.{BMIN}
use Rattle.mc_cmd.specs.Form.{Text}
use Rattle.mc_cmd.specs.Layout.{Answer, full_name}
use Rattle.mc_cmd.specs.Pack.{ExportType, Pack, call, IsCallOf, IsLawful, high_half, ints_of, with_args}
use Rattle.mc_cmd.specs.Word.{is_namespace}
use Rattle.mc_cmd.specs.World.{World}
use Rattle.mc_cmd.proofs.FormLemmas.{and_first, and_second}
use Rattle.wm_ast.specs.declared.module.Export.{Export}
use Rattle.wm_ast.specs.declared.module.Func.{Func}
use Rattle.wm_ast.specs.declared.module.FuncType.{FuncType}
use Rattle.wm_ast.specs.declared.module.Module.{Module}
use Rattle.wm_ast.specs.Instance.{exported_index, exported_functions, call_config}
use Rattle.wm_ast.specs.Operation.{kind_type}
use Rattle.wm_ast.specs.Types.{const_type}
use Rattle.wm_flat.specs.FlatTyping.{Are, IsFunction}
use Rattle.wm_flat.specs.Program.{IsProgram}
use Rattle.wm_valid.specs.InRange.{IsInRange}
use Rattle.cc_line.specs.Sight.{Store, in_io, in_memory, in_rest, Shows}
use Rattle.cc_line.specs.Key.{key_state, key_args, body_piece}
use Rattle.cc_line.specs.Place.{score_places}
use Rattle.cc_line.specs.State.{State, at_key, ints, seen, with_tree, with_copy, within_key, selected}
use Rattle.cc_line.specs.Step.{stop_when, stops, Flow, flow, more, run_steps, after_step}
use Rattle.cc_line.proofs.ActLemmas.{depth_ints, within_is}
use Rattle.cc_line.proofs.SightLemmas.{shows_as, key_set, after_key}
use Rattle.cc_sched.specs.Names.{call_name}
use Rattle.cc_sched.specs.Pieces.{guarded}
use Rattle.cc_sched.specs.Sched.{args_site, is_running, is_dead, take_args, job_steps, begin_steps, call_texts}
use Rattle.cc_sched.specs.Turn.{Whole, is_refused, called_state, Begun}
use Rattle.cc_sched.proofs.Calls as calls
use Rattle.cc_cut.proofs.MakingLemmas.{few_functions}
use Rattle.cc_simulate.specs.Frame.{local_ints}
use Rattle.cc_simulate.specs.Stands.{Entering}
use Rattle.pk_agree.specs.Agree.{AreExports, IsExport, function_exports}
use Rattle.pk_agree.specs.Job.{Job, call_job, IsAtRest, AfterCall, begins}
use Rattle.pk_agree.specs.Linked.{Linked}
use Rattle.pk_agree.proofs.Alike.{Alike, alike_then, guarded_alike, handed, handed_alike, Remains, remains_then, alike_remains, stands_still}
use Rattle.cc_line.proofs.StandingLemmas.{keys_stay}
use Rattle.cc_simulate.specs.Stored.{Stored}
use Rattle.pk_agree.proofs.Answers.{stored_by}
use Rattle.pk_agree.proofs.Leads.{some_same}
use Rattle.pk_agree.proofs.Stages.{Called, Rests}

-- ---- arguments

-- the tree of the arguments that a call hands in
abbrev pub args_tree : List Value → Tree
args_tree args = list_of (ints_of args)

ints_are_of : (args : List Value) → ints_of args ≡ map int (local_ints args)
ints_are_of [] = refl
ints_are_of (values.I32 z ∷ args) = ap (λ ts. int z ∷ ts) (ints_are_of args)
ints_are_of (values.I64 z ∷ args) = ap (λ ts. int (int_wrap w32 z) ∷ (int (high_half z) ∷ ts)) (ints_are_of args)

pub tree_is : (args : List Value) → args_tree args ≡ ints (local_ints args)
tree_is args = ap list_of (ints_are_of args)

ints_low : (zs : List ℤ) → depth (ints zs) ≤ 63
ints_low zs = let x : items_depth (items (map int zs)) ≤ 1 = depth_ints zs in omega arith

pub tree_low : (args : List Value) → depth (args_tree args) ≤ 63
tree_low args = subst (λ t. depth t ≤ 63) (sym (tree_is args)) (ints_low (local_ints args))

-- the world with the arguments shows the state with them
pub handed_shows : (ns : Text) (w : World) (s : State) (args : List Value) → Shows ns w (seen s)
    → Shows ns (with_args ns args w) (seen (handed s (args_tree args)))
handed_shows ns w s args h =
    let t : Tree = args_tree args in
    let g = key_set ns w (seen s) in_io (codes "args") [] t h in
    let put : after_key (seen s) in_io (codes "args") (option_and_then within_key (Some t)) ≡ after_key (seen s) in_io (codes "args") (Some t) =
    ap (λ o. after_key (seen s) in_io (codes "args") o) (within_is t (tree_low args)) in
    shows_as ns _ (after_key (seen s) in_io (codes "args") (Some t)) (seen (handed s t)) (subst (λ v. Shows ns (with_args ns args w) v) put g.shows) (λ j. refl) swap
  where
    swap : (q : Store) (j : Text) → (after_key (seen s) in_io (codes "args") (Some (args_tree args))).keys q j ≡ (seen (handed s (args_tree args))).keys q j
    swap in_io j = refl
    swap in_memory j = refl
    swap in_rest j = refl

in_range : (args : List Value) → list_all is_value args ≡ true → All IsInRange args
in_range [] h = All-nil IsInRange
in_range (v ∷ args) h = All-cons IsInRange v args (and_first (is_value v) _ h) (in_range args (and_second (is_value v) _ h))

type_of : (v : Value) → const_type v ≡ kind_type (kind_of v)
type_of (values.I32 z) = refl
type_of (values.I64 z) = refl

two : {A : Type 0} (a b : A) (as' bs : List A) → a ≡ b → as' ≡ bs → (a ∷ as') ≡ (b ∷ bs)
two a b as' bs e f = cc

types_are : (args : List Value) → map const_type args ≡ map kind_type (map kind_of args)
types_are [] = refl
types_are (v ∷ args) = two _ _ _ _ (type_of v) (types_are args)

-- ---- exports

pub record ExportAt (m : Module) (es : List Export) (k : ℕ) (x : ExportType) : Type 0 where
  pub export : Export
  pub there : slice_get es k ≡ Some export
  pub is : IsExport m export x

export_at : (m : Module) (es : List Export) (xs : List ExportType) (k : ℕ) (x : ExportType) → AreExports m es xs
    → slice_get xs k ≡ Some x → ExportAt m es k x
export_at m [] [] k x h e = absurd (let y : None ≡ Some x = e in cc)
export_at m [] (y ∷ ys) k x h e = absurd h
export_at m (y ∷ ys) [] k x h e = absurd h
export_at m (y ∷ ys) (z ∷ zs) zero x h e = record { export = y; there = refl; is = subst (IsExport m y) (some_same z x e) h.0 }
export_at m (y ∷ ys) (z ∷ zs) (suc k) x h e =
    let r = export_at m ys zs k x h.1 e in
    record { export = r.export; there = r.there; is = r.is }

-- what a lawful call finds
pub record Callable (m : Module) (pack : Pack) (k : ℕ) (args : List Value) : Type 0 where
  pub func : ℕ
  pub function : Func
  pub type : FuncType
  pub is_function : IsFunction m func function type
  pub exported : slice_get (exported_functions m) k ≡ Some func
  pub small : func < 2147483648
  pub lines : pack.functions (full_name pack.index.ns (call_name k)) ≡ Some (call_texts pack.index.ns func)
  pub given : Are type.params args

callable_by : (m : Module) (pack : Pack) → IsProgram m → Linked m pack → (k : ℕ) (args : List Value) (o : Option ExportType)
    → slice_get pack.index.exports k ≡ o → IsCallOf o args → Callable m pack k args
callable_by m pack p l k args None e h = absurd h
callable_by m pack p l k args (Some x) e h =
    let a = export_at m (function_exports m) pack.index.exports k x l.exports e in
    let b : slice_get (exported_functions m) k ≡ Some a.export.index = slice_get-map exported_index (function_exports m) k ∙ ap (option_map exported_index) a.there in
    let few : length m.funcs ≤ 8192 = few_functions m p.profile in
    let within : a.export.index < length m.funcs = slice_get_within m.funcs a.export.index a.is.func a.is.is_function.there in
    record {
      func = a.export.index;
      function = a.is.func;
      type = a.is.type;
      is_function = a.is.is_function;
      exported = b;
      small = omega arith;
      lines = l.calls k a.export.index b;
      given = record { types = types_are args ∙ ap (map kind_type) h.0 ∙ a.is.params; range = in_range args h.1 };
    }

pub callable : (m : Module) (pack : Pack) → IsProgram m → Linked m pack → (k : ℕ) (args : List Value)
    → IsLawful pack.index (call k args) → Callable m pack k args
callable m pack p l k args h = callable_by m pack p l k args (slice_get pack.index.exports k) refl h

-- ---- what the lines of a call leave as it is

-- the same places, and the same store
pub record SamePlaces (s u : State) : Type 0 where
  pub places : u.places ≡ s.places
  pub store : Remains s u

places_self : (s : State) → SamePlaces s s
places_self s = record { places = refl; store = record { memory = λ k. refl; filling = refl; scores = λ h a b. refl; tables = keys_stay s } }

places_then : (s t u : State) → SamePlaces s t → SamePlaces t u → SamePlaces s u
places_then s t u h g = record { places = g.places ∙ h.places; store = remains_then s t u h.store g.store }

alike_same : (s u : State) → Alike s u → SamePlaces s u
alike_same s u h = record { places = h.places; store = alike_remains s u h }

either_same : (b : Bool) (s : State) (f g : Flow) → SamePlaces s f.state → SamePlaces s g.state
    → SamePlaces s (if b then f else g).state
either_same true s f g h k = h
either_same false s f g h k = k

taken_same : (s : State) (o : Option Tree) → SamePlaces s (with_tree s (at_key in_rest key_args) o)
taken_same s None = places_self s
taken_same s (Some t) = record { places = refl; store = record { memory = λ k. refl; filling = refl; scores = λ h a b. refl; tables = keys_stay s } }

copied_same : (s : State) (o : Option Tree) → SamePlaces s (with_copy s (at_key in_rest key_args) o)
copied_same s None = places_self s
copied_same s (Some t) = taken_same s (option_and_then within_key (Some t))

job_same : (f : ℕ) (s u : State) → SamePlaces s u → SamePlaces s (run_steps (job_steps 2 3 (body_piece f 0)) u).state
job_same f s u h =
    let t : State = (run_steps (job_steps 2 3 (body_piece f 0)) u).state in
    let own : SamePlaces u t = record {
      places = refl;
      store = record { memory = λ k. refl; filling = refl; scores = λ j a b. ap (λ c. if c then Some (pos 0) else u.scores j) b; tables = keys_stay u };
    } in
    places_then s u t h own

begun_same : (f : ℕ) (s : State) → SamePlaces s (run_steps (begin_steps f) (guarded s)).state
begun_same f s =
    let t : State = after_step take_args (guarded s) in
    let h : SamePlaces (guarded s) t = copied_same (guarded s) (selected (guarded s) args_site) in
    job_same f s t (places_then s (guarded s) t (alike_same s (guarded s) (guarded_alike s)) h)

called_same : (f : ℕ) (s : State) → SamePlaces s (called_state f s)
called_same f s =
    let read : SamePlaces s (guarded s) = alike_same s (guarded s) (guarded_alike s) in
    either_same (stops (stop_when (is_running ∷ [])) (guarded s)) s (flow true (guarded s) 2)
    (more 2 (run_steps (stop_when (is_dead ∷ []) ∷ begin_steps f) (guarded s))) read
    (either_same (stops (stop_when (is_dead ∷ [])) (guarded s)) s (flow true (guarded s) 2)
    (more 2 (run_steps (begin_steps f) (guarded s))) read (begun_same f s))

-- ---- the chain of a call

module _ (m : Module) (p : IsProgram m) (pack : Pack) (l : Linked m pack) (n : is_namespace pack.index.ns ≡ true) where
  -- the state with the arguments, and after the lines of the call
  abbrev pub invoked : ℕ → State → List Value → State
  invoked f s args = called_state f (handed s (args_tree args))

  pub invokes : (k : ℕ) (args : List Value) (w : World) (s : State) → (c : Callable m pack k args)
      → Shows pack.index.ns w (seen s)
      → Whole pack.functions pack.index.ns (call_name k) BMIN (with_args pack.index.ns args w) (seen (invoked c.func s args))
  invokes k args w s c h =
      calls.call_does pack.functions pack.index.ns n k c.func c.small c.lines (handed s (args_tree args)) BMIN (omega arith)
      (with_args pack.index.ns args w) (handed_shows pack.index.ns w s args h)

  -- a pack that runs, or is dead, refuses it
  pub refuses : (f : ℕ) (s : State) (args : List Value) (number : ℤ) → s.keys in_io key_state ≡ Some (int number)
      → is_refused number ≡ true → Alike s (invoked f s args)
  refuses f s args number e refused =
      let t : State = handed s (args_tree args) in
      let h : Alike s t = handed_alike s (args_tree args) in
      subst (Alike s) (sym (calls.refused f t number (h.keys in_io key_state refl ∙ e) refused))
      (alike_then s t (guarded t) h (guarded_alike t))

  -- a pack at rest begins a job
  pub record Invoked (k : ℕ) (args : List Value) (j : Job) (u : State) : Type 0 where
    pub job : Job
    pub credit : job.credit ≡ 0
    pub after : (a : Option Answer) → IsAtRest a → AfterCall m a j k args job
    pub is_call : Called m u job
    pub stored : Stored m is_call.store u
    pub entering : Entering m is_call.func is_call.args u
    pub at_once : job.offset ≡ 0

  pub takes_call : (k : ℕ) (args : List Value) (s : State) (j : Job) → (c : Callable m pack k args)
      → (r : Rests m pack.index.ns s j) → is_refused r.number ≡ false → Invoked k args j (invoked c.func s args)
  takes_call k args s j c r free =
      let t : Tree = args_tree args in
      let g : State = handed s t in
      let u : State = invoked c.func s args in
      let h : Alike s g = handed_alike s t in
      let b : Begun c.func t u = calls.begins c.func g r.number t (h.keys in_io key_state refl ∙ r.state) free refl (tree_low args) in
      let same : SamePlaces g u = called_same c.func g in
      record {
        job = call_job (call_config r.store c.func args);
        credit = refl;
        after = λ a q. begins r.outcome r.store (call_config r.store c.func args) q r.came r.left
            (ap (option_map (λ f. call_config r.store f args)) c.exported);
        is_call = record {
          store = r.store;
          typed = r.typed;
          func = c.func;
          function = c.function;
          type = c.type;
          is_function = c.is_function;
          args = args;
          given = c.given;
          ending = b.ends;
          failing = b.fails;
          is_call = refl;
        };
        stored = stored_by m r.store g u same.store (stored_by m r.store s g (alike_remains s g h) r.stored);
        entering = record {
          named = b.next;
          given = b.args ∙ ap (λ x. Some x) (tree_is args);
          has_scores = (let w : score_places ≤ length s.places = r.wide in let e : length u.places ≡ length s.places = ap length same.places in omega arith);
          runs = record { trap = b.trap; state = b.state; ending = (int (pos 2), b.ends, omega arith); standing = stands_still g u same.store (stands_still s g (alike_remains s g h) r.standing) };
        };
        at_once = refl;
      }
