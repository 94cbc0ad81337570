-- Where a pack stands between two events: before instantiation, at the beginning of a call, within one, at its end, or at
-- rest.
use Rattle.std.proofs.Common.{◌≡◌, ℕ, zero, suc, ◌+◌, ◌-◌, ◌*◌, ◌/◌, ◌<◌, List, [], length, take, reverse, Some, Bool, true, false, refl, sym, ap, ◌∙◌, subst, arith}
use Rattle.std.specs.Prelude.{ℤ, pos}
use Rattle.mc_nbt.specs.Tree.{int}
use Rattle.mc_nbt.specs.declared.value.Value.{Value}
use Rattle.mc_cmd.specs.Form.{Text}
use Rattle.mc_cmd.specs.Layout.{Answer, answer}
use Rattle.mc_cmd.specs.Layout as answers
use Rattle.mc_cmd.specs.World.{World}
use Rattle.wm_ast.specs.declared.module.Func.{Func}
use Rattle.wm_ast.specs.declared.module.FuncType.{FuncType}
use Rattle.wm_ast.specs.declared.module.Module.{Module}
use Rattle.wm_ast.specs.After.{after, IsNext, Outcome, HasOutcome}
use Rattle.wm_ast.specs.Instance.{call_config}
use Rattle.wm_ast.specs.Step.{Next}
use Rattle.wm_ast.specs.Types.{run_types}
use Rattle.wm_ast.specs.Store as reduction
use Rattle.wm_flat.specs.Flat.{Activation, running, handed, move, call_flat}
use Rattle.wm_flat.specs.FlatTyping.{Are, IsFunction, TypedStore}
use Rattle.wm_flat.specs.Runs as machines
use Rattle.wm_flat.specs.Runs.{Leads}
use Rattle.wm_flat.proofs.Consequences.{starting_open, open_at}
use Rattle.cc_line.specs.Sight.{in_io, in_memory, in_rest, Shows}
use Rattle.cc_line.specs.Key.{key_state, key_globals, key_next, key_end, key_fail, score_trap, key_table}
use Rattle.cc_line.specs.State.{State, seen}
use Rattle.cc_cut.specs.Law.{widths}
use Rattle.cc_sched.specs.Pieces.{is_one}
use Rattle.cc_sched.specs.Turn.{is_refused}
use Rattle.cc_move.specs.Law.{at}
use Rattle.cc_pieces.specs.Entry.{args_of_piece}
use Rattle.cc_simulate.specs.Stands.{Ending, Standing, rank_of, HasStore, Entering, Taking}
use Rattle.cc_simulate.specs.Stored.{Stored}
use Rattle.cc_simulate.specs.Uses.{uses_bytes}
use Rattle.cc_init.specs.Init.{first_pages, global_pieces}
use Rattle.cc_init.specs.Laid.{Instantiating, Laid}
use Rattle.pk_agree.specs.Agree.{IsPublic, TellsOfJob}
use Rattle.pk_agree.specs.Job.{Job, first_job, IsOverWithin, IsAtRest, left_by}
use Rattle.pk_agree.proofs.Alike.{Alike, alike_then, alike_remains, stands_still}
use Rattle.pk_agree.proofs.Answers.{pages_kept, stored_by}
use Rattle.pk_agree.proofs.Schedules.{IsSame}
use Rattle.pk_agree.proofs.Standings.{wide_kept, ending_kept, entering_kept, taking_kept, standing_kept, rank_kept, has_kept, standing_runs}
use Rattle.cc_stops.proofs.Wide.{IsWide}
use Rattle.cc_line.specs.Standing as lasting

store_kept : (m : Module) (st : reduction.Store) (s u : State) → Alike s u → Stored m st s → Stored m st u
store_kept m st s u h c = stored_by m st s u (alike_remains s u h) c

-- the states in which a job ends, without a trap and with one: instantiation, and a call
abbrev pub end_state : Bool → ℕ
end_state true = 0
end_state false = 2

abbrev pub fail_state : Bool → ℕ
fail_state true = 4
fail_state false = 3

same_then : (j i h : Job) → IsSame j i → IsSame i h → IsSame j h
same_then j i h a b = (b.0 ∙ a.0, b.1 ∙ a.1, b.2 ∙ a.2)

-- whole pieces of arguments of a type
abbrev pub wholes : FuncType → ℕ
wholes t = widths t.params / args_of_piece

module _ (m : Module) where
  -- ---- a running pack

  -- a piece of instantiation is next, and the job is the first one
  pub record Booting (s : State) (j : Job) (k : ℕ) : Type 0 where
    pub next : Instantiating m s k
    pub same : IsSame (first_job m) j

  -- The job is a call of this function over these arguments, which began with this store. In instantiation it is that of the
  -- start function.
  pub record Called (s : State) (j : Job) : Type 0 where
    pub store : reduction.Store
    pub typed : TypedStore m store
    pub func : ℕ
    pub function : Func
    pub type : FuncType
    pub is_function : IsFunction m func function type
    pub args : List Value
    pub given : Are type.params args
    pub ending : s.keys in_rest key_end ≡ Some (int (pos (end_state j.instantiates)))
    pub failing : s.keys in_rest key_fail ≡ Some (int (pos (fail_state j.instantiates)))
    pub is_call : j.config ≡ call_config store func args

  -- where the machine begins
  abbrev pub start : {s : State} {j : Job} → Called s j → machines.State
  start c = record { store = c.store; flat = call_flat c.func c.args }

  -- The state stands for the job, which has come so far: 16 for each step, those before its first one among them, and one for
  -- each piece of the next one.
  pub data Stage (s : State) (j : Job) (k : ℕ) : Type 0 where
    boots : Booting s j k → Stage s j k
    enters : (c : Called s j) → Stored m c.store s → Entering m c.func c.args s → k ≡ 16 * j.offset → Stage s j k
    takes : (c : Called s j) → Stored m c.store s → (i : ℕ)
        → Taking m c.func c.args (widths (run_types c.function.locals)) i s
        → i < wholes c.type → k + i ≡ 16 * j.offset + wholes c.type → Stage s j k
    goes : (c : Called s j) (n : ℕ) (now : reduction.Store) (cs : List Activation) (a : Activation)
        → Leads m n (start c) (at now cs a)
        → (x : Standing m cs a s) → HasStore m now s x → k ≡ 16 * (j.offset + n) + rank_of m x → Stage s j k
    ends : (c : Called s j) (n : ℕ) (now : reduction.Store) (a : Activation) (vs : List Value)
        → Leads m n (start c) (at now [] a) → Stored m now s
        → move m now (running [] a) ≡ handed now [] vs → Ending m vs s → k ≡ 16 * (j.offset + n) + 16 → Stage s j k

  abbrev called_kept : (s u : State) (j : Job) → Alike s u → Called s j → Called u j
  called_kept s u j h c = record {
    store = c.store;
    typed = c.typed;
    func = c.func;
    function = c.function;
    type = c.type;
    is_function = c.is_function;
    args = c.args;
    given = c.given;
    ending = h.keys in_rest key_end refl ∙ c.ending;
    failing = h.keys in_rest key_fail refl ∙ c.failing;
    is_call = c.is_call;
  }

  abbrev called_same : (s : State) (j i : Job) → IsSame j i → Called s j → Called s i
  called_same s j i e c = record {
    store = c.store;
    typed = c.typed;
    func = c.func;
    function = c.function;
    type = c.type;
    is_function = c.is_function;
    args = c.args;
    given = c.given;
    ending = c.ending ∙ ap (λ b. Some (int (pos (end_state b)))) (sym e.2);
    failing = c.failing ∙ ap (λ b. Some (int (pos (fail_state b)))) (sym e.2);
    is_call = e.1 ∙ c.is_call;
  }

  laid_kept : (k : ℕ) (s u : State) → Alike s u → Laid m k s → Laid m k u
  laid_kept zero s u h r = ap length h.places ∙ r
  laid_kept (suc k) s u h r = record {
    wide = wide_kept s u h r.wide;
    standing = stands_still s u (alike_remains s u h) r.standing;
    globals = h.keys in_memory key_globals refl ∙ r.globals;
    memory = pages_kept m.mems (take (k - global_pieces m) (first_pages m)) s u (alike_remains s u h) r.memory;
    table = λ i ms e g. h.keys in_rest key_table refl ∙ r.table i ms e g;
  }

  instantiating_kept : (s u : State) (k : ℕ) → Alike s u → Instantiating m s k → Instantiating m u k
  instantiating_kept s u k h b = record {
    laid = laid_kept k s u h b.laid;
    few = b.few;
    named = h.keys in_rest key_next refl ∙ b.named;
    trap = h.scores score_trap refl ∙ b.trap;
    state = h.keys in_io key_state refl ∙ b.state;
    ending = h.keys in_rest key_end refl ∙ b.ending;
    failing = h.keys in_rest key_fail refl ∙ b.failing;
  }

  booting_kept : (s u : State) (j : Job) (k : ℕ) → Alike s u → Booting s j k → Booting u j k
  booting_kept s u j k h b = record { next = instantiating_kept s u k h b.next; same = b.same }

  booting_same : (s : State) (j i : Job) (k : ℕ) → IsSame j i → Booting s j k → Booting s i k
  booting_same s j i k e b = record { next = b.next; same = same_then (first_job m) j i b.same e }

  pub stage_kept : (s u : State) (j : Job) (k : ℕ) → Alike s u → Stage s j k → Stage u j k
  stage_kept s u j k h (boots b) = boots (booting_kept s u j k h b)
  stage_kept s u j k h (enters c w p e) =
      enters (called_kept s u j h c) (store_kept m c.store s u h w) (entering_kept m c.func c.args s u h p) e
  stage_kept s u j k h (takes c w i p q e) =
      takes (called_kept s u j h c) (store_kept m c.store s u h w) i (taking_kept m c.func c.args (widths (run_types c.function.locals)) i s u h p) q e
  stage_kept s u j k h (goes c n now cs a d x w e) =
      goes (called_kept s u j h c) n now cs a d (standing_kept m cs a s u h x) (has_kept m cs a now s u h x w)
      (e ∙ ap (λ r. 16 * (j.offset + n) + r) (sym (rank_kept m cs a s u h x)))
  stage_kept s u j k h (ends c n now a vs d w f p e) =
      ends (called_kept s u j h c) n now a vs d (store_kept m now s u h w) f (ending_kept m vs s u h p) e

  pub stage_same : (s : State) (j i : Job) (k : ℕ) → IsSame j i → Stage s j k → Stage s i k
  stage_same s j i k e (boots b) = boots (booting_same s j i k e b)
  stage_same s j i k e (enters c w p f) = enters (called_same s j i e c) w p (f ∙ ap (λ o. 16 * o) (sym e.0))
  stage_same s j i k e (takes c w n p q f) =
      takes (called_same s j i e c) w n p q (f ∙ ap (λ o. 16 * o + wholes c.type) (sym e.0))
  stage_same s j i k e (goes c n now cs a d x w f) =
      goes (called_same s j i e c) n now cs a d x w (f ∙ ap (λ o. 16 * (o + n) + rank_of m x) (sym e.0))
  stage_same s j i k e (ends c n now a vs d w g p f) =
      ends (called_same s j i e c) n now a vs d w g p (f ∙ ap (λ o. 16 * (o + n) + 16) (sym e.0))

  pub stage_state : (s : State) (j : Job) (k : ℕ) → Stage s j k → s.keys in_io key_state ≡ Some (int (pos 1))
  stage_state s j k (boots b) = b.next.state
  stage_state s j k (enters c w p e) = p.runs.state
  stage_state s j k (takes c w i p q e) = p.calm.state
  stage_state s j k (goes c n now cs a d x w e) = (standing_runs m cs a s x).state
  stage_state s j k (ends c n now a vs d w f p e) = p.calm.state

  -- no trap is recorded
  pub stage_trap : (s : State) (j : Job) (k : ℕ) → Stage s j k → s.scores score_trap ≡ Some (pos 0)
  stage_trap s j k (boots b) = b.next.trap
  stage_trap s j k (enters c w p e) = p.runs.trap
  stage_trap s j k (takes c w i p q e) = p.calm.trap
  stage_trap s j k (goes c n now cs a d x w e) = (standing_runs m cs a s x).trap
  stage_trap s j k (ends c n now a vs d w f p e) = p.calm.trap

  -- ---- a job that isn't over

  -- a call that hasn't been entered has made no step
  pub call_open : (s : State) (j : Job) (c : Called s j) (i : ℕ) → IsOverWithin m j i → j.offset < i
  call_open s j c i o =
      let some : 0 < i - j.offset = by_count (i - j.offset) (λ e. o.1 (subst IsNext (sym (begun e)) tt)) in
      omega arith
    where
      begun : i - j.offset ≡ 0 → after m j.config (i - j.offset) ≡ Next (call_config c.store c.func c.args)
      begun e =
          ap (after m j.config) e ∙ ap (λ d. after m d 0) c.is_call ∙ starting_open m c.store c.func (reverse c.args)

      by_count : (n : ℕ) → (n ≡ 0 → ⊥) → 0 < n
      by_count zero h = absurd (h refl)
      by_count (suc n) h = omega arith

  -- one that goes on has made fewer steps
  pub going_open : (s : State) (j : Job) (c : Called s j) (n : ℕ) (now : reduction.Store) (cs : List Activation)
      (a : Activation) (i : ℕ) → Leads m n (start c) (at now cs a) → IsOverWithin m j i → j.offset + n < i
  going_open s j c n now cs a i d o =
      let shut : IsNext (after m (call_config c.store c.func c.args) (i - j.offset)) → ⊥ = λ h. o.1 (subst (λ x. IsNext (after m x (i - j.offset))) (sym c.is_call) h) in
      let r : n < i - j.offset = open_at m n (i - j.offset) (start c) now cs a d shut in
      omega arith

  -- ---- a pack at rest

  -- whether a pack takes calls that is in this state, and answers so: it doesn't where the start function has trapped
  pub data Takes (number : ℤ) (says : Answer) : Type 0 where
    is_free : is_refused number ≡ false → IsAtRest (Some says) → Takes number says
    is_dead : is_refused number ≡ true → (IsAtRest (Some says) → ⊥) → Takes number says

  module _ (ns : Text) where
    pub record Rests (s : State) (j : Job) : Type 0 where
      pub wide : IsWide s
      pub number : ℤ
      pub state : s.keys in_io key_state ≡ Some (int number)
      pub idle : is_one number ≡ false
      pub store : reduction.Store
      pub typed : TypedStore m store
      pub stored : Stored m store s
      pub standing : lasting.Standing (uses_bytes m) s
      pub outcome : Outcome
      pub came : HasOutcome m j.config outcome
      pub left : left_by outcome ≡ Some store
      pub says : Answer
      pub silent : Some says ≡ Some answers.running → ⊥
      pub calls : Takes number says
      pub answers : (w : World) (u : State) → Shows ns w (seen u) → Alike s u → answer ns w ≡ Some says
      pub tells : (w : World) (i : Job) → IsSame j i → IsPublic ns w store → TellsOfJob m ns w i (Some says)

    pub rests_kept : (s u : State) (j : Job) → Alike s u → Rests s j → Rests u j
    rests_kept s u j h r = record {
      wide = wide_kept s u h r.wide;
      number = r.number;
      state = h.keys in_io key_state refl ∙ r.state;
      idle = r.idle;
      store = r.store;
      typed = r.typed;
      stored = store_kept m r.store s u h r.stored;
      standing = stands_still s u (alike_remains s u h) r.standing;
      outcome = r.outcome;
      came = r.came;
      left = r.left;
      says = r.says;
      silent = r.silent;
      calls = r.calls;
      answers = λ w v sh g. r.answers w v sh (alike_then s u v h g);
      tells = r.tells;
    }

    pub rests_same : (s : State) (j i : Job) → IsSame j i → Rests s j → Rests s i
    rests_same s j i e r = record {
      wide = r.wide;
      number = r.number;
      state = r.state;
      idle = r.idle;
      store = r.store;
      typed = r.typed;
      stored = r.stored;
      standing = r.standing;
      outcome = r.outcome;
      came = subst (λ d. HasOutcome m d r.outcome) (sym e.1) r.came;
      left = r.left;
      says = r.says;
      silent = r.silent;
      calls = r.calls;
      answers = r.answers;
      tells = λ w h f q. r.tells w h (same_then j i h e f) q;
    }
