-- What becomes of each pack of the example.
use Rattle.std.proofs.Common.{◌≡◌, ℕ, ◌≤◌, ◌+◌, ◌*◌, ◌-◌, List, [], ◌∷◌, map, Bool, true, false, Option, Some, None, pos, refl, sym, ap, subst, ◌∙◌, arith, lit≤}
use Rattle.std.specs.Prelude.{slice_get, codes}
use Rattle.std.specs.Option.{option_to_list, option_map}
use Rattle.mc_nbt.specs.declared.value.Kind.{Kind}
use Rattle.mc_nbt.specs.declared.value.Kind.TheVariants as kinds
use Rattle.mc_nbt.specs.declared.value.Value.{Value}
use Rattle.mc_nbt.specs.declared.value.Value.TheVariants as values
use Rattle.mc_cmd.specs.Form.{Text}
use Rattle.mc_cmd.specs.Layout.{Answer, new, running, done, trap, dead, answer}
use Rattle.mc_cmd.specs.Pack.{Event, ExportType, Lawful, Pack, play}
use Rattle.mc_cmd.specs.World.{World}
use Rattle.wm_ast.specs.declared.answer.TrapKind.TheVariants.{Unreachable}
use Rattle.wm_ast.specs.declared.module.Export.{Export}
use Rattle.wm_ast.specs.declared.module.Func.{Func}
use Rattle.wm_ast.specs.declared.module.FuncType.{FuncType}
use Rattle.wm_ast.specs.declared.module.Space.TheVariants as spaces
use Rattle.wm_ast.specs.declared.module.Module.{Module}
use Rattle.wm_ast.specs.After.{after, IsNext, Outcome, Ends, Traps, Runs, HasOutcome}
use Rattle.wm_ast.specs.Configuration.{Config}
use Rattle.wm_ast.specs.Instance.{call_config, export_config, exported_functions, first_config, first_store}
use Rattle.wm_ast.specs.Operation.{kind_type}
use Rattle.wm_ast.specs.Types.{function_type}
use Rattle.wm_ast.specs.Step.{Progress, Ended, Trapped}
use Rattle.wm_ast.specs.Store.{Store}
use Rattle.wm_flat.proofs.Outcomes.{one_outcome}
use Rattle.cc_line.specs.Routine.{trap_number}
use Rattle.pk_agree.specs.Agree.{Agrees, AreExports, IsExport, IsTrueOf, TellsOfJob, function_exports}
use Rattle.pk_agree.specs.Job.{AfterCall, IsAtRest, IsOverWithin, IsPresent, Job, begins, call_job, first_job, left_by, stays, ticked_job}
use Rattle.pk_agree.specs.Resume.{Resumable, Resumes, in_configuration, in_instantiation}
use Rattle.witness.specs.Events.{arguments, greatest, schedule, up_to_call}
use Rattle.witness.specs.Example.{bodies, dying, example, function, of_none, of_one}
use Rattle.witness.specs.Played.{Dies, IsPlayed, RunsAt, ShowsConfiguration, StandsAt, export_types, fail_type, job_of, ready_job, run_type, spin_type, ticked_call, ticks}
use Rattle.witness.proofs.Lawful.{greatest_budget, is_lawful, is_lawful_before, least_budget}
use Rattle.witness.proofs.Runs.{run_is, start_is, fail_is, spin_is, dying_is, left, left_after}

some_same : {A : Type 0} (x y : A) → Some x ≡ Some y → x ≡ y
some_same x y e = cc

-- ---- the index

kind_is : (k j : Kind) → kind_type k ≡ kind_type j → k ≡ j
kind_is kinds.I32 kinds.I32 e = refl
kind_is kinds.I32 kinds.I64 e = absurd cc
kind_is kinds.I64 kinds.I32 e = absurd cc
kind_is kinds.I64 kinds.I64 e = refl

kinds_are : (ks js : List Kind) → map kind_type ks ≡ map kind_type js → ks ≡ js
kinds_are [] [] e = refl
kinds_are [] (j ∷ js) e = absurd cc
kinds_are (k ∷ ks) [] e = absurd cc
kinds_are (k ∷ ks) (j ∷ js) e =
    let first_one : kind_type k ≡ kind_type j = cc in
    let other : map kind_type ks ≡ map kind_type js = cc in
    λ i. kind_is k j first_one i ∷ kinds_are ks js other i

result_is : (o r : Option Kind) → map kind_type (option_to_list o) ≡ map kind_type (option_to_list r) → o ≡ r
result_is None None e = refl
result_is None (Some j) e = absurd cc
result_is (Some k) None e = absurd cc
result_is (Some k) (Some j) e = let one : kind_type k ≡ kind_type j = cc in ap (λ (x : Kind). Some x) (kind_is k j one)

-- an entry, by the function and the type of its export
entry_is : (e : Export) (f : Func) (t : FuncType) (ps : List Kind) (r : Option Kind) (x : ExportType) → slice_get example.funcs e.index ≡ Some f
    → function_type example f ≡ Some t → t.params ≡ map kind_type ps → t.results ≡ map kind_type (option_to_list r) → IsExport example e x
    → (let y : ExportType = record { name = e.name; params = ps; result = r } in x ≡ y)
entry_is e f t ps r x there typed params results h =
    let func : f ≡ h.func = some_same f h.func (sym there ∙ h.is_function.there) in
    let same : t ≡ h.type = some_same t h.type (sym typed ∙ (ap (function_type example) func ∙ h.is_function.has_type)) in
    let takes : x.params ≡ ps = kinds_are x.params ps (h.params ∙ (ap (λ (u : FuncType). u.params) (sym same) ∙ params)) in
    let gives : x.result ≡ r = result_is x.result r (h.result ∙ (ap (λ (u : FuncType). u.results) (sym same) ∙ results)) in
    λ i. record { name = h.name i; params = takes i; result = gives i }

abbrev export_at : List ℕ → ℕ → Export
export_at name n = record { name = name; space = spaces.Func; index = n }

pub exports_are : (xs : List ExportType) → AreExports example (function_exports example) xs → xs ≡ export_types
exports_are [] h = absurd h
exports_are (x ∷ []) h = absurd h.1
exports_are (x ∷ y ∷ []) h = absurd h.1.1
exports_are (x ∷ y ∷ z ∷ []) h =
    let first_is : x ≡ run_type = entry_is (export_at (codes "run") 0) (function 0 bodies.run) of_one (kinds.I64 ∷ []) (Some kinds.I64) x refl refl refl refl h.0 in
    let second_is : y ≡ spin_type = entry_is (export_at (codes "spin") 3) (function 1 bodies.spin) of_none [] None y refl refl refl refl h.1.0 in
    let third_is : z ≡ fail_type = entry_is (export_at (codes "fail") 4) (function 1 bodies.fail) of_none [] None z refl refl refl refl h.1.1.0 in
    λ i. first_is i ∷ second_is i ∷ third_is i ∷ []
exports_are (x ∷ y ∷ z ∷ w ∷ xs) h = absurd h.1.1.1

-- ---- jobs

-- a call of a pack at rest, whose job has ended, begins this job
pub call_begins : (m : Module) (a : Option Answer) (j h : Job) (k : ℕ) (args : List Value) (s : Store) (vs : List Value) (c : Config)
    → AfterCall m a j k args h → IsAtRest a → HasOutcome m j.config (Ends vs s) → export_config m s k args ≡ Some c → h ≡ call_job c
call_begins m a j h k args s vs c (begins x t d rest out left conf) at_rest ended is =
    let same : x ≡ Ends vs s = one_outcome m j.config x (Ends vs s) out ended in
    let from : Some t ≡ Some s = sym left ∙ ap left_by same in
    let store : t ≡ s = cc in
    let both : Some d ≡ Some c = sym conf ∙ (ap (λ (u : Store). export_config m u k args) store ∙ is) in
    let one : d ≡ c = cc in
    ap call_job one
call_begins m a j h k args s vs c (stays f) at_rest ended is =
    absurd (subst IsNext ended.1 (f at_rest ended.0))

-- ---- answers

-- what a pack answers where this became of its job
abbrev pub told : Bool → Outcome → Option Answer
told true (Ends vs s) = Some new
told true (Traps k s) = Some (dead (trap_number k))
told false (Ends [] s) = Some (done None)
told false (Ends (v ∷ []) s) = Some (done (Some v))
told false (Ends (v ∷ w ∷ vs) s) = None
told false (Traps k s) = Some (trap (trap_number k))
told b Runs = Some running

-- an answer that tells something of a job tells what became of it, unless it is that the pack runs
pub answer_is : (m : Module) (ns : Text) (w : World) (j : Job) (a : Option Answer) (x : Outcome) → TellsOfJob m ns w j a → HasOutcome m j.config x
    → (a ≡ Some running → Some running ≡ told j.instantiates x) → a ≡ told j.instantiates x
answer_is m ns w j None x h is runs = absurd h
answer_is m ns w j (Some running) x h is runs = runs refl
answer_is m ns w j (Some new) x (i, vs, s, came) is runs = λ t. told (sym i t) (one_outcome m j.config (Ends vs s) x came.outcome is t)
answer_is m ns w j (Some (done None)) x (i, s, came) is runs = λ t. told (sym i t) (one_outcome m j.config (Ends [] s) x came.outcome is t)
answer_is m ns w j (Some (done (Some v))) x (i, s, came) is runs = λ t. told (sym i t) (one_outcome m j.config (Ends (v ∷ []) s) x came.outcome is t)
answer_is m ns w j (Some (trap n)) x (i, k, s, e, came) is runs =
    ap (λ (l : ℕ). Some (trap l)) e ∙ (λ t. told (sym i t) (one_outcome m j.config (Traps k s) x came.outcome is t))
answer_is m ns w j (Some (dead n)) x (i, k, s, e, came) is runs =
    ap (λ (l : ℕ). Some (dead l)) e ∙ (λ t. told (sym i t) (one_outcome m j.config (Traps k s) x came.outcome is t))

-- ---- ticks

at_ready : (m : Module) (pack : Pack) (j : Job) → IsPresent m pack ticks j → j ≡ ready_job m
at_ready m pack j p = p.2.2 ∙ (p.2.1 ∙ ap (λ (g : Job). ticked_job g greatest) p.1)

lawful_ticks : (pack : Pack) → Lawful pack.index ticks
lawful_ticks pack = (least_budget, (greatest_budget, tt))

-- what holds after events, at the job that they lead to
holds_at : (m : Module) (pack : Pack) → Agrees m pack → (events : List Event) → Lawful pack.index events → (i : Job)
    → ((j : Job) → IsPresent m pack events j → j ≡ i) → IsPresent m pack events i × IsTrueOf m pack (play pack events) i
holds_at m pack agrees events lawful i leads =
    let (j, present, true_of) = agrees.always events lawful in
    (subst (IsPresent m pack events) (leads j present) present, subst (IsTrueOf m pack (play pack events)) (leads j present) true_of)

-- a job that is over after some steps, at events that have given it enough credit
stands_at : (m : Module) (pack : Pack) → Agrees m pack → (events : List Event) → Lawful pack.index events → (i : Job)
    → ((j : Job) → IsPresent m pack events j → j ≡ i) → (n : ℕ) (p : Progress) → after m i.config n ≡ p → (IsNext p → ⊥)
    → (x : Outcome) → HasOutcome m i.config x → (a : Answer) → told i.instantiates x ≡ Some a → 16 * (i.offset + n + 1) ≤ i.credit
    → StandsAt m pack events i a
stands_at m pack agrees events lawful i leads n p is not x ended a tells enough =
    let (present, holds) = holds_at m pack agrees events lawful i leads in
    let over : IsOverWithin m i (i.offset + n) = (omega arith, λ next. not (subst IsNext (ap (after m i.config) (left_over i.offset n) ∙ is) next)) in
    record {
      present = present;
      true_of = holds;
      answers =
          answer_is m pack.index.ns (play pack events).world i (answer pack.index.ns (play pack events).world) x holds.tells ended
          (λ runs. absurd (holds.in_time (i.offset + n) over enough runs))
          ∙ tells;
    }
  where
    left_over : (a b : ℕ) → a + b - a ≡ b
    left_over a b = omega arith

-- the pack of a module whose start function traps
pub dies : (pack : Pack) → Agrees dying pack → Dies pack
dies pack agrees =
    stands_at dying pack agrees ticks (lawful_ticks pack) (ready_job dying) (at_ready dying pack) 2 (Trapped Unreachable (first_store dying)) dying_is (λ h. h)
    (Traps Unreachable (first_store dying)) (2, dying_is) (dead (trap_number Unreachable)) refl (lit≤ tt)

-- ---- the play

module _ (pack : Pack) (agrees : Agrees example pack) (resumable : Resumable example pack) where
  abbrev ns : Text
  ns = pack.index.ns

  exports : pack.index.exports ≡ export_types
  exports = exports_are pack.index.exports agrees.exports

  -- where the pack runs it can be resumed
  running_at : (events : List Event) → Lawful pack.index events → (i : Job) → ((j : Job) → IsPresent example pack events j → j ≡ i)
      → answer ns (play pack events).world ≡ Some running → RunsAt pack events i
  running_at events lawful i leads runs =
      let (present, holds) = holds_at example pack agrees events lawful i leads in
      let (j, also, resumes) = resumable.always events lawful in
      record {
        stands = record { present = present; true_of = holds; answers = runs };
        resumes = subst (Resumes example ns (play pack events).world) (leads j also) (resumes runs);
      }

  -- loading
  starts : RunsAt pack [] (first_job example)
  starts =
      let (present, holds) = holds_at example pack agrees [] tt (first_job example) (λ j p. p) in
      running_at [] tt (first_job example) (λ j p. p) (holds.begun refl)

  ended : HasOutcome example (first_config example) (Ends [] left)
  ended = (4, start_is)

  -- ticks
  is_new : StandsAt example pack ticks (ready_job example) new
  is_new =
      stands_at example pack agrees ticks (lawful_ticks pack) (ready_job example) (at_ready example pack) 4 (Ended [] left) start_is (λ h. h)
      (Ends [] left) ended new refl (lit≤ tt)

  -- a call of an export, by its number, its type and its function
  module _ (k : ℕ) (x : ExportType) (f : ℕ) (listed : slice_get export_types k ≡ Some x) (named : slice_get (exported_functions example) k ≡ Some f) where
    abbrev arguments_of : List Value
    arguments_of = arguments x.params

    is_there : slice_get pack.index.exports k ≡ Some x
    is_there = ap (λ (xs : List ExportType). slice_get xs k) exports ∙ listed

    lawful_call : Lawful pack.index (up_to_call k x.params)
    lawful_call = is_lawful_before pack.index k x is_there

    lawful_all : Lawful pack.index (schedule ns k x.params)
    lawful_all = is_lawful pack.index k x is_there

    begun_job : (h i : Job) → h ≡ ready_job example → AfterCall example (answer ns (play pack ticks).world) h k arguments_of i → i ≡ job_of left f arguments_of
    begun_job h i same called =
        call_begins example (answer ns (play pack ticks).world) h i k arguments_of left [] (call_config left f arguments_of) called
        (subst IsAtRest (sym is_new.answers) tt) (subst (λ (j : Job). HasOutcome example j.config (Ends [] left)) (sym same) ended)
        (ap (option_map (λ (g : ℕ). call_config left g arguments_of)) named)

    at_call : (j : Job) → IsPresent example pack (up_to_call k x.params) j → j ≡ job_of left f arguments_of
    at_call j p = p.2.2.2 ∙ begun_job p.2.0 p.2.2.0 (p.2.1 ∙ ap (λ (g : Job). ticked_job g greatest) p.1) p.2.2.1

    at_end : (j : Job) → IsPresent example pack (schedule ns k x.params) j → j ≡ ticked_call left f arguments_of
    at_end j p =
        let begun : p.2.2.0 ≡ job_of left f arguments_of = begun_job p.2.0 p.2.2.0 (p.2.1 ∙ ap (λ (g : Job). ticked_job g greatest) p.1) p.2.2.1 in
        p.2.2.2.2.2.2 ∙ (p.2.2.2.2.2.1 ∙ (p.2.2.2.2.1 ∙ (p.2.2.2.1 ∙ ap (λ (g : Job). ticked_job g greatest) begun)))

    called : RunsAt pack (up_to_call k x.params) (job_of left f arguments_of)
    called =
        let (present, holds) = holds_at example pack agrees (up_to_call k x.params) lawful_call (job_of left f arguments_of) at_call in
        running_at (up_to_call k x.params) lawful_call (job_of left f arguments_of) at_call (holds.begun refl)

    -- after all events, where the job is over after some steps
    stands_last : (n : ℕ) (p : Progress) → after example (call_config left f arguments_of) n ≡ p → (IsNext p → ⊥) → (y : Outcome) → HasOutcome example (call_config left f arguments_of) y
        → (a : Answer) → told false y ≡ Some a → 16 * (0 + n + 1) ≤ (ticked_call left f arguments_of).credit
        → StandsAt example pack (schedule ns k x.params) (ticked_call left f arguments_of) a
    stands_last n p is not y over a tells enough =
        stands_at example pack agrees (schedule ns k x.params) lawful_all (ticked_call left f arguments_of) at_end n p is not y over a tells enough

  ends : StandsAt example pack (schedule ns 0 run_type.params) (ticked_call left 0 (arguments run_type.params)) (done (Some (values.I64 (pos 70))))
  ends =
      stands_last 0 run_type 0 refl refl 47 (Ended (values.I64 (pos 70) ∷ []) left_after) run_is (λ h. h)
      (Ends (values.I64 (pos 70) ∷ []) left_after) (47, run_is) (done (Some (values.I64 (pos 70)))) refl (lit≤ tt)

  fails : StandsAt example pack (schedule ns 2 fail_type.params) (ticked_call left 4 []) (trap (trap_number Unreachable))
  fails =
      stands_last 2 fail_type 4 refl refl 2 (Trapped Unreachable left) fail_is (λ h. h)
      (Traps Unreachable left) (2, fail_is) (trap (trap_number Unreachable)) refl (lit≤ tt)

  spins : RunsAt pack (schedule ns 1 spin_type.params) (ticked_call left 3 [])
  spins =
      let events : List Event = schedule ns 1 [] in
      let (present, holds) = holds_at example pack agrees events (lawful_all 1 spin_type 3 refl refl) (ticked_call left 3 []) (at_end 1 spin_type 3 refl refl) in
      running_at events (lawful_all 1 spin_type 3 refl refl) (ticked_call left 3 []) (at_end 1 spin_type 3 refl refl)
      (answer_is example ns (play pack events).world (ticked_call left 3 []) (answer ns (play pack events).world) Runs holds.tells spin_is (λ runs. refl))

  -- its credit is more than instantiation has
  shows_by : Resumes example ns (play pack (schedule ns 1 [])).world (ticked_call left 3 []) → ShowsConfiguration pack (schedule ns 1 []) (ticked_call left 3 [])
  shows_by (in_instantiation i next small) = absurd (omega (arith, small))
  shows_by (in_configuration n c reached shows small) = record { steps = n; config = c; reached = reached; shows = shows }

  pub is_played : IsPlayed pack
  is_played = record {
    store = left;
    instantiates = ended;
    starts = starts;
    is_new = is_new;
    called = called 0 run_type 0 refl refl;
    ends = ends;
    spins = spins;
    shows = shows_by spins.resumes;
    fails = fails;
  }
