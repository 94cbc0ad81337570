-- Instantiation within a job: each of its pieces leads the first job on, and the last one to the start function's call, or to
-- the job's end.
use Rattle.std.proofs.Common.{◌≡◌, ℕ, suc, ◌+◌, ◌*◌, ◌<◌, ◌≤◌, ⊎_elim, List, [], Some, true, false, refl, sym, ap, ◌∙◌, subst, arith}
use Rattle.std.specs.Prelude.{pos, slice_get, Option, None}
use Rattle.std.proofs.lemmas.Bool.{cases_lt}
use Rattle.mc_nbt.specs.Tree.{int}
use Rattle.mc_cmd.specs.Layout.{new}
use Rattle.mc_cmd.specs.Pack.{Pack}
use Rattle.wm_ast.specs.declared.item.Item.TheVariants as items
use Rattle.wm_ast.specs.declared.module.Module.{Module}
use Rattle.wm_ast.specs.declared.module.ValType.{ValType}
use Rattle.wm_ast.specs.After.{Ends, HasOutcome}
use Rattle.wm_ast.specs.Configuration.{Config}
use Rattle.wm_ast.specs.Instance.{first_store, start_term, first_config}
use Rattle.wm_valid.specs.Valid.{IsValidStart}
use Rattle.wm_flat.specs.Flat.{config_of, first_flat, finished}
use Rattle.wm_flat.specs.FlatTyping.{Are, least_pages}
use Rattle.wm_flat.specs.Program.{IsProgram}
use Rattle.wm_flat.proofs.Consequences.{leads_nowhere}
use Rattle.wm_flat.proofs.Outcomes.{end_is, first_is}
use Rattle.wm_flat.proofs.Soundness.{first_is_typed}
use Rattle.wm_flat.specs.Runs as machines
use Rattle.wm_flat.proofs.ValueLaws.{are_none}
use Rattle.cc_line.specs.Sight.{in_io}
use Rattle.cc_line.specs.Key.{init_piece, key_state}
use Rattle.cc_line.specs.State.{State}
use Rattle.cc_init.specs.Init.{later_pieces, init_items}
use Rattle.cc_init.specs.Laid.{Instantiated, Leaves}
use Rattle.cc_init.specs.Law.{LaysDown, LeadsOn, ran}
use Rattle.cc_init.proofs.Laying.{instantiation_lays_down}
use Rattle.pk_agree.specs.Job.{Job, first_job}
use Rattle.pk_agree.specs.Linked.{Linked}
use Rattle.pk_agree.proofs.Answers.{answers_new}
use Rattle.pk_agree.proofs.Leads.{Lead, further, stops, Runs, runs_by}
use Rattle.pk_agree.proofs.Schedules.{IsSame}
use Rattle.pk_agree.proofs.Stages.{end_state, fail_state, Booting, boots, Called, enters, is_free, Rests}

module _ (m : Module) (p : IsProgram m) where
  -- what the law of instantiation says of the module
  law : LaysDown m
  law = instantiation_lays_down m p

  -- a piece for each step of the job before its first one, but for some of the globals
  pub booting_steps : (s : State) (j : Job) (k : ℕ) → Booting m s j k → (k ≤ j.offset + 26) × (4 ≤ j.offset)
  booting_steps s j k b =
      let before : k ≤ later_pieces m = b.next.few in
      let all : later_pieces m ≤ least_pages (slice_get m.mems 0) + 30 = law.few in
      let e : j.offset ≡ least_pages (slice_get m.mems 0) + 4 = b.same.0 in
      (omega arith, omega arith)

  -- without a start function the job has ended then
  first_ends : m.start ≡ None → HasOutcome m (first_config m) (Ends [] (first_store m))
  first_ends none =
      let end : machines.State = record { store = first_store m; flat = finished [] } in
      subst (λ (c : Config). HasOutcome m c (Ends [] (first_store m)))
      (ap (λ o. config_of (first_store m) (first_flat o)) (sym none) ∙ first_is m)
      (end_is m 0 end end [] (leads_nowhere m end) refl)

  -- the start function is there
  started : (f : ℕ) → m.start ≡ Some f → IsValidStart m f
  started f e = p.valid.items items.Start 0 f refl e

  module _ (pack : Pack) (l : Linked m pack) where
    -- without a start function the job has ended
    rests : (u : State) (j : Job) → m.start ≡ None → IsSame (first_job m) j → Instantiated m u
        → u.keys in_io key_state ≡ Some (int (pos 0)) → Rests m pack.index.ns u j
    rests u j none same d e = record {
      wide = d.wide;
      number = pos 0;
      state = e;
      idle = refl;
      store = first_store m;
      typed = (first_is_typed m p).store;
      stored = d.stored;
      standing = d.standing;
      outcome = Ends [] (first_store m);
      came = subst (λ (c : Config). HasOutcome m c (Ends [] (first_store m))) (sym same.1) (first_ends none);
      left = refl;
      says = new;
      silent = λ q. cc;
      calls = is_free refl tt;
      answers = λ w v sh g. answers_new pack.index.ns w v sh (g.keys in_io key_state refl ∙ e);
      tells = λ w i e q. (e.2 ∙ same.2, [], first_store m, record { outcome = subst (λ (c : Config). HasOutcome m c (Ends [] (first_store m))) (sym (e.1 ∙ same.1)) (first_ends none); public = q });
    }

    -- the call of the start function
    abbrev called : (u : State) (j : Job) (f : ℕ) → m.start ≡ Some f → IsSame (first_job m) j → Instantiated m u → Called m u j
    called u j f e same d =
        let valid : IsValidStart m f = started f e in
        record {
          store = first_store m;
          typed = (first_is_typed m p).store;
          func = f;
          function = valid.function;
          type = valid.plain.type;
          is_function = record { there = valid.there; has_type = valid.plain.named };
          args = [];
          given = subst (λ (ts : List ValType). Are ts []) (sym valid.plain.params) are_none;
          ending = d.ending ∙ ap (λ b. Some (int (pos (end_state b)))) (sym same.2);
          failing = d.failing ∙ ap (λ b. Some (int (pos (fail_state b)))) (sym same.2);
          is_call = same.1 ∙ ap (λ o. record { store = first_store m; term = start_term o }) e;
        }

    leaves : (u : State) (j : Job) (k : ℕ) → ((k ≤ j.offset + 26) × (4 ≤ j.offset)) → IsSame (first_job m) j
        → Instantiated m u → (o : Option ℕ) → m.start ≡ o → Leaves m o u → Lead m pack j k u
    leaves u j k steps same d None none e = stops e.1 (rests u j none same d e.0)
    leaves u j k steps same d (Some f) e r =
        further (16 * j.offset) r.runs.trap (enters (called u j f e same d) d.stored r refl) (omega (arith, steps.0, steps.1))

    leads : (j : Job) (k : ℕ) (s : State) → Booting m s j k → LeadsOn m k s → Lead m pack j k (ran m k s)
    leads j k s b d = ⊎_elim on out (cases_lt k (later_pieces m))
      where
        on : k < later_pieces m → Lead m pack j k (ran m k s)
        on before =
            let next = d.on before in
            further (suc k) next.trap (boots (record { next = next; same = b.same })) (let r : k + 1 ≤ suc k = omega arith in r)

        out : later_pieces m ≤ k → Lead m pack j k (ran m k s)
        out behind =
            let few : k ≤ later_pieces m = b.next.few in
            let there = d.out (let r : k ≡ later_pieces m = omega arith in r) in
            leaves (ran m k s) j k (booting_steps s j k b) b.same there m.start refl there.leaves

    pub boot_runs : (j : Job) (k : ℕ) (s : State) → Booting m s j k → Runs m pack j k s
    boot_runs j k s b =
        let few : k ≤ later_pieces m = b.next.few in
        let most : later_pieces m ≤ 286 = law.most in
        let d : LeadsOn m k s = law.steps k s b.next in
        runs_by m pack j k s (init_piece k) (init_items m k) refl (omega arith) b.next.named b.next.state (record {
          has = l.instantiation k few;
          light = law.light k few;
          ready = d.ready;
          leads = leads j k s b d;
          closes = λ e. (let y : false ≡ true = e in absurd cc);
        })
