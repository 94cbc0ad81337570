-- A call: the pieces that make its first frame, those that go on with it, and the one that ends it.
use Rattle.std.proofs.Common.{◌≡◌, ℕ, zero, suc, ◌+◌, ◌-◌, ◌*◌, ◌<◌, ◌≤◌, ◌==◌, List, [], ◌∷◌, length, reverse, Some, Bool, true, false, refl, sym, ap, ◌∙◌, subst, arith}
use Rattle.std.specs.Prelude.{pos, if◌then◌else◌}
use Rattle.std.proofs.lemmas.List.{length-reverse, reverse-reverse}
use Rattle.mc_nbt.specs.Tree.{int}
use Rattle.mc_nbt.specs.declared.value.Value.{Value}
use Rattle.mc_cmd.specs.Layout.{new, done, trap, dead}
use Rattle.mc_cmd.specs.Pack.{Pack}
use Rattle.wm_ast.specs.declared.answer.TrapKind.{TrapKind}
use Rattle.wm_ast.specs.declared.module.Module.{Module}
use Rattle.wm_ast.specs.declared.module.ValType.{ValType}
use Rattle.wm_ast.specs.After.{Ends, Traps, HasOutcome}
use Rattle.wm_ast.specs.Configuration.{Config}
use Rattle.wm_ast.specs.Instance.{call_config}
use Rattle.wm_ast.specs.Store.{Store, Callee, callee}
use Rattle.wm_ast.specs.Types.{run_types}
use Rattle.wm_valid.specs.Height.{Low}
use Rattle.wm_flat.specs.Flat.{Activation, running, finished, goes, none, fails, starts, opened, handed, move}
use Rattle.wm_flat.specs.FlatTyping.{Are, TypedState, TypedStore}
use Rattle.wm_flat.specs.Program.{IsProgram}
use Rattle.wm_flat.specs.Runs as machines
use Rattle.wm_flat.specs.Runs.{Leads}
use Rattle.wm_flat.proofs.CalleeLaws.{Entry, entry}
use Rattle.wm_flat.proofs.Consequences.{leads_on, leads_nowhere, further_on}
use Rattle.wm_flat.proofs.Keeps.{leads_typed}
use Rattle.wm_flat.proofs.Outcomes.{end_is, trap_is}
use Rattle.wm_flat.proofs.Soundness.{call_is_typed}
use Rattle.wm_flat.proofs.ValueLaws.{length_are}
use Rattle.cc_line.specs.Sight.{in_io, in_rest}
use Rattle.cc_line.specs.Key.{key_state, key_result, key_trap, key_end, key_fail, body_piece, group_shared}
use Rattle.cc_line.specs.Place.{score_places}
use Rattle.cc_line.specs.Routine.{trap_number}
use Rattle.cc_line.specs.State.{State}
use Rattle.cc_line.specs.Item.{Items, items_most, run_items}
use Rattle.cc_call.specs.Frames.{done_piece}
use Rattle.cc_cut.specs.Law.{widths}
use Rattle.cc_move.specs.Law.{at}
use Rattle.cc_sched.specs.Pieces.{end_weight, is_one}
use Rattle.cc_pieces.specs.Entry.{done_items, taker, taker_items}
use Rattle.cc_simulate.specs.Frame.{stack_ints}
use Rattle.cc_simulate.specs.Stands.{ChangesFrameAlone, ChangesStoreAlone, Finished, Ending, Standing, at_cut, name_of, rank_of, HasStore, Arrives, to_standing, to_end, to_trap, Entering, Taking}
use Rattle.cc_body.specs.Pieces.{function_entry}
use Rattle.cc_simulate.specs.Named.{items_named}
use Rattle.cc_simulate.specs.Law.{Enters, HasBegun}
use Rattle.cc_simulate.specs.Stored.{Stored}
use Rattle.cc_simulate.specs.Uses.{uses_bytes}
use Rattle.cc_simulate.proofs.Globals.{stored_kept}
use Rattle.cc_simulate.proofs.Proceeding.{keeps_spares}
use Rattle.pk_agree.specs.Job.{Job}
use Rattle.pk_agree.specs.Linked.{Linked, charged_piece}
use Rattle.pk_agree.proofs.Alike.{Trapped, stands_still}
use Rattle.cc_init.proofs.Appending.{few_ints}
use Rattle.pk_agree.proofs.Answers.{stored_by, result_of, one_result, not_zero, answers_new, answers_done, answers_trap, answers_dead}
use Rattle.pk_agree.proofs.Held.{function_few, Held, done_held, standing_held}
use Rattle.pk_agree.proofs.Leads.{Lead, further, stops, traps, Runs, runs_by}
use Rattle.pk_agree.proofs.Pieces.{PiecesAreRight}
use Rattle.pk_agree.proofs.Programs.{entry_items_are, taker_items_are}
use Rattle.pk_agree.proofs.Schedules.{IsSame}
use Rattle.pk_agree.proofs.Stages.{end_state, fail_state, Called, start, takes, goes, ends, is_free, is_dead, Rests, wholes}
use Rattle.pk_agree.proofs.Standings.{standing_goes, standing_named, standing_runs, standing_wide, standing_low}
use Rattle.cc_stops.proofs.Wide.{IsWide, items_wide}
use Rattle.cc_line.specs.Standing as lasting
use Rattle.cc_simulate.proofs.Lasting.{lasts_frame, lasts_store}

same_count : (a b : ℕ) → a ≡ b → (a == b) ≡ true
same_count a b e = grind arith

reversed : (ts us : List ValType) → us ≡ reverse ts → ts ≡ reverse us
reversed ts us e = sym (reverse-reverse ts) ∙ ap reverse (sym e)

-- the piece that ends a job weighs little
done_weighs : (w : ℕ) → w ≤ 2 → items_most (charged_piece (done_piece w) (done_items w)) ≤ end_weight
done_weighs zero h = omega arith
done_weighs (suc zero) h = omega arith
done_weighs (suc (suc zero)) h = omega arith
done_weighs (suc (suc (suc w))) h = absurd (omega arith)

-- a result is two ints at most
few_results : (vs : List Value) → length vs ≤ 1 → length (stack_ints vs) ≤ 2
few_results [] h = omega arith
few_results (v ∷ []) h = few_ints v
few_results (v ∷ w ∷ vs) h = absurd (omega arith)

module _ (m : Module) (p : IsProgram m) (low : Low m) (pack : Pack) (l : Linked m pack) (d : PiecesAreRight) where
  few_takers : {s : State} {j : Job} → (c : Called m s j) → wholes c.type ≤ 11
  few_takers c = d.takers_few m p c.func c.function c.type c.is_function

  -- after a piece the job is the same call
  abbrev called_on : (s u : State) (j : Job) → ChangesStoreAlone s u → Called m s j → Called m u j
  called_on s u j k c = record {
    store = c.store;
    typed = c.typed;
    func = c.func;
    function = c.function;
    type = c.type;
    is_function = c.is_function;
    args = c.args;
    given = c.given;
    ending = k.keys in_rest key_end refl refl ∙ c.ending;
    failing = k.keys in_rest key_fail refl refl ∙ c.failing;
    is_call = c.is_call;
  }

  -- ---- the first frame

  abbrev own_entry : {s : State} {j : Job} → (c : Called m s j) → Entry m c.func c.function c.type
  own_entry c = entry m c.func c.function c.type p c.is_function

  abbrev own_callee : {s : State} {j : Job} → Called m s j → Callee
  own_callee c = callee c.function c.type (own_entry c).result

  abbrev first_activation : {s : State} {j : Job} → Called m s j → Activation
  first_activation c = opened c.func (own_callee c) (reverse c.args)

  opens : {s : State} {j : Job} → (c : Called m s j) → Leads m 1 (start m c) (at c.store [] (first_activation c))
  opens c =
      let count : length (reverse c.args) ≡ length (reverse c.type.params) = length-reverse c.args ∙ length_are c.type.params c.args c.given ∙ sym (length-reverse c.type.params) in
      further_on m 0 1 (start m c) (start m c) (at c.store [] (first_activation c)) (leads_nowhere m (start m c))
      (ap (starts c.store c.func (reverse c.args)) (own_entry c).found
      ∙ ap (λ b. if b then goes 1 c.store (running [] (first_activation c)) else none) (same_count _ _ count))

  begun_on : (j : Job) (s u : State) (c : Called m s j) → Stored m c.store s → ChangesFrameAlone s u → (w k : ℕ)
      → HasBegun m c.func c.function (own_callee c) c.args w u → w ≤ wholes c.type → k + w ≡ 16 * j.offset + wholes c.type
      → Lead m pack j k u
  begun_on j s u c st h zero k e l z =
      let few = few_takers c in
      let x : Standing m [] (first_activation c) u = at_cut e in
      further (16 * (j.offset + 1) + rank_of m x) e.calm.trap (goes (called_on s u j (keeps_spares s u h) c) 1 c.store [] (first_activation c) (opens c) x (stored_kept m c.store s u h st) refl) (omega arith)
  begun_on j s u c st h (suc i) k e l z =
      let n : k + 1 + i ≡ 16 * j.offset + wholes c.type = omega arith in
      let i_low : i < wholes c.type = omega arith in
      further (k + 1) e.calm.trap (takes (called_on s u j (keeps_spares s u h) c) (stored_kept m c.store s u h st) i e i_low n) (omega arith)

  pub enter_runs : (j : Job) (k : ℕ) (s : State) (c : Called m s j) → Stored m c.store s
      → Entering m c.func c.args s → k ≡ 16 * j.offset → Runs m pack j k s
  enter_runs j k s c st e z =
      let g = (d.enter m p c.func c.function c.type (own_callee c) c.args c.is_function (own_entry c).found c.given).0 s e in
      let small : c.func < 8192 = function_few m p c.func c.function c.is_function.there in
      let n : c.func < 2147483648 = omega arith in
      let fits : c.func < group_shared = omega arith in
      runs_by m pack j k s (body_piece c.func 0) (function_entry m c.func c.function c.type)
      (entry_items_are m c.func c.function c.type c.is_function) (fits, omega arith) e.named e.runs.state (record {
        has = l.entries c.func c.function c.type c.is_function;
        light = (d.light m p low c.func n).1 c.function c.type c.is_function;
        ready = g.ready;
        leads = begun_on j s (run_items (function_entry m c.func c.function c.type) s).state c st g.keeps (wholes c.type) k g.there (omega arith) (omega arith);
        closes = λ e. (let y : false ≡ true = e in absurd cc);
      })

  pub take_runs : (j : Job) (k : ℕ) (s : State) (c : Called m s j) → Stored m c.store s → (i : ℕ)
      → Taking m c.func c.args (widths (run_types c.function.locals)) i s → i < wholes c.type
      → k + i ≡ 16 * j.offset + wholes c.type
      → Runs m pack j k s
  take_runs j k s c st i e n z =
      let g = (d.enter m p c.func c.function c.type (own_callee c) c.args c.is_function (own_entry c).found c.given).1 s i e in
      let few = few_takers c in
      let fits : 5000 + i < 2147483648 = omega arith in
      runs_by m pack j k s (taker i) (taker_items i) (taker_items_are m i (omega arith)) fits e.named e.calm.state (record {
        has = l.takers c.func c.function c.type c.is_function i n;
        light = d.takers_light i (omega arith);
        ready = g.ready;
        leads = begun_on j s (run_items (taker_items i) s).state c st g.keeps i k g.there (omega arith) z;
        closes = λ e. (let y : false ≡ true = e in absurd cc);
      })

  -- ---- the end of a call

  -- it is that of the job: instantiation, or a call
  ended_rests : (j : Job) (u : State) (c : Called m u j) → IsWide u → (n : ℕ) (now : Store) (vs : List Value)
      → Leads m n (start m c) (record { store = now; flat = finished vs }) → TypedStore m now → Stored m now u
      → lasting.Standing (uses_bytes m) u → Finished vs u → Rests m pack.index.ns u j
  ended_rests j u c wide n now vs h typed stored standing f = by_kind j.instantiates refl
    where
      came : HasOutcome m (call_config c.store c.func c.args) (Ends (reverse vs) now)
      came = end_is m n (start m c) (record { store = now; flat = finished vs }) vs h refl

      state : (b : Bool) → j.instantiates ≡ b → u.keys in_io key_state ≡ Some (int (pos (end_state b)))
      state b e = f.state ∙ c.ending ∙ ap (λ q. Some (int (pos (end_state q)))) e

      outcome : (i : Job) → IsSame j i → HasOutcome m i.config (Ends (reverse vs) now)
      outcome i e = subst (λ (x : Config). HasOutcome m x (Ends (reverse vs) now)) (sym (e.1 ∙ c.is_call)) came

      by_kind : (b : Bool) → j.instantiates ≡ b → Rests m pack.index.ns u j
      by_kind true e = record {
        wide = wide;
        number = pos 0;
        state = state true e;
        idle = refl;
        store = now;
        typed = typed;
        stored = stored;
        standing = standing;
        outcome = Ends (reverse vs) now;
        came = outcome j (refl, refl, refl);
        left = refl;
        says = new;
        silent = λ q. cc;
        calls = is_free refl tt;
        answers = λ w v sh g. answers_new pack.index.ns w v sh (g.keys in_io key_state refl ∙ state true e);
        tells = λ w i q r. (q.2 ∙ e, reverse vs, now, record { outcome = outcome i q; public = r });
      }
      by_kind false e = record {
        wide = wide;
        number = pos 2;
        state = state false e;
        idle = refl;
        store = now;
        typed = typed;
        stored = stored;
        standing = standing;
        outcome = Ends (reverse vs) now;
        came = outcome j (refl, refl, refl);
        left = refl;
        says = done (result_of vs);
        silent = λ q. cc;
        calls = is_free refl tt;
        answers = λ w v sh g. answers_done pack.index.ns w v vs sh (g.keys in_io key_state refl ∙ state false e) (g.keys in_io key_result refl ∙ f.result) f.few;
        tells = λ w i q r. (
          q.2 ∙ e,
          now,
          record {
            outcome = subst (λ (us : List Value). HasOutcome m i.config (Ends us now)) (one_result vs f.few) (outcome i q);
            public = r;
          },
        );
      }

  fails_idle : (b : Bool) → is_one (pos (fail_state b)) ≡ false
  fails_idle true = refl
  fails_idle false = refl

  trapped_rests : (j : Job) (u v : State) (c : Called m u j) → IsWide u → (n i : ℕ) (now : Store)
      (ds : List Activation) (b : Activation) (k : TrapKind) → Leads m n (start m c) (at now ds b) → TypedStore m now
      → Stored m now u → lasting.Standing (uses_bytes m) u → move m now (running ds b) ≡ fails i k
      → Trapped u (suc (trap_number k - 1)) (fail_state j.instantiates) v → Rests m pack.index.ns v j
  trapped_rests j u v c wide n i now ds b k h typed stored standing f t = by_kind j.instantiates refl
    where
      came : HasOutcome m (call_config c.store c.func c.args) (Traps k now)
      came = trap_is m n i k (start m c) (at now ds b) h f

      outcome : (i : Job) → IsSame j i → HasOutcome m i.config (Traps k now)
      outcome i e = subst (λ (x : Config). HasOutcome m x (Traps k now)) (sym (e.1 ∙ c.is_call)) came

      told : v.keys in_io key_trap ≡ Some (int (pos (trap_number k)))
      told = t.told ∙ ap (λ x. Some (int (pos x))) (sym (not_zero k))

      state : (b : Bool) → j.instantiates ≡ b → v.keys in_io key_state ≡ Some (int (pos (fail_state b)))
      state b e = t.state ∙ ap (λ q. Some (int (pos (fail_state q)))) e

      still_wide : IsWide v
      still_wide = let e : length v.places ≡ length u.places = ap length t.places in let x : score_places ≤ length v.places = omega arith in x

      by_kind : (b : Bool) → j.instantiates ≡ b → Rests m pack.index.ns v j
      by_kind true e = record {
        wide = still_wide;
        number = pos 4;
        state = state true e;
        idle = refl;
        store = now;
        typed = typed;
        stored = stored_by m now u v t.remains stored;
        standing = stands_still u v t.remains standing;
        outcome = Traps k now;
        came = outcome j (refl, refl, refl);
        left = refl;
        says = dead (trap_number k);
        silent = λ q. cc;
        calls = is_dead refl (λ q. q);
        answers = λ w x sh g. answers_dead pack.index.ns w x k sh (g.keys in_io key_state refl ∙ state true e) (g.keys in_io key_trap refl ∙ told);
        tells = λ w i q r. (q.2 ∙ e, k, now, refl, record { outcome = outcome i q; public = r });
      }
      by_kind false e = record {
        wide = still_wide;
        number = pos 3;
        state = state false e;
        idle = refl;
        store = now;
        typed = typed;
        stored = stored_by m now u v t.remains stored;
        standing = stands_still u v t.remains standing;
        outcome = Traps k now;
        came = outcome j (refl, refl, refl);
        left = refl;
        says = trap (trap_number k);
        silent = λ q. cc;
        calls = is_free refl tt;
        answers = λ w x sh g. answers_trap pack.index.ns w x k sh (g.keys in_io key_state refl ∙ state false e) (g.keys in_io key_trap refl ∙ told);
        tells = λ w i q r. (q.2 ∙ e, k, now, refl, record { outcome = outcome i q; public = r });
      }

  -- ---- a piece that goes on with an activation

  -- what the job has come to is typed
  typed_at : (j : Job) (s : State) (c : Called m s j) (n : ℕ) (u : machines.State) → Leads m n (start m c) u
      → TypedState m (reverse c.type.results) u
  typed_at j s c n u h =
      leads_typed m (reverse c.type.results) n (start m c) u p
      (call_is_typed m c.store c.func c.function c.type c.args c.typed c.is_function c.given) h

  pub go_runs : (j : Job) (k : ℕ) (s : State) (c : Called m s j) (n : ℕ) (now : Store) (cs : List Activation)
      (a : Activation) → Leads m n (start m c) (at now cs a) → (x : Standing m cs a s) → HasStore m now s x
      → k ≡ 16 * (j.offset + n) + rank_of m x → Runs m pack j k s
  go_runs j k s c n now cs a h x stored e =
      let typed : TypedState m (reverse c.type.results) (at now cs a) = typed_at j s c n (at now cs a) h in
      let piece : Held m p low pack l d (name_of m x) =
      standing_held m p low pack l d cs a s typed.flat.0 typed.flat.1 typed.flat.2.is_function
      (reverse typed.flat.1.results) (reverse c.type.results) typed.flat.3 x in
      let xs : Items = items_named m (name_of m x) in
      let g = d.simulate m p low (reverse c.type.results) now cs a s typed x stored in
      runs_by m pack j k s (name_of m x) xs piece.is piece.fits (standing_named m cs a s x) (standing_runs m cs a s x).state (record {
        has = piece.has;
        light = piece.light;
        ready = g.ready;
        leads = leads (run_items xs s).state (items_wide xs s (standing_wide m cs a s x)) g.spares g.arrives;
        closes = λ e. (let y : true ≡ false = sym e ∙ standing_goes m cs a s x in absurd cc);
      })
    where
      leads : (u : State) → IsWide u → ChangesStoreAlone s u → Arrives m (rank_of m x) now cs a u → Lead m pack j k u
      leads u w kp (to_standing i later ds b g y st r) =
          further (16 * (j.offset + (n + i)) + rank_of m y) (standing_runs m ds b u y).trap
          (goes (called_on s u j kp c) (n + i) later ds b (leads_on m n i (start m c) (at now cs a) (at later ds b) h g) y st refl) (omega arith)
      leads u w kp (to_end i later b vs g st move_is f) =
          let r : rank_of m x ≤ 14 = standing_low m cs a d.fetches_few p low s x in
          further (16 * (j.offset + (n + i)) + 16) f.calm.trap
          (ends (called_on s u j kp c) (n + i) later b vs (leads_on m n i (start m c) (at now cs a) (at later [] b) h g) st move_is f refl) (omega arith)
      leads u w kp (to_trap i o later ds b t g st move_is score state) =
          let there : Leads m (n + i) (start m c) (at later ds b) = leads_on m n i (start m c) (at now cs a) (at later ds b) h g in
          traps (trap_number t - 1) (fail_state j.instantiates) (score ∙ ap (λ y. Some (pos y)) (not_zero t))
          (kp.keys in_rest key_fail refl refl ∙ c.failing) (fails_idle j.instantiates)
          (λ v tr. trapped_rests j u v (called_on s u j kp c) w (n + i) o later ds b t there
          (typed_at j s c (n + i) (at later ds b) there).store st (lasts_store s u kp (standing_runs m cs a s x).standing) move_is tr)

  -- ---- the piece that ends the job

  pub end_runs : (j : Job) (k : ℕ) (s : State) (c : Called m s j) (n : ℕ) (now : Store) (a : Activation)
      (vs : List Value) → Leads m n (start m c) (at now [] a) → Stored m now s
      → move m now (running [] a) ≡ handed now [] vs → Ending m vs s → Runs m pack j k s
  end_runs j k s c n now a vs h stored move_is e =
      let end : machines.State = record { store = now; flat = finished vs } in
      let over : Leads m (n + 1) (start m c) end = further_on m n 1 (start m c) (at now [] a) end h move_is in
      let typed : TypedState m (reverse c.type.results) end = typed_at j s c (n + 1) end over in
      let are : Are (reverse c.type.results) vs = typed.flat in
      let w : ℕ = length (stack_ints vs) in
      let piece : Held m p low pack l d (done_piece w) =
      done_held m p low pack l d w (few_results vs e.few) in
      let xs : Items = items_named m (done_piece w) in
      let g : Enters xs s (Finished vs) = d.ends m vs s e in
      let u : State = (run_items xs s).state in
      let rests : Rests m pack.index.ns u j =
      ended_rests j u (called_on s u j (keeps_spares s u g.keeps) c) (items_wide xs s e.has_scores) (n + 1) now vs over
      typed.store (stored_kept m now s u g.keeps stored) (lasts_frame s u g.keeps e.calm.standing) g.there in
      runs_by m pack j k s (done_piece w) xs piece.is piece.fits e.named e.calm.state (record {
        has = piece.has;
        light = piece.light;
        ready = g.ready;
        leads = stops g.there.trap rests;
        closes = λ y. record { light = done_weighs w (few_results vs e.few); trap = g.there.trap; rests = rests };
      })
