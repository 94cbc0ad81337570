-- What each event makes of a linked pack: rounds of its scheduler lead from one stage of a job to another.
use Rattle.std.proofs.Common.{◌≡◌, ℕ, suc, ◌+◌, ◌*◌, ◌/◌, ◌<◌, ◌≤◌, ◌⊎◌, inl, inr, List, [], Option, Some, Bool, true, false, refl, sym, ap, ◌∙◌, subst, arith}
use Rattle.std.specs.Prelude.{ℤ, pos, ◌||◌}
use Rattle.mc_nbt.specs.Tree.{Tree, int}
use Rattle.mc_nbt.specs.declared.value.Value.{Value}
use Rattle.mc_cmd.specs.declared.TheConstants.{BMIN, PIECE}
use Rattle.mc_cmd.specs.Command.{Cmd, exactly}
use Rattle.mc_cmd.specs.Layout.{answer}
use Rattle.mc_cmd.specs.Layout as layout
use Rattle.mc_cmd.specs.Pack.{Pack, call, tick, reload, other, IsBudget, IsLawful, Standing, after_chain, chain_in, happen, loaded, with_args}
use Rattle.mc_cmd.specs.Word.{is_namespace}
use Rattle.mc_cmd.specs.World.{World, some_is_in, with_rule}
use Rattle.wm_ast.specs.declared.module.Module.{Module}
use Rattle.wm_valid.specs.Height.{Low}
use Rattle.wm_flat.specs.Program.{IsProgram}
use Rattle.cc_line.specs.Sight.{in_io, Sight, Shows}
use Rattle.cc_line.specs.Key.{key_state, score_trap, body_piece, init_piece}
use Rattle.cc_line.specs.State.{State, seen}
use Rattle.cc_line.specs.Item.{run_items}
use Rattle.cc_line.specs.Step.{after_step}
use Rattle.cc_sched.specs.Names.{tick_name, next_name, load_name, call_name}
use Rattle.cc_sched.specs.Pieces.{Idle, is_one, guarded, told, Piece, Rounds, no_round, one_round, gives_back, Finishes, finished, finishing, Stands, goes_on, is_over, Steady, tick_start, turn_weight}
use Rattle.cc_sched.specs.Sched.{give_back}
use Rattle.cc_sched.specs.Turn.{Whole, IsEnough, is_refused, job_over, rounds_enough, Ticked, Turned, loaded_state}
use Rattle.cc_sched.proofs.Reloads as reloads
use Rattle.cc_sched.proofs.Ticks as ticks
use Rattle.cc_sched.proofs.Turns as turns
use Rattle.cc_simulate.specs.Stands.{rank_of}
use Rattle.pk_agree.specs.Agree.{public_places}
use Rattle.pk_agree.specs.Job.{Job, first_job, IsOverWithin, IsAtRest, AfterCall}
use Rattle.pk_agree.specs.Heaviest.{heaviest}
use Rattle.pk_agree.specs.Linked.{Linked}
use Rattle.pk_agree.specs.Stepwise.{turned}
use Rattle.pk_agree.proofs.Alike.{Alike, alike_self, gave_alike, guarded_alike, start_alike}
use Rattle.pk_agree.proofs.Answers.{unchanged, answers_running}
use Rattle.pk_agree.proofs.Boot.{boot_runs, booting_steps}
use Rattle.pk_agree.proofs.Calls.{enter_runs, take_runs, go_runs, end_runs}
use Rattle.pk_agree.proofs.Invocations.{Callable, callable, invoked, invokes, refuses, Invoked, takes_call}
use Rattle.pk_agree.proofs.Leads.{IsNamed, IsOpen, Closed, Led, Next, Runs, named_of, open_kept, piece_of_stage, round_of, told_next}
use Rattle.pk_agree.proofs.Pieces.{PiecesAreRight}
use Rattle.pk_agree.proofs.Programs.{program}
use Rattle.pk_agree.proofs.Stages.{Stage, boots, enters, takes, goes, ends, Takes, is_free, is_dead, Rests, wholes, stage_kept, stage_state, stage_trap, call_open, going_open, rests_kept}
use Rattle.pk_agree.proofs.Standings.{standing_low}

abbrev number_of : Option Tree → ℤ
number_of (Some (int z)) = z
number_of o = pos 0

abbrev zero_is : Option ℤ → Bool
zero_is o = some_is_in (exactly (pos 0)) o

-- the rule alone is changed
ruled : (ns : List ℕ) (w : World) (z : ℤ) (v : Sight) → Shows ns w v → Shows ns (with_rule w z) v
ruled ns w z v h = record { objective = h.objective; scores = h.scores; stores = h.stores }

both_false : (a b : Bool) → a ≡ false → b ≡ false → a || b ≡ false
both_false a b h k = ap (λ x. x || b) h ∙ k

module _ (m : Module) (p : IsProgram m) (low : Low m) (pack : Pack) (l : Linked m pack) (n : is_namespace pack.index.ns ≡ true) (d : PiecesAreRight) where
  -- the heaviest piece leaves room in the least budget
  turns_fit : turn_weight ≤ heaviest m
  turns_fit = l.weighs.0

  room : heaviest m + 48 ≤ BMIN
  room = let most : heaviest m ≤ PIECE = l.weighs.1 in omega arith

  short : heaviest m < 200000000
  short = let most : heaviest m ≤ PIECE = l.weighs.1 in omega arith

  abbrev Fact : Job → ℕ → State → Type 0
  Fact j k s = Led m pack j k s

  abbrev Own : State → Type 0
  Own s = Piece pack.functions pack.index.ns (program m) (heaviest m) s

  runs_of : (j : Job) (k : ℕ) (s : State) → Stage m s j k → Runs m pack j k s
  runs_of j k s (boots b) = boot_runs m p pack l j k s b
  runs_of j k s (enters c st e z) = enter_runs m p low pack l d j k s c st e z
  runs_of j k s (takes c st i e q z) = take_runs m p low pack l d j k s c st i e q z
  runs_of j k s (goes c i now cs a h x st z) = go_runs m p low pack l d j k s c i now cs a h x st z
  runs_of j k s (ends c i now a vs h st f e z) = end_runs m p low pack l d j k s c i now a vs h st f e

  -- a pack at rest does no round
  abbrev rests_idle : (j : Job) (s : State) → Rests m pack.index.ns s j → Idle s
  rests_idle j s r = record { number = r.number; state = r.state; other = r.idle }

  no_piece : (j : Job) (s : State) → Closed m pack j s → Own s → ⊥
  no_piece j s c q =
      let x : true ≡ false = ap zero_is (sym q.quiet ∙ c.trap) ∙ c.loud in
      cc

  round : (j : Job) (k : ℕ) (s : State) → Fact j k s → (q : Own s) → Fact j (k + 1) (run_items (program m q.named.id) s).state
  round j k s (inl a) q = further (round_of m pack j a.0 s (runs_of j a.0 s a.1) q.named)
    where
      further : Led m pack j (a.0 + 1) (run_items (program m q.named.id) s).state → Fact j (k + 1) (run_items (program m q.named.id) s).state
      further (inl b) = inl (b.0, b.1, (let x : a.0 + 1 ≤ b.0 = b.2 in let y : k ≤ a.0 = a.2 in omega arith), b.3)
      further (inr b) = inr b
  round j k s (inr c) q = absurd (no_piece j s c q)

  gives : (j : Job) (k : ℕ) (s : State) → Fact j k s → Fact j k (after_step give_back s)
  gives j k s (inl a) =
      let h : Alike s (after_step give_back s) = gave_alike s in
      inl (a.0, stage_kept m s (after_step give_back s) j a.0 h a.1, a.2, h.scores score_trap refl ∙ a.3)
  gives j k s (inr c) =
      let h : Alike s (after_step give_back s) = gave_alike s in
      inr (record { number = c.number; trap = h.scores score_trap refl ∙ c.trap; loud = c.loud; rests = λ f g. c.rests f (λ x e. g x e ∙ h.scores x e) })

  -- the fact that all rounds keep
  abbrev Any : Job → State → Type 0
  Any j s = Fact j 0 s

  any : (j : Job) (k : ℕ) (s : State) → Fact j k s → Any j s
  any j k s (inl a) = inl (a.0, a.1, omega arith, a.3)
  any j k s (inr c) = inr c

  stands : (j : Job) (s : State) → Any j s → Stands pack.functions pack.index.ns (program m) (heaviest m) s
  stands j s (inl a) = goes_on (piece_of_stage m pack j a.0 s (runs_of j a.0 s a.1) a.3)
  stands j s (inr c) = is_over (record { number = c.number; trap = c.trap; loud = c.loud; idle = rests_idle j (told s) (c.rests s.scores (λ h e. refl)) })

  steady : (j : Job) (s : State) → Any j s → Steady pack.functions pack.index.ns (program m) (heaviest m) s
  steady j s a = ticks.steady_by pack.functions pack.index.ns (program m) (heaviest m) (Any j) (stands j)
      (λ u f q. any j (0 + 1) (run_items (program m q.named.id) u).state (round j 0 u f q)) (λ u f. gives j 0 u f) s a

  follow : (j : Job) (i k : ℕ) (s u : State) → Rounds pack.functions pack.index.ns (program m) (heaviest m) i s u → Fact j k s → Fact j (k + i) u
  follow j _ k _ _ (no_round s) f = subst (λ x. Fact j x s) (let e : k ≡ k + 0 = omega arith in e) f
  follow j _ k _ _ (one_round i s u q r) f =
      let e : k + 1 + i ≡ k + suc i = omega arith in
      subst (λ x. Fact j x u) e (follow j i (k + 1) (run_items (program m q.named.id) s).state u r (round j k s f q))
  follow j _ k _ _ (gives_back i s u r) f = follow j i k (after_step give_back s) u r (gives j k s f)

  -- what ends a turn is a round, or nothing
  finish : (j : Job) (k : ℕ) (s u : State) → Finishes pack.functions pack.index.ns (program m) (heaviest m) s u → Fact j k s → Fact j k u
  finish j k s u (finished q e) f = subst (λ x. Fact j k x) (sym e) f
  finish j k s u (finishing q h e) f =
      subst (λ x. Fact j k x) (sym e) (fewer j k (run_items (program m q.named.id) s).state (round j k s f q))
    where
      fewer : (j : Job) (k : ℕ) (v : State) → Fact j (k + 1) v → Fact j k v
      fewer j k v (inl a) = inl (a.0, a.1, (let x : k + 1 ≤ a.0 = a.2 in omega arith), a.3)
      fewer j k v (inr c) = inr c

  -- ---- worlds

  -- the pack runs, and no piece is next that ends the job
  pub record IsRunning (w : World) (j : Job) (k : ℕ) : Type 0 where
    pub state : State
    pub shows : Shows pack.index.ns w (seen state)
    pub stage : Stage m state j k
    pub opened : IsOpen m pack state

  pub record IsResting (w : World) (j : Job) : Type 0 where
    pub state : State
    pub shows : Shows pack.index.ns w (seen state)
    pub rests : Rests m pack.index.ns state j

  abbrev Unchanged : World → World → Type 0
  Unchanged w v = public_places pack.index.ns v ≡ public_places pack.index.ns w

  pub runs_answer : (w : World) (j : Job) (k : ℕ) → IsRunning w j k → answer pack.index.ns w ≡ Some layout.running
  runs_answer w j k a = answers_running pack.index.ns w a.state a.shows (stage_state m a.state j k a.stage)

  pub rests_answer : (w : World) (j : Job) → (a : IsResting w j) → answer pack.index.ns w ≡ Some a.rests.says
  rests_answer w j a = a.rests.answers w a.state a.shows (alike_self a.state)

  pub not_over : (w : World) (j : Job) (k i : ℕ) → IsRunning w j k → IsOverWithin m j i → k ≤ 16 * i
  not_over w j k i a o = go a.state a.stage
    where
      go : (s : State) → Stage m s j k → k ≤ 16 * i
      go s (boots b) =
          let steps : (k ≤ j.offset + 26) × (4 ≤ j.offset) = booting_steps m p s j k b in
          let late : j.offset ≤ i = o.0 in
          omega arith
      go s (enters c st e z) = let x : j.offset < i = call_open m s j c i o in omega arith
      go s (takes c st q e y z) =
          let x : j.offset < i = call_open m s j c i o in
          let f : wholes c.type ≤ 11 = d.takers_few m p c.func c.function c.type c.is_function in
          omega arith
      go s (goes c q now cs f h x st z) =
          let y : j.offset + q < i = going_open m s j c q now cs f i h o in
          let r : rank_of m x ≤ 14 = standing_low m cs f d.fetches_few p low s x in
          omega arith
      go s (ends c q now f vs h st g e z) = let y : j.offset + q < i = going_open m s j c q now [] f i h o in omega arith

  -- ---- chains

  -- an event that is the chain of a function
  chained : (s : Standing) (more quota : ℕ) (name : List ℕ) (w : World) (v : Sight) → s.cut ≡ false
      → Whole pack.functions pack.index.ns name quota w v
      → ((after_chain s more quota (chain_in pack name quota w)).cut ≡ false)
      × Shows pack.index.ns (after_chain s more quota (chain_in pack name quota w)).world v
  chained s more quota name w v uncut h =
      (both_false s.cut _ uncut (ap (λ e. e.cut) h.is), subst (λ x. Shows pack.index.ns x v) (sym (ap (λ e. e.world) h.is)) h.shows)

  -- ---- a tick

  pub tick_runs : (s : Standing) (j : Job) (k b : ℕ) → IsRunning s.world j k → s.cut ≡ false → IsBudget b
      → ((happen pack s (tick b)).cut ≡ false)
      × (((i : ℕ) × IsRunning (happen pack s (tick b)).world j i × (k + b / BMIN ≤ i)) ⊎ IsResting (happen pack s (tick b)).world j)
  tick_runs s j k b a uncut lawful =
      let low_b : BMIN ≤ b = lawful.0 in
      let high_b : b ≤ 2147483647 = lawful.1 in
      let u : State = tick_start (heaviest m) b a.state in
      let h : Alike a.state u = start_alike (heaviest m) b a.state in
      let f : Fact j k u = inl (k, stage_kept m a.state u j k h a.stage, omega arith, h.scores score_trap refl ∙ stage_trap m a.state j k a.stage) in
      let t : Ticked pack.functions pack.index.ns (program m) (heaviest m) BMIN b (with_rule s.world (pos b)) a.state =
      ticks.tick pack.functions pack.index.ns (program m) (heaviest m) n l.scheduler BMIN turns_fit short room a.state b
      (stage_state m a.state j k a.stage) (steady j u (any j k u f)) low_b (omega arith) (with_rule s.world (pos b))
      (ruled pack.index.ns s.world (pos b) (seen a.state) a.shows) refl in
      let c = chained s 1 b tick_name (with_rule s.world (pos b)) (seen (told t.state)) uncut t.whole in
      (c.0, ends (told t.state) t.count c.1 t.enough (told_next m pack j (k + t.count) t.state (follow j t.count k u t.state t.rounds f) t.settled))
    where
      ends : (u : State) (i : ℕ) → Shows pack.index.ns (happen pack s (tick b)).world (seen u) → IsEnough b BMIN i u → Next m pack j (k + i) u
          → ((i : ℕ) × IsRunning (happen pack s (tick b)).world j i × (k + b / BMIN ≤ i)) ⊎ IsResting (happen pack s (tick b)).world j
      ends u i sh e (inr r) = inr (record { state = u; shows = sh; rests = r })
      ends u i sh (rounds_enough e) (inl f) =
          let x : k + i ≤ f.0 = f.2 in
          inl (f.0, record { state = u; shows = sh; stage = f.1; opened = f.3 }, omega arith)
      ends u i sh (job_over o) (inl f) =
          let same : o.number ≡ pos 1 = ap number_of (sym o.state ∙ stage_state m u j f.0 f.1) in
          let x : is_one (pos 1) ≡ false = subst (λ z. is_one z ≡ false) same o.other in
          absurd cc

  pub tick_rests : (s : Standing) (j : Job) (b : ℕ) → IsResting s.world j → s.cut ≡ false → IsBudget b
      → ((happen pack s (tick b)).cut ≡ false) × (IsResting (happen pack s (tick b)).world j × Unchanged s.world (happen pack s (tick b)).world)
  tick_rests s j b a uncut lawful =
      let low_b : BMIN ≤ b = lawful.0 in
      let w : World = with_rule s.world (pos b) in
      let u : State = guarded a.state in
      let h : Alike a.state u = guarded_alike a.state in
      let c = chained s 1 b tick_name w (seen u) uncut (ticks.tick_idle pack.functions pack.index.ns (heaviest m) n l.scheduler short a.state (rests_idle j a.state a.rests) b (omega arith) w (ruled pack.index.ns s.world (pos b) (seen a.state) a.shows)) in (
        c.0,
        (
          record { state = u; shows = c.1; rests = rests_kept m pack.index.ns a.state u j h a.rests },
          unchanged pack.index.ns s.world (happen pack s (tick b)).world a.state u a.shows c.1 h,
        ),
      )

  -- ---- a turn

  pub turn_runs : (s : Standing) (j : Job) (k : ℕ) → IsRunning s.world j k → s.cut ≡ false
      → ((turned pack s).cut ≡ false)
      × (((i : ℕ) × IsRunning (turned pack s).world j i × (k + 1 ≤ i)) ⊎ IsResting (turned pack s).world j)
  turn_runs s j k a uncut =
      let g : State = guarded a.state in
      let r : Runs m pack j k g = runs_of j k g (stage_kept m a.state g j k (guarded_alike a.state) a.stage) in
      let q : IsNamed m pack g = named_of m pack j k g r in
      let u : State = (run_items (program m q.id) g).state in
      let f : Fact j (k + 1) u = round_of m pack j k g r q in
      let t : Turned pack.functions pack.index.ns (program m) (heaviest m) PIECE s.world u =
      turns.turn pack.functions pack.index.ns (heaviest m) n l.scheduler (program m) a.state (stage_state m a.state j k a.stage) q
      (stands j u (any j (k + 1) u f)) PIECE l.weighs.1 s.world a.shows in
      let c = chained s 0 PIECE next_name s.world (seen (told t.state)) uncut t.whole in
      (c.0, ends (told t.state) c.1 (told_next m pack j (k + 1) t.state (finish j (k + 1) u t.state t.finishes f) t.settled))
    where
      ends : (u : State) → Shows pack.index.ns (turned pack s).world (seen u) → Next m pack j (k + 1) u
          → ((i : ℕ) × IsRunning (turned pack s).world j i × (k + 1 ≤ i)) ⊎ IsResting (turned pack s).world j
      ends u sh (inl f) = inl (f.0, record { state = u; shows = sh; stage = f.1; opened = f.3 }, f.2)
      ends u sh (inr f) = inr (record { state = u; shows = sh; rests = f })

  pub turn_rests : (s : Standing) (j : Job) → IsResting s.world j → s.cut ≡ false
      → ((turned pack s).cut ≡ false) × IsResting (turned pack s).world j
  turn_rests s j a uncut =
      let u : State = guarded a.state in
      let c = chained s 0 PIECE next_name s.world (seen u) uncut
      (turns.idle pack.functions pack.index.ns (heaviest m) n l.scheduler a.state (rests_idle j a.state a.rests) PIECE (omega arith) s.world a.shows) in
      (c.0, record { state = u; shows = c.1; rests = rests_kept m pack.index.ns a.state u j (guarded_alike a.state) a.rests })

  -- ---- a reload

  reloaded : (s : Standing) (u : State) (t : Tree) (b : ℕ) → u.keys in_io key_state ≡ Some t → Shows pack.index.ns s.world (seen u)
      → s.cut ≡ false → IsBudget b
      → ((happen pack s (reload b)).cut ≡ false) × Shows pack.index.ns (happen pack s (reload b)).world (seen u)
  reloaded s u t b e sh uncut lawful =
      let low_b : BMIN ≤ b = lawful.0 in
      chained s 0 b load_name (with_rule s.world (pos b)) (seen u) uncut
      (reloads.reload pack.functions pack.index.ns (heaviest m) n l.scheduler u t e b (omega arith) (with_rule s.world (pos b)) (ruled pack.index.ns s.world (pos b) (seen u) sh))

  pub reload_runs : (s : Standing) (j : Job) (k b : ℕ) → IsRunning s.world j k → s.cut ≡ false → IsBudget b
      → ((happen pack s (reload b)).cut ≡ false) × (IsRunning (happen pack s (reload b)).world j k × Unchanged s.world (happen pack s (reload b)).world)
  reload_runs s j k b a uncut lawful =
      let c = reloaded s a.state (int (pos 1)) b (stage_state m a.state j k a.stage) a.shows uncut lawful in (
        c.0,
        (
          record { state = a.state; shows = c.1; stage = a.stage; opened = a.opened },
          unchanged pack.index.ns s.world (happen pack s (reload b)).world a.state a.state a.shows c.1 (alike_self a.state),
        ),
      )

  pub reload_rests : (s : Standing) (j : Job) (b : ℕ) → IsResting s.world j → s.cut ≡ false → IsBudget b
      → ((happen pack s (reload b)).cut ≡ false) × (IsResting (happen pack s (reload b)).world j × Unchanged s.world (happen pack s (reload b)).world)
  reload_rests s j b a uncut lawful =
      let c = reloaded s a.state (int a.rests.number) b a.rests.state a.shows uncut lawful in (
        c.0,
        (
          record { state = a.state; shows = c.1; rests = a.rests },
          unchanged pack.index.ns s.world (happen pack s (reload b)).world a.state a.state a.shows c.1 (alike_self a.state),
        ),
      )

  -- ---- a command of somebody else

  pub other_runs : (s : Standing) (j : Job) (k : ℕ) (c : Cmd) → IsRunning s.world j k → s.cut ≡ false → IsLawful pack.index (other c)
      → ((happen pack s (other c)).cut ≡ false) × (IsRunning (happen pack s (other c)).world j k × Unchanged s.world (happen pack s (other c)).world)
  other_runs s j k c a uncut lawful =
      let sh = reloads.foreign pack.index.ns c s.world (seen a.state) lawful a.shows in (
        uncut,
        (
          record { state = a.state; shows = sh; stage = a.stage; opened = a.opened },
          unchanged pack.index.ns s.world (happen pack s (other c)).world a.state a.state a.shows sh (alike_self a.state),
        ),
      )

  pub other_rests : (s : Standing) (j : Job) (c : Cmd) → IsResting s.world j → s.cut ≡ false → IsLawful pack.index (other c)
      → ((happen pack s (other c)).cut ≡ false) × (IsResting (happen pack s (other c)).world j × Unchanged s.world (happen pack s (other c)).world)
  other_rests s j c a uncut lawful =
      let sh = reloads.foreign pack.index.ns c s.world (seen a.state) lawful a.shows in (
        uncut,
        (
          record { state = a.state; shows = sh; rests = a.rests },
          unchanged pack.index.ns s.world (happen pack s (other c)).world a.state a.state a.shows sh (alike_self a.state),
        ),
      )

  -- ---- a call

  pub call_runs : (s : Standing) (j : Job) (k i : ℕ) (args : List Value) → IsRunning s.world j k → s.cut ≡ false
      → IsLawful pack.index (call i args)
      → ((happen pack s (call i args)).cut ≡ false) × (IsRunning (happen pack s (call i args)).world j k × Unchanged s.world (happen pack s (call i args)).world)
  call_runs s j k i args a uncut lawful =
      let f : Callable m pack i args = callable m pack p l i args lawful in
      let u : State = invoked m p pack l n f.func a.state args in
      let h : Alike a.state u = refuses m p pack l n f.func a.state args (pos 1) (stage_state m a.state j k a.stage) refl in
      let c = chained s 0 BMIN (call_name i) (with_args pack.index.ns args s.world) (seen u) uncut (invokes m p pack l n i args s.world a.state f a.shows) in (
        c.0,
        (
          record { state = u; shows = c.1; stage = stage_kept m a.state u j k h a.stage; opened = open_kept m pack a.state u h a.opened },
          unchanged pack.index.ns s.world (happen pack s (call i args)).world a.state u a.shows c.1 h,
        ),
      )

  -- a job begins; or the pack is dead, and nothing does
  abbrev Begins : Standing → Job → ℕ → List Value → Type 0
  Begins s j i args =
      (g : Job) × IsAtRest (answer pack.index.ns s.world) × (g.credit ≡ 0) × AfterCall m (answer pack.index.ns s.world) j i args g
      × (((happen pack s (call i args)).cut ≡ false) × IsRunning (happen pack s (call i args)).world g 0)

  abbrev Refused : Standing → Job → ℕ → List Value → Type 0
  Refused s j i args =
      (IsAtRest (answer pack.index.ns s.world) → ⊥)
      × (((happen pack s (call i args)).cut ≡ false)
      × (IsResting (happen pack s (call i args)).world j × Unchanged s.world (happen pack s (call i args)).world))

  call_begins : (s : Standing) (j : Job) (i : ℕ) (args : List Value) → (a : IsResting s.world j) → s.cut ≡ false
      → IsLawful pack.index (call i args) → is_refused a.rests.number ≡ false → IsAtRest (Some a.rests.says)
      → Begins s j i args
  call_begins s j i args a uncut lawful free rest =
      let f : Callable m pack i args = callable m pack p l i args lawful in
      let u : State = invoked m p pack l n f.func a.state args in
      let g : Invoked m p pack l n i args j u = takes_call m p pack l n i args a.state j f a.rests free in
      let c = chained s 0 BMIN (call_name i) (with_args pack.index.ns args s.world) (seen u) uncut (invokes m p pack l n i args s.world a.state f a.shows) in
      let at_rest : IsAtRest (answer pack.index.ns s.world) = subst IsAtRest (sym (rests_answer s.world j a)) rest in
      let none : 0 ≡ 16 * g.job.offset = ap (λ o. 16 * o) (sym g.at_once) in (
        g.job,
        at_rest,
        g.credit,
        g.after (answer pack.index.ns s.world) at_rest,
        (c.0, record { state = u; shows = c.1; stage = enters g.is_call g.stored g.entering none; opened = record { id = body_piece g.is_call.func 0; named = g.entering.named; goes = refl } }),
      )

  call_refused : (s : Standing) (j : Job) (i : ℕ) (args : List Value) → (a : IsResting s.world j) → s.cut ≡ false
      → IsLawful pack.index (call i args) → is_refused a.rests.number ≡ true → (IsAtRest (Some a.rests.says) → ⊥)
      → Refused s j i args
  call_refused s j i args a uncut lawful refused dead =
      let f : Callable m pack i args = callable m pack p l i args lawful in
      let u : State = invoked m p pack l n f.func a.state args in
      let h : Alike a.state u = refuses m p pack l n f.func a.state args a.rests.number a.rests.state refused in
      let c = chained s 0 BMIN (call_name i) (with_args pack.index.ns args s.world) (seen u) uncut (invokes m p pack l n i args s.world a.state f a.shows) in (
        λ q. dead (subst IsAtRest (rests_answer s.world j a) q),
        (
          c.0,
          (
            record { state = u; shows = c.1; rests = rests_kept m pack.index.ns a.state u j h a.rests },
            unchanged pack.index.ns s.world (happen pack s (call i args)).world a.state u a.shows c.1 h,
          ),
        ),
      )

  pub call_rests : (s : Standing) (j : Job) (i : ℕ) (args : List Value) → IsResting s.world j → s.cut ≡ false
      → IsLawful pack.index (call i args) → Begins s j i args ⊎ Refused s j i args
  call_rests s j i args a uncut lawful = by_readiness a.rests.calls
    where
      by_readiness : Takes m a.rests.number a.rests.says → Begins s j i args ⊎ Refused s j i args
      by_readiness (is_free f r) = inl (call_begins s j i args a uncut lawful f r)
      by_readiness (is_dead f r) = inr (call_refused s j i args a uncut lawful f r)

  -- ---- loading

  pub begins : ((loaded pack).cut ≡ false) × IsRunning (loaded pack).world (first_job m) 0
  begins =
      let r = reloads.load pack.functions pack.index.ns (heaviest m) n l.scheduler in (
        ap (λ e. e.cut) r.is,
        record {
          state = loaded_state;
          shows = subst (λ w. Shows pack.index.ns w (seen loaded_state)) (sym (ap (λ e. e.world) r.is)) r.shows;
          stage = boots (record {
            next = record { laid = refl; few = omega arith; named = refl; trap = refl; state = refl; ending = refl; failing = refl };
            same = (refl, refl, refl);
          });
          opened = record { id = init_piece 0; named = refl; goes = refl };
        },
      )
