-- A tick: rounds of pieces, as far as the budget goes.
use Rattle.std.proofs.Common.{◌≡◌, ℕ, zero, suc, ◌+◌, ◌-◌, ◌*◌, ◌/◌, ◌<◌, ◌≤◌, List, [], ◌∷◌, ◌++◌, Option, Some, Bool, true, false, refl, sym, ap, ◌∙◌, subst, arith, ◌⊎◌, inl, inr}
use Rattle.std.specs.Prelude.{ℤ, pos, negsuc, ◌+ℤ◌, ◌-ℤ◌, codes, ◌&&◌, cond}
use Rattle.std.specs.Int.{w32}
use Rattle.std.specs.List.{list_all}
use Rattle.std.proofs.lemmas.Int.{int_wrap_fits}
use Rattle.std.proofs.lemmas.Bool.{lt-ltb, le-ltb}
use Rattle.std.proofs.lemmas.Nat.{div_below}
use Rattle.mc_nbt.specs.Tree.{int}
use Rattle.mc_nbt.proofs.TreeLemmas.{bytes_refl}
use Rattle.mc_cmd.specs.Form.{Text}
use Rattle.mc_cmd.specs.Command.{exactly, from, chain_length, store_score, call}
use Rattle.mc_cmd.specs.Grammar.{cmd_text}
use Rattle.mc_cmd.specs.Word.{is_function_name, is_namespace, is_holder}
use Rattle.mc_cmd.specs.World.{World, with_score, some_is_in, or_zero, wrapped}
use Rattle.mc_cmd.specs.Chain.{Texts, Functions, has_pattern}
use Rattle.mc_cmd.specs.Layout.{full_name}
use Rattle.mc_cmd.specs.steps.Straight.{Falls}
use Rattle.mc_cmd.proofs.FormLemmas.{and_both}
use Rattle.mc_cmd.proofs.NameLemmas.{namespace_objective}
use Rattle.mc_cmd.proofs.Runs.{falls_append, falls_execute, runs_falls}
use Rattle.cc_line.specs.Sight.{in_io, Shows, Does}
use Rattle.cc_line.specs.Key.{PieceId, key_state, score_trap}
use Rattle.cc_line.specs.State.{State, seen}
use Rattle.cc_line.specs.State as state
use Rattle.cc_line.specs.Step.{Said, cond_subs, conds_hold, after_step, steps_texts}
use Rattle.cc_line.specs.Fit.{cond_fits, conds_fit, steps_fit}
use Rattle.cc_line.specs.Item.{Items, call_when, no_more, item_fits, item_text, items_texts, run_items}
use Rattle.cc_line.proofs.ActLemmas.{conds_shown, scratch_written}
use Rattle.cc_line.proofs.Speaking.{Speaks}
use Rattle.cc_line.proofs.SightLemmas.{outside_both}
use Rattle.cc_line.proofs.DoesLemmas.{does_append, does_none, does_skip}
use Rattle.cc_line.proofs.FitLemmas.{word, joined, wide, namespace_clean, Fitting, said_fitting, fitting_speaks, all_speak, unfilled_before}
use Rattle.cc_line.proofs.StepLemmas.{AllSpeak, steps_do}
use Rattle.cc_line.proofs.ItemLemmas.{item_speaks, items_do, items_unfilled, items_within}
use Rattle.cc_sched.specs.Names.{go_name, group_name, tick_name, score_budget}
use Rattle.cc_sched.specs.Charge.{lowered}
use Rattle.cc_sched.specs.Sched.{end_texts, guard_steps, is_quiet, round_command, left_conds, left_command, trap_item, go_command, go_texts, rounds_texts, group_room, give_back, group_command, group_texts, budget_command, reserve, reserve_steps, rounds_commands, tick_texts, HasSched}
use Rattle.cc_sched.specs.Pieces.{Idle, is_zero, guarded, told, turn_weight, Piece, Rounds, no_round, one_round, gives_back, Finishes, finished, finishing, Over, Settled, Stands, goes_on, is_over, Steady, tick_start}
use Rattle.cc_sched.specs.Turn.{Whole, job_over, rounds_enough, IsEnough, Ticked}
use Rattle.cc_sched.proofs.Dispatch.{Body, body_of, dispatch_quiet, does_call_if, round_skips, round_speaks}
use Rattle.cc_sched.proofs.Finishing.{Closing, finish, finish_unfilled, same}
use Rattle.cc_sched.proofs.Turns.{other_is, guard_by, guard_unfilled, guarded_out}

-- ---- a budget and a charge

difference : (b c : ℕ) → b < 2147483648 → c ≤ b → wrapped (pos b -ℤ pos c) ≡ pos (b - c)
difference b c h l = ap wrapped (exact b c l) ∙ int_wrap_fits w32 (pos (b - c)) (omega arith)
  where
    exact : (b c : ℕ) → c ≤ b → pos b -ℤ pos c ≡ pos (b - c)
    exact b zero l = ap pos (let e : b + 0 ≡ b - 0 = omega arith in e)
    exact b (suc c) l = ap (λ x. cond x (negsuc (suc c - suc b)) (pos (b - suc c))) (le-ltb b (suc c) l)

short_of : (b c : ℕ) → c < 2147483648 → b < c → (k : ℕ) × (wrapped (pos b -ℤ pos c) ≡ negsuc k)
short_of b zero h l = absurd (omega arith)
short_of b (suc c) h l =
    (suc c - suc b, ap (λ x. wrapped (cond x (negsuc (suc c - suc b)) (pos (b - suc c)))) (lt-ltb b (suc c) l) ∙ int_wrap_fits w32 (negsuc (suc c - suc b)) (omega arith))

order : (k b : ℕ) → (k ≤ b) ⊎ (b < k)
order k b = grind arith

times_least : (q a b : ℕ) → a ≤ b → q * a ≤ q * b
times_least zero a b h = omega arith
times_least (suc q) a b h =
    let x = times_least q a b h in
    let e : suc q * a ≡ a + q * a = grind arith in
    let f : suc q * b ≡ b + q * b = grind arith in
    omega arith

least_times : (p q a : ℕ) → p ≤ q → p * a ≤ q * a
least_times zero q a h = omega arith
least_times (suc p) zero a h = absurd (omega arith)
least_times (suc p) (suc q) a h =
    let x = least_times p q a (omega arith) in
    let e : suc p * a ≡ a + p * a = grind arith in
    let f : suc q * a ≡ a + q * a = grind arith in
    omega arith

-- ---- the lines

budget_spot : is_holder score_budget ≡ true
unfolding is_holder
budget_spot = refl

left_fit : (k : ℕ) → k < 2147483648 → list_all cond_fits (left_conds k) ≡ true
unfolding is_holder
left_fit k h = and_both _ _ (and_both _ _ budget_spot (lt-ltb k 2147483648 h)) refl

pub left_conds_fit : (k : ℕ) → k < 2147483648 → conds_fit (left_conds k) ≡ true
left_conds_fit k h = and_both (list_all cond_fits (left_conds k)) _ (left_fit k h) refl

pub left_item_fits : (k : ℕ) (f : Text) → k < 2147483648 → is_function_name f ≡ true → item_fits (call_when (left_conds k) f no_more) ≡ true
left_item_fits k f h g = and_both (conds_fit (left_conds k)) _ (left_conds_fit k h) (and_both (is_function_name f) _ g refl)

pub give_back_fits : steps_fit (give_back ∷ []) ≡ true
unfolding is_holder
give_back_fits = refl

pub reserve_fits : (piece : ℕ) → reserve piece < 2147483648 → steps_fit (reserve_steps piece) ≡ true
reserve_fits piece h = and_both _ _ (and_both _ _ (and_both _ _ refl budget_spot) (lt-ltb (reserve piece) 2147483648 h)) refl

-- ---- what the tests find

quiet_is : (s : State) (z : ℤ) → s.scores score_trap ≡ Some z → conds_hold (is_quiet ∷ []) s ≡ is_zero z && true
quiet_is s z e = ap (λ o. some_is_in (exactly (pos 0)) o && true) e

left_is : (k : ℕ) (s : State) (o : Option ℤ) (z : ℤ) → s.scores score_budget ≡ o → s.scores score_trap ≡ Some z → conds_hold (left_conds k) s ≡ some_is_in (from (pos k)) o && (is_zero z && true)
left_is k s o z e f = ap (λ x. some_is_in (from (pos k)) x && (some_is_in (exactly (pos 0)) (s.scores score_trap) && true)) e ∙ ap (λ x. some_is_in (from (pos k)) o && (some_is_in (exactly (pos 0)) x && true)) f

neither : (b : Bool) → b && (false && true) ≡ false
neither false = refl
neither true = refl

-- behind a trap or the end of the job no function is called
shut : (k : ℕ) (s : State) (z : ℤ) → s.scores score_trap ≡ Some z → is_zero z ≡ false → conds_hold (left_conds k) s ≡ false
shut k s z e l = left_is k s (s.scores score_budget) z refl e ∙ ap (λ b. some_is_in (from (pos k)) (s.scores score_budget) && (b && true)) l ∙ neither (some_is_in (from (pos k)) (s.scores score_budget))

-- else it is by the budget
open_if : (k b : ℕ) (s : State) → s.scores score_budget ≡ Some (pos b) → s.scores score_trap ≡ Some (pos 0) → (c : Bool) → some_is_in (from (pos k)) (Some (pos b)) ≡ c → conds_hold (left_conds k) s ≡ c
open_if k b s e f c g = left_is k s (Some (pos b)) (pos 0) e f ∙ ap (λ x. x && (is_zero (pos 0) && true)) g ∙ unit c
  where
    unit : (c : Bool) → c && (true && true) ≡ c
    unit true = refl
    unit false = refl

enough_for : (k b : ℕ) → k ≤ b → some_is_in (from (pos k)) (Some (pos b)) ≡ true
enough_for k b h = grind arith

too_little : (k b : ℕ) → b < k → some_is_in (from (pos k)) (Some (pos b)) ≡ false
too_little k b h = grind arith

-- a score that is 0 is none that isn't
not_both : (s : State) (z : ℤ) → s.scores score_trap ≡ Some (pos 0) → s.scores score_trap ≡ Some z → is_zero z ≡ false → ⊥
not_both s z e f l =
    let x : true ≡ false = ap (some_is_in (exactly (pos 0))) (sym e ∙ f) ∙ l in
    cc

more_left : (b c : ℕ) → b + c < 2147483648 → wrapped (pos b +ℤ pos c) ≡ pos (b + c)
more_left b c h = int_wrap_fits w32 (pos (b + c)) (omega arith)

module _ (ns : Text) (n : is_namespace ns ≡ true) where
  abbrev budget_said : Said
  budget_said = record { stores = store_score score_budget ns ∷ []; simple = chain_length }

  pub budget_fitting : Fitting ns n (budget_command ns)
  budget_fitting = said_fitting ns n budget_said (record {
    simple = refl;
    subs = and_both _ _ (and_both _ _ budget_spot (namespace_objective ns n)) refl;
    result = refl;
    alone = wide (word (codes "gamerule maxCommandChainLength") refl) (omega arith);
    whole = wide (joined (word (codes "store result score #w ") refl) (joined (namespace_clean ns n) (word (codes " run gamerule maxCommandChainLength") refl))) (omega arith);
    own = refl;
    owns = and_both _ _ (bytes_refl ns) refl;
  })

module _ (functions : Functions) (ns : Text) (program : PieceId → Items) (piece : ℕ) (n : is_namespace ns ≡ true) (d : HasSched functions ns piece) where
  abbrev Next : State → Type 0
  Next s = Piece functions ns program piece s

  abbrev Firm : State → Type 0
  Firm s = Steady functions ns program piece s

  abbrev Lead : ℕ → State → State → Type 0
  Lead k s u = Rounds functions ns program piece k s u

  -- a call of a function of rounds
  abbrev called_if : ℕ → Text → Texts
  called_if k f = cmd_text (left_command ns k f) ∷ []

  left_speaks : (k : ℕ) (f : Text) → k < 2147483648 → is_function_name f ≡ true → Speaks (left_command ns k f)
  left_speaks k f h g = item_speaks ns n (call_when (left_conds k) f no_more) (left_item_fits k f h g)

  skips : (k : ℕ) (f : Text) (s : State) → k < 2147483648 → is_function_name f ≡ true → conds_hold (left_conds k) s ≡ false → Does functions ns (called_if k f) (seen s) 2 false (seen s)
  skips k f s h g e = does_skip functions ns (cond_subs ns (left_conds k)) (call (full_name ns f)) (seen s) (left_speaks k f h g) (λ w x. conds_shown ns w s x (left_conds k) (left_fit k h) (tt, (tt, tt)) ∙ e)

  calls : (k : ℕ) (f : Text) (ts : Texts) (s u : State) (j : ℕ) → k < 2147483648 → is_function_name f ≡ true → functions (full_name ns f) ≡ Some ts → has_pattern ts ≡ false → conds_hold (left_conds k) s ≡ true → Body functions ns ts (seen s) j (seen u) → Does functions ns (called_if k f) (seen s) (2 + j) false (seen u)
  calls k f ts s u j h g there q e b = does_call_if functions ns (cond_subs ns (left_conds k)) (full_name ns f) ts (seen s) (seen u) j (left_speaks k f h g) (λ w x. conds_shown ns w s x (left_conds k) (left_fit k h) (tt, (tt, tt)) ∙ e) there q b

  budget_speaks : Speaks (budget_command ns)
  budget_speaks = fitting_speaks ns n (budget_command ns) (budget_fitting ns n)

  steps_unfilled : (xs : List _) → AllSpeak ns xs → (ts : Texts) → has_pattern ts ≡ false → has_pattern (steps_texts ns xs ++ ts) ≡ false
  steps_unfilled [] a ts h = h
  steps_unfilled (x ∷ xs) a ts h = unfilled_before _ (steps_texts ns xs ++ ts) a.0 (steps_unfilled xs a.1 ts h)

  go_unfilled : has_pattern (go_texts ns) ≡ false
  go_unfilled = unfilled_before (round_command ns) (cmd_text (go_command ns) ∷ []) (round_speaks ns n) (unfilled_before (go_command ns) [] (left_speaks 0 go_name (omega arith) refl) refl)

  rounds_unfilled : (k : ℕ) (ts : Texts) → has_pattern ts ≡ false → has_pattern (rounds_texts ns k ++ ts) ≡ false
  rounds_unfilled zero ts h = h
  rounds_unfilled (suc k) ts h = unfilled_before (round_command ns) (rounds_texts ns k ++ ts) (round_speaks ns n) (rounds_unfilled k ts h)

  group_unfilled : group_room piece < 2147483648 → has_pattern (group_texts ns piece) ≡ false
  group_unfilled h = rounds_unfilled 8 (steps_texts ns (give_back ∷ []) ++ (cmd_text (group_command ns piece) ∷ []))
      (steps_unfilled (give_back ∷ []) (all_speak ns n (give_back ∷ []) give_back_fits) (cmd_text (group_command ns piece) ∷ [])
      (unfilled_before (group_command ns piece) [] (left_speaks (group_room piece) group_name h refl) refl))

  tick_rest_unfilled : group_room piece < 2147483648 → has_pattern (cmd_text (budget_command ns) ∷ (steps_texts ns (reserve_steps piece) ++ rounds_commands ns piece)) ≡ false
  tick_rest_unfilled h = unfilled_before (budget_command ns) (steps_texts ns (reserve_steps piece) ++ rounds_commands ns piece) budget_speaks
      (steps_unfilled (reserve_steps piece) (all_speak ns n (reserve_steps piece) (reserve_fits piece (omega arith))) (rounds_commands ns piece)
      (unfilled_before (group_command ns piece) (cmd_text (go_command ns) ∷ end_texts ns) (left_speaks (group_room piece) group_name h refl)
      (unfilled_before (go_command ns) (end_texts ns) (left_speaks 0 go_name (omega arith) refl)
      (finish_unfilled functions ns program piece n d))))

  -- ---- one round

  abbrev ran : (s : State) → Next s → State
  ran s p = (run_items (program p.named.id) s).state

  abbrev ran_used : (s : State) → Next s → ℕ
  ran_used s p = (run_items (program p.named.id) s).used

  round : (s : State) (p : Next s) → Does functions ns (cmd_text (round_command ns) ∷ []) (seen s) (3 + ran_used s p) false (seen (ran s p))
  round s p =
      let xs : Items = program p.named.id in
      dispatch_quiet functions ns piece p.named.id (items_texts ns xs) s (seen (ran s p)) (ran_used s p) n d p.named.id_fits p.named.named p.named.holds (items_unfilled ns n xs p.named.fits)
      (body_of functions ns (run_items xs s).stopped (items_texts ns xs) (seen s) (seen (ran s p)) (ran_used s p) (items_do functions ns n xs s p.named.fits p.named.helpers p.named.ready))
      (quiet_is s (pos 0) p.quiet)

  ran_low : (s : State) (p : Next s) → ran_used s p + turn_weight ≤ piece
  ran_low s p = let x = p.named.light in let y = items_within (program p.named.id) s in omega arith

  one : (s : State) (p : Next s) → Lead 1 s (ran s p)
  one s p = one_round 0 s (ran s p) p (no_round (ran s p))

  firm_on : (s : State) (p : Next s) → Firm s → Firm (ran s p)
  firm_on s p steady = λ j x r. steady (suc j) x (one_round j s x p r)

  -- what a piece leaves of the budget
  paid : (s : State) (p : Next s) (b : ℕ) → s.scores score_budget ≡ Some (pos b) → (ran s p).scores score_budget ≡ Some (wrapped (pos b -ℤ pos p.charged.charge))
  paid s p b e = p.charged.left ∙ ap (λ o. lowered o p.charged.charge) e

  joins : (j k : ℕ) (s t u : State) → Lead j s t → Lead k t u → Lead (j + k) s u
  joins _ k _ t u (no_round s) r = subst (λ i. Lead i s u) (let e : k ≡ 0 + k = omega arith in e) r
  joins _ k _ t u (one_round j s v p q) r =
      subst (λ i. Lead i s u) (let e : suc (j + k) ≡ suc j + k = omega arith in e)
      (one_round (j + k) s u p (joins j k (ran s p) t u q r))
  joins _ k _ t u (gives_back j s v q) r = gives_back (j + k) s u (joins j k (after_step give_back s) t u q r)

  -- ---- rounds one at a time

  -- the last one
  last : (s v : State) (k : ℕ) → Does functions ns (cmd_text (round_command ns) ∷ []) (seen s) k false (seen v) → conds_hold (left_conds 0) v ≡ false → Body functions ns (go_texts ns) (seen s) (k + 2) (seen v)
  last s v k f e = body_of functions ns false (go_texts ns) (seen s) (seen v) (k + 2)
      (does_append functions ns false (cmd_text (round_command ns) ∷ []) (called_if 0 go_name) (seen s) (seen v) (seen v) k 2 (k + 2) f (skips 0 go_name v (omega arith) refl e) (same (k + 2)))

  -- and one that others follow
  again : (s v u : State) (k j : ℕ) → Does functions ns (cmd_text (round_command ns) ∷ []) (seen s) k false (seen v) → conds_hold (left_conds 0) v ≡ true → Body functions ns (go_texts ns) (seen v) j (seen u) → Body functions ns (go_texts ns) (seen s) (k + (2 + j)) (seen u)
  again s v u k j f e b = body_of functions ns false (go_texts ns) (seen s) (seen u) (k + (2 + j))
      (does_append functions ns false (cmd_text (round_command ns) ∷ []) (called_if 0 go_name) (seen s) (seen v) (seen u) k (2 + j) (k + (2 + j)) f
      (calls 0 go_name (go_texts ns) v u j (omega arith) refl d.goes go_unfilled e b) (same (k + (2 + j))))

  -- what rounds of this budget come to
  record Went (s : State) (b : ℕ) : Type 0 where
    state : State
    weight : ℕ
    does : Body functions ns (go_texts ns) (seen s) weight (seen state)
    light : weight + 15 ≤ b + piece
    count : ℕ
    rounds : Lead count s state
    leads : Over state ⊎ (b < count * (piece - 2))

  -- by the budget that is left
  rounds_go : (fuel : ℕ) (s : State) (b : ℕ) → b < fuel → b < 2147483648 → piece < 2147483648 → s.scores score_budget ≡ Some (pos b) → (p : Next s) → Firm s → Went s b
  rounds_go zero s b l h h2 e p steady = absurd (omega arith)
  rounds_go (suc fuel) s b l h h2 e p steady =
      by (λ j f q g. rounds_go fuel (ran s p) j (omega arith) (omega arith) h2 g q (firm_on s p steady)) (steady 1 u (one s p)) (order p.charged.charge b)
    where
      More : Type 0
      More = (j : ℕ) → j < b → (q : Next (ran s p)) → (ran s p).scores score_budget ≡ Some (pos j) → Went (ran s p) j

      u : State
      u = ran s p

      k : ℕ
      k = p.charged.charge

      times : 1 * (piece - 2) ≡ piece - 2
      times = omega arith

      ends : (leads : Over u ⊎ (b < 1 * (piece - 2))) → conds_hold (left_conds 0) u ≡ false → Went s b
      ends leads shuts =
          let x = ran_low s p in
          record {
            state = u;
            weight = 3 + ran_used s p + 2;
            light = (let y : 3 + ran_used s p + 2 + 15 ≤ b + piece = omega arith in y);
            does = last s u (3 + ran_used s p) (round s p) shuts;
            count = 1;
            rounds = one s p;
            leads = leads;
          }

      by : More → Stands functions ns program piece u → (k ≤ b) ⊎ (b < k) → Went s b
      by more (is_over o) f = ends (inl o) (shut 0 u o.number o.trap o.loud)
      by more (goes_on q) (inr beyond) =
          let x : k ≤ piece - 2 = p.charged.bounded in
          let g = short_of b k (omega arith) beyond in
          let f = times in
          ends (inr (let y : b < 1 * (piece - 2) = omega arith in y)) (left_is 0 u (Some (negsuc g.0)) (pos 0) (paid s p b e ∙ ap Some g.1) q.quiet)
      by more (goes_on q) (inl within) =
          let covers : ran_used s p + 5 ≤ k = p.charged.covers in
          let bounded : k ≤ piece - 2 = p.charged.bounded in
          let rest : u.scores score_budget ≡ Some (pos (b - k)) = paid s p b e ∙ ap Some (difference b k h within) in
          let m : Went u (b - k) = more (b - k) (omega arith) q rest in
          let low : m.weight + 15 ≤ (b - k) + piece = m.light in
          record {
            state = m.state;
            weight = 3 + ran_used s p + (2 + m.weight);
            light = (let y : 3 + ran_used s p + (2 + m.weight) + 15 ≤ b + piece = omega arith in y);
            does = again s u m.state (3 + ran_used s p) m.weight (round s p) (open_if 0 (b - k) u rest q.quiet true (enough_for 0 (b - k) (omega arith))) m.does;
            count = suc m.count;
            rounds = one_round m.count s m.state p m.rounds;
            leads = on m.count bounded m.leads;
          }
        where
          on : {x : State} (c : ℕ) → k ≤ piece - 2 → Over x ⊎ (b - k < c * (piece - 2)) → Over x ⊎ (b < suc c * (piece - 2))
          on c y (inl o) = inl o
          on c y (inr z) = let t : suc c * (piece - 2) ≡ (piece - 2) + c * (piece - 2) = grind arith in inr (omega arith)

  -- ---- so many rounds with no test between them

  -- behind the end of the job they do nothing
  all_skip : (k : ℕ) (s : State) → Over s → Does functions ns (rounds_texts ns k) (seen s) (2 * k) false (seen s)
  all_skip zero s o = does_none functions ns (seen s)
  all_skip (suc k) s o = does_append functions ns false (cmd_text (round_command ns) ∷ []) (rounds_texts ns k) (seen s) (seen s) (seen s) 2 (2 * k) (2 * suc k)
      (round_skips functions ns s n (quiet_is s o.number o.trap ∙ ap (λ b. b && true) o.loud)) (all_skip k s o) (omega arith)

  -- where so many rounds lead: on, with what is left of the budget, or to the end of the job
  data Comes (k : ℕ) (s : State) (b weight count : ℕ) : Type 0 where
    comes_on : (p : Next s) (l : ℕ) → s.scores score_budget ≡ Some (pos l) → weight + 2 * k + l ≤ b → b ≤ l + count * (piece - 2) → Comes k s b weight count
    comes_out : (o : Over s) → weight + 8 * k ≤ k * piece → Comes k s b weight count

  record Ran (k : ℕ) (s : State) (b : ℕ) : Type 0 where
    state : State
    weight : ℕ
    does : Does functions ns (rounds_texts ns k) (seen s) weight false (seen state)
    count : ℕ
    rounds : Lead count s state
    comes : Comes k state b weight count

  run_rounds : (k : ℕ) (s : State) (b : ℕ) → k * piece ≤ b → b < 2147483648 → s.scores score_budget ≡ Some (pos b) → (p : Next s) → Firm s → Ran k s b
  run_rounds zero s b room h e p steady = record {
    state = s;
    weight = 0;
    does = does_none functions ns (seen s);
    count = 0;
    rounds = no_round s;
    comes = comes_on p b e (omega arith) (omega arith);
  }
  run_rounds (suc k) s b room h e p steady =
      by (λ j f l q g. run_rounds k (ran s p) j f l g q (firm_on s p steady)) (steady 1 u (one s p))
    where
      u : State
      u = ran s p

      c : ℕ
      c = p.charged.charge

      More : Type 0
      More = (j : ℕ) → k * piece ≤ j → j < 2147483648 → (q : Next (ran s p)) → (ran s p).scores score_budget ≡ Some (pos j) → Ran k (ran s p) j

      times : suc k * piece ≡ piece + k * piece
      times = grind arith

      before : (v : State) (j : ℕ) → Does functions ns (rounds_texts ns k) (seen u) j false (seen v) → Does functions ns (rounds_texts ns (suc k)) (seen s) (3 + ran_used s p + j) false (seen v)
      before v j f = does_append functions ns false (cmd_text (round_command ns) ∷ []) (rounds_texts ns k) (seen s) (seen u) (seen v) (3 + ran_used s p) j (3 + ran_used s p + j) (round s p) f (same (3 + ran_used s p + j))

      by : More → Stands functions ns program piece u → Ran (suc k) s b
      by more (is_over o) =
          let low = ran_low s p in
          let few : k * 10 ≤ k * piece = times_least k 10 piece (omega arith) in
          let all = times in
          record {
            state = u;
            weight = 3 + ran_used s p + 2 * k;
            does = before u (2 * k) (all_skip k u o);
            count = 1;
            rounds = one s p;
            comes = comes_out o (let y : 3 + ran_used s p + 2 * k + 8 * suc k ≤ suc k * piece = omega arith in y);
          }
      by more (goes_on q) =
          let covers : ran_used s p + 5 ≤ c = p.charged.covers in
          let bounded : c ≤ piece - 2 = p.charged.bounded in
          let low = ran_low s p in
          let all = times in
          let within : c ≤ b = omega arith in
          let rest : u.scores score_budget ≡ Some (pos (b - c)) = paid s p b e ∙ ap Some (difference b c h within) in
          let m : Ran k u (b - c) = more (b - c) (omega arith) (omega arith) q rest in
          record {
            state = m.state;
            weight = 3 + ran_used s p + m.weight;
            does = before m.state m.weight m.does;
            count = suc m.count;
            rounds = one_round m.count s m.state p m.rounds;
            comes = on {v = m.state} m.weight m.count covers bounded low within m.comes;
          }
        where
          on : {v : State} (w i : ℕ) → ran_used s p + 5 ≤ c → c ≤ piece - 2 → ran_used s p + turn_weight ≤ piece → c ≤ b → Comes k v (b - c) w i → Comes (suc k) v b (3 + ran_used s p + w) (suc i)
          on w i covers bounded low within (comes_on q l f g z) =
              let t : suc i * (piece - 2) ≡ (piece - 2) + i * (piece - 2) = grind arith in
              comes_on q l f (let y : 3 + ran_used s p + w + 2 * suc k + l ≤ b = omega arith in y) (let y : b ≤ l + suc i * (piece - 2) = omega arith in y)
          on w i covers bounded low within (comes_out o z) =
              let all = times in
              comes_out o (let y : 3 + ran_used s p + w + 8 * suc k ≤ suc k * piece = omega arith in y)

  -- ---- eight rounds, and the next eight

  abbrev gave : State → State
  gave s = after_step give_back s

  gave_does : (s : State) → Does functions ns (steps_texts ns (give_back ∷ [])) (seen s) 1 false (seen (gave s))
  gave_does s = steps_do functions ns (give_back ∷ []) s (all_speak ns n (give_back ∷ []) give_back_fits) give_back_fits (tt, λ x. tt)

  gave_budget : (s : State) (l : ℕ) → l + 13 < 2147483648 → s.scores score_budget ≡ Some (pos l) → (gave s).scores score_budget ≡ Some (pos (l + 13))
  gave_budget s l h e = ap (λ o. Some (wrapped (or_zero o +ℤ pos 13))) e ∙ ap Some (more_left l 13 h)

  -- where they lead: on, with what is left of the budget, or to the end of the job; both weigh at most so much
  data Left (s : State) (most b weight count : ℕ) : Type 0 where
    left_on : (p : Next s) (l : ℕ) → s.scores score_budget ≡ Some (pos l) → weight + l ≤ most → b ≤ l + count * (piece - 2) → Left s most b weight count
    left_out : (o : Over s) → weight ≤ most → Left s most b weight count

  record Grouped (s : State) (b : ℕ) : Type 0 where
    state : State
    weight : ℕ
    does : Body functions ns (group_texts ns piece) (seen s) weight (seen state)
    count : ℕ
    rounds : Lead count s state
    comes : Left state b b weight count

  -- with what the next eight lead to
  group_on : (s : State) (b : ℕ) → group_room piece ≤ b → b < 2147483648 → Ran 8 s b → Firm s
      → ((v : State) (j : ℕ) → j < b → group_room piece ≤ j → v.scores score_budget ≡ Some (pos j) → Next v → Firm v → Grouped v j) → Grouped s b
  group_on s b room h r steady more = by r.comes
    where
      v : State
      v = gave r.state

      eight : Does functions ns (rounds_texts ns 8 ++ steps_texts ns (give_back ∷ [])) (seen s) (r.weight + 1) false (seen v)
      eight = does_append functions ns false (rounds_texts ns 8) (steps_texts ns (give_back ∷ [])) (seen s) (seen r.state) (seen v) r.weight 1 (r.weight + 1) r.does (gave_does r.state) (same (r.weight + 1))

      whole : (u : State) (j : ℕ) → Does functions ns (called_if (group_room piece) group_name) (seen v) j false (seen u) → Body functions ns (group_texts ns piece) (seen s) (r.weight + 1 + j) (seen u)
      whole u j f = body_of functions ns false (group_texts ns piece) (seen s) (seen u) (r.weight + 1 + j)
          (does_append functions ns false (rounds_texts ns 8 ++ steps_texts ns (give_back ∷ [])) (called_if (group_room piece) group_name) (seen s) (seen v) (seen u) (r.weight + 1) j (r.weight + 1 + j) eight f (same (r.weight + 1 + j)))

      firm : Firm v
      firm = λ j x q. steady (r.count + j) x (joins r.count j s r.state x r.rounds (gives_back j r.state x q))

      so_far : Lead r.count s v
      so_far = subst (λ i. Lead i s v) (let z : r.count + 0 ≡ r.count = omega arith in z) (joins r.count 0 s r.state v r.rounds (gives_back 0 r.state v (no_round v)))

      stop : conds_hold (left_conds (group_room piece)) v ≡ false → Left v b b (r.weight + 1 + 2) r.count → Grouped s b
      stop shuts comes = record {
        state = v;
        weight = r.weight + 1 + 2;
        does = whole v 2 (skips (group_room piece) group_name v (omega arith) refl shuts);
        count = r.count;
        rounds = so_far;
        comes = comes;
      }

      out : Over r.state → r.weight + 8 * 8 ≤ 8 * piece → Stands functions ns program piece v → Grouped s b
      out o low (goes_on q) = absurd (not_both v o.number q.quiet o.trap o.loud)
      out o low (is_over x) = stop (shut (group_room piece) v x.number x.trap x.loud) (left_out x (omega arith))

      on : Next r.state → (l : ℕ) → r.state.scores score_budget ≡ Some (pos l) → r.weight + 2 * 8 + l ≤ b → b ≤ l + r.count * (piece - 2) → Stands functions ns program piece v → Grouped s b
      on q l f low high (is_over x) = absurd (not_both v x.number q.quiet x.trap x.loud)
      on q l f low high (goes_on y) = by_room (order (group_room piece) (l + 13))
        where
          rest : v.scores score_budget ≡ Some (pos (l + 13))
          rest = gave_budget r.state l (omega arith) f

          by_room : (group_room piece ≤ l + 13) ⊎ (l + 13 < group_room piece) → Grouped s b
          by_room (inr few) = stop (open_if (group_room piece) (l + 13) v rest y.quiet false (too_little (group_room piece) (l + 13) few)) (left_on y (l + 13) rest (omega arith) (omega arith))
          by_room (inl much) =
              let m : Grouped v (l + 13) = more v (l + 13) (omega arith) much rest y firm in
              record {
                state = m.state;
                weight = r.weight + 1 + (2 + m.weight);
                does = whole m.state (2 + m.weight) (calls (group_room piece) group_name (group_texts ns piece) v m.state m.weight (omega arith) refl d.groups (group_unfilled (omega arith)) (open_if (group_room piece) (l + 13) v rest y.quiet true (enough_for (group_room piece) (l + 13) much)) m.does);
                count = r.count + m.count;
                rounds = joins r.count m.count s r.state m.state r.rounds (gives_back m.count r.state m.state m.rounds);
                comes = further m.weight m.count m.comes;
              }
            where
              further : {x : State} (w i : ℕ) → Left x (l + 13) (l + 13) w i → Left x b b (r.weight + 1 + (2 + w)) (r.count + i)
              further w i (left_on q z g a c) =
                  let t : (r.count + i) * (piece - 2) ≡ r.count * (piece - 2) + i * (piece - 2) = grind arith in
                  left_on q z g (omega arith) (omega arith)
              further w i (left_out o a) = left_out o (omega arith)

      by : Comes 8 r.state b r.weight r.count → Grouped s b
      by (comes_out o low) = out o low (firm 0 v (no_round v))
      by (comes_on q l f low high) = on q l f low high (firm 0 v (no_round v))

  rounds_group : (fuel : ℕ) (s : State) (b : ℕ) → b < fuel → group_room piece ≤ b → b < 2147483648 → s.scores score_budget ≡ Some (pos b) → (p : Next s) → Firm s → Grouped s b
  rounds_group zero s b l room h e p steady = absurd (omega arith)
  rounds_group (suc fuel) s b l room h e p steady =
      group_on s b room h (run_rounds 8 s b room h e p steady) steady (λ v j f m g q firm. rounds_group fuel v j (omega arith) m (omega arith) g q firm)

  -- ---- all rounds of a tick

  -- where a line of a tick leads
  record Passed (ts : Texts) (s : State) (b : ℕ) : Type 0 where
    state : State
    weight : ℕ
    does : Does functions ns ts (seen s) weight false (seen state)
    count : ℕ
    rounds : Lead count s state
    comes : Left state (b + 2) b weight count

  groups : (s : State) (b : ℕ) → b < 2147483646 → group_room piece < 2147483648 → s.scores score_budget ≡ Some (pos b) → Stands functions ns program piece s → Firm s → Passed (called_if (group_room piece) group_name) s b
  groups s b h g e (is_over o) steady = record {
    state = s;
    weight = 2;
    does = skips (group_room piece) group_name s g refl (shut (group_room piece) s o.number o.trap o.loud);
    count = 0;
    rounds = no_round s;
    comes = left_out o (omega arith);
  }
  groups s b h g e (goes_on p) steady = by (order (group_room piece) b)
    where
      by : (group_room piece ≤ b) ⊎ (b < group_room piece) → Passed (called_if (group_room piece) group_name) s b
      by (inr few) = record {
        state = s;
        weight = 2;
        does = skips (group_room piece) group_name s g refl (open_if (group_room piece) b s e p.quiet false (too_little (group_room piece) b few));
        count = 0;
        rounds = no_round s;
        comes = left_on p b e (omega arith) (omega arith);
      }
      by (inl much) =
          let m : Grouped s b = rounds_group (suc b) s b (omega arith) much (omega arith) e p steady in
          record {
            state = m.state;
            weight = 2 + m.weight;
            does = calls (group_room piece) group_name (group_texts ns piece) s m.state m.weight g refl d.groups (group_unfilled g) (open_if (group_room piece) b s e p.quiet true (enough_for (group_room piece) b much)) m.does;
            count = m.count;
            rounds = m.rounds;
            comes = on m.weight m.count m.comes;
          }
        where
          on : {x : State} (w i : ℕ) → Left x b b w i → Left x (b + 2) b (2 + w) i
          on w i (left_on q l f a c) = left_on q l f (omega arith) (omega arith)
          on w i (left_out o a) = left_out o (omega arith)

  -- what the lines of the rounds come to
  record Went_all (s : State) (b : ℕ) : Type 0 where
    state : State
    weight : ℕ
    does : Does functions ns (rounds_commands ns piece) (seen s) weight false (seen (told state))
    light : weight ≤ b + (piece + 3)
    count : ℕ
    rounds : Lead count s state
    leads : Over state ⊎ (b < count * (piece - 2))
    settled : Settled functions ns program piece state

  -- the end of a tick is one round, or none
  led_on : (c : ℕ) (s u v : State) → Lead c s u → Finishes functions ns program piece u v → (j : ℕ) × Lead j s v × (c ≤ j)
  led_on c s u v r (finished q e) = (c, subst (Lead c s) (sym e) r, same c)
  led_on c s u v r (finishing p q e) = (c + 1, joins c 1 s u v r (one_round 0 u v p (subst (λ x. Lead 0 (ran u p) x) (sym e) (no_round (ran u p)))), (let z : c ≤ c + 1 = omega arith in z))

  over_on : (u v : State) → Over u → Finishes functions ns program piece u v → Over v
  over_on u v o (finished q e) = subst Over (sym e) o
  over_on u v o (finishing p q e) = absurd (not_both u o.number p.quiet o.trap o.loud)

  rounds_all : (s : State) (b : ℕ) → b < 2147483646 → group_room piece < 2147483648 → turn_weight ≤ piece → s.scores score_budget ≡ Some (pos b) → Firm s → Went_all s b
  rounds_all s b h g some e steady = by (groups s b h g e (steady 0 s (no_round s)) steady)
    where
      by : Passed (called_if (group_room piece) group_name) s b → Went_all s b
      by m = ends m.comes
        where
          ending : (u : State) (j c : ℕ) → Does functions ns (called_if 0 go_name) (seen m.state) j false (seen u) → Lead c s u → m.weight + j + 11 ≤ b + piece → Over u ⊎ (b < c * (piece - 2)) → Went_all s b
          ending u j c f q low leads =
              let e : Closing functions ns program piece n d u = finish functions ns program piece n d u (steady c u q) in
              let few = e.light in
              let r : (i : ℕ) × Lead i s e.state × (c ≤ i) = led_on c s u e.state q e.finishes in
              let ts : Texts = end_texts ns in
              record {
                state = e.state;
                weight = m.weight + (j + e.weight);
                does = does_append functions ns false (called_if (group_room piece) group_name) (cmd_text (go_command ns) ∷ ts) (seen s) (seen m.state) (seen (told e.state)) m.weight (j + e.weight) (m.weight + (j + e.weight)) m.does
                    (does_append functions ns false (called_if 0 go_name) ts (seen m.state) (seen u) (seen (told e.state)) j e.weight (j + e.weight) f e.does (same (j + e.weight)))
                    (same (m.weight + (j + e.weight)));
                light = (let y : m.weight + (j + e.weight) ≤ b + (piece + 3) = omega arith in y);
                count = r.0;
                rounds = r.1;
                leads = ended r.0 r.2 e.state e.finishes leads;
                settled = e.settled;
              }
            where
              ended : (i : ℕ) → c ≤ i → (v : State) → Finishes functions ns program piece u v → Over u ⊎ (b < c * (piece - 2)) → Over v ⊎ (b < i * (piece - 2))
              ended i h v g (inl o) = inl (over_on u v o g)
              ended i h v g (inr l) = let t : c * (piece - 2) ≤ i * (piece - 2) = least_times c i (piece - 2) h in inr (omega arith)

          ends : Left m.state (b + 2) b m.weight m.count → Went_all s b
          ends (left_out o low) = ending m.state 2 m.count (skips 0 go_name m.state (omega arith) refl (shut 0 m.state o.number o.trap o.loud)) m.rounds (omega arith) (inl o)
          ends (left_on p l f low high) =
              let firm : Firm m.state = λ j x r. steady (m.count + j) x (joins m.count j s m.state x m.rounds r) in
              let k : Went m.state l = rounds_go (suc l) m.state l (omega arith) (omega arith) (omega arith) f p firm in
              let light = k.light in
              ending k.state (2 + k.weight) (m.count + k.count) (calls 0 go_name (go_texts ns) m.state k.state k.weight (omega arith) refl d.goes go_unfilled (open_if 0 l m.state f p.quiet true (enough_for 0 l (omega arith))) k.does) (joins m.count k.count s m.state k.state m.rounds k.rounds) (omega arith) (on k.count high k.leads)
            where
              on : {x : State} (c : ℕ) → b ≤ l + m.count * (piece - 2) → Over x ⊎ (l < c * (piece - 2)) → Over x ⊎ (b < (m.count + c) * (piece - 2))
              on c y (inl o) = inl o
              on c y (inr z) = let t : (m.count + c) * (piece - 2) ≡ m.count * (piece - 2) + c * (piece - 2) = grind arith in inr (omega arith)

  -- ---- a tick

  -- A tick isn't cut, and is rounds: as many as the budget has whole parts, unless the job is over.
  pub tick : (least : ℕ) → turn_weight ≤ piece → piece < 200000000 → piece + 48 ≤ least → (s : State) (b : ℕ) → s.keys in_io key_state ≡ Some (int (pos 1)) → Steady functions ns program piece (tick_start piece b s) → least ≤ b → b < 2147483648 → (w : World) → Shows ns w (seen s) → w.rule ≡ pos b → Ticked functions ns program piece least b w s
  tick least some small room s b e steady low high w sh rule =
      let g : State = guarded s in
      let wide : group_room piece < 2147483648 = omega arith in
      let d1 = (guard_by functions ns piece n d s false (other_is s (pos 1) e)).by w sh in
      let ruled : d1.world.rule ≡ pos b = d1.outside.rule ∙ rule in
      -- the budget is read
      let g2 : State = state.with_score g score_budget (pos b) in
      let w2 : World = with_score d1.world score_budget ns (pos b) in
      let f2 : Falls functions (cmd_text (budget_command ns) ∷ []) d1.world 2 (with_score d1.world score_budget ns (pos b)) =
      subst (λ z. Falls functions (cmd_text (budget_command ns) ∷ []) d1.world 2 (with_score d1.world score_budget ns z)) ruled
      (falls_execute functions (cmd_text (budget_command ns)) (store_score score_budget ns ∷ []) chain_length d1.world budget_speaks (ap (λ x. x && true) d1.shows.objective) refl) in
      let h2 = scratch_written ns d1.world g d1.shows score_budget (pos b) refl in
      -- the reserve is taken away
      let g3 : State = tick_start piece b s in
      let left : g3.scores score_budget ≡ Some (pos (b - reserve piece)) = ap Some (difference b (reserve piece) high (omega arith)) in
      let taken : Does functions ns (steps_texts ns (reserve_steps piece)) (seen g2) 1 false (seen g3) = steps_do functions ns (reserve_steps piece) g2 (all_speak ns n (reserve_steps piece) (reserve_fits piece (omega arith))) (reserve_fits piece (omega arith)) (tt, λ x. tt) in
      -- the rounds
      let m : Went_all g3 (b - reserve piece) = rounds_all g3 (b - reserve piece) (omega arith) wide some left steady in
      let rest : Does functions ns (steps_texts ns (reserve_steps piece) ++ rounds_commands ns piece) (seen g2) (1 + m.weight) false (seen (told m.state)) =
      does_append functions ns false (steps_texts ns (reserve_steps piece)) (rounds_commands ns piece) (seen g2) (seen g3) (seen (told m.state)) 1 m.weight (1 + m.weight) taken m.does (same (1 + m.weight)) in
      let d3 = rest.by w2 h2.shows in
      let l1 = d1.light in
      let l3 = d3.light in
      let lr = m.light in
      let ts : Texts = steps_texts ns (reserve_steps piece) ++ rounds_commands ns piece in
      let f23 : Falls functions (cmd_text (budget_command ns) ∷ ts) d1.world (2 + d3.weight) d3.world = falls_append functions (cmd_text (budget_command ns) ∷ []) ts d1.world w2 d3.world 2 d3.weight f2 d3.leaves in
      let all : Falls functions (tick_texts ns piece) w (d1.weight + (2 + d3.weight)) d3.world = falls_append functions (steps_texts ns guard_steps) (cmd_text (budget_command ns) ∷ ts) w d1.world d3.world d1.weight (2 + d3.weight) d1.leaves f23 in
      let few : d1.weight + (2 + d3.weight) ≤ b = omega arith in
      record {
        state = m.state;
        count = m.count;
        rounds = m.rounds;
        enough = to m.count m.leads;
        settled = m.settled;
        whole = record {
          world = d3.world;
          left = b - (d1.weight + (2 + d3.weight));
          is = Rattle.mc_cmd.proofs.Runs.whole_from functions (full_name ns tick_name) (tick_texts ns piece) w d3.world (d1.weight + (2 + d3.weight)) b few d.ticks (guard_unfilled functions ns piece n d (cmd_text (budget_command ns) ∷ ts) (tick_rest_unfilled wide)) (runs_falls functions (tick_texts ns piece) w d3.world (d1.weight + (2 + d3.weight)) all);
          shows = d3.shows;
          outside = outside_both ns w d1.world d3.world d1.outside (outside_both ns d1.world w2 d3.world h2.outside d3.outside);
        };
      }
    where
      to : {u : State} (q : ℕ) → Over u ⊎ (b - reserve piece < q * (piece - 2)) → IsEnough b least q (told u)
      to q (inl o) = job_over o.idle
      to q (inr z) =
          let t = times_least q (piece - 2) least (omega arith) in
          let x : suc q * least ≡ least + q * least = grind arith in
          let f : b / least < suc q = div_below b least (suc q) (omega arith) (omega arith) in
          rounds_enough (let g : b / least ≤ q = omega arith in g)

  -- in another state than 1 a tick does nothing but read the state
  tick_rests : piece < 200000000 → (s : State) → Idle s → (b : ℕ) → 4 ≤ b → (w : World) → Shows ns w (seen s) → Whole functions ns tick_name b w (seen (guarded s))
  tick_rests h s i b four w sh = guarded_out functions ns piece n d tick_name (cmd_text (budget_command ns) ∷ (steps_texts ns (reserve_steps piece) ++ rounds_commands ns piece)) d.ticks (tick_rest_unfilled (let x : group_room piece < 2147483648 = omega arith in x)) s i b four w sh

pub tick_idle : (functions : Functions) (ns : Text) (piece : ℕ) → is_namespace ns ≡ true → HasSched functions ns piece → piece < 200000000 → (s : State) → Idle s → (b : ℕ) → 4 ≤ b → (w : World) → Shows ns w (seen s) → Whole functions ns tick_name b w (seen (guarded s))
tick_idle functions ns piece = tick_rests functions ns (λ i. no_more) piece

-- wherever a fact stands that rounds keep, and that tells whether a piece is next, the pack is steady
pub steady_by : (functions : Functions) (ns : Text) (program : PieceId → Items) (piece : ℕ) (At : State → Type 0) → ((s : State) → At s → Stands functions ns program piece s) → ((s : State) → At s → (p : Piece functions ns program piece s) → At (run_items (program p.named.id) s).state) → ((s : State) → At s → At (after_step give_back s)) → (s : State) → At s → Steady functions ns program piece s
steady_by functions ns program piece At stands keeps gives s a n u r = go n s u r a
  where
    go : (n : ℕ) (s u : State) → Rounds functions ns program piece n s u → At s → Stands functions ns program piece u
    go _ _ _ (no_round s) a = stands s a
    go _ _ _ (one_round m s u p r) a = go m (run_items (program p.named.id) s).state u r (keeps s a p)
    go _ _ _ (gives_back m s u r) a = go m (after_step give_back s) u r (gives s a)
