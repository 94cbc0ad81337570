-- What moves say of the progress after so many steps.
use Rattle.std.proofs.Common.{◌≤◌, ◌≡◌, ℕ, zero, suc, ◌+◌, ◌<◌, List, [], ◌∷◌, reverse, refl, sym, ap, subst, ◌∙◌}
use Rattle.std.proofs.Common.{arith, ◌⊎◌, inl, inr}
use Rattle.mc_nbt.specs.declared.value.Value.{Value}
use Rattle.wm_ast.specs.declared.answer.TrapKind.{TrapKind}
use Rattle.wm_ast.specs.declared.module.Module.{Module}
use Rattle.wm_ast.specs.After.{settled_by, settled, one_more, after, IsNext}
use Rattle.wm_ast.specs.Code.{call}
use Rattle.wm_ast.specs.Configuration.{Items, empty, more, instruction, Config, after_values}
use Rattle.wm_ast.specs.Step.{Effect, becomes, branches, returns, traps, no_rule, Reduct, values, rewritten, branching}
use Rattle.wm_ast.specs.Step.{returning, trapping, irreducible, go_on, at_frame, enter, reduct, Progress, Next, Ended}
use Rattle.wm_ast.specs.Step.{Trapped, progress, step}
use Rattle.wm_ast.specs.Store.{Store}
use Rattle.wm_flat.specs.Flat.{Activation, Flat, starting, running, finished, plug, Moved, goes, fails, over, config_of}
use Rattle.wm_flat.specs.Flat.{move}
use Rattle.wm_flat.specs.Steps.{Reach, Steps}
use Rattle.wm_flat.specs.Runs.{State, config, moved, Makes, Leads}
use Rattle.wm_flat.proofs.Walk.{walked, around_reduct, around_step}
use Rattle.wm_flat.proofs.Agree.{agree}

-- The reduction alone.

settled_next : (c e : Config) (r : Reduct) → progress c.store r ≡ Next e → settled_by c r ≡ Next c
settled_next c e (values vs) h = absurd cc
settled_next c e (rewritten s locals is) h = refl
settled_next c e (branching l vs) h = refl
settled_next c e (returning vs) h = refl
settled_next c e (trapping k) h = refl
settled_next c e irreducible h = refl

settled_trap : (c : Config) (k : TrapKind) (s : Store) (r : Reduct) → progress c.store r ≡ Trapped k s
    → settled_by c r ≡ Next c
settled_trap c k s (values vs) h = absurd cc
settled_trap c k s (rewritten s' locals is) h = refl
settled_trap c k s (branching l vs) h = refl
settled_trap c k s (returning vs) h = refl
settled_trap c k s (trapping j) h = refl
settled_trap c k s irreducible h = refl

-- two numbers in order
in_order : (x y : ℕ) → (y < x) ⊎ ((x < y) ⊎ (x ≡ y))
in_order x y = grind arith

module _ (m : Module) where
  after_next : (c e : Config) (k : ℕ) → step m c ≡ Next e → after m c (suc k) ≡ after m e k
  after_next c e zero h = ap (one_more m) (settled_next c e (reduct m c) h) ∙ ap (settled m) h
  after_next c e (suc k) h = ap (one_more m) (after_next c e k h)

  pub after_reach : (n : ℕ) (c d : Config) (k : ℕ) → Reach m n c d → after m c (n + k) ≡ after m d k
  after_reach zero c d k h =
      let z : 0 + k ≡ k = omega arith in ap (after m c) z ∙ ap (λ (x : Config). after m x k) h
  after_reach (suc n) c d k h =
      let z : suc n + k ≡ suc (n + k) = omega arith in
      ap (after m c) z ∙ after_next c h.0 (n + k) h.1 ∙ after_reach n h.0 d k h.2

  pub after_at : (n : ℕ) (c d : Config) → Reach m n c d → after m c n ≡ after m d 0
  after_at n c d h = let z : n ≡ n + 0 = omega arith in ap (after m c) z ∙ after_reach n c d 0 h

  -- before the last of the steps it goes on
  pub open_before : (n : ℕ) (c d : Config) (k : ℕ) → k < n → Reach m n c d → IsNext (after m c k)
  open_before zero c d k l h = absurd (omega arith)
  open_before (suc n) c d zero l h = subst IsNext (sym (settled_next c h.0 (reduct m c) h.1)) tt
  open_before (suc n) c d (suc k) l h =
      subst IsNext (sym (after_next c h.0 k h.1)) (open_before n h.0 d k (omega arith) h.2)

  pub reach_on : (n k : ℕ) (c d e : Config) → Reach m n c d → Reach m k d e → Reach m (n + k) c e
  reach_on zero k c d e h g =
      let z : 0 + k ≡ k = omega arith in
      subst (λ i. Reach m i c e) (sym z) (subst (λ (x : Config). Reach m k x e) (sym h) g)
  reach_on (suc n) k c d e h g =
      let z : suc n + k ≡ suc (n + k) = omega arith in
      subst (λ i. Reach m i c e) (sym z) (h.0, h.1, reach_on n k h.0 d e h.2 g)

  -- what doesn't go on stays
  pub over_stays : (c : Config) (o : Progress) (n k : ℕ) → after m c n ≡ o → one_more m o ≡ o → after m c (n + k) ≡ o
  over_stays c o n zero e st = let z : n + 0 ≡ n = omega arith in ap (after m c) z ∙ e
  over_stays c o n (suc k) e st =
      let z : n + suc k ≡ suc (n + k) = omega arith in
      ap (after m c) z ∙ ap (one_more m) (over_stays c o n k e st) ∙ st

  -- Moves.

  pub agrees_with : (s : Store) (c : Flat) (x : Moved) → move m s c ≡ x → Steps m s (config_of s c) x
  agrees_with s c x e = subst (λ (y : Moved). Steps m s (config_of s c) y) e (agree m s c)

  pub makes_reach : (k n : ℕ) (c d : State) → Makes m k n c d → Reach m n (config c) (config d)
  makes_reach zero n c d h = subst (λ i. Reach m i (config c) (config d)) (sym h.0) (ap config h.1)
  makes_reach (suc k) n c d h =
      subst (λ i. Reach m i (config c) (config d)) (sym h.4)
      (reach_on h.0 h.1 (config c) (config h.2) (config d)
      (agrees_with c.store c.flat (goes h.0 h.2.store h.2.flat) h.3) (makes_reach k h.1 h.2 d h.5))

  pub makes_on : (k j n i : ℕ) (c d e : State) → Makes m k n c d → Makes m j i d e → Makes m (k + j) (n + i) c e
  makes_on zero j n i c d e h g =
      let z : 0 + j ≡ j = omega arith in
      let w : n + i ≡ i = let q : n ≡ 0 = h.0 in omega arith in
      subst (λ x. Makes m x (n + i) c e) (sym z)
      (subst (λ x. Makes m j x c e) (sym w) (subst (λ (x : State). Makes m j i x e) (sym h.1) g))
  makes_on (suc k) j n i c d e h g =
      let z : suc k + j ≡ suc (k + j) = omega arith in
      let w : n + i ≡ h.0 + (h.1 + i) = let q : n ≡ h.0 + h.1 = h.4 in omega arith in
      subst (λ x. Makes m x (n + i) c e) (sym z)
      (h.0, h.1 + i, h.2, h.3, w, makes_on k j h.1 i h.2 d e h.5 g)

  -- one move
  pub makes_one : (k : ℕ) (c d : State) → moved m c ≡ goes k d.store d.flat → Makes m 1 k c d
  makes_one k c d e = (k, 0, d, e, omega arith, (refl, refl))

  pub leads_reach : (n : ℕ) (c d : State) → Leads m n c d → Reach m n (config c) (config d)
  leads_reach n c d h = makes_reach h.moves n c d h.made

  pub leads_on : (n i : ℕ) (c d e : State) → Leads m n c d → Leads m i d e → Leads m (n + i) c e
  leads_on n i c d e h g =
      record { moves = h.moves + g.moves; made = makes_on h.moves g.moves n i c d e h.made g.made }

  pub leads_nowhere : (c : State) → Leads m 0 c c
  leads_nowhere c = record { moves = 0; made = (refl, refl) }

  -- one move further
  pub further_on : (n k : ℕ) (c d e : State) → Leads m n c d → moved m d ≡ goes k e.store e.flat → Leads m (n + k) c e
  further_on n k c d e h w = leads_on n k c d e h (record { moves = 1; made = makes_one k d e w })

  -- while it runs the reduction goes on
  not_ended : (is : Items) (d : Effect) (c : Config) → settled_by c (go_on is d) ≡ Next c
  not_ended is (becomes s locals vs js) c = refl
  not_ended is (branches l vs) c = refl
  not_ended is (returns vs) c = refl
  not_ended is (traps k) c = refl
  not_ended is no_rule c = refl

  around_open : (cs : List Activation) (s : Store) (n f : ℕ) (r : Reduct) (c : Config)
      → settled_by c (around_reduct s cs n f r) ≡ Next c
  around_open [] s n f r c = not_ended empty (at_frame s [] n f [] r) c
  around_open (a ∷ cs) s n f r c = around_open cs s a.results a.func _ c

  pub running_open : (s : Store) (cs : List Activation) (a : Activation)
      → after m (config_of s (running cs a)) 0 ≡ Next (config_of s (running cs a))
  running_open s cs a =
      ap (settled_by (config_of s (running cs a)))
      (around_step m cs a.results a.func a.locals (plug a.levels (after_values a.values _)) s)
      ∙ around_open cs s a.results a.func _ (config_of s (running cs a))

  pub starting_open : (s : Store) (f : ℕ) (vs : List Value)
      → after m (config_of s (starting f vs)) 0 ≡ Next (config_of s (starting f vs))
  starting_open s f vs =
      ap (settled_by (config_of s (starting f vs))) (walked m vs (more (instruction (call f)) empty) 0 s [])
      ∙ not_ended empty (enter m 0 s [] f vs _) (config_of s (starting f vs))

  -- What a compiler's proof uses.

  -- where moves of n steps lead to an activation that goes on, the progress after n steps is its term
  pub stands_at : (n : ℕ) (c : State) (s : Store) (cs : List Activation) (a : Activation)
      → Leads m n c (record { store = s; flat = running cs a })
      → after m (config c) n ≡ Next (config_of s (running cs a))
  stands_at n c s cs a h =
      after_at n (config c) (config_of s (running cs a)) (leads_reach n c (record { store = s; flat = running cs a }) h)
      ∙ running_open s cs a

  -- so a reduction that is over within i steps hasn't made i steps there
  pub open_at : (n i : ℕ) (c : State) (s : Store) (cs : List Activation) (a : Activation)
      → Leads m n c (record { store = s; flat = running cs a }) → (IsNext (after m (config c) i) → ⊥) → n < i
  open_at n i c s cs a h shut = by_order (in_order i n)
    where
      by_order : (n < i) ⊎ ((i < n) ⊎ (i ≡ n)) → n < i
      by_order (inl l) = l
      by_order (inr (inl l)) =
          absurd
          (shut
          (open_before n (config c) (config_of s (running cs a)) i l
          (leads_reach n c (record { store = s; flat = running cs a }) h)))
      by_order (inr (inr e)) =
          absurd
          (shut
          (subst (λ x. IsNext (after m (config c) x)) (sym e) (subst IsNext (sym (stands_at n c s cs a h)) tt)))

  -- the end, of a state that is over
  pub ends_with : (n j : ℕ) (c d : State) (vs : List Value) → Leads m n c d → moved m d ≡ over vs
      → after m (config c) (n + j) ≡ Ended (reverse vs) d.store
  ends_with n j c d vs h e =
      over_stays (config c) (Ended (reverse vs) d.store) n j
      (after_at n (config c) (config d) (leads_reach n c d h) ∙ agrees_with d.store d.flat (over vs) e) refl

  pub ends : (n j : ℕ) (c : State) (s : Store) (vs : List Value)
      → Leads m n c (record { store = s; flat = finished vs })
      → after m (config c) (n + j) ≡ Ended (reverse vs) s
  ends n j c s vs h = ends_with n j c (record { store = s; flat = finished vs }) vs h refl

  -- a trap, by the step after i more steps
  pub trap_after : (n i j : ℕ) (k : TrapKind) (c d : State) → Leads m n c d → moved m d ≡ fails i k
      → after m (config c) (n + i + suc j) ≡ Trapped k d.store
  trap_after n i j k c d h e =
      let y = agrees_with d.store d.flat (fails i k) e in
      let t : step m y.0 ≡ Trapped k d.store = y.3 in
      let o : after m y.0 0 ≡ Next y.0 = settled_trap y.0 k d.store (reduct m y.0) t in
      let one : after m y.0 1 ≡ Trapped k d.store = ap (one_more m) o ∙ ap (settled m) t in
      let z : 1 + j ≡ suc j = omega arith in
      after_reach (n + i) (config c) y.0 (suc j) (reach_on n i (config c) (config d) y.0 (leads_reach n c d h) y.2)
      ∙ ap (after m y.0) (sym z) ∙ over_stays y.0 (Trapped k d.store) 1 j one refl

  -- before it the reduction goes on
  pub trap_open : (n i j : ℕ) (k : TrapKind) (c d : State) → Leads m n c d → moved m d ≡ fails i k → j ≤ n + i
      → IsNext (after m (config c) j)
  trap_open n i j k c d h e l = by_order (in_order (n + i) j)
    where
      found : Steps m d.store (config d) (fails i k)
      found = agrees_with d.store d.flat (fails i k) e

      by_order : (j < n + i) ⊎ ((n + i < j) ⊎ (n + i ≡ j)) → IsNext (after m (config c) j)
      by_order (inl w) =
          let y = found in
          open_before (n + i) (config c) y.0 j w (reach_on n i (config c) (config d) y.0 (leads_reach n c d h) y.2)
      by_order (inr (inl w)) = absurd (omega (arith, l))
      by_order (inr (inr w)) =
          let y = found in
          subst (λ x. IsNext (after m (config c) x)) w
          (subst IsNext
          (sym
          (after_at (n + i) (config c) y.0 (reach_on n i (config c) (config d) y.0 (leads_reach n c d h) y.2)
          ∙ settled_trap y.0 k d.store (reduct m y.0) y.3))
          tt)
