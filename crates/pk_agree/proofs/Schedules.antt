-- From what one event does to what every list of events shows.
use Rattle.std.proofs.Common.{◌≡◌, ℕ, ◌+◌, ◌*◌, ◌/◌, ◌≤◌, ◌⊎◌, inl, inr, List, [], ◌∷◌, true, false, Option, Some, None, refl, sym, subst, arith}
use Rattle.mc_nbt.specs.declared.value.Value.{Value}
use Rattle.mc_cmd.specs.declared.TheConstants.{BMIN}
use Rattle.mc_cmd.specs.Command.{Cmd}
use Rattle.mc_cmd.specs.World.{World}
use Rattle.mc_cmd.specs.Layout.{Answer, new, running, done, trap, dead, answer}
use Rattle.mc_cmd.specs.Pack.{Pack, Event, call, tick, reload, other, IsBudget, IsLawful, Lawful, Standing, happen, loaded, after_events}
use Rattle.wm_ast.specs.declared.module.Module.{Module}
use Rattle.pk_agree.specs.Job.{Job, first_job, ticked_job, IsOverWithin, IsAtRest, AfterCall, stays, AfterEvent, AfterEvents, IsPresent}
use Rattle.pk_agree.specs.Agree.{TellsOfJob, public_places, IsRefusing, IsQuiet, IsTrueOf}
use Rattle.pk_agree.specs.Stepwise.{turned}

-- the same job, but for its credit
abbrev pub IsSame : Job → Job → Type 0
IsSame j i = (i.offset ≡ j.offset) × (i.config ≡ j.config) × (i.instantiates ≡ j.instantiates)

-- a pack at rest takes a call
taken_or_refused : (a : Option Answer) → IsAtRest a → IsRefusing a → ⊥
taken_or_refused (Some new) h g = g
taken_or_refused (Some (done v)) h g = g
taken_or_refused (Some (trap n)) h g = g
taken_or_refused (Some (dead n)) h g = h
taken_or_refused (Some running) h g = h
taken_or_refused None h g = h

module _ (m : Module) (pack : Pack) where
  abbrev answered : World → Option Answer
  answered w = answer pack.index.ns w

  abbrev pub IsUnchanged : World → World → Type 0
  IsUnchanged w v = public_places pack.index.ns v ≡ public_places pack.index.ns w

  -- a chain wasn't cut, and its world is so
  abbrev pub Comes : Standing → (World → Type 0) → Type 0
  Comes s P = (s.cut ≡ false) × P s.world

  -- What an event owes. `At w j k`: the world stands for the job, which has come so far: 16 for each step, and one for
  -- each piece of the next one. `Rest w j`: the job is over.
  pub record Layers (At : World → Job → ℕ → Type 0) (Rest : World → Job → Type 0) : Type 0 where
    pub runs : (w : World) (j : Job) (k : ℕ) → At w j k → answered w ≡ Some running
    pub not_over : (w : World) (j : Job) (k i : ℕ) → At w j k → IsOverWithin m j i → k ≤ 16 * i
    pub at_same : (w : World) (j i : Job) (k : ℕ) → IsSame j i → At w j k → At w i k
    pub rest_same : (w : World) (j i : Job) → IsSame j i → Rest w j → Rest w i
    pub tells : (w : World) (j : Job) → Rest w j → TellsOfJob m pack.index.ns w j (answered w) × (answered w ≡ Some running → ⊥)
    -- a tick
    pub tick_runs : (s : Standing) (j : Job) (k b : ℕ) → At s.world j k → s.cut ≡ false → IsBudget b
        → Comes (happen pack s (tick b)) (λ v. ((i : ℕ) × At v j i × (k + b / BMIN ≤ i)) ⊎ Rest v j)
    pub tick_rests : (s : Standing) (j : Job) (b : ℕ) → Rest s.world j → s.cut ≡ false → IsBudget b
        → Comes (happen pack s (tick b)) (λ v. Rest v j × IsUnchanged s.world v)
    -- a reload
    pub reload_runs : (s : Standing) (j : Job) (k b : ℕ) → At s.world j k → s.cut ≡ false → IsBudget b
        → Comes (happen pack s (reload b)) (λ v. At v j k × IsUnchanged s.world v)
    pub reload_rests : (s : Standing) (j : Job) (b : ℕ) → Rest s.world j → s.cut ≡ false → IsBudget b
        → Comes (happen pack s (reload b)) (λ v. Rest v j × IsUnchanged s.world v)
    -- a command of somebody else
    pub other_runs : (s : Standing) (j : Job) (k : ℕ) (c : Cmd) → At s.world j k → s.cut ≡ false → IsLawful pack.index (other c)
        → Comes (happen pack s (other c)) (λ v. At v j k × IsUnchanged s.world v)
    pub other_rests : (s : Standing) (j : Job) (c : Cmd) → Rest s.world j → s.cut ≡ false → IsLawful pack.index (other c)
        → Comes (happen pack s (other c)) (λ v. Rest v j × IsUnchanged s.world v)
    -- a call
    pub call_runs : (s : Standing) (j : Job) (k n : ℕ) (args : List Value) → At s.world j k → s.cut ≡ false
        → IsLawful pack.index (call n args) → Comes (happen pack s (call n args)) (λ v. At v j k × IsUnchanged s.world v)
    pub call_rests : (s : Standing) (j : Job) (n : ℕ) (args : List Value) → Rest s.world j → s.cut ≡ false
        → IsLawful pack.index (call n args)
        → ((i : Job) × IsAtRest (answered s.world) × (i.credit ≡ 0) × AfterCall m (answered s.world) j n args i
        × Comes (happen pack s (call n args)) (λ v. At v i 0))
        ⊎ ((IsAtRest (answered s.world) → ⊥) × Comes (happen pack s (call n args)) (λ v. Rest v j × IsUnchanged s.world v))
    -- a turn
    pub turn_runs : (s : Standing) (j : Job) (k : ℕ) → At s.world j k → s.cut ≡ false
        → Comes (turned pack s) (λ v. ((i : ℕ) × At v j i × (k + 1 ≤ i)) ⊎ Rest v j)
    pub turn_rests : (s : Standing) (j : Job) → Rest s.world j → s.cut ≡ false → Comes (turned pack s) (λ v. Rest v j)
    -- loading
    pub begins : Comes (loaded pack) (λ v. At v (first_job m) 0)

  module _ (At : World → Job → ℕ → Type 0) (Rest : World → Job → Type 0) (l : Layers At Rest) where
    abbrev pub Stage : World → Job → Type 0
    Stage w j = ((k : ℕ) × At w j k × (j.credit ≤ k)) ⊎ (Rest w j × (j.ticked ≡ true))

    -- what holds after every list of events
    pub record Inv (s : Standing) (j : Job) : Type 0 where
      pub uncut : s.cut ≡ false
      pub stage : Stage s.world j

    not_at_rest : (a : Option Answer) → a ≡ Some running → IsAtRest a → ⊥
    not_at_rest a e h = subst IsAtRest e h

    quiet_running : (s : Standing) (j : Job) (k : ℕ) → s.cut ≡ false → At s.world j k → (e : Event) → IsLawful pack.index e
        → IsQuiet (answered s.world) e → IsUnchanged s.world (happen pack s e).world
    quiet_running s j k u a (call n args) h q = (l.call_runs s j k n args a u h).1.1
    quiet_running s j k u a (tick b) h q = absurd (q (l.runs s.world j k a))
    quiet_running s j k u a (reload b) h q = (l.reload_runs s j k b a u h).1.1
    quiet_running s j k u a (other c) h q = (l.other_runs s j k c a u h).1.1

    quiet_resting : (s : Standing) (j : Job) → s.cut ≡ false → Rest s.world j → (e : Event) → IsLawful pack.index e
        → IsQuiet (answered s.world) e → IsUnchanged s.world (happen pack s e).world
    quiet_resting s j u r (call n args) h q = by (l.call_rests s j n args r u h)
      where
        by : ((i : Job) × IsAtRest (answered s.world) × (i.credit ≡ 0) × AfterCall m (answered s.world) j n args i × Comes (happen pack s (call n args)) (λ v. At v i 0))
            ⊎ ((IsAtRest (answered s.world) → ⊥) × Comes (happen pack s (call n args)) (λ v. Rest v j × IsUnchanged s.world v)) → IsUnchanged s.world (happen pack s (call n args)).world
        by (inl x) = absurd (taken_or_refused (answered s.world) x.1 q)
        by (inr x) = x.1.1.1
    quiet_resting s j u r (tick b) h q = (l.tick_rests s j b r u h).1.1
    quiet_resting s j u r (reload b) h q = (l.reload_rests s j b r u h).1.1
    quiet_resting s j u r (other c) h q = (l.other_rests s j c r u h).1.1

    pub says : (s : Standing) (j : Job) → Inv s j → IsTrueOf m pack s j
    says s j i = go i.stage
      where
        go : Stage s.world j → IsTrueOf m pack s j
        go (inl a) =
            let r = l.runs s.world j a.0 a.1 in
            record {
              uncut = i.uncut;
              tells = subst (TellsOfJob m pack.index.ns s.world j) (sym r) tt;
              in_time = λ n o q e. let x : a.0 ≤ 16 * n = l.not_over s.world j a.0 n a.1 o in let y : j.credit ≤ a.0 = a.2 in omega arith;
              begun = λ e. r;
            }
        go (inr a) = record {
          uncut = i.uncut;
          tells = (l.tells s.world j a.0).0;
          in_time = λ n o q e. (l.tells s.world j a.0).1 e;
          begun = λ e. cc (a.1, e);
        }

    -- a quiet event changes no public place
    pub stays_public : (s : Standing) (j : Job) → Inv s j → (e : Event) → IsLawful pack.index e → IsQuiet (answered s.world) e
        → IsUnchanged s.world (happen pack s e).world
    stays_public s j i e h q = go i.stage
      where
        go : Stage s.world j → IsUnchanged s.world (happen pack s e).world
        go (inl a) = quiet_running s j a.0 i.uncut a.1 e h q
        go (inr a) = quiet_resting s j i.uncut a.0 e h q

    -- ---- an event

    abbrev pub Kept : Standing → Job → Event → Type 0
    Kept s j e = (i : Job) × AfterEvent m (answered s.world) j e i × Inv (happen pack s e) i

    pub kept_call : (s : Standing) (j : Job) (n : ℕ) (args : List Value) → Inv s j → IsLawful pack.index (call n args)
        → Kept s j (call n args)
    kept_call s j n args i h = go i.stage
      where
        by : ((i : Job) × IsAtRest (answered s.world) × (i.credit ≡ 0) × AfterCall m (answered s.world) j n args i × Comes (happen pack s (call n args)) (λ v. At v i 0))
            ⊎ ((IsAtRest (answered s.world) → ⊥) × Comes (happen pack s (call n args)) (λ v. Rest v j × IsUnchanged s.world v)) → j.ticked ≡ true → Kept s j (call n args)
        by (inl x) t = (x.0, x.3, record { uncut = x.4.0; stage = inl (0, x.4.1, (let z : x.0.credit ≡ 0 = x.2 in omega arith)) })
        by (inr x) t = (j, stays (λ r. absurd (x.0 r)), record { uncut = x.1.0; stage = inr (x.1.1.0, t) })

        go : Stage s.world j → Kept s j (call n args)
        go (inl a) =
            let r = l.call_runs s j a.0 n args a.1 i.uncut h in
            (j, stays (λ q. absurd (not_at_rest (answered s.world) (l.runs s.world j a.0 a.1) q)), record { uncut = r.0; stage = inl (a.0, r.1.0, a.2) })
        go (inr a) = by (l.call_rests s j n args a.0 i.uncut h) a.1

    kept_tick : (s : Standing) (j : Job) (b : ℕ) → Inv s j → IsBudget b → Kept s j (tick b)
    kept_tick s j b i h = go i.stage
      where
        later : Job
        later = ticked_job j b

        same : IsSame j later
        same = (refl, refl, refl)

        by : (k : ℕ) → j.credit ≤ k → Comes (happen pack s (tick b)) (λ v. ((i : ℕ) × At v j i × (k + b / BMIN ≤ i)) ⊎ Rest v j) → Inv (happen pack s (tick b)) later
        by k c r = record { uncut = r.0; stage = on r.1 }
          where
            on : ((i : ℕ) × At (happen pack s (tick b)).world j i × (k + b / BMIN ≤ i)) ⊎ Rest (happen pack s (tick b)).world j → Stage (happen pack s (tick b)).world later
            on (inl a) = inl (a.0, l.at_same (happen pack s (tick b)).world j later a.0 same a.1, (let z : k + b / BMIN ≤ a.0 = a.2 in omega arith))
            on (inr a) = inr (l.rest_same (happen pack s (tick b)).world j later same a, refl)

        go : Stage s.world j → Kept s j (tick b)
        go (inl a) = (later, refl, by a.0 a.2 (l.tick_runs s j a.0 b a.1 i.uncut h))
        go (inr a) =
            let r = l.tick_rests s j b a.0 i.uncut h in
            (later, refl, record { uncut = r.0; stage = inr (l.rest_same (happen pack s (tick b)).world j later same r.1.0, refl) })

    kept_reload : (s : Standing) (j : Job) (b : ℕ) → Inv s j → IsBudget b → Kept s j (reload b)
    kept_reload s j b i h = go i.stage
      where
        go : Stage s.world j → Kept s j (reload b)
        go (inl a) = let r = l.reload_runs s j a.0 b a.1 i.uncut h in (j, refl, record { uncut = r.0; stage = inl (a.0, r.1.0, a.2) })
        go (inr a) = let r = l.reload_rests s j b a.0 i.uncut h in (j, refl, record { uncut = r.0; stage = inr (r.1.0, a.1) })

    kept_other : (s : Standing) (j : Job) (c : Cmd) → Inv s j → IsLawful pack.index (other c) → Kept s j (other c)
    kept_other s j c i h = go i.stage
      where
        go : Stage s.world j → Kept s j (other c)
        go (inl a) = let r = l.other_runs s j a.0 c a.1 i.uncut h in (j, refl, record { uncut = r.0; stage = inl (a.0, r.1.0, a.2) })
        go (inr a) = let r = l.other_rests s j c a.0 i.uncut h in (j, refl, record { uncut = r.0; stage = inr (r.1.0, a.1) })

    kept : (s : Standing) (j : Job) (e : Event) → Inv s j → IsLawful pack.index e → Kept s j e
    kept s j (call n args) i h = kept_call s j n args i h
    kept s j (tick b) i h = kept_tick s j b i h
    kept s j (reload b) i h = kept_reload s j b i h
    kept s j (other c) i h = kept_other s j c i h

    -- ---- all events

    walk : (es : List Event) (s : Standing) (j : Job) → Inv s j → Lawful pack.index es
        → (i : Job) × AfterEvents m pack s j es i × Inv (after_events pack es s) i
    walk [] s j i h = (j, refl, i)
    walk (e ∷ es) s j i h =
        let k = kept s j e i h.0 in
        let r = walk es (happen pack s e) k.0 k.2 h.1 in
        (r.0, (k.0, k.1, r.1), r.2)

    pub first : Inv (loaded pack) (first_job m)
    first = record { uncut = l.begins.0; stage = inl (0, l.begins.1, (let z : 0 ≤ 0 = omega arith in z)) }

    -- after every lawful list of events there is a job of which it all holds
    pub stands_after : (es : List Event) → Lawful pack.index es → (j : Job) × IsPresent m pack es j × Inv (after_events pack es (loaded pack)) j
    stands_after es h = walk es (loaded pack) (first_job m) first h
