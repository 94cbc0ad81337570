-- Several packs in one world: each stands as alone.
use Rattle.std.proofs.Common.{◌≡◌, ◌≢◌, ℕ, zero, suc, ◌+◌, ◌-◌, ◌<◌, List, [], ◌∷◌, length, Option, Some, None, Bool, true, false, refl, sym, ap, ap₂, ◌∙◌, subst, arith}
use Rattle.std.specs.Prelude.{ℤ, pos, ◌||◌, nat_eq, if◌then◌else◌, codes, slice_get}
use Rattle.std.specs.Fmt.{decimal}
use Rattle.std.specs.List.{AllByRecursion}
use Rattle.std.proofs.lemmas.Bool.{ne_eqb, eq-eqb, eqb-true}
use Rattle.mc_nbt.specs.Tree.{key, list_of}
use Rattle.mc_nbt.specs.declared.value.Value.{Value}
use Rattle.mc_cmd.specs.declared.TheConstants.{BMIN, LOAD_QUOTA}
use Rattle.mc_cmd.specs.Form.{Text}
use Rattle.mc_cmd.specs.Command.{Cmd, plain, execute, Simple, set_value}
use Rattle.mc_cmd.specs.World.{World, empty_world, with_rule, cmd_effect}
use Rattle.mc_cmd.specs.Chain.{Functions, Ended}
use Rattle.mc_cmd.specs.Foreign.{is_foreign, is_own, IsKept}
use Rattle.mc_cmd.specs.Layout.{full_name, io_of}
use Rattle.mc_cmd.specs.Pack as alone
use Rattle.mc_cmd.specs.Pack.{Pack, functions_of, counted, ints_of, with_args, IsForeign}
use Rattle.mc_cmd.specs.Tidy.{own_function}
use Rattle.mc_cmd.proofs.ForeignLemmas.{own_kept}
use Rattle.mc_together.specs.Bare.{is_bare}
use Rattle.mc_together.specs.Share.{share_of}
use Rattle.mc_together.specs.Part.{SamePart, Bare, IsTidyPack}
use Rattle.mc_together.specs.Together.{Event, call, tick, reload, other, Count, Standing, count_chain, with_count, chain_among, run_share, run_shares, run_all, run_call, happen, loaded, after_events, together, own_call, own_from, own, ArePrograms, unloaded}
use Rattle.mc_together.proofs.EffectLemmas.{same_sym, same_trans, effect_same, effect_rule, effect_bare}
use Rattle.mc_together.proofs.RunLemmas.{Ran, chain_ran, effect_kept}
use Rattle.mc_together.proofs.ApartLemmas.{io_storage, full_own, names_differ, functions_differ, own_functions, kept_same, same_bare, same_self}

-- a command of somebody else keeps off all of the packs
abbrev pub IsForeignToAll : List Pack → Event → Type 0
IsForeignToAll ps (call i k args) = Unit {0}
IsForeignToAll ps (tick b) = Unit {0}
IsForeignToAll ps (reload b) = Unit {0}
IsForeignToAll ps (other c) = (i : ℕ) (p : Pack) → slice_get ps i ≡ Some p → IsForeign p.index.ns c

-- a world with another rule has the same part
ruled : (ns : Text) (w v : World) (x y : ℤ) → SamePart ns w v → SamePart ns (with_rule w x) (with_rule v y)
ruled ns w v x y k = record { objective = k.objective; scores = k.scores; storages = k.storages }

-- the values of arguments have no string
args_bare : (vs : List Value) → is_bare (list_of (ints_of vs)) ≡ true
args_bare [] = refl
args_bare (Rattle.mc_nbt.specs.declared.value.Value.TheVariants.I32 z ∷ vs) = args_bare vs
args_bare (Rattle.mc_nbt.specs.declared.value.Value.TheVariants.I64 z ∷ vs) = args_bare vs

-- where the program of a namespace stands among others, and where it stands alone
pub record Matches (ns : Text) (w : World) (c : Count) (a : alone.Standing) : Type 0 where
  pub world : SamePart ns w a.world
  pub rule : a.world.rule ≡ pos c.share
  pub used : c.used ≡ a.used
  pub cut : c.cut ≡ a.cut

module _ (ps : List Pack) (ok : ArePrograms ps) where
  abbrev fs : Functions
  fs = functions_of ps

  -- no program has a string
  abbrev pub Holds : World → Type 0
  Holds w = (i : ℕ) (p : Pack) → slice_get ps i ≡ Some p → Bare p.index.ns w

  module _ (i : ℕ) (q : Pack) (at : slice_get ps i ≡ Some q) where
    tidy : IsTidyPack q
    tidy = ok.tidy i q at

    agree : (f : Text) → own_function q.index.ns f ≡ true → fs f ≡ q.functions f
    agree f own = own_functions ps i q f at (λ j r e n. (ok.tidy j r e).inside f (functions_differ q.index.ns r.index.ns (ok.differ i j q r at e (λ x. n (sym x))) f own))

    abbrev RanAs : World → World → Ended → Ended → Type 0
    RanAs w v e d = Ran fs q.functions q.index.ns agree tidy.tidy w v e d

    -- a chain of the program, and the same alone
    chain_alike : (name : Text) (b : ℕ) (w v : World) → SamePart q.index.ns w v → w.rule ≡ v.rule → Bare q.index.ns v → RanAs w v (chain_among fs q name b w) (alone.chain_in q name b v)
    chain_alike name b w v k r h = chain_ran fs q.functions q.index.ns agree tidy.tidy (full_name q.index.ns name) b w v (full_own q.index.ns (ok.namespace i q at) name) k r h

    -- what leaves the names of the others leaves their parts
    others_same : (w w' : World) → ((n : Text) → is_own q.index.ns n ≡ false → IsKept n w w') → (j : ℕ) (p : Pack) → slice_get ps j ≡ Some p → j ≢ i → SamePart p.index.ns w' w
    others_same w w' h j p e n =
        kept_same p.index.ns w w' (λ m own. h m (names_differ p.index.ns q.index.ns (ok.namespace j p e) (ok.namespace i q at) (ok.differ j i p q e at n) m own))

    -- no program has a string then
    holds_on : (w w' : World) → Holds w → Bare q.index.ns w' → ((n : Text) → is_own q.index.ns n ≡ false → IsKept n w w') → Holds w'
    holds_on w w' h b k j p e = go (nat_eq j i) refl
      where
        go : (c : Bool) → nat_eq j i ≡ c → Bare p.index.ns w'
        go true f =
            let s : j ≡ i = eqb-true j i f in
            let t : p ≡ q = (let x : Some p ≡ Some q = sym e ∙ ap (slice_get ps) s ∙ at in cc) in
            subst (λ p. Bare p.index.ns w') (sym t) b
        go false f = same_bare p.index.ns w w' (others_same w w' k j p e (λ s. let x : nat_eq j i ≡ true = eq-eqb j i s in cc)) (h j p e)

    chain_holds : (name : Text) (b : ℕ) (w : World) → Holds w → Holds (chain_among fs q name b w).world
    chain_holds name b w h =
        let r = chain_alike name b w w (same_self q.index.ns w) refl (h i q at) in
        holds_on w _ h (same_bare q.index.ns _ _ r.world r.bare) r.kept

    chain_others : (name : Text) (b : ℕ) (w : World) → Holds w → (j : ℕ) (p : Pack) → slice_get ps j ≡ Some p → j ≢ i → SamePart p.index.ns (chain_among fs q name b w).world w
    chain_others name b w h j p e n =
        let r = chain_alike name b w w (same_self q.index.ns w) refl (h i q at) in
        others_same w _ r.kept j p e n

    -- arguments
    args_cmd : List Value → Simple
    args_cmd args = set_value (io_of q.index.ns) (key (codes "args") ∷ []) (list_of (ints_of args))

    args_kept : (args : List Value) (w : World) (n : Text) → is_own q.index.ns n ≡ false → IsKept n w (with_args q.index.ns args w)
    args_kept args w n x = effect_kept q.index.ns n x (set_value (io_of q.index.ns) (key (codes "args") ∷ []) (list_of (ints_of args))) w (io_storage q.index.ns)

    args_bare_in : (args : List Value) (w : World) → Bare q.index.ns w → Bare q.index.ns (with_args q.index.ns args w)
    args_bare_in args w h = effect_bare q.index.ns (set_value (io_of q.index.ns) (key (codes "args") ∷ []) (list_of (ints_of args))) w (io_storage q.index.ns) (args_bare args) h

    args_holds : (args : List Value) (w : World) → Holds w → Holds (with_args q.index.ns args w)
    args_holds args w h = holds_on w _ h (args_bare_in args w (h i q at)) (args_kept args w)

  -- ---- the counts

  count_here : (cs : ℕ → Count) (k : ℕ) (c : Count) → with_count cs k c k ≡ c
  count_here cs k c = ap (λ b. if b then c else cs k) (eq-eqb k k refl)

  count_there : (cs : ℕ → Count) (i k : ℕ) (c : Count) → k ≢ i → with_count cs i c k ≡ cs k
  count_there cs i k c n = ap (λ b. if b then c else cs k) (ne_eqb i k (λ e. n (sym e)))

  -- ---- one program's turn

  holds_ruled : (w : World) (z : ℤ) → Holds w → Holds (with_rule w z)
  holds_ruled w z h i p e j own = h i p e j own

  share_holds : (name : Text) (b i : ℕ) (q : Pack) → slice_get ps i ≡ Some q → (s : Standing) → Holds s.world → Holds (run_share fs name b i q s).world
  share_holds name b i q at s h = chain_holds i q at name b (with_rule s.world (pos b)) (holds_ruled s.world (pos b) h)

  share_other : (name : Text) (b i : ℕ) (q : Pack) → slice_get ps i ≡ Some q → (s : Standing) → Holds s.world → (k : ℕ) (p : Pack) → slice_get ps k ≡ Some p → k ≢ i → (a : alone.Standing)
      → Matches p.index.ns s.world (s.counts k) a → let t = run_share fs name b i q s in Matches p.index.ns t.world (t.counts k) a
  share_other name b i q at s h k p e n a m =
      let w = with_rule s.world (pos b) in
      let x : SamePart p.index.ns (chain_among fs q name b w).world w = chain_others i q at name b w (holds_ruled s.world (pos b) h) k p e n in
      let y : SamePart p.index.ns w s.world = record { objective = λ o g. refl; scores = λ j o g. refl; storages = λ j g. refl } in
      let t = run_share fs name b i q s in
      let c : t.counts k ≡ s.counts k = count_there s.counts i k _ n in
      subst (λ c. Matches p.index.ns t.world c a) (sym c)
      (record { world = same_trans p.index.ns _ _ _ x (same_trans p.index.ns _ _ _ y m.world); rule = m.rule; used = m.used; cut = m.cut })

  -- what its own turn leaves alone
  abbrev turned : Pack → Text → ℕ → ℕ → alone.Standing → alone.Standing
  turned p name t b a = alone.after_chain a t b (alone.chain_in p name b (with_rule a.world (pos b)))

  share_own : (name : Text) (b k : ℕ) (p : Pack) → slice_get ps k ≡ Some p → (s : Standing) → Holds s.world → (t : ℕ) (a : alone.Standing)
      → Matches p.index.ns s.world (s.counts k) a → let r = run_share fs name b k p s in Matches p.index.ns r.world (r.counts k) (turned p name t b a)
  share_own name b k p at s h t a m =
      let x = ruled p.index.ns s.world a.world (pos b) (pos b) m.world in
      let y = chain_alike k p at name b (with_rule s.world (pos b)) (with_rule a.world (pos b)) x refl (same_bare p.index.ns _ _ (same_sym p.index.ns _ _ x) (holds_ruled s.world (pos b) h k p at)) in
      let r = run_share fs name b k p s in
      let c : r.counts k ≡ count_chain (s.counts k) b b (chain_among fs p name b (with_rule s.world (pos b))) = count_here s.counts k _ in
      subst (λ c. Matches p.index.ns r.world c (turned p name t b a)) (sym c)
      (record { world = y.world; rule = y.stays; used = ap₂ (λ u l. counted (u + (b - l))) m.used y.left; cut = ap₂ (λ u l. u || l) m.cut y.cut })

  -- ---- all of them in order

  -- these programs stand from place i on
  abbrev From : ℕ → List Pack → Type 0
  From i qs = (j : ℕ) (q : Pack) → slice_get qs j ≡ Some q → (m : ℕ) → m ≡ i + j → slice_get ps m ≡ Some q

  from_here : (i : ℕ) (q : Pack) (qs : List Pack) → From i (q ∷ qs) → slice_get ps i ≡ Some q
  from_here i q qs h = h 0 q refl i (omega arith)

  from_next : (i : ℕ) (q : Pack) (qs : List Pack) → From i (q ∷ qs) → From (suc i) qs
  from_next i q qs h j r e m x = h (suc j) r e m (omega arith)

  shares_hold : (name : Text) (shares : ℕ → ℕ) (i : ℕ) (qs : List Pack) → From i qs → (s : Standing) → Holds s.world → Holds (run_shares fs name shares i qs s).world
  shares_hold name shares i [] f s h = h
  shares_hold name shares i (q ∷ qs) f s h =
      shares_hold name shares (suc i) qs (from_next i q qs f) (run_share fs name (shares i) i q s) (share_holds name (shares i) i q (from_here i q qs f) s h)

  shares_after : (name : Text) (shares : ℕ → ℕ) (i : ℕ) (qs : List Pack) → From i qs → (s : Standing) → Holds s.world → (k : ℕ) (p : Pack) → slice_get ps k ≡ Some p → k < i → (a : alone.Standing)
      → Matches p.index.ns s.world (s.counts k) a → let t = run_shares fs name shares i qs s in Matches p.index.ns t.world (t.counts k) a
  shares_after name shares i [] f s h k p e l a m = m
  shares_after name shares i (q ∷ qs) f s h k p e l a m =
      let at = from_here i q qs f in
      shares_after name shares (suc i) qs (from_next i q qs f) (run_share fs name (shares i) i q s) (share_holds name (shares i) i q at s h) k p e (omega arith) a
      (share_other name (shares i) i q at s h k p e (λ x. omega arith) a m)

  shares_own : (name : Text) (shares : ℕ → ℕ) (d i : ℕ) (qs : List Pack) → From i qs → (s : Standing) → Holds s.world → (k : ℕ) (p : Pack) → slice_get ps k ≡ Some p → k ≡ i + d → slice_get qs d ≡ Some p → (t : ℕ) (a : alone.Standing)
      → Matches p.index.ns s.world (s.counts k) a → let r = run_shares fs name shares i qs s in Matches p.index.ns r.world (r.counts k) (turned p name t (shares k) a)
  shares_own name shares d i [] f s h k p e x g t a m = absurd cc
  shares_own name shares zero i (q ∷ qs) f s h k p e x g t a m =
      let at = from_here i q qs f in
      let same : i ≡ k = omega arith in
      let one : q ≡ p = cc in
      let turn : Matches p.index.ns (run_share fs name (shares i) i q s).world ((run_share fs name (shares i) i q s).counts k) (turned p name t (shares k) a) =
      subst (λ j. Matches p.index.ns (run_share fs name (shares j) j q s).world ((run_share fs name (shares j) j q s).counts k) (turned p name t (shares k) a)) (sym same)
      (subst (λ r. Matches p.index.ns (run_share fs name (shares k) k r s).world ((run_share fs name (shares k) k r s).counts k) (turned p name t (shares k) a)) (sym one) (share_own name (shares k) k p e s h t a m)) in
      shares_after name shares (suc i) qs (from_next i q qs f) (run_share fs name (shares i) i q s) (share_holds name (shares i) i q at s h) k p e (omega arith) (turned p name t (shares k) a) turn
  shares_own name shares (suc d) i (q ∷ qs) f s h k p e x g t a m =
      let at = from_here i q qs f in
      shares_own name shares d (suc i) qs (from_next i q qs f) (run_share fs name (shares i) i q s) (share_holds name (shares i) i q at s h) k p e (omega arith) g t a
      (share_other name (shares i) i q at s h k p e (λ y. omega arith) a m)

  from_start : From 0 ps
  from_start j q e m x = ap (slice_get ps) (omega arith) ∙ e

  all_hold : (name : Text) (shares : ℕ → ℕ) (s : Standing) → Holds s.world → Holds (run_all ps name shares s).world
  all_hold name shares s h = shares_hold name shares 0 ps from_start s h

  all_own : (name : Text) (shares : ℕ → ℕ) (s : Standing) → Holds s.world → (k : ℕ) (p : Pack) → slice_get ps k ≡ Some p → (t : ℕ) (a : alone.Standing)
      → Matches p.index.ns s.world (s.counts k) a → let r = run_all ps name shares s in Matches p.index.ns r.world (r.counts k) (turned p name t (shares k) a)
  all_own name shares s h k p e t a m = shares_own name shares k 0 ps from_start s h k p e (omega arith) e t a m

  -- ---- a call

  call_holds : (x : ℕ) (args : List Value) (i : ℕ) (o : Option Pack) → slice_get ps i ≡ o → (s : Standing) → Holds s.world → Holds (run_call fs x args i o s).world
  call_holds x args i None at s h = h
  call_holds x args i (Some q) at s h =
      let w = with_rule s.world (pos (s.counts i).share) in
      chain_holds i q at (99 ∷ decimal x) BMIN (with_args q.index.ns args w) (args_holds i q at args w (holds_ruled s.world (pos (s.counts i).share) h))

  call_other : (x : ℕ) (args : List Value) (i : ℕ) (o : Option Pack) → slice_get ps i ≡ o → (s : Standing) → Holds s.world → (k : ℕ) (p : Pack) → slice_get ps k ≡ Some p → k ≢ i → (a : alone.Standing)
      → Matches p.index.ns s.world (s.counts k) a → let t = run_call fs x args i o s in Matches p.index.ns t.world (t.counts k) a
  call_other x args i None at s h k p e n a m = m
  call_other x args i (Some q) at s h k p e n a m =
      let w = with_rule s.world (pos (s.counts i).share) in
      let v = with_args q.index.ns args w in
      let c = chain_others i q at (99 ∷ decimal x) BMIN v (args_holds i q at args w (holds_ruled s.world (pos (s.counts i).share) h)) k p e n in
      let d = others_same i q at w v (args_kept i q at args w) k p e n in
      let y : SamePart p.index.ns w s.world = record { objective = λ o g. refl; scores = λ j o g. refl; storages = λ j g. refl } in
      let t = run_call fs x args i (Some q) s in
      let f : t.counts k ≡ s.counts k = count_there s.counts i k _ n in
      subst (λ c. Matches p.index.ns t.world c a) (sym f)
      (record { world = same_trans p.index.ns _ _ _ c (same_trans p.index.ns _ _ _ d (same_trans p.index.ns _ _ _ y m.world)); rule = m.rule; used = m.used; cut = m.cut })

  call_own : (x : ℕ) (args : List Value) (k : ℕ) (p : Pack) (o : Option Pack) → slice_get ps k ≡ Some p → o ≡ Some p → (s : Standing) → Holds s.world → (a : alone.Standing)
      → Matches p.index.ns s.world (s.counts k) a → let t = run_call fs x args k o s in Matches p.index.ns t.world (t.counts k) (alone.happen p a (alone.call x args))
  call_own x args k p None at e s h a m = absurd cc
  call_own x args k p (Some q) at e s h a m =
      let one : q ≡ p = cc in
      subst (λ q. Matches p.index.ns (run_call fs x args k (Some q) s).world ((run_call fs x args k (Some q) s).counts k) (alone.happen p a (alone.call x args))) (sym one) mine
    where
      mine : Matches p.index.ns (run_call fs x args k (Some p) s).world ((run_call fs x args k (Some p) s).counts k) (alone.happen p a (alone.call x args))
      mine =
          let b = (s.counts k).share in
          let w = with_rule s.world (pos b) in
          let ns = p.index.ns in
          let base : SamePart ns w a.world = record { objective = m.world.objective; scores = m.world.scores; storages = m.world.storages } in
          let r : w.rule ≡ a.world.rule = sym m.rule in
          let set : Simple = set_value (io_of ns) (key (codes "args") ∷ []) (list_of (ints_of args)) in
          let z = effect_same ns w a.world base r set (io_storage ns) in
          let hw : Bare ns (with_args ns args w) = args_bare_in k p at args w (holds_ruled s.world (pos b) h k p at) in
          let hv : Bare ns (with_args ns args a.world) = same_bare ns _ _ (same_sym ns _ _ z.world) hw in
          let y = chain_alike k p at (99 ∷ decimal x) BMIN (with_args ns args w) (with_args ns args a.world) z.world z.rule hv in
          let t = run_call fs x args k (Some p) s in
          let c : t.counts k ≡ count_chain (s.counts k) b BMIN (chain_among fs p (99 ∷ decimal x) BMIN (with_args ns args w)) = count_here s.counts k _ in
          subst (λ c. Matches ns t.world c (alone.happen p a (alone.call x args))) (sym c)
          (record { world = y.world; rule = y.stays ∙ effect_rule set a.world ∙ m.rule; used = ap₂ (λ u l. counted (u + (BMIN - l))) m.used y.left; cut = ap₂ (λ u l. u || l) m.cut y.cut })

  -- ---- a command of somebody else

  other_same : (c : Cmd) (p : Pack) → IsForeign p.index.ns c → (w : World) → SamePart p.index.ns (cmd_effect c w).world w
  other_same c p f w = kept_same p.index.ns w _ (λ n own. own_kept p.index.ns c w n f own)

  other_rule : (c : Cmd) (w : World) → is_foreign c ≡ true → (cmd_effect c w).world.rule ≡ w.rule
  other_rule (plain x) w f = effect_rule x w
  other_rule (execute ss x) w f = absurd cc

  other_holds : (c : Cmd) → ((i : ℕ) (p : Pack) → slice_get ps i ≡ Some p → IsForeign p.index.ns c) → (w : World) → Holds w → Holds (cmd_effect c w).world
  other_holds c f w h i p e = same_bare p.index.ns w _ (other_same c p (f i p e) w) (h i p e)

  other_own : (c : Cmd) (p : Pack) → IsForeign p.index.ns c → (s : Standing) (n : Count) (a : alone.Standing) → Matches p.index.ns s.world n a → Matches p.index.ns (cmd_effect c s.world).world n (alone.happen p a (alone.other c))
  other_own c p f s n a m = record {
    world = same_trans p.index.ns _ _ _ (other_same c p f s.world) (same_trans p.index.ns _ _ _ m.world (same_sym p.index.ns _ _ (other_same c p f a.world)));
    rule = other_rule c a.world f.foreign ∙ m.rule;
    used = m.used;
    cut = m.cut;
  }

  -- ---- events

  happen_holds : (e : Event) → IsForeignToAll ps e → (s : Standing) → Holds s.world → Holds (happen ps s e).world
  happen_holds (call i x args) f s h = call_holds x args i (slice_get ps i) refl s h
  happen_holds (tick b) f s h = all_hold (codes "tick") (share_of b (length ps) s.ticks) s h
  happen_holds (reload b) f s h = all_hold (codes "load") (share_of b (length ps) s.ticks) s h
  happen_holds (other c) f s h = other_holds c f s.world h

  run_shares_ticks : (name : Text) (shares : ℕ → ℕ) (i : ℕ) (qs : List Pack) (s : Standing) → (run_shares fs name shares i qs s).ticks ≡ s.ticks
  run_shares_ticks name shares i [] s = refl
  run_shares_ticks name shares i (q ∷ qs) s = run_shares_ticks name shares (suc i) qs (run_share fs name (shares i) i q s)

  call_ticks : (x : ℕ) (args : List Value) (i : ℕ) (o : Option Pack) (s : Standing) → (run_call fs x args i o s).ticks ≡ s.ticks
  call_ticks x args i None s = refl
  call_ticks x args i (Some p) s = refl

  module _ (k : ℕ) (p : Pack) (at : slice_get ps k ≡ Some p) where
    abbrev Stands : Standing → alone.Standing → Type 0
    Stands s a = Matches p.index.ns s.world (s.counts k) a

    own_after : (es : List Event) → AllByRecursion (IsForeignToAll ps) es → (s : Standing) (t : ℕ) (a : alone.Standing) → t ≡ s.ticks → Holds s.world → Stands s a
        → Stands (after_events ps es s) (alone.after_events p (own_from (length ps) k t es) a)
    own_after [] f s t a x h m = m
    own_after (call j y args ∷ es) f s t a x h m =
        go (nat_eq j k) refl (λ a n. own_after es f.1 (happen ps s (call j y args)) t a (x ∙ sym (call_ticks y args j (slice_get ps j) s)) (happen_holds (call j y args) f.0 s h) n)
      where
        go : (b : Bool) → nat_eq j k ≡ b
            → ((a : alone.Standing) → Stands (happen ps s (call j y args)) a → Stands (after_events ps es (happen ps s (call j y args))) (alone.after_events p (own_from (length ps) k t es) a))
            → Stands (after_events ps es (happen ps s (call j y args))) (alone.after_events p (own_call b y args (own_from (length ps) k t es)) a)
        go true e ih =
            let same : j ≡ k = eqb-true j k e in
            ih (alone.happen p a (alone.call y args))
            (subst (λ j. Stands (happen ps s (call j y args)) (alone.happen p a (alone.call y args))) (sym same) (call_own y args k p (slice_get ps k) at at s h a m))
        go false e ih = ih a (call_other y args j (slice_get ps j) refl s h k p at (λ g. let z : nat_eq j k ≡ true = eq-eqb j k (sym g) in cc) a m)
    own_after (tick b ∷ es) f s t a x h m =
        let n : Stands (happen ps s (tick b)) (alone.happen p a (alone.tick (share_of b (length ps) t k))) =
        subst (λ t. Stands (happen ps s (tick b)) (alone.happen p a (alone.tick (share_of b (length ps) t k)))) (sym x) (all_own (codes "tick") (share_of b (length ps) s.ticks) s h k p at 1 a m) in
        own_after es f.1 (happen ps s (tick b)) (counted (t + 1)) (alone.happen p a (alone.tick (share_of b (length ps) t k))) (ap (λ t. counted (t + 1)) x) (happen_holds (tick b) f.0 s h) n
    own_after (reload b ∷ es) f s t a x h m =
        let n : Stands (happen ps s (reload b)) (alone.happen p a (alone.reload (share_of b (length ps) t k))) =
        subst (λ t. Stands (happen ps s (reload b)) (alone.happen p a (alone.reload (share_of b (length ps) t k)))) (sym x) (all_own (codes "load") (share_of b (length ps) s.ticks) s h k p at 0 a m) in
        own_after es f.1 (happen ps s (reload b)) t (alone.happen p a (alone.reload (share_of b (length ps) t k))) (x ∙ sym (run_shares_ticks (codes "load") (share_of b (length ps) s.ticks) 0 ps s)) (happen_holds (reload b) f.0 s h) n
    own_after (other c ∷ es) f s t a x h m =
        own_after es f.1 (happen ps s (other c)) t (alone.happen p a (alone.other c)) x (happen_holds (other c) f.0 s h) (other_own c p (f.0 k p at) s (s.counts k) a m)

    empty_holds : Holds empty_world
    empty_holds i q e j own = refl

    loaded_own : Stands (loaded ps) (alone.loaded p)
    loaded_own =
        let none : alone.Standing = record { world = empty_world; ticks = 0; used = 0; cut = false } in
        all_own (codes "load") (λ i. LOAD_QUOTA) unloaded empty_holds k p at 0 none (record { world = same_self p.index.ns empty_world; rule = refl; used = refl; cut = refl })

    -- together it is as alone
    pub as_alone : (es : List Event) → AllByRecursion (IsForeignToAll ps) es → Matches p.index.ns (together ps es).world ((together ps es).counts k) (alone.play p (own (length ps) k es))
    as_alone es f =
        own_after es f (loaded ps) 0 (alone.loaded p) (sym (run_shares_ticks (codes "load") (λ i. LOAD_QUOTA) 0 ps unloaded)) (all_hold (codes "load") (λ i. LOAD_QUOTA) unloaded empty_holds) loaded_own
