-- A turn of one program, as the code makes it.
use Rattle.std.proofs.Common.{◌≡◌, ℕ, zero, suc, ◌+◌, ◌-◌, ◌<◌, List, [], ◌∷◌, length, map, Some, Bool, true, false, refl, sym, ap, ap₂, ◌∙◌, arith}
use Rattle.std.specs.Prelude.{ℤ, pos, ◌||◌, nat_eq, if◌then◌else◌, slice_get, slice_set, option_map, unwrap_or}
use Rattle.std.proofs.lemmas.Bool.{ne_eqb, eq-eqb, eqb-true}
use Rattle.std.specs.Fmt.{decimal}
use Rattle.mc_nbt.specs.declared.value.Value.{Value}
use Rattle.mc_cmd.specs.declared.TheConstants.{BMIN}
use Rattle.mc_cmd.specs.Form.{Text}
use Rattle.mc_cmd.specs.World.{World, with_rule}
use Rattle.mc_cmd.specs.Chain.{Ended, chain_from}
use Rattle.mc_cmd.specs.Layout.{full_name}
use Rattle.mc_cmd.specs.Pack.{Pack, functions_of, counted, with_args}
use Rattle.mc_cmd.specs.Packing.{Written, pack_view}
use Rattle.mc_engine.specs.EngineView.{Shown}
use Rattle.mc_together.specs.Together.{Count, Standing, after_chain, count_chain, run_call, with_count}
use Rattle.pk_multi.specs.Counting.{count_of, no_count, count_at, AreNamed, run_found, run_at}
use Rattle.pk_multi.specs.steps.Calling.{call_at}
use Rattle.pk_multi.specs.declared.program.Program.{Program}

pub named_set : (ps : List Program) (i : ℕ) (p q : Program) → slice_get ps i ≡ Some p → q.names.ns ≡ p.names.ns → map (λ (p : Program). p.names.ns) (slice_set ps i q) ≡ map (λ (p : Program). p.names.ns) ps
named_set [] i p q e s = absurd cc
named_set (t ∷ ts) zero p q e s = let g : t ≡ p = cc in ap (λ n. n ∷ map (λ (p : Program). p.names.ns) ts) (s ∙ ap (λ (p : Program). p.names.ns) (sym g))
named_set (t ∷ ts) (suc i) p q e s = ap (λ ns. t.names.ns ∷ ns) (named_set ts i p q e s)

-- the namespaces stay where one program is exchanged, and the packs stay
pub named_kept : (ps : List Program) (ws vs : List Written) (i : ℕ) (p q : Program) → slice_get ps i ≡ Some p → q.names ≡ p.names → vs ≡ ws → AreNamed ps ws → AreNamed (slice_set ps i q) vs
named_kept ps ws vs i p q g e same n = named_set ps i p q g (ap (λ m. m.ns) e) ∙ n ∙ ap (map (λ (w : Written). w.index.ns)) (sym same)

-- an engine with another rule
abbrev pub ruled_by : Shown → ℤ → Shown
ruled_by s z = record s { world = with_rule s.world z }

-- the pack of a program
pub record Owner (ws : List Written) (i : ℕ) (ns : Text) : Type 0 where
  pub pack : Written
  pub at : slice_get (map pack_view ws) i ≡ Some (pack_view pack)
  pub same : ns ≡ pack.index.ns

pub owner : (ps : List Program) (ws : List Written) (i : ℕ) (p : Program) → AreNamed ps ws → slice_get ps i ≡ Some p → Owner ws i p.names.ns
owner [] ws i p n e = absurd cc
owner (t ∷ ts) [] i p n e = absurd cc
owner (t ∷ ts) (w ∷ ws) zero p n e =
    let g : t ≡ p = cc in
    let h : t.names.ns ≡ w.index.ns = cc in
    record { pack = w; at = refl; same = ap (λ (p : Program). p.names.ns) (sym g) ∙ h }
owner (t ∷ ts) (w ∷ ws) (suc i) p n e =
    let h : AreNamed ts ws = cc in
    let o = owner ts ws i p h e in
    record { pack = o.pack; at = o.at; same = o.same }

-- a place of the packs is one of the programs
pub place_named : (ps : List Program) (ws : List Written) (i : ℕ) → AreNamed ps ws → i < length (map pack_view ws) → i < length ps
place_named [] [] i n l = l
place_named [] (w ∷ ws) i n l = absurd cc
place_named (t ∷ ts) [] i n l = absurd cc
place_named (t ∷ ts) (w ∷ ws) zero n l = omega arith
place_named (t ∷ ts) (w ∷ ws) (suc i) n l =
    let h : AreNamed ts ws = cc in
    let m = place_named ts ws i h (omega arith) in
    omega arith

counts_set : (ps : List Program) (i j : ℕ) (p q : Program) → slice_get ps i ≡ Some p → count_at (slice_set ps i q) j ≡ with_count (count_at ps) i (count_of q) j
counts_set [] i j p q e = absurd cc
counts_set (t ∷ ts) zero zero p q e = refl
counts_set (t ∷ ts) zero (suc j) p q e = sym (ap (λ b. if b then count_of q else count_at ts j) (ne_eqb zero (suc j) (λ x. omega arith)))
counts_set (t ∷ ts) (suc i) zero p q e = sym (ap (λ b. if b then count_of q else count_of t) (ne_eqb (suc i) zero (λ x. omega arith)))
counts_set (t ∷ ts) (suc i) (suc j) p q e = counts_set ts i j p q e ∙ ap (λ b. if b then count_of q else count_at ts j) (same i j)
  where
    same : (i j : ℕ) → nat_eq i j ≡ nat_eq (suc i) (suc j)
    same i j = go (nat_eq i j) refl
      where
        go : (b : Bool) → nat_eq i j ≡ b → b ≡ nat_eq (suc i) (suc j)
        go true e = sym (eq-eqb (suc i) (suc j) (ap (λ n. suc n) (eqb-true i j e)))
        go false e = sym (ne_eqb (suc i) (suc j) (λ x. let y : i ≡ j = omega arith in let z : nat_eq i j ≡ true = eq-eqb i j y in cc))

pub count_here : (ps : List Program) (i : ℕ) (p : Program) → slice_get ps i ≡ Some p → count_at ps i ≡ count_of p
count_here ps i p e = ap (λ o. unwrap_or (option_map count_of o) no_count) e

-- as many programs as packs
pub length_set : (ps : List Program) (i : ℕ) (q : Program) → length (slice_set ps i q) ≡ length ps
length_set [] i q = refl
length_set (t ∷ ts) zero q = refl
length_set (t ∷ ts) (suc i) q = ap suc (length_set ts i q)

-- what the code leaves is the standing after this chain
pub counted_chain : (ps : List Program) (w w' : World) (i : ℕ) (p q : Program) (t b quota used : ℕ) (cut : Bool) (d : Ended) → slice_get ps i ≡ Some p → w' ≡ d.world → used ≡ quota - d.left → cut ≡ d.cut
    → q.used ≡ counted (p.used + used) → q.cut ≡ p.cut || cut → q.share ≡ b
    → (let s : Standing = record { world = w'; ticks = t; counts = count_at (slice_set ps i q) } in let r : Standing = record { world = w; ticks = t; counts = count_at ps } in s ≡ after_chain r i b quota d)
counted_chain ps w w' i p q t b quota used cut d g r0 r1 r2 u c s =
    let here : count_at ps i ≡ count_of p = count_here ps i p g in
    let x : q.used ≡ counted ((count_at ps i).used + (quota - d.left)) = u ∙ ap₂ (λ m l. counted (m + l)) (ap (λ (c : Count). c.used) (sym here)) r1 in
    let y : q.cut ≡ (count_at ps i).cut || d.cut = c ∙ ap₂ (λ m l. m || l) (ap (λ (c : Count). c.cut) (sym here)) r2 in
    let one : count_of q ≡ count_chain (count_at ps i) b quota d = λ z. record { used = x z; cut = y z; share = s z } in
    let all : (j : ℕ) → count_at (slice_set ps i q) j ≡ with_count (count_at ps) i (count_chain (count_at ps i) b quota d) j =
    λ j. counts_set ps i j p q g ∙ ap (λ c. with_count (count_at ps) i c j) one in
    λ z. record { world = r0 z; ticks = t; counts = λ j. all j z }

module _ (ps : List Program) (ws : List Written) (w w' : World) (i : ℕ) (p q : Program) (start : Text) (t used : ℕ) (cut : Bool) (named : AreNamed ps ws) (at : slice_get ps i ≡ Some p) where
  abbrev pub Leaves : ℕ → World → Type 0
  Leaves b v =
      (w' ≡ (chain_from (functions_of (map pack_view ws)) start b v).world)
      × (used ≡ b - (chain_from (functions_of (map pack_view ws)) start b v).left)
      × (cut ≡ (chain_from (functions_of (map pack_view ws)) start b v).cut)

  abbrev pub Counts : ℕ → Type 0
  Counts b = (q.used ≡ counted (p.used + used)) × (q.cut ≡ p.cut || cut) × (q.share ≡ b)

  abbrev pub before : Standing
  before = record { world = w; ticks = t; counts = count_at ps }

  abbrev pub left : Standing
  left = record { world = w'; ticks = t; counts = count_at (slice_set ps i q) }

  -- the turn of a program with its share
  pub turn : (name : Text) (b : ℕ) → start ≡ full_name p.names.ns name → Leaves b (with_rule w (pos b)) → Counts b → left ≡ run_at (map pack_view ws) name b i before
  turn name b k l c =
      let o = owner ps ws i p named at in
      let v : Pack = pack_view o.pack in
      let fs = functions_of (map pack_view ws) in
      let d : Ended = chain_from fs (full_name v.index.ns name) b (with_rule w (pos b)) in
      let same : chain_from fs start b (with_rule w (pos b)) ≡ d = ap (λ f. chain_from fs f b (with_rule w (pos b))) (k ∙ ap (λ ns. full_name ns name) o.same) in
      counted_chain ps w w' i p q t b b used cut d at (l.0 ∙ ap (λ (e : Ended). e.world) same) (l.1 ∙ ap (λ (e : Ended). b - e.left) same) (l.2 ∙ ap (λ (e : Ended). e.cut) same) c.0 c.1 c.2
      ∙ sym (ap (λ m. run_found (map pack_view ws) name b i m before) o.at)

  -- a call of a program, under the rule of its last share
  pub called : (k : ℕ) (args : List Value) (a : World) → start ≡ full_name p.names.ns (99 ∷ decimal k) → a ≡ with_args p.names.ns args (with_rule w (pos p.share)) → Leaves BMIN a → Counts p.share
      → left ≡ call_at (map pack_view ws) k args i before
  called k args a s e l c =
      let o = owner ps ws i p named at in
      let v : Pack = pack_view o.pack in
      let fs = functions_of (map pack_view ws) in
      let share : p.share ≡ (count_at ps i).share = sym (ap (λ (c : Count). c.share) (count_here ps i p at)) in
      let b = (count_at ps i).share in
      let u = with_args v.index.ns args (with_rule w (pos b)) in
      let d : Ended = chain_from fs (full_name v.index.ns (99 ∷ decimal k)) BMIN u in
      let world : a ≡ u = e ∙ ap₂ (λ ns c. with_args ns args (with_rule w (pos c))) o.same share in
      let same : chain_from fs start BMIN a ≡ d = ap₂ (λ f x. chain_from fs f BMIN x) (s ∙ ap (λ ns. full_name ns (99 ∷ decimal k)) o.same) world in
      counted_chain ps w w' i p q t b BMIN used cut d at (l.0 ∙ ap (λ (e : Ended). e.world) same) (l.1 ∙ ap (λ (e : Ended). BMIN - e.left) same) (l.2 ∙ ap (λ (e : Ended). e.cut) same) c.0 c.1 (c.2 ∙ share)
      ∙ sym (ap (λ m. run_call fs k args i m before) o.at)
