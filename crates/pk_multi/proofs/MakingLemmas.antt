-- Packs that passed the tests may live together.
use Rattle.std.proofs.Common.{◌≡◌, ◌≢◌, ℕ, zero, suc, ◌+◌, ◌<◌, List, [], ◌∷◌, ◌++◌, length, map, take, Option, Some, None, Bool, true, false, refl, sym, ap, ◌∙◌, subst, arith}
use Rattle.std.specs.Prelude.{◌||◌, nat_eq, nat_lt, slice_get, Result, Ok, Err, IsErr, IsErrAnd}
use Rattle.std.specs.List.{list_all}
use Rattle.std.specs.Str.{bytes_eq}
use Rattle.std.proofs.lemmas.Bool.{eqb-true, ltb-true, lt-ltb, eq-eqb, and_from, and_parts}
use Rattle.std.proofs.lemmas.Option.{slice_get_within}
use Rattle.mc_nbt.proofs.TreeLemmas.{bytes_refl}
use Rattle.mc_cmd.specs.Form.{Text}
use Rattle.mc_cmd.specs.Tidy.{is_tidy}
use Rattle.mc_cmd.specs.World.{empty_world}
use Rattle.mc_cmd.specs.Packing.{Written, is_written, pack_view}
use Rattle.mc_engine.specs.EngineView.{Shown}
use Rattle.mc_together.specs.Programs.{all_tidy, MayLiveTogether}
use Rattle.mc_together.specs.Together.{unloaded}
use Rattle.pk_multi.specs.Counting.{count_of, no_count, AreFresh, AreNamed}
use Rattle.pk_multi.specs.Making.{has_space, AreApart, AreTidy, AreWritten, IsRefused, IsUntidyEntry, IsUntidyOf, IsUntidyPack, tidy_before}
use Rattle.pk_multi.specs.Standing.{packs_in, standing_in}
use Rattle.pk_multi.specs.State.{State}
use Rattle.pk_multi.specs.declared.fault.MultiFault.{MultiFault}
use Rattle.pk_multi.specs.declared.fault.MultiFault.TheVariants as faults
use Rattle.pk_multi.specs.declared.program.Program.{Program}

-- ---- lists

pub take_more : {A : Type 0} (xs : List A) (i : ℕ) (x : A) → slice_get xs i ≡ Some x → take (suc i) xs ≡ take i xs ++ (x ∷ [])
take_more [] i x e = absurd cc
take_more (y ∷ xs) zero x e = let s : y ≡ x = cc in ap (λ y. y ∷ []) s
take_more (y ∷ xs) (suc i) x e = ap (λ ys. y ∷ ys) (take_more xs i x e)

-- a fact of the first n elements, and of the one behind them
module _ {A : Type 0} (P : ℕ → A → Type 0) (xs : List A) where
  pub one_more : (n : ℕ) (y : A) → ((i : ℕ) (x : A) → i < n → slice_get xs i ≡ Some x → P i x) → slice_get xs n ≡ Some y → P n y
      → (i : ℕ) (x : A) → i < suc n → slice_get xs i ≡ Some x → P i x
  one_more n y h at p i x l e = go (nat_eq i n) refl
    where
      go : (b : Bool) → nat_eq i n ≡ b → P i x
      go true q =
          let s : i ≡ n = eqb-true i n q in
          let t : Some y ≡ Some x = sym at ∙ ap (slice_get xs) (sym s) ∙ e in
          let u : y ≡ x = cc in
          subst (λ x. P i x) u (subst (λ k. P k y) (sym s) p)
      go false q = h i x (below (λ s. let z : nat_eq i n ≡ true = eq-eqb i n s in cc)) e
        where
          below : i ≢ n → i < n
          below d = omega (arith, l, d)

-- ---- namespaces

pub or_false : (a b : Bool) → a || b ≡ false → (a ≡ false) × (b ≡ false)
or_false true b h = absurd cc
or_false false b h = (refl, h)

not_there : (ns : Text) (ws : List Written) (j i : ℕ) (v : Written) → i < j → slice_get ws i ≡ Some v → has_space ns (take j ws) ≡ false → bytes_eq ns v.index.ns ≡ false
not_there ns [] j i v l g h = absurd cc
not_there ns (w ∷ ws) zero i v l g h = absurd (omega arith)
not_there ns (w ∷ ws) (suc j) zero v l g h = let s : w ≡ v = cc in ap (λ (w : Written). bytes_eq ns w.index.ns) (sym s) ∙ (or_false (bytes_eq ns w.index.ns) (has_space ns (take j ws)) h).0
not_there ns (w ∷ ws) (suc j) (suc i) v l g h = not_there ns ws j i v (omega arith) g (or_false (bytes_eq ns w.index.ns) (has_space ns (take j ws)) h).1

apart_differ : (ws : List Written) → AreApart ws (length ws) → (i j : ℕ) (v w : Written) → i < j → slice_get ws i ≡ Some v → slice_get ws j ≡ Some w → w.index.ns ≢ v.index.ns
apart_differ ws a i j v w l g h s =
    let n = not_there w.index.ns ws j i v l g (a j w (slice_get_within ws j w h) h) in
    let y : bytes_eq w.index.ns v.index.ns ≡ true = ap (λ t. bytes_eq t v.index.ns) s ∙ bytes_refl v.index.ns in
    cc

pub live_together : (ws : List Written) → AreApart ws (length ws) → AreWritten ws (length ws) → AreTidy ws (length ws) → MayLiveTogether ws
live_together ws a r t = record {
  written = λ i w e. r i w (slice_get_within ws i w e) e;
  tidy = λ i w e. t i w (slice_get_within ws i w e) e;
  differ = λ i j v w e f n s. go i j v w e f n s (nat_lt i j) refl;
}
  where
    go : (i j : ℕ) (v w : Written) → slice_get ws i ≡ Some v → slice_get ws j ≡ Some w → i ≢ j → v.index.ns ≡ w.index.ns → (b : Bool) → nat_lt i j ≡ b → ⊥
    go i j v w e f n s true x = apart_differ ws a i j v w (ltb-true i j x) e f (sym s)
    go i j v w e f n s false x = apart_differ ws a j i w v (above (λ l. let z : nat_lt i j ≡ true = lt-ltb i j l in cc)) f e s
      where
        above : (i < j → ⊥) → j < i
        above m = omega (arith, m, n)

-- the first n packs, and the one behind them
pub tidy_packs_more : (ws : List Written) (i : ℕ) (w : Written) → slice_get ws i ≡ Some w → AreTidy ws i → all_tidy w.index.ns w.functions ≡ true → AreTidy ws (i + 1)
tidy_packs_more ws i w e a h = λ j v l f. one_more (λ k (x : Written). all_tidy x.index.ns x.functions ≡ true) ws i w a e h j v (omega (arith, l)) f

pub written_more : (ws : List Written) (i : ℕ) (w : Written) → slice_get ws i ≡ Some w → AreWritten ws i → is_written w ≡ true → AreWritten ws (i + 1)
written_more ws i w e a h = λ j v l f. one_more (λ k (x : Written). is_written x ≡ true) ws i w a e h j v (omega (arith, l)) f

-- why packs may not live together, of which no two have one namespace
pub untidy_refused : (ws : List Written) (e : MultiFault) → AreApart ws (length ws) → IsUntidyPack ws e → IsRefused ws e
untidy_refused ws (faults.SameSpace i) a h = absurd h
untidy_refused ws (faults.Untidy i name line) a h = (a, h)
untidy_refused ws faults.Memory a h = a

-- an error that is known is the whole of the result
pub err_is : {T E : Type 0} (r : Result T E) (e : E) → IsErr r × IsErrAnd r (λ x. x ≡ e) → r ≡ Err e
err_is (Ok u) e h = let f : false ≡ true = h.0 in cc
err_is (Err x) e h = ap Err h.1

-- ---- lines

pub tidy_more : (ns : Text) (w : Written) (i : ℕ) (e : Text × List Text) → slice_get w.functions i ≡ Some e → all_tidy ns (take i w.functions) ≡ true → list_all (is_tidy ns) e.1 ≡ true
    → all_tidy ns (take (suc i) w.functions) ≡ true
tidy_more ns w i e g h k = go w.functions i g h
  where
    go : (es : List (Text × List Text)) (i : ℕ) → slice_get es i ≡ Some e → all_tidy ns (take i es) ≡ true → all_tidy ns (take (suc i) es) ≡ true
    go [] i g h = absurd cc
    go (f ∷ es) zero g h = let s : f ≡ e = cc in and_from _ true (ap (λ (f : Text × List Text). list_all (is_tidy ns) f.1) s ∙ k) refl
    go (f ∷ es) (suc i) g h = let p = and_parts (list_all (is_tidy ns) f.1) (all_tidy ns (take i es)) h in and_from _ _ p.0 (go es i g p.1)

-- the functions before a place, and the one at it
pub tidy_next : (ns : Text) (w : Written) (i : ℕ) → IsUntidyOf ns w i None → tidy_before ns w i ≡ true → tidy_before ns w (i + 1) ≡ true
tidy_next ns w i h b = go (slice_get w.functions i) refl h
  where
    go : (o : Option (Text × List Text)) → slice_get w.functions i ≡ o → IsUntidyEntry ns o None → tidy_before ns w (i + 1) ≡ true
    go None e u = absurd u
    go (Some x) e u =
        let same : i + 1 ≡ suc i = omega arith in
        ap (λ k. all_tidy ns (take k w.functions)) same ∙ tidy_more ns w i x e b u

-- ---- what is kept of packs

pub fresh_more : (ps : List Program) (p : Program) → AreFresh ps → count_of p ≡ no_count → AreFresh (ps ++ (p ∷ []))
fresh_more [] p f c zero = c
fresh_more [] p f c (suc i) = refl
fresh_more (q ∷ ps) p f c zero = f zero
fresh_more (q ∷ ps) p f c (suc i) = fresh_more ps p (λ j. f (suc j)) c i

named_append : (ps : List Program) (p : Program) → map (λ (p : Program). p.names.ns) (ps ++ (p ∷ [])) ≡ map (λ (p : Program). p.names.ns) ps ++ (p.names.ns ∷ [])
named_append [] p = refl
named_append (q ∷ ps) p = ap (λ ns. q.names.ns ∷ ns) (named_append ps p)

spaces_append : (ws : List Written) (w : Written) → map (λ (w : Written). w.index.ns) (ws ++ (w ∷ [])) ≡ map (λ (w : Written). w.index.ns) ws ++ (w.index.ns ∷ [])
spaces_append [] w = refl
spaces_append (v ∷ ws) w = ap (λ ns. v.index.ns ∷ ns) (spaces_append ws w)

pub named_more : (ps : List Program) (p : Program) (ws : List Written) (i : ℕ) (w : Written) → slice_get ws i ≡ Some w → AreNamed ps (take i ws) → p.names.ns ≡ w.index.ns → AreNamed (ps ++ (p ∷ [])) (take (suc i) ws)
named_more ps p ws i w g n s =
    named_append ps p ∙ ap (λ ns. map (λ (p : Program). p.names.ns) ps ++ (ns ∷ [])) s ∙ ap (λ ns. ns ++ (w.index.ns ∷ [])) n
    ∙ sym (spaces_append (take i ws) w) ∙ ap (map (λ (w : Written). w.index.ns)) (sym (take_more ws i w g))

-- the state of what was made
pub made : (e : Shown) (ws : List Written) (ps : List Program) → (let n : Shown = record { packs = ws; world = empty_world; failed = false } in e ≡ n) → AreFresh ps
    → (let r : State = record { packs = packs_in e; standing = standing_in e ps 0; booted = false; failed = false } in let q : State = record { packs = map pack_view ws; standing = unloaded; booted = false; failed = false } in r ≡ q)
made e ws ps h f = λ z. record { packs = map pack_view (h z).packs; standing = record { world = (h z).world; ticks = 0; counts = λ j. f j z }; booted = false; failed = false }
