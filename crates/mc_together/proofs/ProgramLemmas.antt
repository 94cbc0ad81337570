-- Packs that passed the tests may live together; lawful events are lawful for each.
use Rattle.std.proofs.Common.{◌≡◌, ℕ, zero, suc, ◌<◌, ◌+◌, List, [], ◌∷◌, length, map, Some, None, Bool, true, false, cond, refl, sym, ap, ◌∙◌, subst, arith}
use Rattle.std.specs.Prelude.{nat_eq, slice_get}
use Rattle.std.specs.List.{list_all, AllByRecursion}
use Rattle.std.specs.Map.{lookup}
use Rattle.std.specs.Str.{bytes_eq}
use Rattle.std.proofs.lemmas.Bool.{eqb-true}
use Rattle.std.proofs.lemmas.Slice.Eq.{bytes_eq-Decides}
use Rattle.mc_cmd.specs.Form.{Text}
use Rattle.mc_cmd.specs.Word.{is_namespace}
use Rattle.mc_cmd.specs.Layout.{full_name}
use Rattle.mc_cmd.specs.Chain.{Texts}
use Rattle.mc_cmd.specs.Packing.{Written, is_written, is_pack_namespace, pack_view}
use Rattle.mc_cmd.specs.Pack as alone
use Rattle.mc_cmd.specs.Pack.{Pack, counted}
use Rattle.mc_cmd.specs.Tidy.{own_function, is_tidy, Tidy}
use Rattle.mc_together.specs.Part.{IsTidyPack}
use Rattle.mc_together.specs.Together.{Event, call, tick, reload, other, own_call, own_from, own, ArePrograms, Lawful}
use Rattle.mc_together.specs.Programs.{all_tidy, MayLiveTogether}
use Rattle.mc_together.proofs.EffectLemmas.{first, second}
use Rattle.mc_together.proofs.EventLemmas.{IsForeignToAll}
use Rattle.mc_together.proofs.ApartLemmas.{full_own}
use Rattle.mc_together.proofs.ShareLemmas.{share_budget}

module _ (ns : Text) (good : is_namespace ns ≡ true) where
  not_full : (f name : Text) → own_function ns f ≡ false → bytes_eq f (full_name ns name) ≡ false
  not_full f name h = go (bytes_eq f (full_name ns name)) refl
    where
      go : (b : Bool) → bytes_eq f (full_name ns name) ≡ b → b ≡ false
      go false e = refl
      go true e = let s : f ≡ full_name ns name = (bytes_eq-Decides f (full_name ns name)).0 e in let t = sym h ∙ ap (own_function ns) s ∙ full_own ns good name in absurd cc

  nowhere : (es : List (Text × Texts)) (f : Text) → own_function ns f ≡ false → lookup (λ name. bytes_eq f (full_name ns name)) es ≡ None
  nowhere [] f h = refl
  nowhere (e ∷ es) f h = ap (λ b. cond b (Some e.1) (lookup (λ name. bytes_eq f (full_name ns name)) es)) (not_full f e.0 h) ∙ nowhere es f h

  found_tidy : (es : List (Text × Texts)) (f : Text) (ts : Texts) → all_tidy ns es ≡ true → lookup (λ name. bytes_eq f (full_name ns name)) es ≡ Some ts → Tidy ns ts
  found_tidy [] f ts t h = absurd cc
  found_tidy (e ∷ es) f ts t h = go (bytes_eq f (full_name ns e.0)) h (found_tidy es f ts (second (list_all (is_tidy ns) e.1) (all_tidy ns es) t))
    where
      go : (b : Bool) → cond b (Some e.1) (lookup (λ name. bytes_eq f (full_name ns name)) es) ≡ Some ts → (lookup (λ name. bytes_eq f (full_name ns name)) es ≡ Some ts → Tidy ns ts) → Tidy ns ts
      go true h ih = let s : e.1 ≡ ts = cc in subst (Tidy ns) s (first (list_all (is_tidy ns) e.1) (all_tidy ns es) t)
      go false h ih = ih h

written_namespace : (w : Written) → is_written w ≡ true → is_namespace w.index.ns ≡ true
written_namespace w h = first (is_namespace w.index.ns) _ (first (is_pack_namespace w.index.ns) _ h)

pub tidy_pack : (w : Written) → is_written w ≡ true → all_tidy w.index.ns w.functions ≡ true → IsTidyPack (pack_view w)
tidy_pack w h t = record {
  inside = λ f out. nowhere w.index.ns (written_namespace w h) w.functions f out;
  tidy = λ f ts e. found_tidy w.index.ns (written_namespace w h) w.functions f ts t e;
}

-- what stands at a place of a mapped list
record Mapped (ws : List Written) (i : ℕ) (p : Pack) : Type 0 where
  written : Written
  at : slice_get ws i ≡ Some written
  same : pack_view written ≡ p

mapped : (ws : List Written) (i : ℕ) (p : Pack) → slice_get (map pack_view ws) i ≡ Some p → Mapped ws i p
mapped [] i p e = absurd cc
mapped (w ∷ ws) zero p e = record { written = w; at = refl; same = cc }
mapped (w ∷ ws) (suc i) p e = let m = mapped ws i p e in record { written = m.written; at = m.at; same = m.same }

pub may_be_programs : (ws : List Written) → MayLiveTogether ws → ArePrograms (map pack_view ws)
may_be_programs ws ok = record {
  namespace = λ i p e. let m = mapped ws i p e in subst (λ p. is_namespace p.index.ns ≡ true) m.same (written_namespace m.written (ok.written i m.written m.at));
  tidy = λ i p e. let m = mapped ws i p e in subst IsTidyPack m.same (tidy_pack m.written (ok.written i m.written m.at) (ok.tidy i m.written m.at));
  differ = λ i j p q e f n s.
      let a = mapped ws i p e in
      let b = mapped ws j q f in
      ok.differ i j a.written b.written a.at b.at n (ap (λ p. p.index.ns) a.same ∙ s ∙ sym (ap (λ p. p.index.ns) b.same));
}

-- ---- lawful events

pub foreign_to_all : (ps : List Pack) (es : List Event) → Lawful ps es → AllByRecursion (IsForeignToAll ps) es
foreign_to_all ps [] h = h
foreign_to_all ps (call i k args ∷ es) h = (tt, foreign_to_all ps es h.1)
foreign_to_all ps (tick b ∷ es) h = (tt, foreign_to_all ps es h.1)
foreign_to_all ps (reload b ∷ es) h = (tt, foreign_to_all ps es h.1)
foreign_to_all ps (other c ∷ es) h = (h.0, foreign_to_all ps es h.1)

some_programs : (ps : List Pack) (k : ℕ) (p : Pack) → slice_get ps k ≡ Some p → 0 < length ps
some_programs [] k p e = absurd cc
some_programs (q ∷ ps) k p e = omega arith

own_lawful_from : (ps : List Pack) (k : ℕ) (p : Pack) → slice_get ps k ≡ Some p → (es : List Event) (t : ℕ) → Lawful ps es → alone.Lawful p.index (own_from (length ps) k t es)
own_lawful_from ps k p at [] t h = h
own_lawful_from ps k p at (call i x args ∷ es) t h = go (nat_eq i k) refl (own_lawful_from ps k p at es t h.1)
  where
    go : (b : Bool) → nat_eq i k ≡ b → alone.Lawful p.index (own_from (length ps) k t es) → alone.Lawful p.index (own_call b x args (own_from (length ps) k t es))
    go true e m = let s : i ≡ k = eqb-true i k e in (h.0 p (ap (slice_get ps) s ∙ at), m)
    go false e m = m
own_lawful_from ps k p at (tick b ∷ es) t h = (share_budget b (length ps) t k (some_programs ps k p at) h.0, own_lawful_from ps k p at es (counted (t + 1)) h.1)
own_lawful_from ps k p at (reload b ∷ es) t h = (share_budget b (length ps) t k (some_programs ps k p at) h.0, own_lawful_from ps k p at es t h.1)
own_lawful_from ps k p at (other c ∷ es) t h = (h.0 k p at, own_lawful_from ps k p at es t h.1)

pub own_lawful : (ps : List Pack) (es : List Event) (k : ℕ) (p : Pack) → Lawful ps es → slice_get ps k ≡ Some p → alone.Lawful p.index (own (length ps) k es)
own_lawful ps es k p h at = own_lawful_from ps k p at es 0 h
