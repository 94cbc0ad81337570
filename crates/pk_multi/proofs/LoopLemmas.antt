-- The turns of all programs, one after another.
use Rattle.std.proofs.Common.{◌≡◌, ℕ, zero, suc, ◌+◌, ◌<◌, ◌≤◌, List, [], ◌∷◌, length, map, drop, Option, Some, None, refl, sym, ap, ap₂, ◌∙◌, arith}
use Rattle.std.specs.Prelude.{slice_get}
use Rattle.mc_cmd.specs.Form.{Text}
use Rattle.mc_cmd.specs.Pack.{Pack, functions_of}
use Rattle.mc_cmd.specs.Packing.{Written, pack_view}
use Rattle.mc_together.specs.Together.{Standing, run_shares}
use Rattle.pk_multi.specs.Counting.{AreNamed, run_found, run_at}
use Rattle.pk_multi.specs.declared.program.Program.{Program}

pub named_count : (ps : List Program) (ws : List Written) → AreNamed ps ws → length (map pack_view ws) ≡ length ps
named_count [] [] n = refl
named_count [] (w ∷ ws) n = absurd cc
named_count (t ∷ ts) [] n = absurd cc
named_count (t ∷ ts) (w ∷ ws) n = let h : AreNamed ts ws = cc in let m = named_count ts ws h in omega (arith, m)

pub drop_none : (ps : List Pack) → drop 0 ps ≡ ps
drop_none [] = refl
drop_none (p ∷ ps) = refl

record Next (ps : List Pack) (i : ℕ) : Type 0 where
  pack : Pack
  at : slice_get ps i ≡ Some pack
  rest : drop i ps ≡ pack ∷ drop (suc i) ps

next_at : (ps : List Pack) (i : ℕ) → i < length ps → Next ps i
next_at [] i l = absurd (omega arith)
next_at (p ∷ ps) zero l = record { pack = p; at = refl; rest = ap (λ qs. p ∷ qs) (sym (drop_none ps)) }
next_at (p ∷ ps) (suc i) l = let n = next_at ps i (omega arith) in record { pack = n.pack; at = n.at; rest = n.rest }

drop_all : (ps : List Pack) (i : ℕ) → length ps ≤ i → drop i ps ≡ []
drop_all [] zero l = refl
drop_all [] (suc i) l = refl
drop_all (p ∷ ps) zero l = absurd (omega arith)
drop_all (p ∷ ps) (suc i) l = drop_all ps i (omega arith)

module _ (ps : List Pack) (name : Text) (f : ℕ → ℕ) where
  one_more : (i : ℕ) (s : Standing) → i < length ps → run_shares (functions_of ps) name f i (drop i ps) s ≡ run_shares (functions_of ps) name f (suc i) (drop (suc i) ps) (run_at ps name (f i) i s)
  one_more i s l =
      let n = next_at ps i l in
      ap (λ qs. run_shares (functions_of ps) name f i qs s) n.rest
      ∙ ap (λ o. run_shares (functions_of ps) name f (suc i) (drop (suc i) ps) (run_found ps name (f i) i o s)) (sym n.at)

  pub step : (i : ℕ) (s n r : Standing) (qs : List Pack) (b : ℕ) → i < length ps → qs ≡ ps → b ≡ f i → n ≡ run_at qs name b i s
      → run_shares (functions_of ps) name f i (drop i ps) s ≡ r → run_shares (functions_of ps) name f (i + 1) (drop (i + 1) ps) n ≡ r
  step i s n r qs b l q e g h =
      let same : i + 1 ≡ suc i = omega arith in
      ap (λ k. run_shares (functions_of ps) name f k (drop k ps) n) same
      ∙ ap (run_shares (functions_of ps) name f (suc i) (drop (suc i) ps)) (g ∙ ap₂ (λ xs c. run_at xs name c i s) q e)
      ∙ sym (one_more i s l) ∙ h

  pub ended : (i : ℕ) (s r : Standing) → length ps ≤ i → run_shares (functions_of ps) name f i (drop i ps) s ≡ r → s ≡ r
  ended i s r l h = sym (ap (λ qs. run_shares (functions_of ps) name f i qs s) (drop_all ps i l)) ∙ h

pub at_ticks : (qs : List Pack) (name : Text) (b i : ℕ) (s : Standing) → (run_at qs name b i s).ticks ≡ s.ticks
at_ticks qs name b i s = go (slice_get qs i)
  where
    go : (o : Option Pack) → (run_found qs name b i o s).ticks ≡ s.ticks
    go None = refl
    go (Some p) = refl
