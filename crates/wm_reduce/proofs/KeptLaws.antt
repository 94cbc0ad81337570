-- What is kept of a configuration: it is never stuck.
use Rattle.std.proofs.Common.{◌≡◌, ℕ, ◌+◌, ◌≤◌, List, [], ◌∷◌, length, Option, Some, None, refl, ap, subst, ◌∙◌, arith}
use Rattle.std.specs.Prelude.{reverse, option_to_list, MatchOption}
use Rattle.std.proofs.lemmas.List.{length-reverse}
use Rattle.mc_nbt.specs.declared.value.Value.{Value}
use Rattle.wm_ast.specs.declared.answer.TrapKind.{TrapKind}
use Rattle.wm_ast.specs.declared.module.Module.{Module}
use Rattle.wm_ast.specs.declared.module.ValType.{ValType}
use Rattle.wm_ast.specs.After.{after, settled, settled_by, one_more}
use Rattle.wm_ast.specs.Configuration.{Config, empty}
use Rattle.wm_ast.specs.Step.{Reduct, values, rewritten, branching, returning, trapping, irreducible, reduct, Next, Ended, Trapped, Stuck, progress, step}
use Rattle.wm_ast.specs.Store.{Store}
use Rattle.wm_flat.specs.Flat.{finished, config_of}
use Rattle.wm_flat.specs.FlatTyping.{TypedStore}
use Rattle.wm_flat.specs.Sound.{IsSound}
use Rattle.wm_flat.specs.Steps.{IsStuck}
use Rattle.wm_flat.proofs.Consequences.{after_reach}
use Rattle.wm_flat.proofs.ValueLaws.{length_are}
use Rattle.wm_flat.proofs.Walk.{walked}
use Rattle.wm_reduce.specs.Soundness.{IsKept}

module _ (m : Module) where
  -- after one step
  after_one : (c : Config) (r : Reduct) → reduct m c ≡ r → after m c 1 ≡ one_more m (settled_by c r)
  after_one c r e = ap (λ (x : Reduct). one_more m (settled_by c x)) e

  stuck_after : (c : Config) (r : Reduct) → reduct m c ≡ r → progress c.store r ≡ Stuck → after m c 1 ≡ Stuck
  stuck_after c (values vs) e k = absurd cc
  stuck_after c (rewritten s own is) e k = absurd cc
  stuck_after c (trapping t) e k = absurd cc
  stuck_after c (branching l vs) e k = after_one c (branching l vs) e ∙ ap (λ (x : Reduct). settled m (progress c.store x)) e
  stuck_after c (returning vs) e k = after_one c (returning vs) e ∙ ap (λ (x : Reduct). settled m (progress c.store x)) e
  stuck_after c irreducible e k = after_one c irreducible e ∙ ap (λ (x : Reduct). settled m (progress c.store x)) e

  pub not_stuck : (c : Config) → IsKept m c → IsStuck m c → ⊥
  not_stuck c h (n, d, r, e) = h.never_stuck (n + 1) (after_reach m n c d 1 r ∙ stuck_after d (reduct m d) refl e)

  pub kept_on : (c d : Config) → step m c ≡ Next d → IsKept m c → IsKept m d
  kept_on c d e h =
      let there = λ (k : ℕ). after_reach m 1 c d k (d, e, refl) in
      record {
        never_stuck = λ n p. h.never_stuck (1 + n) (there n ∙ p);
        one_value = λ n vs s p. h.one_value (1 + n) vs s (there n ∙ p);
        at_end = λ n vs s p. h.at_end (1 + n) vs s (there n ∙ p);
        at_trap = λ n k s p. h.at_trap (1 + n) k s (there n ∙ p);
      }

  pub kept_by : (results : List ValType) (c : Config) → length results ≤ 1 → ((k : ℕ) → IsSound m results (after m c k)) → IsKept m c
  kept_by results c h sound = record {
    never_stuck = λ n p. subst (IsSound m results) p (sound n);
    one_value = λ n vs s p. let k = length_are results vs (subst (IsSound m results) p (sound n)).1 in omega arith;
    at_end = λ n vs s p. ∣ (subst (IsSound m results) p (sound n)).0 ∣₁;
    at_trap = λ n k s p. ∣ subst (IsSound m results) p (sound n) ∣₁;
  }

  -- an end
  finished_is : (s : Store) (vs : List Value) → reduct m (config_of s (finished vs)) ≡ values vs
  finished_is s vs = walked m vs empty 0 s []

  pub finished_step : (s : Store) (vs : List Value) → step m (config_of s (finished vs)) ≡ Ended (reverse vs) s
  finished_step s vs = ap (progress s) (finished_is s vs)

  ended : (s : Store) (vs : List Value) → after m (config_of s (finished vs)) 0 ≡ Ended (reverse vs) s
  ended s vs = ap (settled_by (config_of s (finished vs))) (finished_is s vs)

  one_value : (s : Store) (vs : List Value) → IsKept m (config_of s (finished vs)) → length vs ≤ 1
  one_value s vs h = let k = h.one_value 0 (reverse vs) s (ended s vs) in let l = length-reverse vs in omega arith

  pub ends : (s : Store) (vs rest : List Value) (o : Option Value) → IsKept m (config_of s (finished vs))
      → MatchOption o ((vs ≡ []) × (rest ≡ [])) (λ v. vs ≡ v ∷ rest)
      → step m (config_of s (finished vs)) ≡ Ended (option_to_list o) s
  ends s vs rest None h p = finished_step s vs ∙ ap (λ (l : List Value). Ended (reverse l) s) p.0
  ends s vs [] (Some v) h p = finished_step s vs ∙ ap (λ (l : List Value). Ended (reverse l) s) p
  ends s vs (w ∷ rest) (Some v) h p = absurd (let n = one_value s vs h in let e = ap length p in omega arith)

  trapped_after : (c : Config) (r : Reduct) (k : TrapKind) (s : Store) → reduct m c ≡ r → progress c.store r ≡ Trapped k s → after m c 1 ≡ Trapped k s
  trapped_after c (values vs) t s e k = absurd cc
  trapped_after c (rewritten s' own is) t s e k = absurd cc
  trapped_after c (branching l vs) t s e k = absurd cc
  trapped_after c (returning vs) t s e k = absurd cc
  trapped_after c irreducible t s e k = absurd cc
  trapped_after c (trapping u) t s e k = after_one c (trapping u) e ∙ ap (λ (x : Reduct). settled m (progress c.store x)) e ∙ ap (settled m) k

  -- the store at a trap, and at an end
  pub trap_store : (c : Config) (k : TrapKind) (s : Store) → step m c ≡ Trapped k s → IsKept m c → ∥ TypedStore m s ∥₁
  trap_store c k s e h = h.at_trap 1 k s (trapped_after c (reduct m c) k s refl e)

  ended_after : (c : Config) (r : Reduct) (vs : List Value) (s : Store) → reduct m c ≡ r → progress c.store r ≡ Ended vs s → after m c 0 ≡ Ended vs s
  ended_after c (values ws) vs s e k = ap (settled_by c) e ∙ k
  ended_after c (rewritten s' own is) vs s e k = absurd cc
  ended_after c (branching l ws) vs s e k = absurd cc
  ended_after c (returning ws) vs s e k = absurd cc
  ended_after c irreducible vs s e k = absurd cc
  ended_after c (trapping u) vs s e k = absurd cc

  pub end_store : (c : Config) (vs : List Value) (s : Store) → step m c ≡ Ended vs s → IsKept m c → ∥ TypedStore m s ∥₁
  end_store c vs s e h = h.at_end 0 vs s (ended_after c (reduct m c) vs s refl e)
