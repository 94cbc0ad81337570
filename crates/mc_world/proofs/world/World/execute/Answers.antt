use Rattle.std.proofs.Common.{◌≡◌, ◌∙◌, sym, ap, true, false, rules, map, subst}
use Rattle.std.specs.Prelude.{if◌then◌else◌}
use Rattle.std.specs.Int.{w32}
use Rattle.std.proofs.lemmas.Int.{to_z-of_z}
use mir.Val.{SFits, to_z, of_z}
use Rattle.mc_cmd.specs.View.{sub_view, simple_view}
use Rattle.mc_cmd.specs.World.{all_go_on, effect, fails, store_all, with_stores}
use Rattle.mc_world.specs.WorldView.{seen, told}
use Rattle.mc_world.proofs.KeepLemmas.{effect_keeps, stand_still, stores_stand}
use Rattle.mc_world.specs.steps.Stores.{AreStoredInPart}
use Rattle.mc_world.proofs.StoreLemmas.{none_made, some_made}
use Rattle.mc_world.proofs.WorldViewLemmas.{on_err}
use Rattle.mc_world.proofs.world.World.execute.Goals as goal

pub returns-then-not-all_go_on-clause-effect : goal.returns-then-not-all_go_on-clause-effect
returns-then-not-all_go_on-clause-effect c =
    let w = seen c.args.self.now in
    let ss = map sub_view c.args.subs.now in
    let stops : all_go_on ss w ≡ false = search rules in
    c.failed.ensures w ∙ sym (ap (λ b. if b then with_stores ss (effect (simple_view c.args.run.now) w) else fails w) stops)

pub store_all-requires : goal.store_all-requires
store_all-requires c =
    let w = seen c.args.self.now in
    let s = simple_view c.args.run.now in
    let ss = map sub_view c.args.subs.now in
    let goes : all_go_on ss w ≡ true = search rules in
    stand_still w (seen c.run.new.self) (λ p h. ap (λ r. r.world.objectives p) c.in_ok-outcome.ensures.effect ∙ effect_keeps w p h s) ss (stores_stand ss w goes)

pub returns-clause-effect : goal.returns-clause-effect
returns-clause-effect c =
    let w = seen c.args.self.now in
    let s = simple_view c.args.run.now in
    let ss = map sub_view c.args.subs.now in
    let o = c.in_ok-outcome.outcome in
    let fits : SFits w32 o.result = search rules in
    let goes : all_go_on ss w ≡ true = search rules in
    ap (told o) (c.in_ok-store_all.ensures.stores ∙ ap (λ z. store_all ss z (seen c.run.new.self)) (to_z-of_z w32 o.result fits))
    ∙ ap (with_stores ss) c.in_ok-outcome.ensures.effect
    ∙ sym (ap (λ b. if b then with_stores ss (effect s w) else fails w) goes)

pub returns-in_err-outcome-clause-memory : goal.returns-in_err-outcome-clause-memory
returns-in_err-outcome-clause-memory c =
    on_err _ (none_made (map sub_view c.args.subs.now) (simple_view c.args.run.now) (seen c.args.self.now) (seen c.run.new.self) c.requires.may c.in_err-outcome.ensures.unchanged)

pub returns-in_err-store_all-clause-memory : goal.returns-in_err-store_all-clause-memory
returns-in_err-store_all-clause-memory c =
    let w = seen c.args.self.now in
    let v = seen c.store_all.new.self in
    let s = simple_view c.args.run.now in
    let ss = map sub_view c.args.subs.now in
    let o = c.in_ok-outcome.outcome in
    let fits : SFits w32 o.result = search rules in
    let ran : told o (seen c.run.new.self) ≡ effect s w = c.in_ok-outcome.ensures.effect in
    let made = subst (λ u. AreStoredInPart ss (to_z w32 (of_z w32 o.result)) u v) (ap (λ r. r.world) ran) c.in_err-store_all.ensures.memory in
    on_err _ (some_made ss s w v c.requires.may (subst (λ z. AreStoredInPart ss z (effect s w).world v) (to_z-of_z w32 o.result fits ∙ ap (λ r. r.result) ran) made))
