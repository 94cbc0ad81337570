use Rattle.std.proofs.Common.{◌≡◌, ◌∙◌, sym, ap, true, map, drop, take, ◌++◌, ◌∷◌, [], ◌+◌, ◌<◌, length, arith, rules}
use Rattle.std.specs.List.{list_all}
use Rattle.std.proofs.lemmas.Grind.{common_steps}
use Rattle.std.proofs.lemmas.List.{map-append}
use Rattle.std.specs.Int.{w32}
use Rattle.std.proofs.lemmas.Int.{to_z-of_z}
use mir.Val.{to_z, of_z}
use Rattle.mc_cmd.specs.View.{sub_view}
use Rattle.mc_cmd.specs.World.{store_all}
use Rattle.mc_cmd.proofs.FormLemmas.{and_first, and_second}
use Rattle.mc_world.specs.WorldView.{seen}
use Rattle.mc_world.specs.steps.Stores.{store_stands}
use Rattle.mc_world.proofs.KeepLemmas.{stand_still, store_keeps}
use Rattle.mc_world.proofs.StoreLemmas.{store_behind, stored_up_to}
use Rattle.mc_world.proofs.WorldViewLemmas.{on_err}
use Rattle.mc_world.proofs.world.World.store_all.Goals as goal

pub store-requires : goal.store-requires
store-requires c =
    let subs = c.args.subs.now in
    let i = c.loop-sub.sub-index in
    let here : drop i subs ≡ c.sub-item.result ∷ drop (i + 1) subs = grind (arith, common_steps, c.sub-item.is) in
    and_first _ _ (ap (λ l. list_all (store_stands (seen c.loop-sub.self)) (map sub_view l)) (sym here) ∙ c.loop-sub.invariant.stand)

pub loop-sub-preserved : goal.loop-sub-preserved
loop-sub-preserved c =
    let w = seen c.loop-sub.self in
    let first = seen c.args.self.now in
    let n = to_z w32 (of_z w32 c.args.n) in
    let subs = c.args.subs.now in
    let i = c.loop-sub.sub-index in
    let s = sub_view c.sub-item.result in
    let rest = map sub_view (drop (i + 1) subs) in
    let here : drop i subs ≡ c.sub-item.result ∷ drop (i + 1) subs = grind (arith, common_steps, c.sub-item.is) in
    let more : take (i + 1) subs ≡ take i subs ++ (c.sub-item.result ∷ []) = grind (arith, common_steps, c.sub-item.is) in
    let stand : list_all (store_stands w) (s ∷ rest) ≡ true = ap (λ l. list_all (store_stands w) (map sub_view l)) (sym here) ∙ c.loop-sub.invariant.stand in
    let stored : seen c.store.new.self ≡ store_all (s ∷ []) n w = c.in_ok-store.ensures.stores in record {
      stand = stand_still w (seen c.store.new.self) (λ p h. ap (λ v. v.objectives p) stored ∙ store_keeps w p h s n) rest (and_second (store_stands w s) _ stand);
      made =
          stored ∙ ap (store_all (s ∷ []) n) c.loop-sub.invariant.made
          ∙ sym (ap (λ l. store_all (map sub_view l) n first) more ∙ ap (λ l. store_all l n first) (map-append sub_view (take i subs) (c.sub-item.result ∷ [])) ∙ store_behind (map sub_view (take i subs)) (s ∷ []) n first);
    }

pub returns-in_err-store-clause-memory : goal.returns-in_err-store-clause-memory
returns-in_err-store-clause-memory c =
    let first = seen c.args.self.now in
    let subs = c.args.subs.now in
    let i = c.loop-sub.sub-index in
    let here : drop i subs ≡ c.sub-item.result ∷ drop (i + 1) subs = grind (arith, common_steps, c.sub-item.is) in
    let less : i < length subs = search rules in
    let made : seen c.store.new.self ≡ store_all (map sub_view (take i subs)) c.args.n first =
    c.in_err-store.ensures.unchanged ∙ c.loop-sub.invariant.made ∙ ap (λ z. store_all (map sub_view (take i subs)) z first) (to_z-of_z w32 c.args.n c.ranges.n)
    in
    on_err _ (stored_up_to sub_view subs i c.sub-item.result here c.args.n first (seen c.store.new.self) less c.in_err-store.ensures.is_one made)
