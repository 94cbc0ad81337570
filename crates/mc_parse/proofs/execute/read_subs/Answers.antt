use Rattle.std.proofs.Common.{◌≡◌, ◌-◌, ◌++◌, ◌∷◌, [], Some, None, sym, ap, ◌∙◌, map, arith, append-nil, rules}
use Rattle.std.specs.Prelude.{option_map, suc, codes}
use Rattle.std.proofs.lemmas.List.{map-append}
use Rattle.std.proofs.lemmas.Bool.Decides.{nat_tests}
use Rattle.mc_cmd.specs.Form.{strip}
use Rattle.mc_cmd.specs.Grammar.{sub_read, subs_read}
use Rattle.mc_cmd.specs.View.{simple_view, sub_view}
use Rattle.mc_parse.proofs.ExecuteLemmas.{behind, goes_on, stops, ends, runs}
use Rattle.mc_parse.proofs.execute.read_subs.Goals as goal

pub returns-in-Some-2 : goal.returns-in-Some-2
returns-in-Some-2 c =
    let left = c.loop-left.left in
    let some : left ≡ suc (left - 1) = grind (arith, nat_tests, c.loop-left-test.true) in
    let front = map sub_view c.loop-left.subs.items in
    let said = sym c.in_ok-run.ensures ∙ ap (option_map simple_view) c.in-Some-2.is in
    ap (λ l. Some (l, simple_view c.in-Some-2.run')) (sym (append-nil front))
    ∙ ap (λ o. behind front (option_map (λ s. ([], s)) o)) (sym said)
    ∙ runs front left (left - 1) c.loop-left.rest.now c.in-Some.run'.now _ some (sym c.strip_front.ensures ∙ ap (option_map (λ r. r.now)) c.in-Some.is) c.loop-left.invariant

pub returns-in-None : goal.returns-in-None
returns-in-None c =
    let left = c.loop-left.left in
    let some : left ≡ suc (left - 1) = grind (arith, nat_tests, c.loop-left-test.true) in
    let front = map sub_view c.loop-left.subs.items in
    let said = sym c.in_ok-run.ensures ∙ ap (option_map simple_view) c.in-None.is in
    ap (λ o. behind front (option_map (λ s. ([], s)) o)) (sym said)
    ∙ runs front left (left - 1) c.loop-left.rest.now c.in-Some.run'.now _ some (sym c.strip_front.ensures ∙ ap (option_map (λ r. r.now)) c.in-Some.is) c.loop-left.invariant

pub returns-in_default-2 : goal.returns-in_default-2
returns-in_default-2 c =
    let left = c.loop-left.left in
    let some : left ≡ suc (left - 1) = grind (arith, nat_tests, c.loop-left-test.true) in
    let front = map sub_view c.loop-left.subs.items in
    let bare : strip (codes "run ") c.loop-left.rest.now ≡ None = search rules in
    let read : sub_read c.loop-left.rest.now ≡ None = sym c.in_ok-sub.ensures ∙ ap (option_map (λ p. (sub_view p.0, p.1.now))) c.in_default-2.is in
    stops front left (left - 1) c.loop-left.rest.now _ some bare read c.loop-left.invariant

pub loop-left-preserved : goal.loop-left-preserved
loop-left-preserved c =
    let left = c.loop-left.left in
    let some : left ≡ suc (left - 1) = grind (arith, nat_tests, c.loop-left-test.true) in
    let front = map sub_view c.loop-left.subs.items in
    let bare : strip (codes "run ") c.loop-left.rest.now ≡ None = search rules in
    let read : sub_read c.loop-left.rest.now ≡ Some (sub_view c.in-Some-3.sub, c.in-Some-3.more.now) = sym c.in_ok-sub.ensures ∙ ap (option_map (λ p. (sub_view p.0, p.1.now))) c.in-Some-3.is in
    let grown : map sub_view c.push.new.self.items ≡ front ++ (sub_view c.in-Some-3.sub ∷ []) = ap (map sub_view) c.in_ok-push.ensures.items ∙ map-append sub_view c.loop-left.subs.items (c.in-Some-3.sub ∷ []) in
    ap (λ l. behind l (subs_read (left - 1) c.in-Some-3.more.now)) grown
    ∙ goes_on front left (left - 1) c.loop-left.rest.now (sub_view c.in-Some-3.sub, c.in-Some-3.more.now) _ some bare read c.loop-left.invariant

pub returns : goal.returns
returns c =
    let none : c.loop-left.left ≡ 0 = grind (arith, nat_tests, c.loop-left-test.false) in
    ends (map sub_view c.loop-left.subs.items) c.loop-left.left c.loop-left.rest.now _ none c.loop-left.invariant
