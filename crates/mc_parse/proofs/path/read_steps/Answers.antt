use Rattle.std.proofs.Common.{◌≡◌, ◌-◌, ◌++◌, ◌∷◌, [], Some, None, sym, ap, ◌∙◌, arith}
use Rattle.std.specs.Prelude.{option_map, suc}
use Rattle.std.proofs.lemmas.List.{map-append}
use Rattle.std.proofs.lemmas.Bool.Decides.{nat_tests}
use Rattle.mc_nbt.specs.View.{part, parts}
use Rattle.mc_parse.specs.steps.Many.{many}
use Rattle.mc_parse.specs.steps.Paths.{step_read}
use Rattle.mc_parse.proofs.ManyLemmas.{goes_on, stops, ends, whole_is}
use Rattle.mc_parse.proofs.path.read_steps.Goals as goal

pub returns-then-left-eq0 : goal.returns-then-left-eq0
returns-then-left-eq0 c =
    let none : c.loop-rest.left ≡ 0 = grind (arith, nat_tests, c.if-left-eq0.true) in
    ends step_read (parts c.loop-rest.steps.items) c.loop-rest.left c.loop-rest.rest.now _ none (sym c.is_empty.ensures ∙ c.loop-rest-test.true) c.loop-rest.invariant

pub returns-in_default-2 : goal.returns-in_default-2
returns-in_default-2 c =
    let read : step_read c.loop-rest.rest.now ≡ None = sym c.in_ok-step.ensures ∙ ap (option_map (λ p. (part p.0, p.1.now))) c.in_default-2.is in
    stops step_read (parts c.loop-rest.steps.items) c.loop-rest.left c.loop-rest.rest.now _ (sym c.is_empty.ensures ∙ c.loop-rest-test.true) read c.loop-rest.invariant

pub loop-rest-preserved : goal.loop-rest-preserved
loop-rest-preserved c =
    let left = c.loop-rest.left in
    let some : left ≡ suc (left - 1) = grind (arith, nat_tests, c.if-left-eq0.false) in
    let read : step_read c.loop-rest.rest.now ≡ Some (part c.in-Some-2.step, c.in-Some-2.more.now) = sym c.in_ok-step.ensures ∙ ap (option_map (λ p. (part p.0, p.1.now))) c.in-Some-2.is in
    let grown : parts c.push-in-loop-rest.new.self.items ≡ parts c.loop-rest.steps.items ++ (part c.in-Some-2.step ∷ []) = ap parts c.in_ok-push-2.ensures.items ∙ map-append part c.loop-rest.steps.items (c.in-Some-2.step ∷ []) in
    ap (λ front. option_map (λ l. front ++ l) (many step_read (left - 1) c.in-Some-2.more.now)) grown
    ∙ goes_on step_read (parts c.loop-rest.steps.items) left (left - 1) c.loop-rest.rest.now (part c.in-Some-2.step, c.in-Some-2.more.now) _ some (sym c.is_empty.ensures ∙ c.loop-rest-test.true) read c.loop-rest.invariant

pub returns : goal.returns
returns c = whole_is step_read (parts c.loop-rest.steps.items) c.loop-rest.left c.loop-rest.rest.now _ (sym c.is_empty.ensures ∙ c.loop-rest-test.false) c.loop-rest.invariant
