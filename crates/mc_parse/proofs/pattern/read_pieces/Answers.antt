use Rattle.std.proofs.Common.{◌≡◌, ◌-◌, ◌++◌, ◌∷◌, [], Some, None, sym, ap, ◌∙◌, arith}
use Rattle.std.specs.Prelude.{option_map, suc}
use Rattle.std.proofs.lemmas.List.{map-append}
use Rattle.std.proofs.lemmas.Bool.Decides.{nat_tests}
use Rattle.mc_cmd.specs.View.{part_view, pattern_view}
use Rattle.mc_parse.specs.steps.Many.{many}
use Rattle.mc_parse.specs.steps.Pieces.{piece_read}
use Rattle.mc_parse.proofs.ManyLemmas.{goes_on, stops, ends, whole_is}
use Rattle.mc_parse.proofs.pattern.read_pieces.Goals as goal

pub returns-then-left-eq0 : goal.returns-then-left-eq0
returns-then-left-eq0 c =
    let none : c.loop-rest.left ≡ 0 = grind (arith, nat_tests, c.if-left-eq0.true) in
    ends piece_read (pattern_view c.loop-rest.parts.items) c.loop-rest.left c.loop-rest.rest.now _ none (sym c.is_empty.ensures ∙ c.loop-rest-test.true) c.loop-rest.invariant

pub returns-in_default : goal.returns-in_default
returns-in_default c =
    let read : piece_read c.loop-rest.rest.now ≡ None = sym c.in_ok-part.ensures ∙ ap (option_map (λ p. (part_view p.0, p.1.now))) c.in_default.is in
    stops piece_read (pattern_view c.loop-rest.parts.items) c.loop-rest.left c.loop-rest.rest.now _ (sym c.is_empty.ensures ∙ c.loop-rest-test.true) read c.loop-rest.invariant

pub loop-rest-preserved : goal.loop-rest-preserved
loop-rest-preserved c =
    let left = c.loop-rest.left in
    let some : left ≡ suc (left - 1) = grind (arith, nat_tests, c.if-left-eq0.false) in
    let read : piece_read c.loop-rest.rest.now ≡ Some (part_view c.in-Some.part, c.in-Some.more.now) = sym c.in_ok-part.ensures ∙ ap (option_map (λ p. (part_view p.0, p.1.now))) c.in-Some.is in
    let grown : pattern_view c.push.new.self.items ≡ pattern_view c.loop-rest.parts.items ++ (part_view c.in-Some.part ∷ []) = ap pattern_view c.in_ok-push.ensures.items ∙ map-append part_view c.loop-rest.parts.items (c.in-Some.part ∷ []) in
    ap (λ front. option_map (λ l. front ++ l) (many piece_read (left - 1) c.in-Some.more.now)) grown
    ∙ goes_on piece_read (pattern_view c.loop-rest.parts.items) left (left - 1) c.loop-rest.rest.now (part_view c.in-Some.part, c.in-Some.more.now) _ some (sym c.is_empty.ensures ∙ c.loop-rest-test.true) read c.loop-rest.invariant

pub returns : goal.returns
returns c = whole_is piece_read (pattern_view c.loop-rest.parts.items) c.loop-rest.left c.loop-rest.rest.now _ (sym c.is_empty.ensures ∙ c.loop-rest-test.false) c.loop-rest.invariant
