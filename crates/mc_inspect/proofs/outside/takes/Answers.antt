use Rattle.std.proofs.Common.{◌≡◌, ◌+◌, ◌*◌, Some, ap, false, length, rules, subst, sym, true, ◌∙◌}
use Rattle.std.specs.Prelude.{not, option_map}
use Rattle.cc_pieces.specs.Entry.{args_of_piece}
use Rattle.pk_sight.proofs.ShownLemmas.{told_none, told_some}
use Rattle.mc_inspect.specs.steps.Openings.{AreTaken, type_at}
use Rattle.mc_inspect.proofs.OutsideCalls.{none_copied, some_copied}
use Rattle.mc_inspect.proofs.Takings.{no_beginning, no_first_cut, no_type, none_handed_in, not_outermost, not_sized, taken_tells}
use Rattle.mc_inspect.proofs.outside.takes.Goals as goal

pub returns-in_default : goal.returns-in_default
returns-in_default c = no_beginning c.args.m.now c.args.reading.now c.args.number (told_none _ _ _ c.in_default.is c.beginning.ensures)

pub returns-in_default-args : goal.returns-in_default-args
returns-in_default-args c = none_handed_in c.args.m.now c.args.reading.now c.args.number c.in_default-args.is

pub returns-then-is_none : goal.returns-then-is_none
returns-then-is_none c =
    no_type c.args.m.now c.args.reading.now c.args.number c.in-Some.func (told_some _ _ _ _ c.in-Some.is c.beginning.ensures)
    (ap (λ k. type_at k c.in-Some.func) (sym c.module.ensures.same) ∙ sym c.type_of.ensures ∙ none_copied c.type_of.result (c.is_none.ensures ∙ ap not c.if-is_none.true))

pub returns-then-not-branch : goal.returns-then-not-branch
returns-then-not-branch c =
    let never : c.in_ok-is_outermost.field-0 ≡ false = search rules in
    not_outermost c.args.m.now c.args.reading.now c.args.number c.in-Some.func (told_some _ _ _ _ c.in-Some.is c.beginning.ensures) c.in_ok-is_outermost.field-0 never c.in_ok-is_outermost.ensures

pub returns-in_default-2 : goal.returns-in_default-2
returns-in_default-2 c =
    no_first_cut c.args.m.now c.args.reading.now c.args.number c.in-Some.func (told_some _ _ _ _ c.in-Some.is c.beginning.ensures) (told_none _ _ _ c.in_default-2.is c.in_ok-spot.ensures)

pub returns-then-places-spot : goal.returns-then-places-spot
returns-then-places-spot c =
    not_sized c.args.m.now c.args.reading.now c.args.number c.in-Some.func (told_some _ _ _ _ c.in-Some.is c.beginning.ensures) c.in-Some-2.spot
    (told_some _ _ _ _ c.in-Some-2.is c.in_ok-spot.ensures) (λ e. c.if-places-spot.true (ap length c.as_slice-places.ensures.value ∙ e))

pub returns : goal.returns
returns c =
    let func = c.in-Some.func in
    let args = c.as_slice.result.now in
    let from = args_of_piece * (c.args.number + 1) in
    let type = some_copied c.type_of.result (c.is_none.ensures ∙ ap not c.if-is_none.false) in
    let so : c.in_ok-is_outermost.field-0 ≡ true = search rules in
    taken_tells c.args.m.now c.args.reading.now c.args.number func (told_some _ _ _ _ c.in-Some.is c.beginning.ensures) c.in-Some-2.spot
    (told_some _ _ _ _ c.in-Some-2.is c.in_ok-spot.ensures) c.requires type.0
    (ap (λ k. type_at k func) (sym c.module.ensures.same) ∙ sym c.type_of.ensures ∙ type.1)
    (λ program p read. (c.in_ok-is_outermost.ensures program p read).0 so) args
    (ap (option_map (λ v. v.items)) c.in-Some-args.is ∙ ap Some (sym c.as_slice.ensures.value))
    (ap length (sym c.as_slice-places.ensures.value) ∙ c.if-places-spot.false) c.are_taken.result
    (subst (λ zs. (c.are_taken.result ≡ true → AreTaken zs args from) × (AreTaken zs args from → c.are_taken.result ≡ true)) c.as_slice-places.ensures.value c.are_taken.ensures)
