use Rattle.std.proofs.Common.{ap, sym, ◌∙◌}
use Rattle.std.specs.Prelude.{not}
use Rattle.mc_inspect.proofs.OutsideCalls.{entry_answer, no_function, none_copied, some_copied}
use Rattle.mc_inspect.proofs.outside.enters.Goals as goal

pub returns-then-is_none : goal.returns-then-is_none
returns-then-is_none c =
    no_function c.args.m.now c.args.reading.now c.args.func
    (sym c.type_of.ensures ∙ none_copied c.type_of.result (c.is_none.ensures ∙ ap not c.if-is_none.true))

pub returns : goal.returns
returns c =
    let t = some_copied c.type_of.result (c.is_none.ensures ∙ ap not c.if-is_none.false) in
    entry_answer c.args.m.now c.args.reading.now c.args.func t.0 (sym c.type_of.ensures ∙ t.1) c.has_args.result c.has_args.ensures
