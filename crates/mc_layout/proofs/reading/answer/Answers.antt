use Rattle.std.proofs.Common.{◌≡◌, ◌∙◌, ap, sym, List, Option}
use Rattle.std.specs.Prelude.{option_map, codes}
use Rattle.mc_nbt.specs.Tree.{Tree, Part, select}
use Rattle.mc_nbt.specs.View.{sel}
use Rattle.mc_cmd.specs.Form.{Text}
use Rattle.mc_cmd.specs.Layout.{io_value}
use Rattle.mc_cmd.specs.World.{tree_in}
use Rattle.mc_world.specs.WorldView.{seen}
use Rattle.mc_layout.specs.Paths.{at_key}
use Rattle.mc_layout.specs.State.{int_in}
use Rattle.mc_layout.specs.steps.Numbers.{answer_from}
use Rattle.mc_layout.proofs.LayoutLemmas.{answer-from}
use Rattle.mc_layout.proofs.reading.answer.Goals as goal

pub returns : goal.returns
returns c =
    let names = c.args.names.now in
    let ns = names.ns in
    let w = seen c.args.world.now in
    let at = λ (k : Text) (ps : List Part) (o : Option Tree) (j : ps ≡ at_key k) (e : o ≡ select (tree_in w names.io) ps).
    e ∙ ap (select (tree_in w names.io)) j ∙ ap (λ i. select (tree_in w i) (at_key k)) names.io_is in
    let value : option_map sel c.selected-value.result ≡ io_value ns w (codes "result") = at _ _ _ names.result_is c.selected-value.ensures in
    let trap : option_map sel c.selected-trap.result ≡ io_value ns w (codes "trap") = at _ _ _ names.trap_is c.selected-trap.ensures in
    c.answer_of.ensures
    ∙ ap (λ o. answer_from o (option_map sel c.selected-value.result) c.int_of.result) c.state.ensures
    ∙ ap (λ o. answer_from (int_in (io_value ns w (codes "state"))) o c.int_of.result) value
    ∙ ap (answer_from (int_in (io_value ns w (codes "state"))) (io_value ns w (codes "result"))) (c.int_of.ensures ∙ ap int_in trap)
    ∙ sym (answer-from ns w)
