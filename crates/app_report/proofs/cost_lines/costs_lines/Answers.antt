use Rattle.std.proofs.Common.{◌≡◌, ◌∙◌, ap, ◌++◌, append_assoc, true, codes}
use Rattle.std.specs.Prelude.{string_bytes}
use Rattle.mc_cmd.specs.Form.{Text}
use Rattle.app_report.specs.Costs.{cost_line, function_lines, same_group, tally}
use Rattle.app_report.specs.declared.pieces.Group.TheVariants as groups
use Rattle.app_report.proofs.cost_lines.costs_lines.Goals as goal

-- three texts behind another, one after the other
joined : (t u v w f a b d : Text) → t ≡ f → u ≡ t ++ a → v ≡ u ++ b → w ≡ v ++ d → w ≡ f ++ (a ++ (b ++ d))
joined t u v w f a b d first second third fourth =
    fourth ∙ ap (λ l. l ++ d) (third ∙ ap (λ l. l ++ b) second) ∙ append_assoc (t ++ a) b d ∙ append_assoc t a (b ++ d)
    ∙ ap (λ l. l ++ (a ++ (b ++ d))) first

pub returns : goal.returns
returns c =
    joined (string_bytes c.in_ok-text.text) (string_bytes c.push_str.new.self) (string_bytes c.push_str-2.new.self) (string_bytes c.push_str-3.new.self)
    (function_lines c.args.funcs c.args.pieces.now) (cost_line (codes "init") (tally (same_group groups.Instantiation) c.args.pieces.now)) (cost_line (codes "shared") (tally (same_group groups.Shared) c.args.pieces.now)) (cost_line (codes "total") (tally (λ g. true) c.args.pieces.now))
    c.in_ok-text.ensures
    (c.in_ok-push_str.ensures.bytes ∙ ap (λ l. string_bytes c.in_ok-text.text ++ l) (c.as_str.ensures.value ∙ c.in_ok-init.ensures ∙ ap (cost_line (codes "init")) c.tally_of.ensures))
    (c.in_ok-push_str-2.ensures.bytes ∙ ap (λ l. string_bytes c.push_str.new.self ++ l) (c.as_str-2.ensures.value ∙ c.in_ok-shared.ensures ∙ ap (cost_line (codes "shared")) c.tally_of-2.ensures))
    (c.in_ok-push_str-3.ensures.bytes ∙ ap (λ l. string_bytes c.push_str-2.new.self ++ l) (c.as_str-3.ensures.value ∙ c.in_ok-all.ensures ∙ ap (cost_line (codes "total")) c.total.ensures))
