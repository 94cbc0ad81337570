use Rattle.std.proofs.Common.{◌≡◌, ◌∙◌, sym, ap, true, false, Some, None}
use Rattle.std.specs.Prelude.{if◌then◌else◌}
use Rattle.app_words.specs.Script.{is_export_name}
use Rattle.app_words.proofs.ScriptLemmas.{name-utf8, name-no_utf8}
use Rattle.app_words.proofs.reading.read_name.Goals as goal

pub returns-in_default : goal.returns-in_default
returns-in_default c = ap (λ b. if b then Some c.args.w.now else None) (sym (name-no_utf8 c.args.w.now c.in_default.ensures.cases.0))

pub returns-then-not-is_visible_word : goal.returns-then-not-is_visible_word
returns-then-not-is_visible_word c =
    let named : is_export_name c.args.w.now ≡ false = name-utf8 c.args.w.now c.in-Ok.ensures.cases.1 ∙ sym c.is_visible_word.ensures ∙ c.if-not-is_visible_word.true in
    ap (λ b. if b then Some c.args.w.now else None) (sym named)

pub returns : goal.returns
returns c =
    let named : is_export_name c.args.w.now ≡ true = name-utf8 c.args.w.now c.in-Ok.ensures.cases.1 ∙ sym c.is_visible_word.ensures ∙ c.if-not-is_visible_word.false in
    ap Some (c.in_ok-new.ensures ∙ c.in-Ok.ensures.cases.0) ∙ ap (λ b. if b then Some c.args.w.now else None) (sym named)
