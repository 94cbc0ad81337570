use Rattle.std.proofs.Common.{◌≡◌, ◌∙◌, sym, ap, get_or, Some}
use Rattle.std.specs.Prelude.{position}
use Rattle.std.specs.Str.{bytes_eq}
use Rattle.app_words.proofs.CallingLemmas.{export_found, export_missing}
use Rattle.app_words.proofs.calling.export_named.Goals as goal

pub returns-in-Some : goal.returns-in-Some
returns-in-Some c =
    let es = c.args.index.now.exports.items in
    let same = c.as_slice-exports.ensures.value in
    let e = c.index-exports-place.result in
    let place : position (λ e. bytes_eq e.name c.args.name.now) es ≡ Some c.in-Some.place = ap (position (λ e. bytes_eq e.name c.args.name.now)) (sym same) ∙ sym c.place_of.ensures ∙ c.in-Some.is in
    export_found c.args.name.now es c.in-Some.place e place (c.index-exports-place.is ∙ ap (λ xs. get_or xs c.in-Some.place e) same)

pub returns-in-None : goal.returns-in-None
returns-in-None c =
    let es = c.args.index.now.exports.items in
    let same = c.as_slice-exports.ensures.value in
    export_missing c.args.name.now es (ap (position (λ e. bytes_eq e.name c.args.name.now)) (sym same) ∙ sym c.place_of.ensures ∙ c.in-None.is)
