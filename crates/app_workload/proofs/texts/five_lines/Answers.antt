use Rattle.std.proofs.Common.{◌≡◌, ◌∙◌, ◌∷◌, ◌++◌, [], ap, append_assoc, codes, sym}
use Rattle.std.specs.Fmt.{decimal}
use Rattle.app_workload.proofs.texts.five_lines.Goals as goal

pub returns : goal.returns
returns c =
    let bytes = decimal c.args.bytes in
    let functions = decimal c.args.functions in
    let last = codes "pack " ++ (c.args.played.now ++ (codes "reduction " ++ (c.args.reduction.now ++ c.args.counts.now))) in
    let second : functions ++ (10 ∷ last) ≡ (functions ++ (10 ∷ [])) ++ last = sym (append_assoc functions (10 ∷ []) last) in
    let rest = codes "functions " ++ ((functions ++ (10 ∷ [])) ++ last) in
    c.from.ensures
    ∙ (c.in_ok-format.ensures.ok
    ∙ (ap (λ t. codes "bytes " ++ (bytes ++ (10 ∷ (codes "functions " ++ t)))) second
    ∙ ap (λ t. codes "bytes " ++ t) (sym (append_assoc bytes (10 ∷ []) rest))))
