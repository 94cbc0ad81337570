use Rattle.std.proofs.Common.{◌≡◌, ℕ, List, [], ◌∷◌, length, map, refl, ap, ◌∙◌, arith}
use Rattle.std.specs.List.{zip}
use Rattle.wm_ast.specs.Part as parts
use Rattle.wm_ast.specs.Spelling.{kind_of, body_of}
use Rattle.wm_decode.specs.steps.ContentReading.{seen_body}
use Rattle.wm_decode.specs.steps.Gathering.{func_of}
use Rattle.wm_decode.specs.declared.segment.Body.{Body}
use Rattle.wm_decode.proofs.section.module.Goals as goal

kinds_of : (ks : List ℕ) (bs : List Body) → length ks ≡ length bs → map kind_of (map func_of (zip ks bs)) ≡ ks
kinds_of [] bs e = refl
kinds_of (k ∷ ks) [] e = absurd (omega arith)
kinds_of (k ∷ ks) (b ∷ bs) e = ap (λ (l : List ℕ). k ∷ l) (kinds_of ks bs (omega arith))

bodies_of : (ks : List ℕ) (bs : List Body) → length ks ≡ length bs → map body_of (map func_of (zip ks bs)) ≡ map seen_body bs
bodies_of [] [] e = refl
bodies_of [] (b ∷ bs) e = absurd (omega arith)
bodies_of (k ∷ ks) [] e = absurd (omega arith)
bodies_of (k ∷ ks) (b ∷ bs) e = ap (λ (l : List parts.Body). seen_body b ∷ l) (bodies_of ks bs (omega arith))

pub returns : goal.returns
returns c = record {
  types = refl;
  imports = refl;
  kinds = ap (map kind_of) c.in_ok-funcs.ensures ∙ kinds_of c.args.parts.kinds c.args.parts.bodies c.requires;
  bodies = ap (map body_of) c.in_ok-funcs.ensures ∙ bodies_of c.args.parts.kinds c.args.parts.bodies c.requires;
  tables = c.in_ok-tables.ensures;
  memories = refl;
  globals = refl;
  exports = refl;
  start = refl;
  elements = refl;
  datas = refl;
}
