use Rattle.std.proofs.Common.{◌≡◌, ◌∷◌, [], List, ℕ, ◌∙◌, sym, subst}
use Rattle.wm_ast.specs.Section.{header}
use Rattle.wm_ast.specs.Spelling.{Spells}
use Rattle.wm_gen.specs.Shortest.{section_bytes, module_bytes}
use Rattle.wm_gen.specs.Workload.{workload}
use Rattle.wm_gen.proofs.CodeLaws.{in_turn, whole_module}
use Rattle.wm_gen.proofs.WholeLaws.{workload_spelled}
use Rattle.wm_gen.proofs.generating.generate.Goals as goal

is_whole : (c : goal.After-drop-kinds-2) → c.from.result ≡ module_bytes (workload c.args.number c.args.size)
is_whole c =
    whole_module c.args.number c.args.size c.as_slice.result.now c.as_slice-2.result.now c.as_slice-3.result.now c.from.result
    (c.as_slice.ensures.value ∙ c.in_ok-kinds.ensures) (c.as_slice-2.ensures.value ∙ c.in_ok-exports.ensures) (c.as_slice-3.ensures.value ∙ c.in_ok-code.ensures)
    (in_turn header c.in_ok-bytes.bytes.items c.push_section.new.bytes.items c.push_section-2.new.bytes.items c.push_section-3.new.bytes.items c.push_section-4.new.bytes.items c.push_section-5.new.bytes.items
    (section_bytes 1 (1 ∷ 0x60 ∷ 0 ∷ 1 ∷ 0x7E ∷ [])) (section_bytes 3 c.as_slice.result.now) (section_bytes 5 (1 ∷ 0 ∷ 1 ∷ [])) (section_bytes 7 c.as_slice-2.result.now) (section_bytes 10 c.as_slice-3.result.now) c.from.result
    c.in_ok-bytes.ensures.items c.in_ok-push_section.ensures c.in_ok-push_section-2.ensures c.in_ok-push_section-3.ensures c.in_ok-push_section-4.ensures c.in_ok-push_section-5.ensures c.from.ensures)

pub returns-clause-shortest : goal.returns-clause-shortest
returns-clause-shortest c = is_whole c

pub returns-clause-spells : goal.returns-clause-spells
returns-clause-spells c =
    subst (λ (bytes : List ℕ). Spells bytes (workload c.args.number c.args.size)) (sym (is_whole c)) (workload_spelled c.args.number c.args.size c.requires.most)
