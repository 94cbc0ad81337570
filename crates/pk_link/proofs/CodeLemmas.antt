-- What the loops of the code keep.
use Rattle.std.proofs.Common.{◌≡◌, ℕ, List, ◌++◌, sym, ap, ◌∙◌, append_assoc, map}
use Rattle.mc_cmd.specs.Form.{Text}
use Rattle.wm_ast.specs.declared.module.Module.{Module}
use Rattle.wm_ast.specs.Instance.{exported_functions}
use Rattle.cc_line.specs.Helpers.{each_once}
use Rattle.cc_line.specs.Item.{Helper}
use Rattle.cc_pieces.specs.declared.part.Part.{Part as Made}
use Rattle.cc_body.specs.Parts.{parts_helpers}
use Rattle.cc_pieces.specs.Parts.{parts_view}
use Rattle.cc_sched.specs.Functions.{sched_functions}
use Rattle.pk_link.specs.Functions.{piece_function, pack_functions}
use Rattle.pk_agree.specs.Heaviest.{heaviest, pack_parts}

-- the three lists of functions, one behind the other
pub functions_linked : (m m1 : Module) (ns : Text) (w : ℕ) (exports given : List ℕ) (parts parts1 parts2 : List Made) (a b h c : List Helper) → m1 ≡ m
    → exports ≡ exported_functions m1 → given ≡ exports → w ≡ heaviest m → a ≡ sched_functions ns w given → parts_view parts ≡ pack_parts m → parts1 ≡ parts → b ≡ a ++ map (piece_function ns) (parts_view parts1)
    → parts2 ≡ parts → h ≡ each_once (parts_helpers ns (parts_view parts2)) → c ≡ b ++ h → c ≡ pack_functions m ns
functions_linked m m1 ns w exports given parts parts1 parts2 a b h c e ex gi wi fo pa p1 fb p2 fh fc =
    let fa : a ≡ sched_functions ns (heaviest m) given = fo ∙ ap (λ k. sched_functions ns k given) wi in
    let ee : exported_functions m ≡ given = sym (gi ∙ ex ∙ ap exported_functions e) in
    let one : pack_parts m ≡ parts_view parts1 = sym (ap parts_view p1 ∙ pa) in
    let two : pack_parts m ≡ parts_view parts2 = sym (ap parts_view p2 ∙ pa) in
    let x : b ≡ sched_functions ns (heaviest m) (exported_functions m) ++ map (piece_function ns) (pack_parts m) = fb ∙ ap (λ l. l ++ map (piece_function ns) (parts_view parts1)) (fa ∙ ap (sched_functions ns (heaviest m)) (sym ee)) ∙ ap (λ l. sched_functions ns (heaviest m) (exported_functions m) ++ map (piece_function ns) l) (sym one) in
    let y : h ≡ each_once (parts_helpers ns (pack_parts m)) = fh ∙ ap (λ l. each_once (parts_helpers ns l)) (sym two) in
    fc ∙ ap (λ l. l ++ h) x ∙ ap (λ l. (sched_functions ns (heaviest m) (exported_functions m) ++ map (piece_function ns) (pack_parts m)) ++ l) y
    ∙ append_assoc (sched_functions ns (heaviest m) (exported_functions m)) (map (piece_function ns) (pack_parts m)) (each_once (parts_helpers ns (pack_parts m)))
