use Rattle.std.proofs.Common.{◌≡◌, ℕ, suc, ◌-◌, ◌≤◌, List, [], ◌∷◌, length, get_or, map, refl, ap, sym, ◌∙◌, arith}
use Rattle.std.specs.Prelude.{Some}
use Rattle.mc_nbt.specs.steps.Reading.{last_key}
use Rattle.mc_nbt.specs.View.{entry}
use Rattle.mc_nbt.specs.declared.tree.Nbt.{Nbt}
use Rattle.mc_nbt.proofs.build.last_key.Goals as goal

last_key-is : (es : List (List ℕ × Nbt)) (d : List ℕ × Nbt) → 1 ≤ length es → last_key (map entry es) ≡ Some (get_or es (length es - 1) d).0
last_key-is [] d h = absurd (omega arith)
last_key-is (e ∷ []) d h = refl
last_key-is (e ∷ f ∷ es) d h =
    let back : length (e ∷ f ∷ es) - 1 ≡ suc (length (f ∷ es) - 1) = omega arith in
    let more : 1 ≤ length (f ∷ es) = omega arith in
    last_key-is (f ∷ es) d more ∙ ap (λ i. Some (get_or (e ∷ f ∷ es) i d).0) (sym back)

pub returns-in-len1-up : goal.returns-in-len1-up
returns-in-len1-up c =
    ap Some (c.as_bytes.ensures ∙ ap (λ e. e.0) c.last-item.is)
    ∙ sym (last_key-is c.args.entries.now c.last-item.result c.in-len1-up.len_at_least)
