-- What the reader of trees answers, as the grammar has it.
use Rattle.std.proofs.Common.{◌≡◌, Option, Some, None, refl, sym, ap, ◌∙◌, arith}
use Rattle.std.proofs.lemmas.Bool.{leb-true}
use Rattle.mc_nbt.specs.Tree.{Tree, depth}
use Rattle.mc_nbt.specs.Shape.{is_shaped, IsTree}
use Rattle.mc_nbt.specs.Spelling.{Spells}
use Rattle.mc_nbt.specs.Beginning.{SpellsNone, SpellsDeep}
use Rattle.mc_nbt.proofs.TestLemmas.{and_first, and_second}
use Rattle.mc_nbt.proofs.ReadingComplete.{one_tree}
use Rattle.mc_cmd.specs.Form.{Text}
use Rattle.mc_cmd.specs.Value.{value}
use Rattle.mc_cmd.proofs.ValueLemmas.{value_is}

pub value_some : (w : Text) (v : Tree) → Spells w v → IsTree v → Some v ≡ value.read w
value_some w v s f = sym (ap value.read s.spelled ∙ value_is.reads v f)

value_none : (w : Text) → ((v : Tree) → Spells w v → IsTree v → ⊥) → None ≡ value.read w
value_none w nots = go (value.read w) refl
  where
    go : (o : Option Tree) → value.read w ≡ o → None ≡ value.read w
    go None e = sym e
    go (Some v) e = let s = value_is.spells w v e in absurd (nots v record { shaped = and_first _ _ s.1; spelled = s.0 } s.1)

pub value_not_spelled : (w : Text) → SpellsNone w → None ≡ value.read w
value_not_spelled w nots = value_none w (λ v s f. nots v s)

pub value_deep : (w : Text) → SpellsDeep w → None ≡ value.read w
value_deep w d = value_none w go
  where
    go : (v : Tree) → Spells w v → IsTree v → ⊥
    go v s f =
        let small = leb-true (depth v) 64 (and_second (is_shaped v) _ f) in
        let same : depth v ≡ depth d.tree = ap depth (one_tree w v d.tree s d.spells) in
        let deep = d.deep in
        omega (arith, small, same, deep)
