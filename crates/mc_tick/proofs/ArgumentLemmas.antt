-- The arguments of a call, as a command puts them into the storage.
use Rattle.std.proofs.Common.{◌≡◌, ◌∙◌, ◌≤◌, ap, refl, List, [], ◌∷◌, ◌++◌, map, true, arith}
use Rattle.std.specs.Prelude.{ℤ, codes}
use Rattle.std.specs.List.{list_all}
use Rattle.std.proofs.lemmas.Bool.{le-leb}
use Rattle.mc_nbt.specs.Shape.{is_tree, is_one_kind}
use Rattle.mc_nbt.specs.Tree.{Tree, Part, int, items, items_depth, list_of, depth}
use Rattle.mc_nbt.specs.Word.{is_int, is_key}
use Rattle.mc_nbt.proofs.ShapeLemmas.{ints_shaped, ints_one_kind}
use Rattle.mc_nbt.proofs.TreeLemmas.{of_items-items}
use Rattle.mc_nbt.specs.declared.value.Value.{Value}
use Rattle.mc_nbt.specs.declared.value.Value.TheVariants.{I32, I64}
use Rattle.mc_cmd.specs.Form.{Text}
use Rattle.mc_cmd.specs.Command.{plain, set_value}
use Rattle.mc_cmd.specs.Grammar.{cmd_fits}
use Rattle.mc_cmd.specs.Layout.{io_of}
use Rattle.mc_cmd.specs.Pack as pack
use Rattle.mc_cmd.specs.Packing.{is_pack_namespace}
use Rattle.mc_cmd.proofs.FormLemmas.{and_both}
use Rattle.mc_cmd.proofs.NameLemmas.{namespace_of, io_id, key_path}
use Rattle.mc_layout.specs.Paths.{at_key}

ints_depth : (zs : List ℤ) → items_depth (items (map int zs)) ≤ 1
ints_depth [] = omega arith
ints_depth (z ∷ zs) = let a = ints_depth zs in omega arith

-- a list of ints may stand in a storage
ints_tree : (zs : List ℤ) → list_all is_int zs ≡ true → is_tree (list_of (map int zs)) ≡ true
ints_tree zs h =
    let shallow : depth (list_of (map int zs)) ≤ 64 = let a = ints_depth zs in omega arith in
    and_both _ _ (and_both _ _ (ints_shaped zs ∙ h) (ap is_one_kind (of_items-items (map int zs)) ∙ ints_one_kind zs)) (le-leb _ 64 shallow)

args_fit : (ns : Text) (zs : List ℤ) → is_pack_namespace ns ≡ true → list_all is_int zs ≡ true → cmd_fits (plain (set_value (io_of ns) (at_key (codes "args")) (list_of (map int zs)))) ≡ true
unfolding is_key
args_fit ns zs h fit = and_both _ _ (and_both _ _ (io_id ns (namespace_of ns h)) (key_path (codes "args") refl)) (ints_tree zs fit)

-- the command that sets the arguments is one
pub args_command : (ns id : Text) (ps : List Part) (t : Tree) (zs : List ℤ) → is_pack_namespace ns ≡ true → list_all is_int zs ≡ true → id ≡ io_of ns → ps ≡ at_key (codes "args") → t ≡ list_of (map int zs) → cmd_fits (plain (set_value id ps t)) ≡ true
args_command ns id ps t zs h fit a b e =
    ap (λ i. cmd_fits (plain (set_value i ps t))) a ∙ ap (λ qs. cmd_fits (plain (set_value (io_of ns) qs t))) b
    ∙ ap (λ u. cmd_fits (plain (set_value (io_of ns) (at_key (codes "args")) u))) e ∙ args_fit ns zs h fit

-- the ints of one more argument
pub ints_of-cons : (v : Value) (vs : List Value) → pack.ints_of (v ∷ vs) ≡ pack.ints_of (v ∷ []) ++ pack.ints_of vs
ints_of-cons (I32 z) vs = refl
ints_of-cons (I64 z) vs = refl

pub ruleset ints_of_more = (ints_of-cons)
