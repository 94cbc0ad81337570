-- Paths and values, as words of lines.
use Rattle.std.specs.Prelude.{ℕ, List, [], ◌∷◌, ◌++◌, nat_eq, nat_le, if◌then◌else◌, Option, Some, None}
use Rattle.std.specs.Fmt.{signed_decimal}
use Rattle.mc_nbt.specs.Tree.{Tree, Part, key, place}
use Rattle.mc_nbt.specs.Path.{is_path}
use Rattle.mc_nbt.specs.Shape.{is_tree}
use Rattle.mc_nbt.specs.Spelling.{tree_text}
use Rattle.mc_nbt.specs.Beginning.{Answer, spelled, broken}
use Rattle.mc_nbt.specs.steps.Reading.{read_text}
use Rattle.mc_cmd.specs.Form.{Text, Last, guessed}
use Rattle.mc_cmd.specs.Word.{int_value}

-- a path: a key, and then `.KEY` or `[NUM]` for each step
abbrev pub parts_text : List Part → Text
parts_text [] = []
parts_text (key k ∷ ps) = 46 ∷ (k ++ parts_text ps)
parts_text (place i ∷ ps) = 91 ∷ (signed_decimal i ++ (93 ∷ parts_text ps))

abbrev pub path_text : List Part → Text
path_text [] = []
path_text (key k ∷ ps) = k ++ parts_text ps
path_text (place i ∷ ps) = parts_text (place i ∷ ps)

-- the bytes up to the next mark, and the steps behind it
abbrev pub mark_at : ℕ → Text × List Part → Text × List Part
mark_at b p =
    if nat_eq b 46 then ([], key p.0 ∷ p.1)
    else if nat_eq b 91 then ([], place (int_value p.0) ∷ p.1)
    else if nat_eq b 93 then ([], p.1)
    else (b ∷ p.0, p.1)

abbrev pub marks : Text → Text × List Part
marks [] = ([], [])
marks (b ∷ t) = mark_at b (marks t)

abbrev pub path_value : Text → List Part
path_value t = key (marks t).0 ∷ (marks t).1

abbrev pub path : Last (List Part)
path = guessed path_text is_path path_value

-- a value: the spelling of a tree that is at most 64 deep
abbrev pub value_in : Answer → Option Tree
value_in (spelled t d) = if nat_le d 64 then Some t else None
value_in (broken n) = None

abbrev pub value : Last Tree
value = record { text = tree_text; fits = is_tree; read = λ t. value_in (read_text t) }
