-- Where the files of a pack lie in its folder, and which of them are functions.
use Rattle.std.specs.Prelude.{ℕ, ◌∷◌, ◌++◌, if◌then◌else◌, Option, Some, None, option_and_then, codes}
use Rattle.std.specs.List.{filter_map}
use Rattle.mc_cmd.specs.Form.{Text, strip_end}
use Rattle.mc_cmd.specs.Chain.{Texts}
use Rattle.mc_cmd.specs.Word.{is_function_name}

-- the most bytes that a file of a pack may have
abbrev pub pack_cap : ℕ
pack_cap = 16777216

-- what has this name in a folder
abbrev pub at : Text → Text → Text
at dir name = dir ++ (47 ∷ name)

-- the folder of the tags, and that of the functions of a namespace
abbrev pub tags_of : Text → Text
tags_of dir = at dir (codes "data/minecraft/tags/functions")

abbrev pub functions_of : Text → Text → Text
functions_of dir ns = at dir (codes "data/" ++ (ns ++ codes "/functions"))

-- the files of a tag and of a function, by their names
abbrev pub tag_file : Text → Text
tag_file name = name ++ codes ".json"

abbrev pub function_file : Text → Text
function_file name = name ++ codes ".mcfunction"

-- the function whose file has this name: 1 to 64 small letters, digits and `_`, and `.mcfunction`
abbrev pub function_named : Text → Option Text
function_named file =
    option_and_then (λ n. if is_function_name n then Some n else None) (strip_end (codes ".mcfunction") file)

-- the functions among the files of these names; all else is passed over
abbrev pub function_names : Texts → Texts
function_names files = filter_map function_named files
