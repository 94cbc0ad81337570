-- The JSON files of a pack: the values that are written, and what bytes say.
use Rattle.std.specs.Prelude.{ℕ, List, [], ◌∷◌, Bool, false, ◌&&◌, nat_eq, if◌then◌else◌, Option, Some, None}
use Rattle.std.specs.Prelude.{is_some, map, option_map, option_and_then, codes}
use Rattle.std.specs.Str.{bytes_eq, is_utf8}
use Rattle.serde_json.specs.Data.{Data, null, number, unsigned, string, array, object, Items, no_items, item}
use Rattle.serde_json.specs.Data.{no_members, member}
use Rattle.serde_json.specs.Find.{get, as_number, as_str, as_array, as_u64}
use Rattle.serde_json.specs.Read.{read}
use Rattle.serde_json.specs.View.{items_of}
use Rattle.mc_nbt.specs.declared.value.Kind.{Kind}
use Rattle.mc_nbt.specs.declared.value.Kind.TheVariants as kinds
use Rattle.mc_cmd.specs.Form.{Text}
use Rattle.mc_cmd.specs.Layout.{full_name}
use Rattle.mc_cmd.specs.Pack.{ExportType, Index}
use Rattle.mc_cmd.specs.Packing.{is_pack_namespace}

-- ---- what is written

-- `{"pack":{"description":"dpwasm","pack_format":26}}`
abbrev pub meta_data : Data
meta_data =
    object (member (codes "pack") (object
    (member (codes "description") (string (codes "dpwasm"))
    (member (codes "pack_format") (number (unsigned 26)) no_members))) no_members)

-- the tag that runs the function of this name
abbrev pub tag_data : Text → Text → Data
tag_data ns name = object (member (codes "values") (array (item (string (full_name ns name)) no_items)) no_members)

abbrev pub kind_text : Kind → Text
kind_text kinds.I32 = codes "i32"
kind_text kinds.I64 = codes "i64"

abbrev pub kind_data : Kind → Data
kind_data k = string (kind_text k)

abbrev pub result_data : Option Kind → Data
result_data None = null
result_data (Some k) = kind_data k

abbrev pub export_data : ExportType → Data
export_data e =
    object (member (codes "name") (string e.name)
    (member (codes "params") (array (items_of (map kind_data e.params)))
    (member (codes "result") (result_data e.result) no_members)))

-- the index: the exports in their order, the namespace, and the version of this form
abbrev pub index_data : Index → Data
index_data i =
    object (member (codes "exports") (array (items_of (map export_data i.exports)))
    (member (codes "namespace") (string i.ns)
    (member (codes "version") (number (unsigned 1)) no_members)))

-- ---- what is read

-- the value of a JSON text (RFC 8259) as `serde_json` reads it; bytes that aren't UTF-8 have none
abbrev pub json_said : Text → Option Data
json_said bytes = if is_utf8 bytes then read bytes else None

-- what stands under a key
abbrev pub under : Text → Option Data → Option Data
under k o = option_and_then (get k) o

-- the number that it is, where it is a whole number from 0 up and written as one
abbrev pub whole_in : Option Data → Option ℕ
whole_in o = option_and_then as_u64 (option_and_then as_number o)

abbrev pub is_the_number : ℕ → Option ℕ → Bool
is_the_number n None = false
is_the_number n (Some k) = nat_eq k n

abbrev pub text_in : Option Data → Option Text
text_in o = option_and_then as_str o

abbrev pub is_the_text : Text → Option Text → Bool
is_the_text t None = false
is_the_text t (Some s) = bytes_eq s t

-- an object whose `pack` has `pack_format` 26 and a text as `description`
abbrev pub meta_in : Option Data → Bool
meta_in o =
    let pack = under (codes "pack") o in
    is_the_number 26 (whole_in (under (codes "pack_format") pack))
    && is_some (text_in (under (codes "description") pack))

-- it is the list of this one text
abbrev pub is_only : Text → Option Items → Bool
is_only t (Some (item d no_items)) = is_the_text t (as_str d)
is_only t o = false

-- an object whose `values` is the list of this one function
abbrev pub tag_in : Text → Option Data → Bool
tag_in function o = is_only function (option_and_then as_array (under (codes "values") o))

-- what each item of a list says, where each says something
abbrev pub all_in : {A : Type 0} → (Data → Option A) → Items → Option (List A)
all_in f no_items = Some []
all_in f (item d ds) = option_and_then (λ a. option_map (λ rest. a ∷ rest) (all_in f ds)) (f d)

abbrev pub kind_named : Text → Option Kind
kind_named t =
    if bytes_eq t (codes "i32") then Some kinds.I32
    else if bytes_eq t (codes "i64") then Some kinds.I64
    else None

abbrev pub kind_in : Data → Option Kind
kind_in d = option_and_then kind_named (as_str d)

-- `null`, or a kind
abbrev pub result_in : Data → Option (Option Kind)
result_in null = Some None
result_in d = option_map Some (kind_in d)

abbrev pub export_of : Option Text → Option (List Kind) → Option (Option Kind) → Option ExportType
export_of (Some n) (Some ps) (Some r) = Some (record { name = n; params = ps; result = r })
export_of n ps r = None

-- an entry of the exports; each of its three keys has to be there
abbrev pub export_in : Data → Option ExportType
export_in d =
    export_of (text_in (get (codes "name") d))
    (option_and_then (all_in kind_in) (option_and_then as_array (get (codes "params") d)))
    (option_and_then result_in (get (codes "result") d))

abbrev pub index_named : Option Text → Option (List ExportType) → Option Index
index_named (Some ns) (Some es) = if is_pack_namespace ns then Some (record { ns = ns; exports = es }) else None
index_named ns es = None

-- the index that a value says: its version is 1, and its namespace is one of a pack
abbrev pub index_in : Option Data → Option Index
index_in o =
    if is_the_number 1 (whole_in (under (codes "version") o))
    then index_named (text_in (under (codes "namespace") o))
    (option_and_then (all_in export_in) (option_and_then as_array (under (codes "exports") o)))
    else None

-- ---- the same of the bytes of a file

abbrev pub meta_said : Text → Option (Unit {0})
meta_said bytes = if meta_in (json_said bytes) then Some tt else None

abbrev pub tag_said : Text → Text → Option (Unit {0})
tag_said function bytes = if tag_in function (json_said bytes) then Some tt else None

abbrev pub index_said : Text → Option Index
index_said bytes = index_in (json_said bytes)
