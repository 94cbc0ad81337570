-- The values of a pack's JSON files, and what their bytes say.
use Rattle.std.proofs.Common.{◌≡◌, ◌∙◌, sym, ap, refl, ◌≤◌, map, arith, List, [], ◌∷◌, Bool, true, false, Option, Some, None, length}
use Rattle.std.specs.Prelude.{if◌then◌else◌}
use Rattle.std.specs.Str.{IsUtf8, is_utf8}
use Rattle.std.proofs.lemmas.Str.{is_utf8-from_IsUtf8, IsUtf8-from_is_utf8}
use Rattle.serde_json.specs.Data.{Data, depth, items_depth}
use Rattle.serde_json.specs.View.{items_of, items_view}
use Rattle.serde_json.specs.Written.{compact_text, has_float, items_have_float}
use Rattle.serde_json.specs.declared.value.Value.{Value}
use Rattle.serde_json.specs.Read.{read, max_depth}
use Rattle.mc_nbt.specs.declared.value.Kind.{Kind}
use Rattle.mc_nbt.specs.declared.value.Kind.TheVariants as kinds
use Rattle.mc_cmd.specs.Form.{Text}
use Rattle.mc_cmd.specs.Layout.{full_name}
use Rattle.mc_cmd.specs.Pack.{ExportType, Index}
use Rattle.mc_cmd.specs.Packing.{is_pack_namespace}
use Rattle.mc_cmd.proofs.FormLemmas.{bytes_refl}
use Rattle.pk_files.specs.Json.{kind_data, result_data, export_data, index_data, tag_data, json_said, is_only, all_in, kind_in, result_in, export_in, index_in, index_said, tag_in, tag_said}

pub said_value : (bytes : Text) (d : Data) → IsUtf8 bytes → read bytes ≡ Some d → json_said bytes ≡ Some d
said_value bytes d u h = rw (is_utf8-from_IsUtf8 bytes u) h

none_by : (bytes : Text) (b : Bool) → is_utf8 bytes ≡ b → (IsUtf8 bytes → read bytes ≡ None) → json_said bytes ≡ None
none_by bytes true e h = rw e (h (IsUtf8-from_is_utf8 bytes e))
none_by bytes false e h = rw e refl

pub said_nothing : (bytes : Text) → (IsUtf8 bytes → read bytes ≡ None) → json_said bytes ≡ None
said_nothing bytes h = none_by bytes (is_utf8 bytes) refl h

-- ---- an index has no float, and isn't deep

kind_whole : (ks : List Kind) → items_have_float (items_of (map kind_data ks)) ≡ false
kind_whole [] = refl
kind_whole (k ∷ ks) = kind_whole ks

result_whole : (r : Option Kind) → has_float (result_data r) ≡ false
result_whole None = refl
result_whole (Some k) = refl

export_whole : (e : ExportType) → has_float (export_data e) ≡ false
export_whole e = rw (kind_whole e.params, result_whole e.result) refl

exports_whole : (es : List ExportType) → items_have_float (items_of (map export_data es)) ≡ false
exports_whole [] = refl
exports_whole (e ∷ es) = rw (export_whole e) (exports_whole es)

pub index_whole : (i : Index) → has_float (index_data i) ≡ false
index_whole i = rw (exports_whole i.exports) refl

kinds_flat : (ks : List Kind) → items_depth (items_of (map kind_data ks)) ≡ 0
kinds_flat [] = refl
kinds_flat (k ∷ ks) = rw (kinds_flat ks) refl

result_flat : (r : Option Kind) → depth (result_data r) ≡ 0
result_flat None = refl
result_flat (Some k) = refl

export_depth : (e : ExportType) → depth (export_data e) ≡ 2
export_depth e = rw (kinds_flat e.params, result_flat e.result) refl

exports_depth : (es : List ExportType) → items_depth (items_of (map export_data es)) ≤ 2
exports_depth [] = omega arith
exports_depth (e ∷ es) = let rest = exports_depth es in rw (export_depth e) (omega arith)

pub index_shallow : (i : Index) → depth (index_data i) ≤ max_depth
index_shallow i = let inner = exports_depth i.exports in omega arith

-- ---- lists that aren't of one item

pub not_one : (t : Text) (vs : List Value) → (length vs ≡ 1 → ⊥) → false ≡ is_only t (Some (items_view vs))
not_one t [] h = refl
not_one t (v ∷ []) h = absurd (h refl)
not_one t (v ∷ (w ∷ vs)) h = refl

-- ---- what is written is read

kind_says : (k : Kind) → kind_in (kind_data k) ≡ Some k
kind_says kinds.I32 = refl
kind_says kinds.I64 = refl

kinds_say : (ks : List Kind) → all_in kind_in (items_of (map kind_data ks)) ≡ Some ks
kinds_say [] = refl
kinds_say (k ∷ ks) = rw (kind_says k, kinds_say ks) refl

result_says : (r : Option Kind) → result_in (result_data r) ≡ Some r
result_says None = refl
result_says (Some kinds.I32) = refl
result_says (Some kinds.I64) = refl

export_says : (e : ExportType) → export_in (export_data e) ≡ Some e
export_says e = rw (kinds_say e.params, result_says e.result) refl

exports_say : (es : List ExportType) → all_in export_in (items_of (map export_data es)) ≡ Some es
exports_say [] = refl
exports_say (e ∷ es) = rw (export_says e, exports_say es) refl

-- an index is what its value says
pub index_says : (i : Index) → is_pack_namespace i.ns ≡ true → index_in (Some (index_data i)) ≡ Some i
index_says i h = rw (exports_say i.exports, h) refl

-- the bytes that say the value of an index say the index
pub index_bytes_say : (i : Index) (bytes : Text) → is_pack_namespace i.ns ≡ true → bytes ≡ compact_text (index_data i) → json_said bytes ≡ Some (index_data i) → index_said (compact_text (index_data i)) ≡ Some i
index_bytes_say i bytes h is said = ap index_said (sym is) ∙ ap index_in said ∙ index_says i h

-- a tag runs its function
tag_says : (ns name : Text) → tag_in (full_name ns name) (Some (tag_data ns name)) ≡ true
tag_says ns name = bytes_refl (full_name ns name)

pub tag_bytes_say : (ns name bytes : Text) → bytes ≡ compact_text (tag_data ns name) → json_said bytes ≡ Some (tag_data ns name) → tag_said (full_name ns name) (compact_text (tag_data ns name)) ≡ Some tt
tag_bytes_say ns name bytes is said =
    ap (tag_said (full_name ns name)) (sym is)
    ∙ ap (λ o. if tag_in (full_name ns name) o then Some tt else None) said
    ∙ ap (λ b. if b then Some tt else None) (tag_says ns name)
