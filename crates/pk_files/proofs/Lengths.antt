-- The JSON of a tag, of an index with few exports, and of the metadata is no longer than a file may be.
use Rattle.std.proofs.Common.{◌≡◌, ◌∙◌, sym, ap, refl, ℕ, suc, ◌+◌, ◌*◌, ◌/◌, ◌%◌, ◌≤◌, List, [], ◌∷◌, ◌++◌, length, length-append, Bool, true, false, cond, Option, Some, None, codes, arith}
use Rattle.std.proofs.lemmas.Fmt.{length-decimal-le}
use Rattle.std.proofs.lemmas.List.Sums.{sum_by-cons, sum-map}
use Rattle.std.specs.Prelude.{flat_map, map, nat_lt, sum}
use Rattle.std.specs.Char.{digit_char}
use Rattle.std.specs.Fmt.{decimal}
use Rattle.json.specs.Print.{escape_byte, escape_letter, quoted}
use Rattle.serde_json.specs.View.{items_of}
use Rattle.serde_json.specs.Written.{comma_if, compact_text, items_text}
use Rattle.mc_cmd.specs.Form.{Text}
use Rattle.mc_cmd.specs.Layout.{full_name}
use Rattle.mc_nbt.specs.declared.value.Kind.{Kind}
use Rattle.mc_nbt.specs.declared.value.Kind.TheVariants as kinds
use Rattle.mc_cmd.specs.Pack.{ExportType, export_weight, Index}
use Rattle.pk_files.specs.Json.{export_data, index_data, kind_data, meta_data, result_data, tag_data}
use Rattle.pk_files.specs.Paths.{pack_cap}

-- a byte of a string takes at most six bytes
escape_byte-short : (b : ℕ) → length (escape_byte b) ≤ 6
unfolding escape_byte
escape_byte-short b = by_letter (nat_lt 0 (escape_letter b)) (nat_lt b 32)
  where
    by_letter : (p q : Bool) → length (cond p (92 ∷ escape_letter b ∷ []) (cond q (92 ∷ 117 ∷ 48 ∷ 48 ∷ digit_char (b / 16) ∷ digit_char (b % 16) ∷ []) (b ∷ []))) ≤ 6
    by_letter true q = omega arith
    by_letter false true = omega arith
    by_letter false false = omega arith

escape-short : (s : Text) → length (flat_map escape_byte s) ≤ 6 * length s
escape-short [] = omega arith
escape-short (b ∷ s) = omega (arith, length-append (escape_byte b) (flat_map escape_byte s), escape_byte-short b, escape-short s)

quoted-short : (s : Text) → length (quoted s) ≤ 6 * length s + 2
quoted-short s = omega (arith, length-append (flat_map escape_byte s) (34 ∷ []), escape-short s)

-- the JSON of a tag, and of an index with one export
tag_text : Text → Text → Text
tag_text k s = 123 ∷ (quoted k ++ (58 ∷ ((91 ∷ (quoted s ++ (93 ∷ []))) ++ (125 ∷ []))))

tag-short : (k s : Text) → length k ≤ 6 → length s ≤ 100 → length (tag_text k s) ≤ pack_cap
unfolding tag_text
tag-short k s le short =
    let a = quoted-short k in
    let b = quoted-short s in
    omega (arith, length-append (quoted k) (58 ∷ ((91 ∷ (quoted s ++ (93 ∷ []))) ++ (125 ∷ []))), length-append (91 ∷ (quoted s ++ (93 ∷ []))) (125 ∷ []), length-append (quoted s) (93 ∷ []), a, b, le, short)

pub tag-within : (ns name : Text) → length ns ≤ 16 → length name ≤ 4 → length (compact_text (tag_data ns name)) ≤ pack_cap
unfolding tag_text
tag-within ns name short named = tag-short (codes "values") (full_name ns name) (omega arith) (omega (arith, length-append ns (58 ∷ name), short, named))

-- a member of an object, with what follows it
member-short : (k value rest : Text) (a b c : ℕ) → length k ≤ a → length value ≤ b → length rest ≤ c → length (quoted k ++ (58 ∷ (value ++ rest))) ≤ 6 * a + b + c + 3
member-short k value rest a b c p q r =
    omega (arith, length-append (quoted k) (58 ∷ (value ++ rest)), length-append value rest, quoted-short k, p, q, r)

-- an object's later member has a comma before it
later-short : (k value rest : Text) (a b c : ℕ) → length k ≤ a → length value ≤ b → length rest ≤ c → length ((44 ∷ []) ++ (quoted k ++ (58 ∷ (value ++ rest)))) ≤ 6 * a + b + c + 4
later-short k value rest a b c p q r =
    omega (arith, length-append (44 ∷ []) (quoted k ++ (58 ∷ (value ++ rest))), member-short k value rest a b c p q r)

quoted-within : (s : Text) (a : ℕ) → length s ≤ a → length (quoted s) ≤ 6 * a + 2
quoted-within s a p = omega (arith, quoted-short s, p)

-- ---- the index

quoted_kind : (k : Kind) → length (compact_text (kind_data k)) ≤ 5
unfolding escape_byte
quoted_kind kinds.I32 =
    let five : length (compact_text (kind_data kinds.I32)) ≡ 5 = refl in
    omega (arith, five)
quoted_kind kinds.I64 =
    let five : length (compact_text (kind_data kinds.I64)) ≡ 5 = refl in
    omega (arith, five)

comma-short : (later : Bool) → length (comma_if later) ≤ 1
comma-short true = omega arith
comma-short false = omega arith

-- the parameters of an export, with the closing bracket
params_text : Bool → List Kind → Text
params_text later ks = items_text later (items_of (map kind_data ks))

params-short : (later : Bool) (ks : List Kind) → length (params_text later ks) ≤ 6 * length ks + 1
unfolding params_text
params-short later [] = omega arith
params-short later (k ∷ ks) =
    omega (arith, length-append (comma_if later) (compact_text (kind_data k) ++ params_text true ks), length-append (compact_text (kind_data k)) (params_text true ks), comma-short later, quoted_kind k, params-short true ks)

result-short : (r : Option Kind) → length (compact_text (result_data r)) ≤ 5
result-short None = omega arith
result-short (Some k) = quoted_kind k

-- what follows the parameters, and what follows the name, in the entry of an export
entry_result : Option Kind → Text
entry_result r = (44 ∷ []) ++ (quoted (codes "result") ++ (58 ∷ (compact_text (result_data r) ++ (125 ∷ []))))

entry_params : List Kind → Option Kind → Text
entry_params ks r = (44 ∷ []) ++ (quoted (codes "params") ++ (58 ∷ ((91 ∷ params_text false ks) ++ entry_result r)))

entry : ExportType → Text
entry e = 123 ∷ (quoted (codes "name") ++ (58 ∷ (quoted e.name ++ entry_params e.params e.result)))

-- the bytes of an export's name, and its parameters
entry-short : (e : ExportType) → length (entry e) ≤ 6 * export_weight e + 160
unfolding entry entry_params entry_result
entry-short e =
    let result = later-short (codes "result") (compact_text (result_data e.result)) (125 ∷ []) 6 5 1 (omega arith) (result-short e.result) (omega arith) in
    let params = later-short (codes "params") (91 ∷ params_text false e.params) (entry_result e.result) 6 (6 * length e.params + 2) 46 (omega arith) (omega (arith, params-short false e.params)) result in
    let all = member-short (codes "name") (quoted e.name) (entry_params e.params e.result) 4 (6 * length e.name + 2) (6 * length e.params + 88) (omega arith) (quoted-short e.name) (omega (arith, params)) in
    omega (arith, all)

-- the entries, with the closing bracket
entries_text : Bool → List ExportType → Text
entries_text later es = items_text later (items_of (map export_data es))

length-three : (a b c : Text) → length (a ++ (b ++ c)) ≡ length a + (length b + length c)
length-three a b c = omega (arith, length-append a (b ++ c), length-append b c)

sum_more : (e : ExportType) (es : List ExportType) → sum (map export_weight (e ∷ es)) ≡ export_weight e + sum (map export_weight es)
sum_more e es = sum-map export_weight (e ∷ es) ∙ sum_by-cons export_weight e es ∙ ap (λ k. export_weight e + k) (sym (sum-map export_weight es))

-- an entry more
one-more : (all comma one others weight weights total n : ℕ) → total ≡ weight + weights → all ≡ comma + (one + others) → comma ≤ 1 → one ≤ 6 * weight + 160 → others ≤ 6 * weights + 161 * n + 1 → all ≤ 6 * total + 161 * suc n + 1
one-more all comma one others weight weights total n t e p q r = omega (arith, t, e, p, q, r)

entries-short : (later : Bool) (es : List ExportType) → length (entries_text later es) ≤ 6 * sum (map export_weight es) + 161 * length es + 1
unfolding entries_text entry entry_params entry_result params_text
entries-short later [] = omega arith
entries-short later (e ∷ es) =
    let one : length (compact_text (export_data e)) ≤ 6 * export_weight e + 160 = entry-short e in
    let all : length (entries_text later (e ∷ es)) ≡ length (comma_if later) + (length (compact_text (export_data e)) + length (entries_text true es)) = length-three (comma_if later) (compact_text (export_data e)) (entries_text true es) in
    one-more (length (entries_text later (e ∷ es))) (length (comma_if later)) (length (compact_text (export_data e))) (length (entries_text true es)) (export_weight e) (sum (map export_weight es)) (sum (map export_weight (e ∷ es))) (length es) (sum_more e es) all (comma-short later) one (entries-short true es)

-- what follows the namespace, and what follows the exports, in an index
index_version : Text
index_version = (44 ∷ []) ++ (quoted (codes "version") ++ (58 ∷ (decimal 1 ++ (125 ∷ []))))

index_namespace : Text → Text
index_namespace ns = (44 ∷ []) ++ (quoted (codes "namespace") ++ (58 ∷ (quoted ns ++ index_version)))

version-short : length index_version ≤ 48
unfolding index_version
version-short = later-short (codes "version") (decimal 1) (125 ∷ []) 7 1 1 (omega arith) (length-decimal-le 1 1 (omega arith) (omega arith) (omega arith)) (omega arith)

namespace-within : (ns : Text) → length ns ≤ 16 → length (index_namespace ns) ≤ 204
unfolding index_namespace
namespace-within ns short = later-short (codes "namespace") (quoted ns) index_version 9 98 48 (omega arith) (quoted-within ns 16 short) version-short

-- an index of few exports that aren't too long
pub index-within : (i : Index) → length i.ns ≤ 16 → length i.exports ≤ 4096 → sum (map export_weight i.exports) ≤ 2097152 → length (compact_text (index_data i)) ≤ pack_cap
unfolding entries_text index_namespace index_version
index-within i short few light =
    let items : length (91 ∷ entries_text false i.exports) ≤ 13242370 = omega (arith, entries-short false i.exports, few, light) in
    let all = member-short (codes "exports") (91 ∷ entries_text false i.exports) (index_namespace i.ns) 7 13242370 204 (omega arith) items (namespace-within i.ns short) in
    omega (arith, all)

-- what follows the description in the metadata, and what stands under `pack`
meta_format : Text
meta_format = (44 ∷ []) ++ (quoted (codes "pack_format") ++ (58 ∷ (decimal 26 ++ (125 ∷ []))))

meta_pack : Text
meta_pack = 123 ∷ (quoted (codes "description") ++ (58 ∷ (quoted (codes "dpwasm") ++ meta_format)))

format-short : length meta_format ≤ 73
unfolding meta_format
format-short = later-short (codes "pack_format") (decimal 26) (125 ∷ []) 11 2 1 (omega arith) (length-decimal-le 2 26 (omega arith) (omega arith) (omega arith)) (omega arith)

meta_pack-short : length meta_pack ≤ 181
unfolding meta_pack
meta_pack-short =
    let first = member-short (codes "description") (quoted (codes "dpwasm")) meta_format 11 38 73 (omega arith) (quoted-within (codes "dpwasm") 6 (omega arith)) format-short in
    omega (arith, first)

pub meta-within : length (compact_text meta_data) ≤ pack_cap
unfolding meta_pack meta_format
meta-within =
    let first = member-short (codes "pack") meta_pack (125 ∷ []) 4 181 1 (omega arith) meta_pack-short (omega arith) in
    omega (arith, first)
