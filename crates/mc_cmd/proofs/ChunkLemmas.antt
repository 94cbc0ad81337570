-- Texts that may stand in a macro line, and how long the parts of lines are; names under a namespace fit.
use Rattle.std.proofs.Common.{◌≡◌, ℕ, ◌+◌, ◌*◌, ◌^◌, ◌≤◌, ◌<◌, List, [], ◌∷◌, ◌++◌, length, Bool, true, false, refl, ap, ◌∙◌, arith, length-append}
use Rattle.std.specs.Prelude.{ℤ, nat_eq, nat_le, codes, if◌then◌else◌}
use Rattle.std.specs.List.{list_all}
use Rattle.std.specs.Fmt.{signed_decimal}
use Rattle.std.proofs.lemmas.Fmt.{length_signed_le}
use Rattle.std.proofs.lemmas.Bool.{le-leb, leb-true, ltb-true}
use Rattle.std.proofs.lemmas.Bool.Decides.{nat_tests}
use lib.Signed.{mag}
use Rattle.mc_nbt.specs.Word.{is_name_byte, is_key, is_int}
use Rattle.mc_nbt.specs.Path.{is_part, is_path}
use Rattle.mc_nbt.specs.Tree.{Part, key, place}
use Rattle.mc_cmd.specs.Form.{Text}
use Rattle.mc_cmd.specs.Layout.{full_name}
use Rattle.mc_cmd.specs.Value.{path_text, parts_text}
use Rattle.mc_cmd.specs.Command.{Op, assign, add, subtract, multiply, divide, remainder, lower, raise, swap, Range, exactly, from, up_to, between}
use Rattle.mc_cmd.specs.Word.{is_small_byte, is_namespace, is_holder, is_holder_byte, is_holder_rest, is_id, is_id_cut, is_id_name, is_function, is_function_cut, is_function_name, op_text, range_text, range_fits}
use Rattle.mc_cmd.specs.Pattern.{is_literal_byte}
use Rattle.mc_cmd.proofs.NameLemmas.{all_pass, small_name, namespace_short}
use Rattle.mc_cmd.proofs.OpenLemmas.{all_append}
use Rattle.mc_cmd.proofs.FormLemmas.{and_first, and_second, and_both, cut_at_text}
use Rattle.mc_cmd.proofs.WordLemmas.{all_lack, namespace_bytes, int_bytes, is_number_byte}

-- the bytes of words may stand in a macro line
name_literal : (b : ℕ) → is_name_byte b ≡ true → is_literal_byte b ≡ true
name_literal b h = grind (arith, nat_tests)

holder_literal : (b : ℕ) → is_holder_byte b ≡ true → is_literal_byte b ≡ true
holder_literal b h = grind (arith, nat_tests)

number_literal : (b : ℕ) → is_number_byte b ≡ true → is_literal_byte b ≡ true
number_literal b h = grind (arith, nat_tests)

-- names under a namespace
pub namespace_id : (ns n : Text) → is_namespace ns ≡ true → is_id_name n ≡ true → is_id (full_name ns n) ≡ true
unfolding is_id
namespace_id ns n h g = ap is_id_cut (cut_at_text 58 ns n (all_lack is_small_byte 58 refl ns (namespace_bytes ns h))) ∙ and_both (is_namespace ns) (is_id_name n) h g

pub namespace_function : (ns n : Text) → is_namespace ns ≡ true → is_function_name n ≡ true → is_function (full_name ns n) ≡ true
unfolding is_function
namespace_function ns n h g = ap is_function_cut (cut_at_text 58 ns n (all_lack is_small_byte 58 refl ns (namespace_bytes ns h))) ∙ and_both (is_namespace ns) (is_function_name n) h g

-- paths
pub path_fits : (k : Text) (ps : List Part) → is_key k ≡ true → list_all is_part ps ≡ true → nat_le (length ps) 15 ≡ true → is_path (key k ∷ ps) ≡ true
unfolding is_path
path_fits k ps h g n = let m = leb-true _ _ n in and_both (nat_le (length (key k ∷ ps)) 16) _ (le-leb _ 16 (omega arith)) (and_both (is_key k) _ h g)

-- a text of at most so many bytes, each of which may stand in a macro line
pub record IsChunk (k : ℕ) (t : Text) : Type 0 where
  pub short : length t ≤ k
  pub plain : list_all is_literal_byte t ≡ true

pub fixed_chunk : (t : Text) → list_all is_literal_byte t ≡ true → IsChunk (length t) t
fixed_chunk t h = record { short = omega arith; plain = h }

pub joined_chunk : {j k : ℕ} {a b : Text} → IsChunk j a → IsChunk k b → IsChunk (j + k) (a ++ b)
joined_chunk {j = j} {k = k} {a = a} {b = b} p q = record { short = let n = length-append a b in let x = p.short in let y = q.short in omega arith; plain = all_append is_literal_byte a b p.plain q.plain }

pub wider : {j k : ℕ} {t : Text} → IsChunk j t → j ≤ k → IsChunk k t
wider {j = j} {k = k} {t = t} p le = record { short = let x = p.short in omega arith; plain = p.plain }

pub namespace_chunk : (ns : Text) → is_namespace ns ≡ true → IsChunk 16 ns
namespace_chunk ns h = record { short = namespace_short ns h; plain = all_pass is_small_byte is_literal_byte (λ b g. name_literal b (small_name b g)) ns (namespace_bytes ns h) }

pub holder_chunk : (w : Text) → is_holder w ≡ true → IsChunk 41 w
unfolding is_holder
holder_chunk [] h = record { short = omega arith; plain = refl }
holder_chunk (b ∷ w) h = go (nat_eq b 35) refl h
  where
    rest : (v : Text) → is_holder_rest v ≡ true → IsChunk 40 v
    rest v h = record {
      short = leb-true (length v) 40 (and_second (nat_le 1 (length v)) _ (and_second (list_all is_holder_byte v) _ h));
      plain = all_pass is_holder_byte is_literal_byte holder_literal v (and_first _ _ h);
    }

    hash : (b : ℕ) → nat_eq b 35 ≡ true → is_literal_byte b ≡ true
    hash b e = grind (arith, nat_tests)

    go : (c : Bool) → nat_eq b 35 ≡ c → (if c then is_holder_rest w else is_holder_rest (b ∷ w)) ≡ true → IsChunk 41 (b ∷ w)
    go true e h = let r = rest w h in let n = r.short in record { short = omega arith; plain = and_both _ _ (hash b e) r.plain }
    go false e h = wider (rest (b ∷ w) h) (omega arith)

pub key_chunk : (k : Text) → is_key k ≡ true → IsChunk 32 k
unfolding is_key
key_chunk k h = record {
  short = leb-true (length k) 32 (and_second (nat_le 1 (length k)) _ (and_second (list_all is_name_byte k) _ h));
  plain = all_pass is_name_byte is_literal_byte name_literal k (and_first _ _ h);
}

pub number_chunk : (z : ℤ) → is_int z ≡ true → IsChunk 11 (signed_decimal z)
number_chunk z h =
    let lt : mag z < 2 ^ 31 = ltb-true _ _ h in
    record { short = length_signed_le 10 z (omega arith) (omega arith); plain = all_pass is_number_byte is_literal_byte number_literal (signed_decimal z) (int_bytes z lt) }

pub op_chunk : (o : Op) → IsChunk 2 (op_text o)
op_chunk assign = record { short = omega arith; plain = refl }
op_chunk add = record { short = omega arith; plain = refl }
op_chunk subtract = record { short = omega arith; plain = refl }
op_chunk multiply = record { short = omega arith; plain = refl }
op_chunk divide = record { short = omega arith; plain = refl }
op_chunk remainder = record { short = omega arith; plain = refl }
op_chunk lower = record { short = omega arith; plain = refl }
op_chunk raise = record { short = omega arith; plain = refl }
op_chunk swap = record { short = omega arith; plain = refl }

pub range_chunk : (r : Range) → range_fits r ≡ true → IsChunk 24 (range_text r)
range_chunk (exactly n) h = wider (number_chunk n h) (omega arith)
range_chunk (from n) h = wider (joined_chunk (number_chunk n h) (fixed_chunk (codes "..") refl)) (omega arith)
range_chunk (up_to n) h = wider (joined_chunk (fixed_chunk (codes "..") refl) (number_chunk n h)) (omega arith)
range_chunk (between n m) h =
    wider (joined_chunk (number_chunk n (and_first _ _ h)) (joined_chunk (fixed_chunk (codes "..") refl) (number_chunk m (and_first _ _ (and_second (is_int n) _ h))))) (omega arith)

-- the steps of a path
abbrev pub parts_room : List Part → ℕ
parts_room [] = 0
parts_room (p ∷ ps) = 33 + parts_room ps

pub parts_chunk : (ps : List Part) → list_all is_part ps ≡ true → IsChunk (parts_room ps) (parts_text ps)
parts_chunk [] h = record { short = omega arith; plain = refl }
parts_chunk (key k ∷ ps) h =
    wider (joined_chunk (fixed_chunk (codes ".") refl) (joined_chunk (key_chunk k (and_first _ _ h)) (parts_chunk ps (and_second (is_key k) _ h)))) (omega arith)
parts_chunk (place i ∷ ps) h =
    wider (joined_chunk (fixed_chunk (codes "[") refl) (joined_chunk (number_chunk i (and_first _ _ h)) (joined_chunk (fixed_chunk (codes "]") refl) (parts_chunk ps (and_second (is_int i) _ h))))) (omega arith)

rooms : (ps : List Part) → parts_room ps ≡ 33 * length ps
rooms [] = refl
rooms (p ∷ ps) = let a = rooms ps in omega arith

pub path_chunk : (ps : List Part) → is_path ps ≡ true → IsChunk 528 (path_text ps)
unfolding is_path
path_chunk [] h = absurd cc
path_chunk (place i ∷ ps) h = absurd cc
path_chunk (key k ∷ ps) h =
    let n : length (key k ∷ ps) ≤ 16 = leb-true (length (key k ∷ ps)) 16 (and_first _ _ h) in
    let g = and_second (nat_le (length (key k ∷ ps)) 16) _ h in
    let r = rooms ps in
    wider (joined_chunk (key_chunk k (and_first _ _ g)) (parts_chunk ps (and_second (is_key k) _ g))) (omega arith)

-- functions of a namespace
pub function_chunk : (ns f : Text) → is_namespace ns ≡ true → is_function_name f ≡ true → IsChunk 81 (full_name ns f)
function_chunk ns f h g =
    let n : length f ≤ 64 = leb-true (length f) 64 (and_second (nat_le 1 (length f)) _ (and_second (list_all is_small_byte f) _ g)) in
    let p : IsChunk (length f) f = fixed_chunk f (all_pass is_small_byte is_literal_byte (λ b e. name_literal b (small_name b e)) f (and_first _ _ g)) in
    wider (joined_chunk (namespace_chunk ns h) (joined_chunk (fixed_chunk (codes ":") refl) p)) (omega arith)
