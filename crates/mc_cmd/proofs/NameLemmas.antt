-- Namespaces, and the names that are made of one; numbers as names; short paths.
use Rattle.std.proofs.Common.{◌≡◌, ◌∙◌, ap, refl, ℕ, ◌+◌, ◌<◌, ◌≤◌, ◌^◌, ◌%◌, [], ◌∷◌, length, Bool, true, false, arith}
use Rattle.std.specs.Prelude.{ℤ, codes, ◌&&◌, ◌||◌, nat_le}
use Rattle.std.specs.List.{list_all}
use Rattle.std.specs.Fmt.{decimal}
use Rattle.std.proofs.lemmas.Bool.{le-leb, leb-true}
use Rattle.std.proofs.lemmas.Fmt.{decimal_by_steps}
use Rattle.std.proofs.lemmas.List.Folds.{list_all-append}
use Rattle.mc_nbt.specs.Path.{is_path}
use Rattle.mc_nbt.specs.Tree.{key, place}
use Rattle.mc_nbt.specs.Word.{is_name_byte, is_within, is_key, is_int}
use Rattle.mc_cmd.specs.Form.{Text, lacks}
use Rattle.mc_cmd.specs.Word.{is_holder_byte, is_small_byte, is_namespace, is_objective, is_id, is_id_cut}
use Rattle.mc_cmd.specs.Layout.{io_of, memory_of}
use Rattle.mc_cmd.specs.Packing.{is_pack_namespace}
use Rattle.mc_cmd.proofs.FormLemmas.{and_first, and_second, and_both, cut_at_text}
use Rattle.mc_cmd.proofs.WordLemmas.{all_lack, namespace_bytes}

-- each byte that passes the one test passes the other
pub all_pass : (p q : ℕ → Bool) → ((b : ℕ) → p b ≡ true → q b ≡ true) → (w : Text) → list_all p w ≡ true → list_all q w ≡ true
all_pass p q f [] h = refl
all_pass p q f (b ∷ w) h = and_both (q b) _ (f b (and_first _ _ h)) (all_pass p q f w (and_second (p b) _ h))

-- a small letter, a digit or `_` may stand in a name
pub small_name : (b : ℕ) → is_small_byte b ≡ true → is_name_byte b ≡ true
small_name b h = go (nat_le 48 b && nat_le b 57) (nat_le 65 b && nat_le b 90) _ _ h
  where
    go : (digit capital letter low : Bool) → digit || letter || low ≡ true → digit || capital || letter || low ≡ true
    go true capital letter low h = refl
    go false true letter low h = refl
    go false false letter low h = h

-- a pack's namespace is one
pub namespace_of : (ns : Text) → is_pack_namespace ns ≡ true → is_namespace ns ≡ true
namespace_of ns h = and_first (is_namespace ns) _ h

-- a namespace has 1 to 16 bytes
namespace_within : (ns : Text) → is_namespace ns ≡ true → is_within 1 16 ns ≡ true
unfolding is_namespace
namespace_within ns h = and_second (list_all is_small_byte ns) _ h

pub namespace_short : (ns : Text) → is_namespace ns ≡ true → length ns ≤ 16
namespace_short ns h = leb-true (length ns) 16 (and_second (nat_le 1 (length ns)) _ (namespace_within ns h))

-- a namespace is an objective
pub namespace_objective : (ns : Text) → is_namespace ns ≡ true → is_objective ns ≡ true
unfolding is_objective
namespace_objective ns h = and_both (list_all is_name_byte ns) _ (all_pass is_small_byte is_name_byte small_name ns (namespace_bytes ns h)) (namespace_within ns h)

-- a namespace has no byte that isn't a small letter, a digit or `_`
pub namespace_lacks : (ns : Text) (c : ℕ) → is_small_byte c ≡ false → is_namespace ns ≡ true → lacks c ns ≡ true
namespace_lacks ns c n h = all_lack is_small_byte c n ns (namespace_bytes ns h)

-- the storages of a namespace have a storage's name
pub io_id : (ns : Text) → is_namespace ns ≡ true → is_id (io_of ns) ≡ true
unfolding is_id
io_id ns h = ap is_id_cut (cut_at_text 58 ns (codes "io") (namespace_lacks ns 58 refl h)) ∙ and_both (is_namespace ns) true h refl

pub memory_id : (ns : Text) → is_namespace ns ≡ true → is_id (memory_of ns) ≡ true
unfolding is_id
memory_id ns h = ap is_id_cut (cut_at_text 58 ns (codes "m") (namespace_lacks ns 58 refl h)) ∙ and_both (is_namespace ns) true h refl

-- the digits of a number may stand in a holder
digit_holder : (n : ℕ) → n < 10 → list_all is_holder_byte ((48 + n) ∷ []) ≡ true
digit_holder n lt = rw (le-leb 48 (48 + n) (omega arith), le-leb (48 + n) 57 (omega arith)) refl

pub decimal_holder : (n : ℕ) → n < 2 ^ 64 → list_all is_holder_byte (decimal n) ≡ true
decimal_holder n lt = decimal_by_steps (λ k ds. list_all is_holder_byte ds ≡ true) digit_holder
    (λ k ds big h. rw (list_all-append is_holder_byte ds ((48 + k % 10) ∷ [])) (and_both _ _ h (digit_holder (k % 10) (omega arith)))) n lt

-- a key alone is a path, and so is a key with a place behind it
pub key_path : (k : Text) → is_key k ≡ true → is_path (key k ∷ []) ≡ true
unfolding is_path
key_path k h = and_both _ _ h refl

pub key_place_path : (k : Text) (i : ℤ) → is_key k ≡ true → is_int i ≡ true → is_path (key k ∷ place i ∷ []) ≡ true
unfolding is_path
key_place_path k i h f = and_both _ _ h (and_both _ _ f refl)
