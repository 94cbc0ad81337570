-- Memories and tables with others in the place of some of their items.
use Rattle.std.proofs.Common.{◌≡◌, ℕ, zero, suc, ◌+◌, ◌*◌, ◌/◌, ◌%◌, ◌≤◌, List, ◌++◌, length, take, drop, replicate, Bool, true, false, ltb, refl, ap, ◌∙◌, arith}
use Rattle.std.specs.Prelude.{slice_set, slice_index, All}
use Rattle.std.proofs.Math.Nat.{mul-div_right}
use Rattle.std.proofs.lemmas.Bool.{ltb-true, ltb-false}
use Rattle.std.proofs.lemmas.List.{length-append, length-take, length-drop, length-set, length-replicate, get_or_past}
use Rattle.std.proofs.lemmas.List.Elements.{All-nil, All-cons, All-append, All-take, All-drop, All-set, All-replicate}
use native.Mathlib.Nat.{mod-lt}
use Rattle.wm_ast.specs.declared.module.Module.{Module}
use Rattle.wm_ast.specs.Storage.{bytes_of}
use Rattle.wm_ast.specs.Store.{overwritten, page_size, page_count, most_pages}
use Rattle.wm_flat.specs.FlatTyping.{TypedMemory}
use Rattle.wm_valid.specs.InRange.{IsByte}

pub overwritten_length : {A : Type 0} (xs : List A) (p : ℕ) (ys : List A) → p + length ys ≤ length xs → length (overwritten xs p ys) ≡ length xs
overwritten_length xs p ys h =
    let a = length-append (take p xs) (ys ++ drop (p + length ys) xs) in
    let b = length-append ys (drop (p + length ys) xs) in
    let c = length-take p xs in
    let d = length-drop (p + length ys) xs in
    omega arith

pub overwritten_all : {A : Type 0} (P : A → Type 0) (xs : List A) (p : ℕ) (ys : List A) → All P xs → All P ys → All P (overwritten xs p ys)
overwritten_all P xs p ys a b =
    All-append P (take p xs) (ys ++ drop (p + length ys) xs) (All-take P p xs a) (All-append P ys (drop (p + length ys) xs) b (All-drop P (p + length ys) xs a))

-- Bytes.

pub rest_is_byte : (n : ℕ) → IsByte (n % 256)
rest_is_byte n = mod-lt n (omega arith)

pub bytes_are : (k n : ℕ) → All IsByte (bytes_of k n)
bytes_are zero n = All-nil IsByte
bytes_are (suc k) n = All-cons IsByte (n % 256) (bytes_of k (n / 256)) (rest_is_byte n) (bytes_are k (n / 256))

pub read_byte : (memory : List ℕ) (i : ℕ) → All IsByte memory → IsByte (slice_index memory i)
read_byte memory i a = by_place (ltb i (length memory)) refl
  where
    by_place : (b : Bool) → ltb i (length memory) ≡ b → IsByte (slice_index memory i)
    by_place true e = a i 0 (ltb-true i (length memory) e)
    by_place false e = let n = get_or_past memory i 0 (ltb-false i (length memory) e) in omega arith

-- Memories.

-- with as many bytes as before
pub same_size : (m : Module) (memory other : List ℕ) → TypedMemory m memory → length other ≡ length memory → All IsByte other → TypedMemory m other
same_size m memory other t e b = record { count = t.count; size = e ∙ t.size; at_least = t.at_least; at_most = t.at_most; bytes = b }

pub memory_written : (m : Module) (memory : List ℕ) (p : ℕ) (bytes : List ℕ) → TypedMemory m memory → p + length bytes ≤ length memory → All IsByte bytes → TypedMemory m (overwritten memory p bytes)
memory_written m memory p bytes t h b =
    same_size m memory (overwritten memory p bytes) t (overwritten_length memory p bytes h) (overwritten_all IsByte memory p bytes t.bytes b)

pub memory_set : (m : Module) (memory : List ℕ) (p b : ℕ) → TypedMemory m memory → IsByte b → TypedMemory m (slice_set memory p b)
memory_set m memory p b t h = same_size m memory (slice_set memory p b) t (length-set memory p b) (All-set IsByte memory p b h t.bytes)

pub count_is_pages : (m : Module) (memory : List ℕ) (t : TypedMemory m memory) → page_count memory ≡ t.count
count_is_pages m memory t = ap (λ n. n / page_size) t.size ∙ mul-div_right t.count (omega arith)

pub memory_grown : (m : Module) (memory : List ℕ) (more : ℕ) → TypedMemory m memory → page_count memory + more ≤ most_pages m → TypedMemory m (memory ++ replicate (page_size * more) 0)
memory_grown m memory more t h =
    let c = count_is_pages m memory t in
    let a = length-append memory (replicate (page_size * more) 0) in
    let r : length (replicate {A = ℕ} (page_size * more) 0) ≡ page_size * more = length-replicate (page_size * more) 0 in
    let z = t.size in
    let l = t.at_least in
    record {
      count = t.count + more;
      size = omega arith;
      at_least = omega arith;
      at_most = omega arith;
      bytes = All-append IsByte memory (replicate (page_size * more) 0) t.bytes (All-replicate IsByte (page_size * more) 0 (omega arith));
    }
