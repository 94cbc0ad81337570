-- Paths and values are read as they are spelled, and no path has a space.
use Rattle.std.proofs.Common.{◌≡◌, ℕ, List, [], ◌∷◌, ◌++◌, length, Bool, true, false, Some, None, refl, sym, ap, ◌∙◌, append-nil}
use Rattle.std.specs.Prelude.{nat_eq, nat_le, if◌then◌else◌}
use Rattle.std.specs.List.{list_all}
use Rattle.std.specs.Fmt.{signed_decimal}
use Rattle.std.proofs.lemmas.Bool.{ltb-true}
use Rattle.mc_nbt.specs.Word.{is_name_byte, is_key, is_int}
use Rattle.mc_nbt.specs.Tree.{Tree, Part, key, place, depth}
use Rattle.mc_nbt.specs.Path.{is_part, is_path}
use Rattle.mc_nbt.specs.Shape.{is_shaped, is_tree}
use Rattle.mc_nbt.specs.Spelling.{tree_text}
use Rattle.mc_nbt.specs.Beginning.{Answer, spelled, broken, IsAnswered}
use Rattle.mc_nbt.specs.steps.Reading.{read_text}
use Rattle.mc_nbt.proofs.TestLemmas.{and_first, and_second, and_both, other, some_same}
use Rattle.mc_nbt.proofs.ReadingComplete.{reads_spelling}
use Rattle.mc_nbt.proofs.ReadingSound.{answers}
use Rattle.mc_cmd.specs.Form.{Text, lacks, spaced}
use Rattle.mc_cmd.specs.Word.{int_value}
use Rattle.mc_cmd.specs.Value.{parts_text, path_text, mark_at, marks, path_value, path, value_in, value}
use Rattle.mc_cmd.proofs.FormLemmas.{IsLast, IsFront, compared_is, spaced_is}
use Rattle.mc_cmd.proofs.WordLemmas.{all_lack, lacks-append, is_number_byte, int_bytes, int_value_text, key_bytes}

-- a byte that is no mark
no_mark : (p : ℕ → Bool) → p 46 ≡ false → p 91 ≡ false → p 93 ≡ false → (b : ℕ) (q : Text × List Part) → p b ≡ true → mark_at b q ≡ (b ∷ q.0, q.1)
no_mark p x y z b q h =
    ap (λ c. if c then ([], key q.0 ∷ q.1) else if nat_eq b 91 then ([], place (int_value q.0) ∷ q.1) else if nat_eq b 93 then ([], q.1) else (b ∷ q.0, q.1)) (other p 46 b x h)
    ∙ ap (λ c. if c then ([], place (int_value q.0) ∷ q.1) else if nat_eq b 93 then ([], q.1) else (b ∷ q.0, q.1)) (other p 91 b y h)
    ∙ ap (λ c. if c then ([], q.1) else (b ∷ q.0, q.1)) (other p 93 b z h)

marks_word : (p : ℕ → Bool) → p 46 ≡ false → p 91 ≡ false → p 93 ≡ false → (w rest : Text) → list_all p w ≡ true → marks (w ++ rest) ≡ (w ++ (marks rest).0, (marks rest).1)
marks_word p x y z [] rest h = refl
marks_word p x y z (b ∷ w) rest h =
    ap (mark_at b) (marks_word p x y z w rest (and_second (p b) _ h))
    ∙ no_mark p x y z b (w ++ (marks rest).0, (marks rest).1) (and_first _ _ h)

marks_parts : (ps : List Part) → list_all is_part ps ≡ true → marks (parts_text ps) ≡ ([], ps)
marks_parts [] h = refl
marks_parts (key k ∷ ps) h =
    let e = marks_parts ps (and_second (is_key k) _ h) in
    ap (mark_at 46) (marks_word is_name_byte refl refl refl k (parts_text ps) (key_bytes k (and_first (is_key k) _ h)))
    ∙ ap (λ q. ([], key (k ++ q.0) ∷ q.1)) e ∙ ap (λ w. ([], key w ∷ ps)) (append-nil k)
marks_parts (place i ∷ ps) h =
    let e = marks_parts ps (and_second (is_int i) _ h) in
    let f = and_first (is_int i) _ h in
    ap (mark_at 91) (marks_word is_number_byte refl refl refl (signed_decimal i) (93 ∷ parts_text ps) (int_bytes i (ltb-true _ _ f)))
    ∙ ap (λ q. ([], place (int_value (signed_decimal i ++ [])) ∷ q.1)) e
    ∙ ap (λ w. ([], place (int_value w) ∷ ps)) (append-nil (signed_decimal i)) ∙ ap (λ z. ([], place z ∷ ps)) (int_value_text i f)

path_value_text : (ps : List Part) → is_path ps ≡ true → path_value (path_text ps) ≡ ps
unfolding is_path
path_value_text [] h = absurd cc
path_value_text (place i ∷ ps) h = absurd cc
path_value_text (key k ∷ ps) h =
    let g = and_second (nat_le (length (key k ∷ ps)) 16) (list_all is_part (key k ∷ ps)) h in
    ap (λ q. key q.0 ∷ q.1) (marks_word is_name_byte refl refl refl k (parts_text ps) (key_bytes k (and_first (is_key k) _ g)))
    ∙ ap (λ q. key (k ++ q.0) ∷ q.1) (marks_parts ps (and_second (is_key k) _ g)) ∙ ap (λ w. key w ∷ ps) (append-nil k)

pub path_is : IsLast path
path_is = compared_is path_text is_path path_value path_value_text

-- no path has a space
key_bare : (k : Text) → is_key k ≡ true → lacks 32 k ≡ true
key_bare k h = all_lack is_name_byte 32 refl k (key_bytes k h)

parts_bare : (ps : List Part) → list_all is_part ps ≡ true → lacks 32 (parts_text ps) ≡ true
parts_bare [] h = refl
parts_bare (key k ∷ ps) h = lacks-append 32 k (parts_text ps) (key_bare k (and_first (is_key k) _ h)) (parts_bare ps (and_second (is_key k) _ h))
parts_bare (place i ∷ ps) h =
    lacks-append 32 (signed_decimal i) (93 ∷ parts_text ps) (all_lack is_number_byte 32 refl (signed_decimal i) (int_bytes i (ltb-true _ _ (and_first (is_int i) _ h))))
    (parts_bare ps (and_second (is_int i) _ h))

pub path_bare : (ps : List Part) → is_path ps ≡ true → lacks 32 (path_text ps) ≡ true
unfolding is_path
path_bare [] h = refl
path_bare (place i ∷ ps) h = absurd cc
path_bare (key k ∷ ps) h =
    let g = and_second (nat_le (length (key k ∷ ps)) 16) (list_all is_part (key k ∷ ps)) h in
    lacks-append 32 k (parts_text ps) (key_bare k (and_first (is_key k) _ g)) (parts_bare ps (and_second (is_key k) _ g))

pub path_front : IsFront (spaced path)
path_front = spaced_is path path_is path_bare

-- values
value_reads : (v : Tree) → is_tree v ≡ true → value_in (read_text (tree_text v)) ≡ Some v
value_reads v h =
    ap value_in (reads_spelling v (and_first _ _ h)) ∙ ap (λ b. if b then Some v else None) (and_second (is_shaped v) _ h)

value_spells : (t : Text) (v : Tree) → value_in (read_text t) ≡ Some v → (t ≡ tree_text v) × (is_tree v ≡ true)
value_spells t v h = go (read_text t) (answers t) h
  where
    go : (a : Answer) → IsAnswered t a → value_in a ≡ Some v → (t ≡ tree_text v) × (is_tree v ≡ true)
    go (broken n) s h = absurd cc
    go (spelled u d) s h = deep (nat_le d 64) refl h
      where
        deep : (b : Bool) → nat_le d 64 ≡ b → (if b then Some u else None) ≡ Some v → (t ≡ tree_text v) × (is_tree v ≡ true)
        deep true e h =
            let x : u ≡ v = some_same u v h in
            let f : nat_le (depth u) 64 ≡ true = ap (λ d. nat_le d 64) (sym s.1) ∙ e in
            (s.0.spelled ∙ ap tree_text x, ap is_tree (sym x) ∙ and_both _ _ s.0.shaped f)
        deep false e h = absurd cc

pub value_is : IsLast value
value_is = record { reads = value_reads; spells = value_spells }
