-- A file of lines says these lines.
use Rattle.std.proofs.Common.{◌≡◌, [], ◌∷◌, ◌++◌, Bool, true, false, refl, sym, ap, ◌∙◌, cond}
use Rattle.std.specs.Prelude.{nat_eq, if◌then◌else◌}
use Rattle.std.specs.List.{slice_split, onto_first, list_all}
use Rattle.mc_cmd.specs.Form.{Text, lacks}
use Rattle.mc_cmd.specs.Chain.{Texts}
use Rattle.mc_cmd.specs.Lines.{file_text, file_lines, without_empty_end}
use Rattle.mc_nbt.proofs.TestLemmas.{and_first, and_second}

split-line : (line rest : Text) → lacks 10 line ≡ true → slice_split (λ b. nat_eq b 10) (line ++ 10 ∷ rest) ≡ line ∷ slice_split (λ b. nat_eq b 10) rest
split-line [] rest h = refl
split-line (b ∷ line) rest h = go (nat_eq b 10) h (split-line line rest)
  where
    go : (c : Bool) → (if c then false else lacks 10 line) ≡ true → (lacks 10 line ≡ true → slice_split (λ b. nat_eq b 10) (line ++ 10 ∷ rest) ≡ line ∷ slice_split (λ b. nat_eq b 10) rest)
        → cond c ([] ∷ slice_split (λ b. nat_eq b 10) (line ++ 10 ∷ rest)) (onto_first b (slice_split (λ b. nat_eq b 10) (line ++ 10 ∷ rest))) ≡ (b ∷ line) ∷ slice_split (λ b. nat_eq b 10) rest
    go true h ih = absurd cc
    go false h ih = ap (onto_first b) (ih h)

-- lines without line feeds are read back as they are written
pub file_lines-file_text : (lines : Texts) → list_all (lacks 10) lines ≡ true → file_lines (file_text lines) ≡ lines
file_lines-file_text [] h = refl
file_lines-file_text (l ∷ []) h = ap without_empty_end (split-line l [] (and_first _ _ h)) ∙ refl
file_lines-file_text (l ∷ m ∷ ls) h =
    let first = split-line l (file_text (m ∷ ls)) (and_first _ _ h) in
    let g = and_second (lacks 10 l) _ h in
    let second = split-line m (file_text ls) (and_first _ _ g) in
    let after : without_empty_end (m ∷ slice_split (λ b. nat_eq b 10) (file_text ls)) ≡ m ∷ ls = ap without_empty_end (sym second) ∙ file_lines-file_text (m ∷ ls) g in
    ap without_empty_end (first ∙ ap (λ x. l ∷ x) second) ∙ ap (λ x. l ∷ x) after
