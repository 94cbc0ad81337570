-- Lists that are made of others item by item, and instructions renumbered one by one.
use Rattle.std.proofs.Common.{◌≡◌, ℕ, ◌+◌, ◌<◌, ◌≤◌, List, [], ◌∷◌, ◌++◌, length, map, drop, get_or, refl, sym, ap, ◌∙◌, append_assoc}
use Rattle.std.proofs.lemmas.List.{drop_more, drop_all, append-nil}
use Rattle.wm_ast.specs.declared.instruction.Instr.{Instr}
use Rattle.wm_ast.specs.Code.{Code, Op, cons}
use Rattle.wm_ast.specs.View.{code_from, op_of, code_of, instrs_of}
use Rattle.wm_ast.proofs.ViewLaws.{views_back}
use Rattle.wm_join.specs.Renumbered.{Renumbering, renumbered_op, renumbered}

-- one item more
pub one_more : {A B : Type 0} (f : A → B) (old new all : List B) (xs : List A) (i : ℕ) (x : A) (y : B) → i < length xs → x ≡ get_or xs i x → y ≡ f x → new ≡ old ++ y ∷ []
    → old ++ map f (drop i xs) ≡ all → new ++ map f (drop (i + 1) xs) ≡ all
one_more f old new all xs i x y lt is e n h =
    ap (λ (l : List _). l ++ map f (drop (i + 1) xs)) (n ∙ ap (λ (z : _). old ++ z ∷ []) e)
    ∙ append_assoc old (f x ∷ []) (map f (drop (i + 1) xs))
    ∙ ap (λ (z : _). old ++ map f (z ∷ drop (i + 1) xs)) is
    ∙ ap (λ (l : List _). old ++ map f l) (sym (drop_more xs i x lt)) ∙ h

pub all_made : {A B : Type 0} (f : A → B) (found all : List B) (xs : List A) (i : ℕ) → length xs ≤ i → found ++ map f (drop i xs) ≡ all → found ≡ all
all_made f found all xs i le h = sym (append-nil found) ∙ ap (λ (l : List _). found ++ map f l) (sym (drop_all i xs le)) ∙ h

-- so it is of items that are copied
pub one_copied : {A : Type 0} (old new all xs : List A) (i : ℕ) (x y : A) → i < length xs → x ≡ get_or xs i x → y ≡ x → new ≡ old ++ y ∷ []
    → old ++ drop i xs ≡ all → new ++ drop (i + 1) xs ≡ all
one_copied old new all xs i x y lt is e n h =
    ap (λ (l : List _). l ++ drop (i + 1) xs) (n ∙ ap (λ (z : _). old ++ z ∷ []) e)
    ∙ append_assoc old (x ∷ []) (drop (i + 1) xs)
    ∙ ap (λ (z : _). old ++ z ∷ drop (i + 1) xs) is
    ∙ ap (λ (l : List _). old ++ l) (sym (drop_more xs i x lt)) ∙ h

pub all_copied : {A : Type 0} (found all xs : List A) (i : ℕ) → length xs ≤ i → found ++ drop i xs ≡ all → found ≡ all
all_copied found all xs i le h = sym (append-nil found) ∙ ap (λ (l : List _). found ++ l) (sym (drop_all i xs le)) ∙ h

-- Instructions.

abbrev pub renumbered_instr : Renumbering → Instr → Op
renumbered_instr r i = renumbered_op r (op_of i)

all_renumbered : (r : Renumbering) (is : List Instr) → code_from (map (renumbered_instr r) is) ≡ renumbered r (code_of is)
all_renumbered r [] = refl
all_renumbered r (i ∷ is) = ap (cons (renumbered_instr r i)) (all_renumbered r is)

pub finished : (r : Renumbering) (found : List Op) (is : List Instr) (i : ℕ) → length is ≤ i → found ++ map (renumbered_instr r) (drop i is) ≡ map (renumbered_instr r) is
    → code_from found ≡ renumbered r (code_of is)
finished r found is i le h = ap code_from (all_made (renumbered_instr r) found (map (renumbered_instr r) is) is i le h) ∙ all_renumbered r is

-- instructions that are told by their plain data
pub code_back : (c : Code) (is : List Instr) → code_of is ≡ c → is ≡ instrs_of c
code_back c is h = sym (views_back is) ∙ ap instrs_of h
