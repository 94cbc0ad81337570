-- The front of a sequence and what follows it, as lists of instructions.
use Rattle.std.proofs.Common.{◌≡◌, ℕ, zero, suc, ◌<◌, ◌≤◌, List, [], ◌∷◌, length, take, drop, Option, Some, None, refl, ◌∙◌, ap, arith}
use Rattle.wm_ast.specs.declared.instruction.Instr.{Instr}
use Rattle.wm_ast.specs.declared.module.ValType.{ValType}
use Rattle.wm_ast.specs.Code.{Code, cons}
use Rattle.wm_ast.specs.View.{op_of, code_of}
use Rattle.wm_valid.specs.Typing.{Scope}
use Rattle.wm_valid.specs.Place.{front, after_front}
use Rattle.wm_valid.specs.PlaceReading.{run, within, into, operands_at, continued}

fronts : (n : ℕ) (is : List Instr) → n ≤ length is → front n (code_of is) ≡ code_of (take n is)
fronts zero is h = refl
fronts (suc n) [] h = absurd (omega arith)
fronts (suc n) (i ∷ is) h = ap (λ (c : Code). cons (op_of i) c) (fronts n is (omega arith))

follows : (n : ℕ) (is : List Instr) → n ≤ length is → after_front n (code_of is) ≡ Some (code_of (drop n is))
follows zero is h = refl
follows (suc n) [] h = absurd (omega arith)
follows (suc n) (i ∷ is) h = follows n is (omega arith)

nothing_follows : (n : ℕ) (is : List Instr) → length is < n → after_front n (code_of is) ≡ None
nothing_follows zero is h = absurd (omega arith)
nothing_follows (suc n) [] h = refl
nothing_follows (suc n) (i ∷ is) h = nothing_follows n is (omega arith)

-- a place past the end is none
pub outside : (n : ℕ) (path : List ℕ) (is : List Instr) (S : Scope) (ts : List ValType) → length is < n → operands_at (n ∷ path) (code_of is) S ts ≡ None
outside n [] is S ts h = ap (λ (o : Option Code). within o (run (front n (code_of is)) S ts)) (nothing_follows n is h)
outside n (m ∷ path) is S ts h = ap (λ (o : Option Code). into o (run (front n (code_of is)) S ts) m (λ body us. operands_at (m ∷ path) body S us) (λ body us. operands_at path body S us)) (nothing_follows n is h)

-- no place behind a jump is reached
pub unreached : (n : ℕ) (path : List ℕ) (is : List Instr) (S : Scope) (ts : List ValType) → n ≤ length is → run (code_of (take n is)) S ts ≡ None → operands_at (n ∷ path) (code_of is) S ts ≡ None
unreached n [] is S ts h e =
    ap (λ (o : Option Code). within o (run (front n (code_of is)) S ts)) (follows n is h) ∙ (ap (λ (c : Code). run c S ts) (fronts n is h) ∙ e)
unreached n (m ∷ path) is S ts h e =
    ap (λ (o : Option Code). into o (run (front n (code_of is)) S ts) m (λ body us. operands_at (m ∷ path) body S us) (λ body us. operands_at path body S us)) (follows n is h)
    ∙ ap (λ (r : Option (List ValType)). into (Some (code_of (drop n is))) r m (λ body us. operands_at (m ∷ path) body S us) (λ body us. operands_at path body S us)) (ap (λ (c : Code). run c S ts) (fronts n is h) ∙ e)

-- from the front of a sequence the path leads on
pub leads_on : (n : ℕ) (path : List ℕ) (is : List Instr) (S : Scope) (ts us : List ValType) → n ≤ length is → run (code_of (take n is)) S ts ≡ Some us
    → operands_at (n ∷ path) (code_of is) S ts ≡ continued path (code_of (drop n is)) S us
leads_on n [] is S ts us h e =
    ap (λ (o : Option Code). within o (run (front n (code_of is)) S ts)) (follows n is h) ∙ (ap (λ (c : Code). run c S ts) (fronts n is h) ∙ e)
leads_on n (m ∷ path) is S ts us h e =
    ap (λ (o : Option Code). into o (run (front n (code_of is)) S ts) m (λ body us. operands_at (m ∷ path) body S us) (λ body us. operands_at path body S us)) (follows n is h)
    ∙ ap (λ (r : Option (List ValType)). into (Some (code_of (drop n is))) r m (λ body us. operands_at (m ∷ path) body S us) (λ body us. operands_at path body S us)) (ap (λ (c : Code). run c S ts) (fronts n is h) ∙ e)
