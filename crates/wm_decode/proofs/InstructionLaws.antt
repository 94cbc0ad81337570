-- An expression: what is spelled is read, whatever follows, and what is read is spelled so.
use Rattle.std.proofs.Common.{◌≡◌, ℕ, suc, List, [], ◌∷◌, ◌++◌, length, Some, refl, sym, ap, subst, ◌∙◌, arith, inl}
use Rattle.std.proofs.lemmas.List.{append_assoc, length-append}
use Rattle.wm_ast.specs.Code.{Code}
use Rattle.wm_ast.specs.Instruction.{SpellsExpr}
use Rattle.wm_frame.specs.Front.{AtFront}
use Rattle.wm_frame.specs.Reading.{◌>>=◌}
use Rattle.wm_frame.proofs.Readers.{IsBytes, Reads, some_is, bind_some}
use Rattle.wm_decode.specs.steps.Instruction.{code_at, expr_at}
use Rattle.wm_decode.specs.steps.Listing.{byte_at}
use Rattle.wm_decode.proofs.InstructionAgain.{code_again}
use Rattle.wm_decode.proofs.InstructionTakes.{code_takes, byte_takes}

expr_again : (front : List ℕ) (code : Code) (rest : List ℕ) → SpellsExpr code front → expr_at (front ++ rest) ≡ Some (code, rest)
unfolding expr_at byte_at
expr_again front code rest s =
    let l = ap length s.whole ∙ length-append s.inside (0x0B ∷ []) in
    let m = length-append front rest in
    let flat : front ++ rest ≡ s.inside ++ 0x0B ∷ rest = ap (λ (t : List ℕ). t ++ rest) s.whole ∙ append_assoc s.inside (0x0B ∷ []) rest in
    let again : code_at (suc (length (front ++ rest))) 1024 (front ++ rest) ≡ Some (code, 0x0B ∷ rest) =
    ap (code_at (suc (length (front ++ rest))) 1024) flat ∙ code_again code (suc (length (front ++ rest))) 1024 s.inside rest 0x0B (inl refl) s.spells s.depth (omega arith) in
    rw again refl

expr_takes : (bytes : List ℕ) (y : Code × List ℕ) → IsBytes bytes → expr_at bytes ≡ Some y → AtFront SpellsExpr bytes y.0 y.1
unfolding expr_at
expr_takes bytes y fits e =
    let a = bind_some (code_at (suc (length bytes)) 1024 bytes) (λ c. byte_at 0x0B c.1 >>= λ rest. Some (c.0, rest)) y e in
    let t = code_takes (suc (length bytes)) 1024 bytes a.0 fits a.1 in
    let r = bind_some (byte_at 0x0B a.0.1) (λ rest. Some (a.0.0, rest)) y a.2 in
    let f = byte_takes 0x0B a.0.1 r.0 r.1 in
    let whole : bytes ≡ (t.text ++ 0x0B ∷ []) ++ r.0 = t.parts ∙ ap (λ (l : List ℕ). t.text ++ l) f ∙ sym (append_assoc t.text (0x0B ∷ []) r.0) in
    subst (λ (w : Code × List ℕ). AtFront SpellsExpr bytes w.0 w.1) (some_is (a.0.0, r.0) y r.2)
    (record { front = t.text ++ 0x0B ∷ []; parts = whole; spells = record { inside = t.text; spells = t.spells; whole = refl; depth = t.depth } })

pub expr_reads : Reads SpellsExpr expr_at
expr_reads = record { again = expr_again; takes = expr_takes }
