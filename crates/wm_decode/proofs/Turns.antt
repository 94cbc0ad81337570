-- Reading instructions one after the other, as a loop does.
use Rattle.std.proofs.Common.{◌≡◌, ℕ, zero, suc, ◌<◌, ◌≤◌, Bool, true, false, eqb, List, [], ◌∷◌, ◌++◌, length, Option, Some, None, refl, sym, ap, subst, ◌∙◌, arith, get_or, take, drop, ◌-◌, ◌⊎◌, inl, inr, eqb-true, eq-eqb}
use Rattle.std.proofs.lemmas.List.{take_all}
use Rattle.wm_ast.specs.Code.{Op, Code, nil, cons}
use Rattle.wm_ast.specs.View.{code_from}
use Rattle.wm_frame.specs.Reading.{◌>>=◌, Reader}
use Rattle.wm_decode.specs.steps.Instruction.{op_by, op_at, inner, code_step, code_at}
use Rattle.wm_decode.specs.declared.fault.Fault.{Fault}
use Rattle.wm_decode.specs.declared.fault.Fault.TheVariants.{Memory, Malformed}
use Rattle.wm_decode.specs.steps.Gives.{Fails}

-- instructions before others
abbrev pub onto : List Op → Code → Code
onto [] c = c
onto (i ∷ is) c = cons i (onto is c)

pub onto-nil : (is : List Op) → onto is nil ≡ code_from is
onto-nil [] = refl
onto-nil (i ∷ is) = ap (cons i) (onto-nil is)

onto-push : (is : List Op) (i : Op) (c : Code) → onto is (cons i c) ≡ onto (is ++ i ∷ []) c
onto-push [] i c = refl
onto-push (j ∷ is) i c = ap (cons j) (onto-push is i c)

-- what was read before, and what is still read
abbrev pub with_front : List Op → Option (Code × List ℕ) → Option (Code × List ℕ)
with_front front r = r >>= λ x. Some (onto front x.0, x.1)

no_front : (r : Option (Code × List ℕ)) → with_front [] r ≡ r
no_front None = refl
no_front (Some x) = refl

regroup : (front : List Op) (i : Op) (r : Option (Code × List ℕ)) → with_front front (r >>= λ is. Some (cons i is.0, is.1)) ≡ with_front (front ++ i ∷ []) r
regroup front i None = refl
regroup front i (Some x) = ap (λ c. Some (c, x.1)) (onto-push front i x.0)

-- the loop goes on from here with enough turns
pub record Going (front : List Op) (n d : ℕ) (bytes rest : List ℕ) : Type 0 where
  pub turns : ℕ
  pub enough : length rest ≤ turns
  pub same : code_at n d bytes ≡ with_front front (code_at (suc turns) d rest)

pub at_first : (n d : ℕ) (bytes : List ℕ) → length bytes < n → Going [] n d bytes bytes
at_first zero d bytes lt = absurd (omega arith)
at_first (suc n) d bytes lt = record { turns = n; enough = omega arith; same = sym (no_front (code_at (suc n) d bytes)) }

-- neither an end nor an else
abbrev pub GoesOn : ℕ → Type 0
GoesOn b = (eqb b 0x0B ≡ false) × (eqb b 0x05 ≡ false)

step_is : (n d b : ℕ) (bs : List ℕ) → GoesOn b → code_at (suc n) d (b ∷ bs) ≡ code_step (op_at (inner (code_at n) d)) (code_at n d) (b ∷ bs)
unfolding code_at
step_is n d b bs g = rw (g.0, g.1) refl

pub goes_on : (front : List Op) (n d : ℕ) (bytes : List ℕ) (b : ℕ) (bs : List ℕ) (i : Op) (after : List ℕ) → GoesOn b → ((k : ℕ) → length (b ∷ bs) ≤ k → op_at (inner (code_at k) d) (b ∷ bs) ≡ Some (i, after))
    → length after < length (b ∷ bs) → Going front n d bytes (b ∷ bs) → Going (front ++ i ∷ []) n d bytes after
goes_on front n d bytes b bs i after g read shorter w = by_turns w.turns w.enough w.same
  where
    by_turns : (k : ℕ) → length (b ∷ bs) ≤ k → code_at n d bytes ≡ with_front front (code_at (suc k) d (b ∷ bs)) → Going (front ++ i ∷ []) n d bytes after
    by_turns zero le same = absurd (omega arith)
    by_turns (suc k) le same =
        let e : code_at (suc (suc k)) d (b ∷ bs) ≡ (code_at (suc k) d after >>= λ is. Some (cons i is.0, is.1)) = step_is (suc k) d b bs g ∙ rw (read (suc k) le) refl in
        record { turns = k; enough = omega arith; same = same ∙ ap (with_front front) e ∙ regroup front i (code_at (suc k) d after) }

pub stops : (front : List Op) (n d : ℕ) (bytes : List ℕ) (b : ℕ) (bs : List ℕ) (e : Fault) → GoesOn b → ((k : ℕ) → length (b ∷ bs) ≤ k → Fails e (op_at (inner (code_at k) d) (b ∷ bs)))
    → Going front n d bytes (b ∷ bs) → Fails e (code_at n d bytes)
stops front n d bytes b bs Memory g read w = tt
stops front n d bytes b bs Malformed g read w =
    let e : code_at (suc w.turns) d (b ∷ bs) ≡ None = step_is w.turns d b bs g ∙ rw (read w.turns w.enough) refl in
    w.same ∙ ap (with_front front) e

pub ends : (front : List Op) (n d : ℕ) (bytes : List ℕ) (b : ℕ) (bs : List ℕ) → (t : Bool) → eqb b 0x0B ≡ t → (t ≡ false → eqb b 0x05 ≡ true) → Going front n d bytes (b ∷ bs) → code_at n d bytes ≡ Some (code_from front, b ∷ bs)
unfolding code_at
ends front n d bytes b bs true is h w =
    let e : code_at (suc w.turns) d (b ∷ bs) ≡ Some (nil, b ∷ bs) = rw is refl in
    w.same ∙ ap (with_front front) e ∙ ap (λ c. Some (c, b ∷ bs)) (onto-nil front)
ends front n d bytes b bs false is h w =
    let e : code_at (suc w.turns) d (b ∷ bs) ≡ Some (nil, b ∷ bs) = rw (is, h refl) refl in
    w.same ∙ ap (with_front front) e ∙ ap (λ c. Some (c, b ∷ bs)) (onto-nil front)

pub empty : (front : List Op) (n d : ℕ) (bytes : List ℕ) → Going front n d bytes [] → code_at n d bytes ≡ None
unfolding code_at
empty front n d bytes w = w.same

-- the first byte and what follows, as a slice's pattern has them
pub op_split : (read : Reader Code) (bytes : List ℕ) → 1 ≤ length bytes → op_at read bytes ≡ op_by read (get_or bytes 0 0) (take (length bytes - 1) (drop 1 bytes))
unfolding op_at
op_split read [] le = absurd (omega arith)
op_split read (b ∷ bs) le =
    let k : length (b ∷ bs) - 1 ≡ length bs = omega arith in
    ap (op_by read b) (sym (ap (λ i. take i bs) k ∙ take_all (length bs) bs (omega arith)))

-- the bytes of a slice that is not empty
pub not_empty : (bytes : List ℕ) → 1 ≤ length bytes → bytes ≡ get_or bytes 0 0 ∷ drop 1 bytes
not_empty [] le = absurd (omega arith)
not_empty (b ∷ bs) le = refl

not_eqb : (a b : ℕ) → (a ≡ b → ⊥) → eqb a b ≡ false
not_eqb a b ne = go (eqb a b) refl
  where
    go : (t : Bool) → eqb a b ≡ t → t ≡ false
    go true e = absurd (ne (eqb-true a b e))
    go false e = refl

-- the same three steps, at a slice's first byte
module _ (front : List Op) (n d : ℕ) (bytes rest : List ℕ) (some : 1 ≤ length rest) (w : Going front n d bytes rest) where
  at_cons : (b : ℕ) (bs : List ℕ) → rest ≡ b ∷ bs → Going front n d bytes (b ∷ bs)
  at_cons b bs e = subst (λ (l : List ℕ). Going front n d bytes l) e w

  pub ends_here : (get_or rest 0 0 ≡ 0x0B) ⊎ (get_or rest 0 0 ≡ 0x05) → code_at n d bytes ≡ Some (code_from front, rest)
  ends_here h =
      let e = not_empty rest some in
      let b = get_or rest 0 0 in
      let w' = at_cons b (drop 1 rest) e in
      elim h [
        | inl k ↦ ends front n d bytes b (drop 1 rest) true (eq-eqb b 0x0B k) (λ f. absurd cc) w' ∙ ap (λ (l : List ℕ). Some (code_from front, l)) (sym e)
        | inr k ↦ ends front n d bytes b (drop 1 rest) false (not_eqb b 0x0B (λ k'. omega arith)) (λ _. eq-eqb b 0x05 k) w' ∙ ap (λ (l : List ℕ). Some (code_from front, l)) (sym e)
      ]

  pub stops_here : (e : Fault) → (get_or rest 0 0 ≡ 0x0B → ⊥) → (get_or rest 0 0 ≡ 0x05 → ⊥) → ((k : ℕ) → length rest ≤ k → Fails e (op_at (inner (code_at k) d) rest)) → Fails e (code_at n d bytes)
  stops_here e no_end no_else read =
      let is = not_empty rest some in
      let b = get_or rest 0 0 in
      stops front n d bytes b (drop 1 rest) e (not_eqb b 0x0B no_end, not_eqb b 0x05 no_else) (λ k le. subst (λ (l : List ℕ). length l ≤ k → Fails e (op_at (inner (code_at k) d) l)) is (read k) le) (at_cons b (drop 1 rest) is)

  pub goes_here : (i : Op) (after : List ℕ) → (get_or rest 0 0 ≡ 0x0B → ⊥) → (get_or rest 0 0 ≡ 0x05 → ⊥) → ((k : ℕ) → length rest ≤ k → op_at (inner (code_at k) d) rest ≡ Some (i, after)) → length after < length rest → Going (front ++ i ∷ []) n d bytes after
  goes_here i after no_end no_else read shorter =
      let is = not_empty rest some in
      let b = get_or rest 0 0 in
      goes_on front n d bytes b (drop 1 rest) i after (not_eqb b 0x0B no_end, not_eqb b 0x05 no_else) (λ k le. subst (λ (l : List ℕ). length l ≤ k → op_at (inner (code_at k) d) l ≡ Some (i, after)) is (read k) le) (subst (λ (l : List ℕ). length after < length l) is shorter) (at_cons b (drop 1 rest) is)
