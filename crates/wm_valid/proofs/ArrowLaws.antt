-- The instructions that have one type in their context.
use Rattle.std.proofs.Common.{◌≡◌, ℕ, ◌+◌, ◌^◌, ◌≤◌, ◌<◌, add-one, List, [], ◌∷◌, length, drop, get_or, reverse, Bool, true, false, ◌&&◌, nat_le, Option, Some, None, refl, sym, ap, subst, ◌∙◌}
use Rattle.std.specs.Prelude.{slice_get}
use Rattle.std.proofs.Math.Seq.{drop-cons}
use Rattle.std.proofs.lemmas.Bool.{le-leb, leb-true}
use Rattle.std.proofs.lemmas.List.{reverse-reverse}
use Rattle.wm_ast.specs.declared.module.ValType.{ValType}
use Rattle.wm_ast.specs.declared.module.ValType.TheVariants.{I32}
use Rattle.wm_ast.specs.declared.module.FuncType.{FuncType}
use Rattle.wm_ast.specs.declared.module.Limits.{Limits}
use Rattle.wm_ast.specs.Code.{Op, unreachable, nop, block, loop, if_else, br, br_if, br_table, return, call, call_indirect, drop_one, select, local_get, local_set, local_tee, global_get, global_set, load, store, memory_size, memory_grow, memory_copy, memory_fill, const, num, float, mul64}
use Rattle.wm_ast.specs.Operation.{Arrow, num_type, load_type, load_width, store_type, store_width}
use Rattle.wm_ast.specs.Types.{const_type, same_types}
use Rattle.wm_ast.proofs.TypeLaws.{same_types_is, same_types_self}
use Rattle.wm_valid.specs.Typing.{Context, HasFirst, EachTakes, Just, Rule}
use Rattle.wm_valid.specs.Arrows.{has_first, arrow, access, on_memory, call_type, set_type, arrow_of}
use Rattle.wm_valid.specs.steps.Checking.{takes, each_takes}
use Rattle.wm_valid.proofs.OperandLaws.{some_is, bind_some, if_some}

and_true : (a b : Bool) → (a && b) ≡ true → (a ≡ true) × (b ≡ true)
and_true true b e = (refl, e)
and_true false b e = absurd cc

pub first_sound : {A : Type 0} (xs : List A) → has_first xs ≡ true → HasFirst xs
first_sound [] e = absurd cc
first_sound (x ∷ xs) e = tt

pub first_complete : {A : Type 0} (xs : List A) → HasFirst xs → has_first xs ≡ true
first_complete [] h = absurd h
first_complete (x ∷ xs) h = refl

-- what tells whether two lists are one tells whether their reverses are
pub reverses_same : (xs ys : List ValType) (r : Bool) → (r ≡ true → xs ≡ ys) × (xs ≡ ys → r ≡ true) → r ≡ same_types (reverse xs) (reverse ys)
reverses_same xs ys true d = sym (ap (λ (l : List ValType). same_types (reverse l) (reverse ys)) (d.0 refl) ∙ same_types_self (reverse ys))
reverses_same xs ys false d = go (same_types (reverse xs) (reverse ys)) refl
  where
    apart : xs ≡ ys → ⊥
    apart e = let h = d.1 e in absurd cc

    go : (b : Bool) → same_types (reverse xs) (reverse ys) ≡ b → false ≡ b
    go false e = refl
    go true e = absurd (apart (sym (reverse-reverse xs) ∙ ap reverse (same_types_is (reverse xs) (reverse ys) e) ∙ reverse-reverse ys))

-- one label, and then the others
pub next_target : (ls : List ℕ) (i : ℕ) (labels : List (List ValType)) (ts : List ValType) (b : Bool) → i < length ls → takes ts (slice_get labels (get_or ls i 0)) ≡ b → each_takes (drop i ls) labels ts ≡ (b && each_takes (drop (i + 1) ls) labels ts)
next_target ls i labels ts b lt e = rw (drop-cons ls i 0 lt) (rw (e, add-one i) refl)

takes_sound : (ts : List ValType) (o : Option (List ValType)) → takes ts o ≡ true → o ≡ Some ts
takes_sound ts None e = absurd cc
takes_sound ts (Some us) e = ap Some (same_types_is us ts e)

pub each_sound : (ls : List ℕ) (labels : List (List ValType)) (ts : List ValType) → each_takes ls labels ts ≡ true → EachTakes ls labels ts
each_sound [] labels ts e = tt
each_sound (l ∷ ls) labels ts e =
    let a = and_true (takes ts (slice_get labels l)) (each_takes ls labels ts) e in
    (takes_sound ts (slice_get labels l) a.0, each_sound ls labels ts a.1)

pub each_complete : (ls : List ℕ) (labels : List (List ValType)) (ts : List ValType) → EachTakes ls labels ts → each_takes ls labels ts ≡ true
each_complete [] labels ts h = refl
each_complete (l ∷ ls) labels ts h = let e = same_types_self ts in rw (h.0, e) (each_complete ls labels ts h.1)

-- an instruction with one type has just that one
just_along : (g h : Arrow) (x y : List ValType) → g ≡ h → Just h.takes h.gives x y → Just g.takes g.gives x y
just_along g h x y e j = subst (λ (z : Arrow). Just z.takes z.gives x y) (sym e) j

on_memory_some : (ms : List Limits) (h g : Arrow) → on_memory ms h ≡ Some g → HasFirst ms × (h ≡ g)
on_memory_some ms h g e =
    let a = if_some (has_first ms) (Some h) g e in
    (first_sound ms a.0, some_is h g a.1)

access_some : (ms : List Limits) (align width : ℕ) (h g : Arrow) → access ms align width h ≡ Some g → HasFirst ms × (2 ^ align ≤ width) × (h ≡ g)
access_some ms align width h g e =
    let a = if_some (nat_le (2 ^ align) width) (on_memory ms h) g e in
    let b = on_memory_some ms h g a.1 in
    (b.0, leb-true (2 ^ align) width a.0, b.1)

-- what a call of a function of this type takes and gives
abbrev pub call_arrow : FuncType → Arrow
call_arrow t = arrow (reverse t.params) (reverse t.results)

pub call_some : (o : Option FuncType) (g : Arrow) → call_type o ≡ Some g → (t : FuncType) × (o ≡ Some t) × (call_arrow t ≡ g)
call_some o g e =
    let a = bind_some o (λ t. Some (call_arrow t)) g e in
    (a.0, a.1, some_is (call_arrow a.0) g a.2)

pub rule_of_arrow : (i : Op) (C : Context) (g : Arrow) (x y : List ValType) → arrow_of i C.scope ≡ Some g → Just g.takes g.gives x y → Rule i C x y
rule_of_arrow nop C g x y e j = just_along (arrow [] []) g x y (some_is (arrow [] []) g e) j
rule_of_arrow (call f) C g x y e j =
    let a = bind_some (slice_get C.scope.functions f) call_type g e in
    let b = call_some a.0 g a.2 in
    (b.0, a.1 ∙ ap Some b.1, just_along (call_arrow b.0) g x y b.2 j)
rule_of_arrow (local_get n) C g x y e j =
    let a = bind_some (slice_get C.scope.locals n) (λ t. Some (arrow [] (t ∷ []))) g e in
    (a.0, a.1, just_along (arrow [] (a.0 ∷ [])) g x y (some_is (arrow [] (a.0 ∷ [])) g a.2) j)
rule_of_arrow (local_set n) C g x y e j =
    let a = bind_some (slice_get C.scope.locals n) (λ t. Some (arrow (t ∷ []) [])) g e in
    (a.0, a.1, just_along (arrow (a.0 ∷ []) []) g x y (some_is (arrow (a.0 ∷ []) []) g a.2) j)
rule_of_arrow (local_tee n) C g x y e j =
    let a = bind_some (slice_get C.scope.locals n) (λ t. Some (arrow (t ∷ []) (t ∷ []))) g e in
    (a.0, a.1, just_along (arrow (a.0 ∷ []) (a.0 ∷ [])) g x y (some_is (arrow (a.0 ∷ []) (a.0 ∷ [])) g a.2) j)
rule_of_arrow (global_get n) C g x y e j =
    let a = bind_some (slice_get C.scope.globals n) (λ v. Some (arrow [] (v.holds ∷ []))) g e in
    let h = arrow [] (a.0.holds ∷ []) in
    (a.0, a.1, just_along h g x y (some_is h g a.2) j)
rule_of_arrow (global_set n) C g x y e j =
    let a = bind_some (slice_get C.scope.globals n) set_type g e in
    let h = arrow (a.0.holds ∷ []) [] in
    let b = if_some a.0.mutable (Some h) g a.2 in
    (a.0, a.1, b.0, just_along h g x y (some_is h g b.1) j)
rule_of_arrow (load op align offset) C g x y e j =
    let h = arrow (I32 ∷ []) (load_type op ∷ []) in
    let a = access_some C.scope.memories align (load_width op) h g e in
    (a.0, a.1, just_along h g x y a.2 j)
rule_of_arrow (store op align offset) C g x y e j =
    let h = arrow (store_type op ∷ I32 ∷ []) [] in
    let a = access_some C.scope.memories align (store_width op) h g e in
    (a.0, a.1, just_along h g x y a.2 j)
rule_of_arrow memory_size C g x y e j =
    let h = arrow [] (I32 ∷ []) in
    let a = on_memory_some C.scope.memories h g e in
    (a.0, just_along h g x y a.1 j)
rule_of_arrow memory_grow C g x y e j =
    let h = arrow (I32 ∷ []) (I32 ∷ []) in
    let a = on_memory_some C.scope.memories h g e in
    (a.0, just_along h g x y a.1 j)
rule_of_arrow memory_copy C g x y e j =
    let h = arrow (I32 ∷ I32 ∷ I32 ∷ []) [] in
    let a = on_memory_some C.scope.memories h g e in
    (a.0, just_along h g x y a.1 j)
rule_of_arrow memory_fill C g x y e j =
    let h = arrow (I32 ∷ I32 ∷ I32 ∷ []) [] in
    let a = on_memory_some C.scope.memories h g e in
    (a.0, just_along h g x y a.1 j)
rule_of_arrow (const v) C g x y e j =
    let h = arrow [] (const_type v ∷ []) in
    just_along h g x y (some_is h g e) j
rule_of_arrow (num op) C g x y e j = just_along (num_type op) g x y (some_is (num_type op) g e) j
rule_of_arrow _ C g x y e j = absurd cc

-- the one type of an instruction, which it has
pub record Typed (i : Op) (C : Context) (x y : List ValType) : Type 0 where
  pub type : Arrow
  pub is : arrow_of i C.scope ≡ Some type
  pub just : Just type.takes type.gives x y

-- the instructions that have one type in their context
abbrev pub IsPlain : Op → Type 0
IsPlain unreachable = ⊥
IsPlain (block ty body) = ⊥
IsPlain (loop ty body) = ⊥
IsPlain (if_else ty first second) = ⊥
IsPlain (br l) = ⊥
IsPlain (br_if l) = ⊥
IsPlain (call_indirect n) = ⊥
IsPlain (br_table ls l) = ⊥
IsPlain return = ⊥
IsPlain drop_one = ⊥
IsPlain select = ⊥
IsPlain _ = Unit {0}

on_memory_is : (ms : List Limits) (h : Arrow) → HasFirst ms → on_memory ms h ≡ Some h
on_memory_is ms h s = let e = first_complete ms s in rw e refl

access_is : (ms : List Limits) (align width : ℕ) (h : Arrow) → HasFirst ms → 2 ^ align ≤ width → access ms align width h ≡ Some h
access_is ms align width h s le = let e : nat_le (2 ^ align) width ≡ true = le-leb (2 ^ align) width le in rw e (on_memory_is ms h s)

pub arrow_of_rule : (i : Op) (C : Context) (x y : List ValType) → IsPlain i → Rule i C x y → Typed i C x y
arrow_of_rule nop C x y p r = record { type = arrow [] []; is = refl; just = r }
arrow_of_rule (call f) C x y p r = record { type = arrow (reverse r.0.params) (reverse r.0.results); is = rw r.1 refl; just = r.2 }
arrow_of_rule (local_get n) C x y p r = record { type = arrow [] (r.0 ∷ []); is = rw r.1 refl; just = r.2 }
arrow_of_rule (local_set n) C x y p r = record { type = arrow (r.0 ∷ []) []; is = rw r.1 refl; just = r.2 }
arrow_of_rule (local_tee n) C x y p r = record { type = arrow (r.0 ∷ []) (r.0 ∷ []); is = rw r.1 refl; just = r.2 }
arrow_of_rule (global_get n) C x y p r = record { type = arrow [] (r.0.holds ∷ []); is = rw r.1 refl; just = r.2 }
arrow_of_rule (global_set n) C x y p r = record { type = arrow (r.0.holds ∷ []) []; is = rw (r.1, r.2) refl; just = r.3 }
arrow_of_rule (load op align offset) C x y p r =
    let h = arrow (I32 ∷ []) (load_type op ∷ []) in
    record { type = h; is = access_is C.scope.memories align (load_width op) h r.0 r.1; just = r.2 }
arrow_of_rule (store op align offset) C x y p r =
    let h = arrow (store_type op ∷ I32 ∷ []) [] in
    record { type = h; is = access_is C.scope.memories align (store_width op) h r.0 r.1; just = r.2 }
arrow_of_rule memory_size C x y p r = let h = arrow [] (I32 ∷ []) in record { type = h; is = on_memory_is C.scope.memories h r.0; just = r.1 }
arrow_of_rule memory_grow C x y p r = let h = arrow (I32 ∷ []) (I32 ∷ []) in record { type = h; is = on_memory_is C.scope.memories h r.0; just = r.1 }
arrow_of_rule memory_copy C x y p r = let h = arrow (I32 ∷ I32 ∷ I32 ∷ []) [] in record { type = h; is = on_memory_is C.scope.memories h r.0; just = r.1 }
arrow_of_rule memory_fill C x y p r = let h = arrow (I32 ∷ I32 ∷ I32 ∷ []) [] in record { type = h; is = on_memory_is C.scope.memories h r.0; just = r.1 }
arrow_of_rule (const v) C x y p r = record { type = arrow [] (const_type v ∷ []); is = refl; just = r }
arrow_of_rule (num op) C x y p r = record { type = num_type op; is = refl; just = r }
arrow_of_rule (float opcode) C x y p r = absurd r
arrow_of_rule mul64 C x y p r = absurd r
arrow_of_rule unreachable C x y p r = absurd p
arrow_of_rule (block ty body) C x y p r = absurd p
arrow_of_rule (loop ty body) C x y p r = absurd p
arrow_of_rule (if_else ty first second) C x y p r = absurd p
arrow_of_rule (br l) C x y p r = absurd p
arrow_of_rule (br_if l) C x y p r = absurd p
arrow_of_rule (call_indirect n) C x y p r = absurd p
arrow_of_rule (br_table ls l) C x y p r = absurd p
arrow_of_rule return C x y p r = absurd p
arrow_of_rule drop_one C x y p r = absurd p
arrow_of_rule select C x y p r = absurd p
