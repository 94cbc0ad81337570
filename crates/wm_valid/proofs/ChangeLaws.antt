-- In typed code the operands after an instruction are determined.
use Rattle.std.proofs.Common.{◌≡◌, ℕ, ◌-◌, ◌<◌, ◌≤◌, List, [], ◌∷◌, ◌++◌, length, take, drop, Bool, true, false, Option, Some, None, refl, sym, ◌∙◌, ap, subst, arith}
use Rattle.std.specs.Prelude.{◌^◌, nat_le, if◌then◌else◌, reverse, option_map, map, slice_get}
use Rattle.std.proofs.Math.Seq.{drop-append_seam}
use Rattle.std.proofs.Math.ListN.{drop_of_length-le}
use Rattle.std.proofs.lemmas.Bool.{cases_lt}
use Rattle.std.proofs.lemmas.Option.{slice_get-map}
use Rattle.std.proofs.lemmas.List.{append_assoc, length-reverse, length-drop, reverse-append, take-append-drop}
use mathlib.Core.Logic.{⊎_elim}
use Rattle.wm_ast.specs.declared.item.Item.TheVariants.{Types}
use Rattle.wm_ast.specs.declared.module.Func.{Func}
use Rattle.wm_ast.specs.declared.module.FuncType.{FuncType}
use Rattle.wm_ast.specs.declared.module.Limits.{Limits}
use Rattle.wm_ast.specs.declared.module.Module.{Module}
use Rattle.wm_ast.specs.declared.module.ValType.{ValType}
use Rattle.wm_ast.specs.declared.module.ValType.TheVariants.{I32}
use Rattle.wm_ast.specs.declared.operation.NumOp.{NumOp}
use Rattle.wm_ast.specs.declared.operation.NumOp.TheVariants.{I32Eqz}
use Rattle.wm_ast.specs.Code.{Op, unreachable, nop, block, loop, if_else, br, br_if, br_table, return, call, call_indirect, drop_one, select, local_get, local_set, local_tee, global_get, global_set, load, store, memory_size, memory_grow, memory_copy, memory_fill, const, num}
use Rattle.wm_ast.specs.Operation.{Arrow, num_type, load_type, load_width, store_type, store_width}
use Rattle.wm_ast.specs.Types.{results_of, const_type, function_type}
use Rattle.wm_valid.specs.Typing.{Context, Rule, Just, global_type, Scope, body_scope}
use Rattle.wm_valid.specs.Place.{is_jump}
use Rattle.wm_valid.specs.Valid.{AllItemsValid}
use Rattle.wm_valid.specs.declared.rule.Change.{Change as Found}
use Rattle.wm_valid.specs.declared.scope.Scope.{Scope as Surroundings}
use Rattle.wm_valid.specs.Arrows.{arrow, has_first, on_memory, call_type, indirect, placed, set_type, arrow_of, Change, changes, changed, by_arrow, change}
use Rattle.wm_valid.specs.ScopeView.{made, body_of}
use Rattle.wm_valid.proofs.OperandLaws.{some_is, bind_some, if_some}
use Rattle.wm_valid.proofs.ArrowLaws.{first_complete, call_arrow, call_some, arrow_of_rule}

-- over any operands, the change leaves these
abbrev Settles : Change → List ValType → List ValType → Type 0
Settles e a b = (rest : List ValType) → b ++ rest ≡ changed e (a ++ rest)

-- the instruction has a change, which leaves what its type says
record Settled (i : Op) (S : Scope) (a b : List ValType) : Type 0 where
  pub made : Change
  pub is : change i S ≡ Some made
  pub settles : Settles made a b

just : (n : ℕ) (left takes gives a b : List ValType) → Just takes gives a b → Settles (changes n left) takes gives → Settles (changes n left) a b
just n left takes gives a b j s rest = ap (λ (l : List ValType). l ++ rest) j.1 ∙ (s rest ∙ ap (λ (l : List ValType). changed (changes n left) (l ++ rest)) (sym j.0))

-- what an instruction takes and gives is taken and given
by_just : (g : Arrow) (a b : List ValType) → Just g.takes g.gives a b → Settles (by_arrow g) a b
by_just g a b j = just (length g.takes) g.gives g.takes g.gives a b j (λ rest. ap (λ (l : List ValType). g.gives ++ l) (sym (drop-append_seam g.takes rest)))

settles : (i : Op) (C : Context) (a b : List ValType) → is_jump i ≡ false → Rule i C a b → Settled i C.scope a b
settles unreachable C a b n r = absurd (cc)
settles (br l) C a b n r = absurd (cc)
settles (br_table ls l) C a b n r = absurd (cc)
settles return C a b n r = absurd (cc)
settles (block ty body) C a b n r = record { made = changes 0 (results_of ty); is = refl; settles = just 0 (results_of ty) [] (results_of ty) a b r.0 (λ rest. refl) }
settles (loop ty body) C a b n r = record { made = changes 0 (results_of ty); is = refl; settles = just 0 (results_of ty) [] (results_of ty) a b r.0 (λ rest. refl) }
settles (if_else ty first second) C a b n r = record { made = changes 1 (results_of ty); is = refl; settles = just 1 (results_of ty) (I32 ∷ []) (results_of ty) a b r.0 (λ rest. refl) }
settles (br_if l) C a b n (ts, e, j) = record { made = changes 1 []; is = refl; settles = just 1 [] (I32 ∷ ts) ts a b j (λ rest. refl) }
settles (call_indirect f) C a b n (t, first, e, j) =
    let some : has_first C.scope.tables ≡ true = first_complete C.scope.tables first in
    record { made = by_arrow (placed (call_arrow t)); is = rw (some, e) refl; settles = by_just (placed (call_arrow t)) a b j }
settles drop_one C a b n (t, j) = record { made = changes 1 []; is = refl; settles = just 1 [] (t ∷ []) [] a b j (λ rest. refl) }
settles select C a b n (t, j) = record { made = changes 2 []; is = refl; settles = just 2 [] (I32 ∷ t ∷ t ∷ []) (t ∷ []) a b j (λ rest. refl) }
settles i C a b n r =
    let t = arrow_of_rule i C a b tt r in
    record { made = by_arrow t.type; is = ap (option_map by_arrow) t.is; settles = by_just t.type a b t.just }

-- a jump has no change
pub stops : (i : Op) (S : Scope) → is_jump i ≡ true → change i S ≡ None
stops unreachable S j = refl
stops (br l) S j = refl
stops (br_table ls l) S j = refl
stops return S j = refl
stops _ S j = absurd (cc)

-- the instruction has a change, which leaves these over any operands under them
pub record Stepped (i : Op) (S : Scope) (a b under : List ValType) : Type 0 where
  pub made : Change
  pub is : change i S ≡ Some made
  pub leaves : changed made (a ++ under) ≡ b ++ under

pub step : (i : Op) (C : Context) (a takes gives below under : List ValType) → is_jump i ≡ false → Rule i C takes gives → a ≡ takes ++ below
    → Stepped i C.scope a (gives ++ below) under
step i C a takes gives below under n r e =
    let s : Settled i C.scope takes gives = settles i C takes gives n r in
    let e0 : changed s.made (a ++ under) ≡ changed s.made ((takes ++ below) ++ under) = ap (λ (l : List ValType). changed s.made (l ++ under)) e in
    let e1 : changed s.made ((takes ++ below) ++ under) ≡ changed s.made (takes ++ (below ++ under)) = ap (λ (l : List ValType). changed s.made l) (append_assoc takes below under) in
    let e2 : gives ++ (below ++ under) ≡ changed s.made (takes ++ (below ++ under)) = s.settles (below ++ under) in
    record { made = s.made; is = s.is; leaves = e0 ∙ (e1 ∙ (sym e2 ∙ sym (append_assoc gives below under))) }

-- a result is one type at most, so it reads alike from both ends
pub one_way : (o : Option ValType) → reverse (results_of o) ≡ results_of o
one_way None = refl
one_way (Some t) = refl

last_first : (k n : ℕ) (xs : List ValType) → n ≤ length xs → k ≡ length xs - n → reverse (take k xs) ≡ drop n (reverse xs)
last_first k n xs few is =
    let parts : reverse xs ≡ reverse (drop k xs) ++ reverse (take k xs) = ap (λ (l : List ValType). reverse l) (sym (take-append-drop k xs)) ∙ reverse-append (take k xs) (drop k xs) in
    let so_many : length (reverse (drop k xs)) ≡ n = omega (arith, length-reverse (drop k xs), length-drop k xs) in
    sym (ap (λ (l : List ValType). drop n l) parts ∙ (ap (λ (m : ℕ). drop m (reverse (drop k xs) ++ reverse (take k xs))) (sym so_many) ∙ drop-append_seam (reverse (drop k xs)) (reverse (take k xs))))

too_many : (k n : ℕ) (xs : List ValType) → length xs < n → k ≡ length xs - n → reverse (take k xs) ≡ drop n (reverse xs)
too_many k n xs many is =
    let none : k ≡ 0 = omega arith in
    let past : length (reverse xs) ≤ n = omega (arith, length-reverse xs) in
    ap (λ (m : ℕ). reverse (take m xs)) none ∙ sym (drop_of_length-le (reverse xs) past)

-- operands that are taken from the end and put there, seen from the last on
pub changed_back : (n : ℕ) (xs gives : List ValType) → reverse (take (length xs - n) xs ++ gives) ≡ reverse gives ++ drop n (reverse xs)
changed_back n xs gives = reverse-append (take (length xs - n) xs) gives ∙ ap (λ (l : List ValType). reverse gives ++ l)
    (⊎_elim (λ (many : length xs < n). too_many (length xs - n) n xs many refl) (λ (few : n ≤ length xs). last_first (length xs - n) n xs few refl) (cases_lt (length xs) n))

-- as many are given, seen from either end
pub alike_long : (l : List ValType) → length (reverse l) ≡ length l
alike_long l = length-reverse l

-- Each instruction of a valid module gives at most one operand more than it keeps.

few_results : (o : Option ValType) → length (results_of o) ≤ 1
few_results None = omega arith
few_results (Some t) = omega arith

few_by_num : (op : NumOp) → length (num_type op).gives ≤ 1
few_by_num I32Eqz = omega arith
few_by_num _ = omega arith

few_called : (m : Module) (n : ℕ) (g : Arrow) → AllItemsValid m → call_type (slice_get m.types n) ≡ Some g → length g.gives ≤ 1
few_called m n g valid e =
    let c = call_some (slice_get m.types n) g e in
    let few : length c.0.results ≤ 1 = valid Types n c.0 c.1 in
    subst (λ (h : Arrow). length h.gives ≤ 1) c.2 (omega (arith, length-reverse c.0.results))

-- what gives so few gives so few
few_along : (h g : Arrow) → h ≡ g → length h.gives ≤ 1 → length g.gives ≤ 1
few_along h g e few = subst (λ (z : Arrow). length z.gives ≤ 1) e few

few_on_memory : (ms : List Limits) (h g : Arrow) → on_memory ms h ≡ Some g → length h.gives ≤ 1 → length g.gives ≤ 1
few_on_memory ms h g e few = let a = if_some (has_first ms) (Some h) g e in few_along h g (some_is h g a.1) few

few_access : (ms : List Limits) (b : Bool) (h g : Arrow) → (if b then on_memory ms h else None) ≡ Some g → length h.gives ≤ 1 → length g.gives ≤ 1
few_access ms b h g e few = few_on_memory ms h g (if_some b (on_memory ms h) g e).1 few

few_by_type : (m : Module) (locals : List ValType) (i : Op) (g : Arrow) → AllItemsValid m → arrow_of i (body_scope m locals) ≡ Some g → length g.gives ≤ 1
few_by_type m locals nop g valid e = few_along (arrow [] []) g (some_is (arrow [] []) g e) (omega arith)
few_by_type m locals (call f) g valid e =
    let a = bind_some (slice_get (map (function_type m) m.funcs) f) call_type g e in
    let b : option_map (function_type m) (slice_get m.funcs f) ≡ Some a.0 = sym (slice_get-map (function_type m) m.funcs f) ∙ a.1 in
    named (slice_get m.funcs f) a.0 b a.2
  where
    named : (o : Option Func) (t : Option FuncType) → option_map (function_type m) o ≡ Some t → call_type t ≡ Some g → length g.gives ≤ 1
    named None t is e = absurd (cc)
    named (Some func) t is e =
        let same : function_type m func ≡ t = cc in
        few_called m func.kind g valid (ap call_type same ∙ e)
few_by_type m locals (local_get x) g valid e =
    let a = bind_some (slice_get locals x) (λ t. Some (arrow [] (t ∷ []))) g e in
    few_along (arrow [] (a.0 ∷ [])) g (some_is (arrow [] (a.0 ∷ [])) g a.2) (omega arith)
few_by_type m locals (local_set x) g valid e =
    let a = bind_some (slice_get locals x) (λ t. Some (arrow (t ∷ []) [])) g e in
    few_along (arrow (a.0 ∷ []) []) g (some_is (arrow (a.0 ∷ []) []) g a.2) (omega arith)
few_by_type m locals (local_tee x) g valid e =
    let a = bind_some (slice_get locals x) (λ t. Some (arrow (t ∷ []) (t ∷ []))) g e in
    few_along (arrow (a.0 ∷ []) (a.0 ∷ [])) g (some_is (arrow (a.0 ∷ []) (a.0 ∷ [])) g a.2) (omega arith)
few_by_type m locals (global_get x) g valid e =
    let a = bind_some (slice_get (map global_type m.globals) x) (λ v. Some (arrow [] (v.holds ∷ []))) g e in
    few_along (arrow [] (a.0.holds ∷ [])) g (some_is (arrow [] (a.0.holds ∷ [])) g a.2) (omega arith)
few_by_type m locals (global_set x) g valid e =
    let a = bind_some (slice_get (map global_type m.globals) x) set_type g e in
    let h : Arrow = arrow (a.0.holds ∷ []) [] in
    let b = if_some a.0.mutable (Some h) g a.2 in
    few_along h g (some_is h g b.1) (omega arith)
few_by_type m locals (load op align offset) g valid e = few_access m.mems (nat_le (2 ^ align) (load_width op)) (arrow (I32 ∷ []) (load_type op ∷ [])) g e (omega arith)
few_by_type m locals (store op align offset) g valid e = few_access m.mems (nat_le (2 ^ align) (store_width op)) (arrow (store_type op ∷ I32 ∷ []) []) g e (omega arith)
few_by_type m locals memory_size g valid e = few_on_memory m.mems (arrow [] (I32 ∷ [])) g e (omega arith)
few_by_type m locals memory_grow g valid e = few_on_memory m.mems (arrow (I32 ∷ []) (I32 ∷ [])) g e (omega arith)
few_by_type m locals memory_copy g valid e = few_on_memory m.mems (arrow (I32 ∷ I32 ∷ I32 ∷ []) []) g e (omega arith)
few_by_type m locals memory_fill g valid e = few_on_memory m.mems (arrow (I32 ∷ I32 ∷ I32 ∷ []) []) g e (omega arith)
few_by_type m locals (const v) g valid e = few_along (arrow [] (const_type v ∷ [])) g (some_is (arrow [] (const_type v ∷ [])) g e) (omega arith)
few_by_type m locals (num op) g valid e = few_along (num_type op) g (some_is (num_type op) g e) (few_by_num op)
few_by_type m locals _ g valid e = absurd (cc)

few_by_change : (e f : Change) → Some e ≡ Some f → length e.gives ≤ 1 → length f.gives ≤ 1
few_by_change e f is few = subst (λ (z : Change). length z.gives ≤ 1) (some_is e f is) few

few_by_arrow : (o : Option Arrow) (view : Arrow → Arrow) (e : Change) → ((g : Arrow) → o ≡ Some g → length (view g).gives ≤ 1) → option_map (λ g. by_arrow (view g)) o ≡ Some e → length e.gives ≤ 1
few_by_arrow None view e few is = absurd (cc)
few_by_arrow (Some g) view e few is = few_by_change (by_arrow (view g)) e is (few g refl)

-- an instruction of a valid module gives at most one operand that it didn't keep
pub few : (m : Module) (locals : List ValType) (i : Op) (e : Change) → AllItemsValid m → change i (body_scope m locals) ≡ Some e → length e.gives ≤ 1
few m locals (block ty body) e valid is = few_by_change (changes 0 (results_of ty)) e is (few_results ty)
few m locals (loop ty body) e valid is = few_by_change (changes 0 (results_of ty)) e is (few_results ty)
few m locals (if_else ty first second) e valid is = few_by_change (changes 1 (results_of ty)) e is (few_results ty)
few m locals (br_if l) e valid is = few_by_change (changes 1 []) e is (omega arith)
few m locals drop_one e valid is = few_by_change (changes 1 []) e is (omega arith)
few m locals select e valid is = few_by_change (changes 2 []) e is (omega arith)
few m locals (call_indirect n) e valid is =
    few_by_arrow (indirect m.tables m.types n) placed e (λ g at. few_called m n g valid (if_some (has_first m.tables) (call_type (slice_get m.types n)) g at).1) is
few m locals i e valid is = few_by_arrow (arrow_of i (body_scope m locals)) (λ g. g) e (λ g at. few_by_type m locals i g valid at) is

-- the same of a change that was found
pub few_found : (s : Surroundings) (i : Op) (e : Found) → AllItemsValid s.module.now → Some (made e) ≡ change i (body_of s) → length e.gives.now ≤ 1
few_found s i e valid is =
    let given : length (reverse e.gives.now) ≤ 1 = few s.module.now s.locals.items i (made e) valid (sym is) in
    omega (arith, length-reverse e.gives.now)
