-- The stack of operands against the typing, in both directions.
use Rattle.std.proofs.Common.{◌≡◌, List, [], ◌∷◌, ◌++◌, cond, Option, Some, None, refl, sym, ap, subst, ◌∙◌, append_assoc}
use Rattle.std.specs.Prelude.{slice_get}
use Rattle.std.proofs.lemmas.List.{append-nil}
use Rattle.wm_ast.specs.declared.module.ValType.{ValType}
use Rattle.wm_ast.specs.declared.module.ValType.TheVariants.{I32}
use Rattle.wm_ast.specs.Code.{Op, unreachable, block, loop, if_else, br, br_if, br_table, return, call_indirect, drop_one, select, Code, nil, cons}
use Rattle.wm_ast.specs.Operation.{Arrow}
use Rattle.wm_ast.specs.Types.{results_of}
use Rattle.wm_valid.specs.Typing.{Context, under_label, Just, Rule, TypesCode}
use Rattle.wm_valid.specs.Arrows.{◌>>=◌, arrow, has_first, call_type, indirect, placed, arrow_of}
use Rattle.wm_valid.specs.steps.Checking.{Shape, bare, anything, take_one, take_any, take_all, push, push_all, ends_with, agreed, each_takes, applied, branched, ended, selected, check_op, check_code, check_body}
use Rattle.wm_valid.proofs.OperandLaws.{Matches, Suits, some_is, bind_some, if_some, one_sound, one_complete, any_sound, any_complete, all_sound, all_complete, push_sound, push_complete, some_types, ends_sound, ends_complete, agreed_sound, agreed_complete}
use Rattle.wm_valid.proofs.ArrowLaws.{first_sound, first_complete, each_sound, each_complete, call_arrow, call_some, rule_of_arrow, IsPlain, arrow_of_rule}

-- an instruction over further operands
pub record Moves (i : Op) (C : Context) (a b : List ValType) : Type 0 where
  takes : List ValType
  gives : List ValType
  below : List ValType
  rule : Rule i C takes gives
  before : a ≡ takes ++ below
  behind : b ≡ gives ++ below

-- types that the operands may have, of which this holds
pub record CameFrom (P : List ValType → Type 0) (s : Shape) : Type 0 where
  types : List ValType
  fits : Suits s types
  leads : P types

-- the check found operands that may have these types
pub record Goes (r : Option Shape) (b : List ValType) : Type 0 where
  shape : Shape
  is : r ≡ Some shape
  fits : Suits shape b

along : (r s : Shape) (b : List ValType) → Some r ≡ Some s → Suits s b → Suits r b
along r s b e f = subst (λ (z : Shape). Suits z b) (sym (some_is r s e)) f

-- an instruction that takes and gives these
applied_sound : (i : Op) (C : Context) (g : Arrow) (s s' : Shape) (b : List ValType) → Rule i C g.takes g.gives → applied s g ≡ Some s' → Suits s' b → CameFrom (λ a. Moves i C a b) s
applied_sound i C g s s' b rule e f =
    let a = bind_some (take_all g.takes s) (λ r. Some (push_all g.gives r)) s' e in
    let p = push_sound g.gives a.0 b (along (push_all g.gives a.0) s' b a.2 f) in
    record { types = g.takes ++ p.0; fits = all_sound g.takes s a.0 p.0 a.1 p.2; leads = record { takes = g.takes; gives = g.gives; below = p.0; rule = rule; before = refl; behind = p.1 } }

plain_sound : (i : Op) (C : Context) (s s' : Shape) (b : List ValType) → (arrow_of i C.scope >>= applied s) ≡ Some s' → Suits s' b → CameFrom (λ a. Moves i C a b) s
plain_sound i C s s' b e f =
    let a = bind_some (arrow_of i C.scope) (applied s) s' e in
    applied_sound i C a.0 s s' b (rule_of_arrow i C a.0 a.0.takes a.0.gives a.1 (refl, refl)) a.2 f

applied_complete : (g : Arrow) (s : Shape) (takes gives below : List ValType) → Just g.takes g.gives takes gives → Suits s (takes ++ below) → Goes (applied s g) (gives ++ below)
applied_complete g s takes gives below j f =
    let a = all_complete g.takes s below (subst (λ (l : List ValType). Suits s (l ++ below)) j.0 f) in
    record { shape = push_all g.gives a.0; is = rw a.1 refl; fits = subst (λ (l : List ValType). Suits (push_all g.gives a.0) (l ++ below)) (sym j.1) (push_complete g.gives a.0 below a.2) }

plain_complete : (i : Op) (C : Context) (s : Shape) (takes gives below : List ValType) → IsPlain i → Rule i C takes gives → Suits s (takes ++ below) → Goes (arrow_of i C.scope >>= applied s) (gives ++ below)
plain_complete i C s takes gives below p r f =
    let t = arrow_of_rule i C takes gives p r in
    let g = applied_complete t.type s takes gives below t.just f in
    record { shape = g.shape; is = rw t.is g.is; fits = g.fits }

-- an instruction that takes these from any operands, and behind which anything stands
branched_sound : (i : Op) (C : Context) (ts : List ValType) (s s' : Shape) (b : List ValType) → ((below : List ValType) → Rule i C (ts ++ below) b) → branched ts s ≡ Some s' → CameFrom (λ a. Moves i C a b) s
branched_sound i C ts s s' b rule e =
    let a = bind_some (take_all ts s) (λ r. Some anything) s' e in
    let t = some_types a.0.known a.0.open' in
    record { types = ts ++ t.0; fits = all_sound ts s a.0 t.0 a.1 t.1; leads = record { takes = ts ++ t.0; gives = b; below = []; rule = rule t.0; before = sym (append-nil (ts ++ t.0)); behind = sym (append-nil b) } }

branched_complete : (ts under : List ValType) (s : Shape) (takes below b : List ValType) → takes ≡ ts ++ under → Suits s (takes ++ below) → Goes (branched ts s) b
branched_complete ts under s takes below b e f =
    let a = all_complete ts s (under ++ below) (subst (λ (l : List ValType). Suits s l) (ap (λ (l : List ValType). l ++ below) e ∙ append_assoc ts under below) f) in
    record { shape = anything; is = rw a.1 refl; fits = tt }

-- a body that ends with these has a typing
ended_sound : (ts : List ValType) (body : Option Shape) (u : Unit {0}) (Body : List ValType → List ValType → Type 0)
    → ((e : Shape) (t : List ValType) → body ≡ Some e → Suits e t → CameFrom (λ a. Body a t) bare) → ended ts body ≡ Some u → Body [] ts
ended_sound ts body u Body sound e =
    let a = bind_some body (ends_with ts) u e in
    let came = sound a.0 ts a.1 (ends_sound ts a.0 u a.2) in
    subst (λ (l : List ValType). Body l ts) came.fits came.leads

ended_complete : (ts : List ValType) (body : Option Shape) → Goes body ts → ended ts body ≡ Some tt
ended_complete ts body g = rw g.is (ends_complete ts g.shape g.fits)

-- a block over these operands, which gives these types
pushed_sound : (i : Op) (C : Context) (ts : List ValType) (s s' : Shape) (b : List ValType) → Rule i C [] ts → Some (push_all ts s) ≡ Some s' → Suits s' b → CameFrom (λ a. Moves i C a b) s
pushed_sound i C ts s s' b rule e f =
    let p = push_sound ts s b (along (push_all ts s) s' b e f) in
    record { types = p.0; fits = p.2; leads = record { takes = []; gives = ts; below = p.0; rule = rule; before = refl; behind = p.1 } }

pushed_complete : (ts : List ValType) (s : Shape) (takes gives below : List ValType) → Just [] ts takes gives → Suits s (takes ++ below) → Suits (push_all ts s) (gives ++ below)
pushed_complete ts s takes gives below j f =
    subst (λ (l : List ValType). Suits (push_all ts s) (l ++ below)) (sym j.1) (push_complete ts s below (subst (λ (l : List ValType). Suits s (l ++ below)) j.0 f))

-- some type that an operand may have
some_match : (k : Option ValType) → (t : ValType) × Matches k t
some_match None = (I32, tt)
some_match (Some t) = (t, refl)

select_from : (C : Context) (s r : Shape) (x y : Option ValType × Shape) (k : Option ValType) (b : List ValType)
    → take_one I32 s ≡ Some r → take_any r ≡ Some x → take_any x.1 ≡ Some y → agreed y.0 x.0 ≡ Some k → Suits (push k y.1) b → CameFrom (λ a. Moves select C a b) s
select_from C s r x y k [] one second first both f = absurd f
select_from C s r x y k (t ∷ below) one second first both f =
    let m = agreed_sound y.0 x.0 k t both f.0 in
    record {
      types = I32 ∷ t ∷ t ∷ below;
      fits = one_sound I32 s r (t ∷ t ∷ below) one (any_sound t r x (t ∷ below) second m.1 (any_sound t x.1 y below first m.0 f.1));
      leads = record { takes = I32 ∷ t ∷ t ∷ []; gives = t ∷ []; below = below; rule = (t, (refl, refl)); before = refl; behind = refl };
    }

select_sound : (C : Context) (s s' : Shape) (b : List ValType) → selected s ≡ Some s' → Suits s' b → CameFrom (λ a. Moves select C a b) s
select_sound C s s' b e f =
    let r = bind_some (take_one I32 s) (λ r. take_any r >>= λ x. take_any x.1 >>= λ y. agreed y.0 x.0 >>= λ k. Some (push k y.1)) s' e in
    let x = bind_some (take_any r.0) (λ x. take_any x.1 >>= λ y. agreed y.0 x.0 >>= λ k. Some (push k y.1)) s' r.2 in
    let y = bind_some (take_any x.0.1) (λ y. agreed y.0 x.0.0 >>= λ k. Some (push k y.1)) s' x.2 in
    let k = bind_some (agreed y.0.0 x.0.0) (λ k. Some (push k y.0.1)) s' y.2 in
    select_from C s r.0 x.0 y.0 k.0 b r.1 x.1 y.1 k.1 (along (push k.0 y.0.1) s' b k.2 f)

select_complete : (s : Shape) (t : ValType) (takes gives below : List ValType) → Just (I32 ∷ t ∷ t ∷ []) (t ∷ []) takes gives → Suits s (takes ++ below) → Goes (selected s) (gives ++ below)
select_complete s t takes gives below j f =
    let r = one_complete I32 s (t ∷ t ∷ below) (subst (λ (l : List ValType). Suits s (l ++ below)) j.0 f) in
    let x = any_complete t r.0 (t ∷ below) r.2 in
    let y = any_complete t x.0.1 below x.3 in
    let k = agreed_complete y.0.0 x.0.0 t y.2 x.2 in
    record {
      shape = push k.0 y.0.1;
      is = rw (r.1, x.1, y.1, k.1) (refl {a = Some (push k.0 y.0.1)});
      fits = subst (λ (l : List ValType). Suits (push k.0 y.0.1) (l ++ below)) (sym j.1) (k.2, y.3);
    }

mutual
  op_sound : (i : Op) (C : Context) (s s' : Shape) (b : List ValType) → check_op i C s ≡ Some s' → Suits s' b → CameFrom (λ a. Moves i C a b) s
  -- any operands serve
  op_sound unreachable C s s' b e f =
      let t = some_types s.known s.open' in
      record { types = t.0; fits = t.1; leads = record { takes = t.0; gives = b; below = []; rule = tt; before = sym (append-nil t.0); behind = sym (append-nil b) } }
  op_sound (block ty body) C s s' b e f =
      let ts = results_of ty in
      let D = under_label ts C in
      let a = bind_some (ended ts (check_code body D bare)) (λ r. Some (push_all ts s)) s' e in
      let typed = ended_sound ts (check_code body D bare) a.0 (TypesCode body D) (λ z t h g. code_sound body D bare z t h g) a.1 in
      pushed_sound (block ty body) C ts s s' b ((refl, refl), typed) a.2 f
  op_sound (loop ty body) C s s' b e f =
      let ts = results_of ty in
      let D = under_label [] C in
      let a = bind_some (ended ts (check_code body D bare)) (λ r. Some (push_all ts s)) s' e in
      let typed = ended_sound ts (check_code body D bare) a.0 (TypesCode body D) (λ z t h g. code_sound body D bare z t h g) a.1 in
      pushed_sound (loop ty body) C ts s s' b ((refl, refl), typed) a.2 f
  op_sound (if_else ty first second) C s s' b e f =
      let ts = results_of ty in
      let D = under_label ts C in
      let r = bind_some (take_one I32 s) (λ r. ended ts (check_code first D bare) >>= λ d. ended ts (check_code second D bare) >>= λ e. Some (push_all ts r)) s' e in
      let d = bind_some (ended ts (check_code first D bare)) (λ d. ended ts (check_code second D bare) >>= λ e. Some (push_all ts r.0)) s' r.2 in
      let g = bind_some (ended ts (check_code second D bare)) (λ e. Some (push_all ts r.0)) s' d.2 in
      let one = ended_sound ts (check_code first D bare) d.0 (TypesCode first D) (λ z t h k. code_sound first D bare z t h k) d.1 in
      let other = ended_sound ts (check_code second D bare) g.0 (TypesCode second D) (λ z t h k. code_sound second D bare z t h k) g.1 in
      let p = push_sound ts r.0 b (along (push_all ts r.0) s' b g.2 f) in
      record {
        types = I32 ∷ p.0;
        fits = one_sound I32 s r.0 p.0 r.1 p.2;
        leads = record { takes = I32 ∷ []; gives = ts; below = p.0; rule = ((refl, refl), one, other); before = refl; behind = p.1 };
      }
  op_sound (br l) C s s' b e f =
      let a = bind_some (slice_get C.labels l) (λ ts. branched ts s) s' e in
      branched_sound (br l) C a.0 s s' b (λ below. (a.0, below, a.1, refl)) a.2
  op_sound (br_table ls l) C s s' b e f =
      let a = bind_some (slice_get C.labels l) (λ ts. cond (each_takes ls C.labels ts) (branched (I32 ∷ ts) s) None) s' e in
      let g = if_some (each_takes ls C.labels a.0) (branched (I32 ∷ a.0) s) s' a.2 in
      branched_sound (br_table ls l) C (I32 ∷ a.0) s s' b (λ below. (a.0, below, a.1, each_sound ls C.labels a.0 g.0, refl)) g.1
  op_sound (br_if l) C s s' b e f =
      let a = bind_some (slice_get C.labels l) (λ ts. applied s (arrow (I32 ∷ ts) ts)) s' e in
      applied_sound (br_if l) C (arrow (I32 ∷ a.0) a.0) s s' b (a.0, a.1, (refl, refl)) a.2 f
  op_sound (call_indirect n) C s s' b e f =
      let a = bind_some (indirect C.scope.tables C.scope.types n) (λ g. applied s (placed g)) s' e in
      let t = if_some (has_first C.scope.tables) (call_type (slice_get C.scope.types n)) a.0 a.1 in
      let c = call_some (slice_get C.scope.types n) a.0 t.1 in
      let j = subst (λ (g : Arrow). applied s (placed g) ≡ Some s') (sym c.2) a.2 in
      applied_sound (call_indirect n) C (placed (call_arrow c.0)) s s' b (c.0, first_sound C.scope.tables t.0, c.1, (refl, refl)) j f
  op_sound return C s s' b e f = branched_sound return C C.results s s' b (λ below. (below, refl)) e
  op_sound drop_one C s s' b e f =
      let x = bind_some (take_any s) (λ x. Some x.1) s' e in
      let t = some_match x.0.0 in
      record { types = t.0 ∷ b; fits = any_sound t.0 s x.0 b x.1 t.1 (along x.0.1 s' b x.2 f); leads = record { takes = t.0 ∷ []; gives = []; below = b; rule = (t.0, (refl, refl)); before = refl; behind = refl } }
  op_sound select C s s' b e f = select_sound C s s' b e f
  op_sound i C s s' b e f = plain_sound i C s s' b e f

  code_sound : (c : Code) (C : Context) (s s' : Shape) (b : List ValType) → check_code c C s ≡ Some s' → Suits s' b → CameFrom (λ a. TypesCode c C a b) s
  code_sound nil C s s' b e f = record { types = b; fits = along s s' b e f; leads = refl }
  code_sound (cons i is) C s s' b e f =
      let a = bind_some (check_op i C s) (check_code is C) s' e in
      let m = code_sound is C a.0 s' b a.2 f in
      let n = op_sound i C s a.0 m.types a.1 m.fits in
      record { types = n.types; fits = n.fits; leads = (n.leads.takes, n.leads.gives, n.leads.below, n.leads.rule, n.leads.before, subst (λ (l : List ValType). TypesCode is C l b) n.leads.behind m.leads) }

mutual
  op_complete : (i : Op) (C : Context) (s : Shape) (takes gives below : List ValType) → Rule i C takes gives → Suits s (takes ++ below) → Goes (check_op i C s) (gives ++ below)
  op_complete unreachable C s takes gives below r f = record { shape = anything; is = refl; fits = tt }
  op_complete (block ty body) C s takes gives below r f =
      let ts = results_of ty in
      let e = ended_complete ts (check_code body (under_label ts C) bare) (code_complete body (under_label ts C) bare [] ts r.1 refl) in
      record { shape = push_all ts s; is = rw e refl; fits = pushed_complete ts s takes gives below r.0 f }
  op_complete (loop ty body) C s takes gives below r f =
      let ts = results_of ty in
      let e = ended_complete ts (check_code body (under_label [] C) bare) (code_complete body (under_label [] C) bare [] ts r.1 refl) in
      record { shape = push_all ts s; is = rw e refl; fits = pushed_complete ts s takes gives below r.0 f }
  op_complete (if_else ty first second) C s takes gives below r f =
      let ts = results_of ty in
      let D = under_label ts C in
      let c = one_complete I32 s below (subst (λ (l : List ValType). Suits s (l ++ below)) r.0.0 f) in
      let d = ended_complete ts (check_code first D bare) (code_complete first D bare [] ts r.1 refl) in
      let e = ended_complete ts (check_code second D bare) (code_complete second D bare [] ts r.2 refl) in
      record { shape = push_all ts c.0; is = rw (c.1, d, e) refl; fits = subst (λ (l : List ValType). Suits (push_all ts c.0) (l ++ below)) (sym r.0.1) (push_complete ts c.0 below c.2) }
  op_complete (br l) C s takes gives below r f =
      let g = branched_complete r.0 r.1 s takes below (gives ++ below) r.3 f in
      record { shape = g.shape; is = rw r.2 g.is; fits = g.fits }
  op_complete (br_table ls l) C s takes gives below r f =
      let g = branched_complete (I32 ∷ r.0) r.1 s takes below (gives ++ below) r.4 f in
      let e = each_complete ls C.labels r.0 r.3 in
      record { shape = g.shape; is = rw (r.2, e) g.is; fits = g.fits }
  op_complete (br_if l) C s takes gives below r f =
      let g = applied_complete (arrow (I32 ∷ r.0) r.0) s takes gives below r.2 f in
      record { shape = g.shape; is = rw r.1 g.is; fits = g.fits }
  op_complete (call_indirect n) C s takes gives below r f =
      let g = applied_complete (placed (call_arrow r.0)) s takes gives below r.3 f in
      let e = first_complete C.scope.tables r.1 in
      record { shape = g.shape; is = rw (e, r.2) g.is; fits = g.fits }
  op_complete return C s takes gives below r f = branched_complete C.results r.0 s takes below (gives ++ below) r.1 f
  op_complete drop_one C s takes gives below r f =
      let x = any_complete r.0 s below (subst (λ (l : List ValType). Suits s (l ++ below)) r.1.0 f) in
      record { shape = x.0.1; is = rw x.1 refl; fits = subst (λ (l : List ValType). Suits x.0.1 (l ++ below)) (sym r.1.1) x.3 }
  op_complete select C s takes gives below r f = select_complete s r.0 takes gives below r.1 f
  op_complete i C s takes gives below r f = plain_complete i C s takes gives below tt r f

  code_complete : (c : Code) (C : Context) (s : Shape) (a b : List ValType) → TypesCode c C a b → Suits s a → Goes (check_code c C s) b
  code_complete nil C s a b t f = record { shape = s; is = refl; fits = subst (λ (l : List ValType). Suits s l) t f }
  code_complete (cons i is) C s a b t f =
      let g = op_complete i C s t.0 t.1 t.2 t.3 (subst (λ (l : List ValType). Suits s l) t.4 f) in
      let h = code_complete is C g.shape (t.1 ++ t.2) b t.5 g.fits in
      record { shape = h.shape; is = rw g.is h.is; fits = h.fits }

-- what the check passes has a typing
pub check_sound : (c : Code) (C : Context) (ts : List ValType) (u : Unit {0}) → check_body c C ts ≡ Some u → TypesCode c C [] ts
check_sound c C ts u e = ended_sound ts (check_code c C bare) u (TypesCode c C) (λ z t h f. code_sound c C bare z t h f) e

-- what has a typing passes the check
pub check_complete : (c : Code) (C : Context) (ts : List ValType) → TypesCode c C [] ts → check_body c C ts ≡ Some tt
check_complete c C ts t = ended_complete ts (check_code c C bare) (code_complete c C bare [] ts t refl)
