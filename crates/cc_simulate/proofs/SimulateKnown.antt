-- What is known where an activation stands at a place: the rule of its instruction, and where its operands are.
use Rattle.std.proofs.Common.{◌≡◌, ℕ, suc, ◌-◌, ◌≤◌, ◌<◌, List, ◌∷◌, ◌++◌, length, map, Some, refl, sym, ap, ◌∙◌, subst, arith, ℤ}
use Rattle.std.specs.Prelude.{All}
use Rattle.std.proofs.lemmas.List.{length-append, length-map}
use Rattle.mc_nbt.specs.declared.value.Value.{Value}
use Rattle.mc_nbt.specs.declared.value.Value.TheVariants as values
use Rattle.wm_ast.specs.declared.module.ValType.{ValType}
use Rattle.wm_ast.specs.Code.{Op, Code, cons}
use Rattle.wm_ast.specs.Types.{const_type}
use Rattle.wm_valid.specs.Typing.{Context, Rule, TypesCode, global_type, body_context}
use Rattle.wm_flat.specs.Flat.{Activation}
use Rattle.wm_flat.specs.FlatTyping.{types_of, Are, with_labels}
use Rattle.wm_flat.specs.Operands.{under}
use Rattle.wm_valid.specs.InRange.{IsInRange}
use Rattle.wm_place.specs.Visit.{Visit}
use Rattle.cc_line.specs.State.{State, read, place_at}
use Rattle.wm_ast.specs.declared.module.Module.{Module}
use Rattle.cc_body.specs.Emit.{tested}
use Rattle.cc_body.specs.Layout.{top_place}
use Rattle.cc_simulate.specs.Frame.{Frame}
use Rattle.cc_simulate.specs.Stands.{RunsOver}
use Rattle.cc_simulate.specs.Stored.{Stored}
use Rattle.cc_simulate.specs.Uses.{uses_bytes}
use Rattle.cc_simulate.proofs.Acts.{Tested, is_tested}
use Rattle.cc_simulate.proofs.Frames.{top_of, one_below, frame_same, frame_pop, frame_last}
use Rattle.cc_simulate.proofs.Globals.{stored_kept}
use Rattle.cc_simulate.proofs.SimulateReach.{Setting, L, size, Seen, seen, Here}

-- ---- values

pub first_long : (v : Value) (others vs : List Value) → vs ≡ v ∷ others → 1 ≤ length vs
first_long v others vs e =
    let l : length vs ≡ suc (length others) = ap length e in
    let x : 1 ≤ length vs = omega arith in
    x

pub enough : (ts below : List ValType) (vs : List Value) → types_of vs ≡ ts ++ below → length ts ≤ length vs
enough ts below vs e =
    let a : length (types_of vs) ≡ length vs = length-map vs const_type in
    let b : length (types_of vs) ≡ length (ts ++ below) = ap length e in
    let d = length-append ts below in
    let x : length ts ≤ length vs = omega arith in
    x

-- ---- what the typing says

-- the rule of an instruction that is next
pub record Ruled (m : Module) (a : Activation) (i : Op) : Type 0 where
  pub context : Context
  pub takes : List ValType
  pub gives : List ValType
  pub below : List ValType
  pub rule : Rule i context takes gives
  pub types : types_of a.values ≡ takes ++ below
  pub locals : context.scope.locals ≡ types_of a.locals
  pub globals : context.scope.globals ≡ map global_type m.globals
  pub memories : context.scope.memories ≡ m.mems
  pub range : All IsInRange a.values

-- the last operand stands in its place, over the others
pub record IsLast (c : Setting) (v : Visit) (a : Activation) (s : State) (z : ℤ) (others : List Value) : Type 0 where
  pub frame : Frame (size c) a.locals (values.I32 z ∷ (others ++ under a.levels)) s.places
  pub place_is : top_place (L c) v - 1 ≡ top_of a.locals (others ++ under a.levels)
  pub within : top_place (L c) v - 1 < length s.places
  pub reads : place_at s (top_place (L c) v - 1) ≡ z

-- the last operand is tested
pub record Loaded (c : Setting) (v : Visit) (a : Activation) (s : State) (z : ℤ) (others : List Value) : Type 0 where
  pub state : State
  pub is_tested : Tested (top_place (L c) v - 1) s state
  pub reads : read state (tested (top_place (L c) v - 1)) ≡ Some z
  pub frame : Frame (size c) a.locals (others ++ under a.levels) state.places
  pub calm : RunsOver (uses_bytes c.m) c.bs state
  pub stored : Stored c.m c.st state
  pub place_is : top_of a.locals (others ++ under a.levels) ≡ top_place (L c) v - 1

module _ {c : Setting} {v : Visit} {a : Activation} {s : State} (h : Here c v a s) where
  sees : Seen c v a
  sees = seen c v a h.stands h.func

  pub ruled : (i : Op) (is : Code) → a.code ≡ cons i is → Ruled c.m a i
  ruled i is e =
      let y = h.typed.flat.2 in
      let C : Context = with_labels y.labels (body_context c.m h.typed.flat.0 h.typed.flat.1) in
      by C y.gives y.range y.locals.types refl refl (subst (λ (x : Code). TypesCode x C (types_of a.values) y.gives) e y.code)
    where
      by : (C : Context) (out : List ValType) → All IsInRange a.values → types_of a.locals ≡ C.scope.locals → C.scope.globals ≡ map global_type c.m.globals → C.scope.memories ≡ c.m.mems → TypesCode (cons i is) C (types_of a.values) out → Ruled c.m a i
      by C out range locals globals memories (takes, gives, below, r, k, others) =
          record { context = C; takes = takes; gives = gives; below = below; rule = r; types = k; locals = sym locals; globals = globals; memories = memories; range = range }

  pub are_taken : (i : Op) (r : Ruled c.m a i) (ts : List ValType) → r.takes ≡ ts → Are (ts ++ r.below) a.values
  are_taken i r ts e = record { types = r.types ∙ ap (λ (l : List ValType). l ++ r.below) e; range = r.range }

  pub own_locals : Are (types_of a.locals) a.locals
  own_locals = record { types = refl; range = h.typed.flat.2.locals.range }

  -- the frame over the operands that are told apart
  pub parted : (vs us : List Value) → a.values ≡ vs → vs ++ under a.levels ≡ us → Frame (size c) a.locals us s.places
  parted vs us e k = subst (λ (l : List Value). Frame (size c) a.locals l s.places) (ap (λ (l : List Value). l ++ under a.levels) e ∙ k) h.frame

  pub top_parted : (vs us : List Value) → a.values ≡ vs → vs ++ under a.levels ≡ us → top_place (L c) v ≡ top_of a.locals us
  top_parted vs us e k = sees.top ∙ ap (top_of a.locals) (ap (λ (l : List Value). l ++ under a.levels) e ∙ k)

  -- ---- the last operand

  pub is_last : (z : ℤ) (others : List Value) → a.values ≡ values.I32 z ∷ others → IsLast c v a s z others
  is_last z others parts =
      let os : List Value = others ++ under a.levels in
      let framed : Frame (size c) a.locals (values.I32 z ∷ os) s.places = parted (values.I32 z ∷ others) (values.I32 z ∷ os) parts refl in
      let last = frame_last (size c) a.locals z os s.places framed in
      let same : top_place (L c) v - 1 ≡ top_of a.locals os = ap (λ (j : ℕ). j - 1) (top_parted (values.I32 z ∷ others) (values.I32 z ∷ os) parts refl) ∙ one_below a.locals os z in
      record {
        frame = framed;
        place_is = same;
        within = subst (λ (j : ℕ). j < length s.places) (sym same) last.1;
        reads = ap (λ (j : ℕ). place_at s j) same ∙ last.0;
      }

  pub loaded : (z : ℤ) (others : List Value) → a.values ≡ values.I32 z ∷ others → Loaded c v a s z others
  loaded z others parts =
      let os : List Value = others ++ under a.levels in
      let last : IsLast c v a s z others = is_last z others parts in
      let t = is_tested (top_place (L c) v - 1) s last.within in
      record {
        state = t.0;
        is_tested = t.1;
        reads = t.1.reads ∙ ap Some last.reads;
        frame = frame_same (size c) a.locals os s.places t.0.places t.1.places (frame_pop (size c) a.locals (values.I32 z) os s.places last.frame);
        calm = t.1.calm c.bs h.calm;
        stored = stored_kept c.m c.st s t.0 t.1.passes.keeps h.stored;
        place_is = sym last.place_is;
      }
