-- A state at the beginning of a call, or behind its end, stands for one activation and its callers.
use Rattle.std.proofs.Common.{◌≡◌, ℕ, List, [], ◌∷◌, ◌++◌, length, take, drop, true, false, Some, ℤ, sym, ap, ap₂, ◌∙◌}
use Rattle.mc_nbt.specs.declared.value.Value.{Value}
use Rattle.wm_ast.specs.declared.module.Module.{Module}
use Rattle.wm_ast.specs.Store.{Callee, callee_of}
use Rattle.wm_flat.specs.Flat.{Activation, opened}
use Rattle.wm_flat.specs.FlatTyping.{types_of}
use Rattle.wm_flat.specs.Program.{IsProgram}
use Rattle.wm_place.proofs.LevelLemmas.{some_of}
use Rattle.cc_line.specs.Key.{body_piece, id_tree}
use Rattle.cc_line.specs.Running.{Kept}
use Rattle.cc_line.specs.State.{State}
use Rattle.cc_move.specs.Calls.{with_results}
use Rattle.cc_pieces.specs.Fetching.{are_many}
use Rattle.cc_simulate.specs.Frame.{stack_ints}
use Rattle.cc_simulate.specs.Stands.{Opening, Restoring, Passing, Making, Fetching}
use Rattle.cc_simulate.proofs.Behind.{kept_of}
use Rattle.cc_told.proofs.Callers.{callers_same, last_same}
use Rattle.cc_told.proofs.Names.{func_told}
use Rattle.cc_told.proofs.Values.{many_ints, handed_told, stack_told}

-- the same ints are the same values
ints_told : (us vs : List Value) → types_of us ≡ types_of vs → stack_ints us ≡ stack_ints vs → us ≡ vs
ints_told us vs types e = (stack_told us vs [] [] types (ap (λ (l : List ℤ). l ++ []) e)).0

-- ---- what begins

-- an activation is that of its function over these arguments
record IsBegun (m : Module) (a : Activation) (us : List Value) : Type 0 where
  callee : Callee
  is_callee : callee_of m a.func ≡ Some callee
  types : types_of us ≡ callee.takes
  is_opened : a ≡ opened a.func callee us

abbrev with_few : (m : Module) (cs : List Activation) (a : Activation) (s : State) (x : Opening m cs a s) → IsBegun m a x.args
with_few m cs a s x = record { callee = x.callee; is_callee = x.is_callee; types = x.types; is_opened = x.is_opened }

abbrev with_many : (m : Module) (cs : List Activation) (c a : Activation) (s : State) (x : Passing m cs c a s) → IsBegun m a x.args
with_many m cs c a s x = record { callee = x.callee; is_callee = x.is_callee; types = x.types; is_opened = x.is_opened }

module _ (m : Module) (a b : Activation) (us vs : List Value) (x : IsBegun m a us) (y : IsBegun m b vs) (func : a.func ≡ b.func) where
  callee_same : x.callee ≡ y.callee
  callee_same = some_of x.callee y.callee (sym x.is_callee ∙ ap (callee_of m) func ∙ y.is_callee)

  args_alike : types_of us ≡ types_of vs
  args_alike = x.types ∙ ap (λ (k : Callee). k.takes) callee_same ∙ sym y.types

  args_tell : us ≡ vs → a ≡ b
  args_tell args =
      x.is_opened
      ∙ ap (λ (f : ℕ). opened f x.callee us) func
      ∙ ap₂ (λ (k : Callee) (ws : List Value). opened b.func k ws) callee_same args
      ∙ sym y.is_opened

module _ (m : Module) (program : IsProgram m) (cs ds : List Activation) (a b : Activation) (s : State) where
  -- ---- few arguments

  pub openings_told : Opening m cs a s → Opening m ds b s → a.func ≡ b.func → (cs ≡ ds) × (a ≡ b)
  openings_told x y func =
      let u : IsBegun m a x.args = with_few m cs a s x in
      let v : IsBegun m b y.args = with_few m ds b s y in
      let args : x.args ≡ y.args =
      (stack_told x.args y.args x.junk y.junk (args_alike m a b x.args y.args u v func) (sym x.places ∙ y.places)).0 in (
        callers_same m program a.func b.func cs ds x.below y.below s x.waiting y.waiting x.calm.below y.calm.below,
        args_tell m a b x.args y.args u v func args,
      )

  -- ---- many

  pub passings_told : (c d : Activation) → Passing m cs c a s → Passing m ds d b s → a.func ≡ b.func → (cs ≡ ds) × (c ≡ d) × (a ≡ b)
  passings_told c d x y func =
      let u : IsBegun m a x.args = with_many m cs c a s x in
      let v : IsBegun m b y.args = with_many m ds d b s y in
      let types : types_of x.args ≡ types_of y.args = args_alike m a b x.args y.args u v func in
      let below =
      last_same m program a.func b.func cs ds x.below y.below s c d x.entry y.entry x.waits y.waits x.waiting y.waiting
      x.calm.below y.calm.below in
      let ints : stack_ints x.args ≡ stack_ints y.args =
      sym x.given
      ∙ ap (λ (n : ℕ). take n (drop (length (kept_of c)) x.entry.places)) (many_ints x.args y.args types)
      ∙ ap₂ (λ (k : Activation) (e : Kept). take (length (stack_ints y.args)) (drop (length (kept_of k)) e.places)) below.caller below.entry
      ∙ y.given in
      (below.callers, below.caller, args_tell m a b x.args y.args u v func (ints_told x.args y.args types ints))

  -- no function has both few and many
  pub few_or_many : (d : Activation) → Opening m cs a s → Passing m ds d b s → a.func ≡ b.func → ⊥
  few_or_many d x y func =
      let types : types_of x.args ≡ types_of y.args = args_alike m a b x.args y.args (with_few m cs a s x) (with_many m ds d b s y) func in
      let same : false ≡ true = sym x.few ∙ ap are_many (many_ints x.args y.args types ∙ y.takes) ∙ y.many in
      cc

  pub makings_told : (c d : Activation) → Making m cs c a s → Making m ds d b s → a.func ≡ b.func → (cs ≡ ds) × (c ≡ d) × (a ≡ b)
  makings_told c d x y func = passings_told c d x.passing y.passing func

  -- the cut that follows tells the function
  pub fetchings_told : (c d : Activation) (j k : ℕ) → Fetching m cs c a j s → Fetching m ds d b k s → (cs ≡ ds) × (c ≡ d) × (a ≡ b)
  fetchings_told c d j k x y =
      passings_told c d x.passing y.passing
      (func_told a.func b.func 1 1 (some_of (id_tree (body_piece a.func 1)) (id_tree (body_piece b.func 1)) (sym x.follows ∙ y.follows)))

-- ---- the end of a call

module _ (m : Module) (program : IsProgram m) (cs ds : List Activation) (c d : Activation) (us vs : List Value) (s : State) where
  -- whichever functions have been called, they give the same
  pub restorings_told : Restoring m cs c us s → Restoring m ds d vs s → (cs ≡ ds) × (with_results c us ≡ with_results d vs)
  restorings_told x y =
      let below =
      last_same m program x.callee y.callee cs ds x.below y.below s c d x.entry y.entry x.waits y.waits x.waiting y.waiting
      x.calm.below y.calm.below in
      let types : types_of us ≡ types_of vs = x.types ∙ below.gives ∙ sym y.types in
      let ints : stack_ints us ≡ stack_ints vs =
      handed_told 0 (stack_ints us) (stack_ints vs) s (many_ints us vs types) x.results y.results in
      (below.callers, ap₂ with_results below.caller (ints_told us vs types ints))
