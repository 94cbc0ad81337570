-- A state at a cut, or before one while the memory grows, a value is on its way or a division goes on, stands for one
-- activation and its callers.
use Rattle.std.proofs.Common.{◌≡◌, ℕ, List, [], ◌∷◌, ◌++◌, ℤ, sym, ap, ap₂, ◌∙◌}
use Rattle.mc_nbt.specs.declared.value.Value.{Value}
use Rattle.mc_nbt.specs.declared.value.Value.TheVariants as values
use Rattle.wm_ast.specs.declared.module.Module.{Module}
use Rattle.wm_ast.specs.Types.{const_type}
use Rattle.wm_flat.specs.Flat.{Activation}
use Rattle.wm_flat.specs.FlatTyping.{types_of}
use Rattle.wm_flat.specs.Operands.{operands}
use Rattle.wm_flat.specs.Program.{IsProgram}
use Rattle.wm_place.proofs.LevelLemmas.{some_of}
use Rattle.cc_line.specs.Key.{body_piece, id_tree}
use Rattle.cc_line.specs.Routine.{value_ints}
use Rattle.cc_line.specs.State.{State}
use Rattle.cc_cut.specs.Piece.{Piece}
use Rattle.cc_body.specs.Behind.{division_before}
use Rattle.cc_body.specs.Layout.{frame_size}
use Rattle.cc_simulate.specs.Frame.{Frame}
use Rattle.cc_simulate.specs.Stands.{At, Placing, Growing, Dividing}
use Rattle.cc_told.proofs.Activations.{IsAtCut, locals_alike, operands_alike, activation_told, frame_told}
use Rattle.cc_told.proofs.Callers.{callers_same}
use Rattle.cc_told.proofs.Cuts.{piece_told}
use Rattle.cc_told.proofs.Divisions.{answer_told}
use Rattle.cc_told.proofs.Names.{func_told, index_told}
use Rattle.cc_told.proofs.Values.{first_same, rest_same, parts_told, value_told, one_width, handed_told}

-- ---- where the last operand isn't in the frame

module _ (m : Module) (a b : Activation) (x : IsAtCut m a) (y : IsAtCut m b) (func : a.func ≡ b.func) (index : x.cut.index ≡ y.cut.index)
    (u v : Value) (os ps : List Value) (over : operands a ≡ u ∷ os) (above : operands b ≡ v ∷ ps) where
  kinds : types_of (u ∷ os) ≡ types_of (v ∷ ps)
  kinds = ap types_of (sym over) ∙ operands_alike m a b x y func index ∙ ap types_of above

  pub last_alike : const_type u ≡ const_type v
  last_alike = first_same (const_type u) (const_type v) (types_of os) (types_of ps) kinds

  pub all_but_last_told : (size room : ℕ) (zs : List ℤ) → Frame size a.locals os zs → Frame room b.locals ps zs → u ≡ v → a ≡ b
  all_but_last_told size room zs f g same =
      let held =
      parts_told a.locals b.locals os ps f.junk g.junk (locals_alike m a b x y func index)
      (rest_same (const_type u) (const_type v) (types_of os) (types_of ps) kinds) (sym f.held ∙ g.held) in
      activation_told m a b x y func index held.0
      (over ∙ ap₂ (λ (w : Value) (l : List Value). w ∷ l) same held.1 ∙ sym above)

-- ---- at a cut

abbrev at_spot : (m : Module) (cs : List Activation) (a : Activation) (s : State) → At m cs a s → IsAtCut m a
at_spot m cs a s x = record { cut = x.cut; is_cut = x.is_cut; visit = x.visit; stands = x.stands; place = x.place }

module _ (m : Module) (program : IsProgram m) (cs ds : List Activation) (a b : Activation) (s : State) where
  pub cuts_told : (x : At m cs a s) (y : At m ds b s) → a.func ≡ b.func → x.cut.index ≡ y.cut.index → (cs ≡ ds) × (a ≡ b)
  cuts_told x y func index = (
    callers_same m program a.func b.func cs ds x.below y.below s x.waiting y.waiting x.calm.below y.calm.below,
    frame_told m a b (at_spot m cs a s x) (at_spot m ds b s y) func index (frame_size m a.func) (frame_size m b.func) s.places x.frame y.frame,
  )

-- ---- while the memory grows

abbrev growing_spot : (m : Module) (cs : List Activation) (a : Activation) (s : State) → Growing m cs a s → IsAtCut m a
growing_spot m cs a s x = record { cut = x.cut; is_cut = x.is_cut; visit = x.visit; stands = x.stands; place = x.place }

module _ (m : Module) (program : IsProgram m) (cs ds : List Activation) (a b : Activation) (s : State) where
  pub growings_told : Growing m cs a s → Growing m ds b s → (cs ≡ ds) × (a ≡ b)
  growings_told x y =
      let named : id_tree (body_piece a.func x.cut.index) ≡ id_tree (body_piece b.func y.cut.index) =
      some_of (id_tree (body_piece a.func x.cut.index)) (id_tree (body_piece b.func y.cut.index)) (sym x.follows ∙ y.follows) in
      let func : a.func ≡ b.func = func_told a.func b.func x.cut.index y.cut.index named in (
        callers_same m program a.func b.func cs ds x.below y.below s x.waiting y.waiting x.calm.below y.calm.below,
        frame_told m a b (growing_spot m cs a s x) (growing_spot m ds b s y) func (index_told a.func b.func x.cut.index y.cut.index named)
            (frame_size m a.func) (frame_size m b.func) s.places x.frame y.frame,
      )

-- ---- while a value is on its way

abbrev placing_spot : (m : Module) (cs : List Activation) (a : Activation) (s : State) → Placing m cs a s → IsAtCut m a
placing_spot m cs a s x = record { cut = x.cut; is_cut = x.is_cut; visit = x.visit; stands = x.stands; place = x.place }

module _ (m : Module) (program : IsProgram m) (cs ds : List Activation) (a b : Activation) (s : State) where
  pub placings_told : Placing m cs a s → Placing m ds b s → (cs ≡ ds) × (a ≡ b)
  placings_told x y =
      let named : id_tree (body_piece a.func x.cut.index) ≡ id_tree (body_piece b.func y.cut.index) =
      some_of (id_tree (body_piece a.func x.cut.index)) (id_tree (body_piece b.func y.cut.index)) (sym x.follows ∙ y.follows) in
      let func : a.func ≡ b.func = func_told a.func b.func x.cut.index y.cut.index named in
      let index : x.cut.index ≡ y.cut.index = index_told a.func b.func x.cut.index y.cut.index named in
      let u : IsAtCut m a = placing_spot m cs a s x in
      let v : IsAtCut m b = placing_spot m ds b s y in
      let alike : const_type x.value ≡ const_type y.value = last_alike m a b u v func index x.value y.value x.others y.others x.parts y.parts in
      let ints : value_ints x.value ≡ value_ints y.value =
      handed_told 0 (value_ints x.value) (value_ints y.value) s (one_width x.value y.value alike) x.handed y.handed in
      let value : x.value ≡ y.value = (value_told x.value y.value [] [] alike (ap (λ (l : List ℤ). l ++ []) ints)).0 in (
        callers_same m program a.func b.func cs ds x.below y.below s x.waiting y.waiting x.calm.below y.calm.below,
        all_but_last_told m a b u v func index x.value y.value x.others y.others x.parts y.parts
            (frame_size m a.func) (frame_size m b.func) s.places x.frame y.frame value,
      )

-- ---- while a division goes on

abbrev dividing_spot : (m : Module) (cs : List Activation) (a : Activation) (s : State) → Dividing m cs a s → IsAtCut m a
dividing_spot m cs a s x = record { cut = x.cut; is_cut = x.is_cut; visit = x.visit; stands = x.stands; place = x.place }

module _ (m : Module) (program : IsProgram m) (cs ds : List Activation) (a b : Activation) (s : State) where
  pub dividings_told : (x : Dividing m cs a s) (y : Dividing m ds b s) → a.func ≡ b.func → x.cut.index ≡ y.cut.index → (cs ≡ ds) × (a ≡ b)
  dividings_told x y func index =
      let piece : x.piece ≡ y.piece = piece_told m a.func b.func x.cut y.cut x.piece y.piece x.is_piece y.is_piece func index in
      let op : x.op ≡ y.op = some_of x.op y.op (sym x.behind ∙ ap (λ (p : Piece). division_before p.cut) piece ∙ y.behind) in
      let answer : x.answer ≡ y.answer = answer_told x.op y.op x.answer y.answer x.left y.left s op x.division y.division in (
        callers_same m program a.func b.func cs ds x.below y.below s x.waiting y.waiting x.calm.below y.calm.below,
        all_but_last_told m a b (dividing_spot m cs a s x) (dividing_spot m ds b s y) func index (values.I64 x.answer) (values.I64 y.answer)
            x.others y.others x.parts y.parts (frame_size m a.func) (frame_size m b.func) s.places x.frame y.frame (ap values.I64 answer),
      )
