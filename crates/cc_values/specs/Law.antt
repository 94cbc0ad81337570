-- What the ints of values tell where their types are known, which the contract of a public function cites.
use Rattle.std.specs.Prelude.{◌≡◌, List, ◌++◌, reverse, ℤ}
use Rattle.mc_nbt.specs.declared.value.Value.{Value}
use Rattle.wm_flat.specs.FlatTyping.{types_of}
use Rattle.cc_line.specs.State.{State}
use Rattle.cc_call.specs.Law.{AreHanded}
use Rattle.cc_simulate.specs.Frame.{local_ints, stack_ints}

-- the ints of locals tell them, and what stands behind
abbrev pub LocalsTell : Type 0
LocalsTell = (vs ws : List Value) (xs ys : List ℤ) → types_of vs ≡ types_of ws
    → local_ints vs ++ xs ≡ local_ints ws ++ ys → (vs ≡ ws) × (xs ≡ ys)

-- the same of operands
abbrev pub OperandsTell : Type 0
OperandsTell = (vs ws : List Value) (xs ys : List ℤ) → types_of vs ≡ types_of ws
    → stack_ints vs ++ xs ≡ stack_ints ws ++ ys → (vs ≡ ws) × (xs ≡ ys)

-- locals and operands in the places of a frame
abbrev pub PartsTell : Type 0
PartsTell = (ls ks os ps : List Value) (xs ys : List ℤ) → types_of ls ≡ types_of ks → types_of os ≡ types_of ps
    → (local_ints ls ++ stack_ints os) ++ xs ≡ (local_ints ks ++ stack_ints ps) ++ ys → (ls ≡ ks) × (os ≡ ps)

-- operands, the lowest first, have the ints of locals
abbrev pub OperandsTurned : Type 0
OperandsTurned = (vs : List Value) → stack_ints vs ≡ local_ints (reverse vs)

-- results in their scores
abbrev pub HandedTell : Type 0
HandedTell = (us vs : List Value) (s : State) → types_of us ≡ types_of vs → AreHanded 0 (stack_ints us) s
    → AreHanded 0 (stack_ints vs) s → us ≡ vs
