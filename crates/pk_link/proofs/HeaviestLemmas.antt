-- No piece of a module is heavier than the heaviest, and this one is light.
use Rattle.std.proofs.Common.{◌≡◌, inl, inr, ℕ, ◌+◌, ◌≤◌, max, List, [], ◌∷◌, ap, sym, subst, arith}
use Rattle.std.proofs.Math.Nat.{le-max_left, le-max_right}
use Rattle.mc_cmd.specs.declared.TheConstants.{PIECE}
use Rattle.wm_ast.specs.declared.module.Module.{Module}
use Rattle.wm_valid.specs.Height.{Low}
use Rattle.wm_flat.specs.Program.{IsProgram}
use Rattle.cc_line.specs.Item.{items_most}
use Rattle.cc_sched.specs.Pieces.{IsPieceWeight, turn_weight}
use Rattle.cc_pieces.specs.Parts.{Part}
use Rattle.cc_pieces.proofs.LightPieces.{dones_light, grower_light, placers_light, takers_light}
use Rattle.cc_body.proofs.LightPieces.{pieces_light}
use Rattle.cc_body.proofs.NumbersLaws.{numbers_are_lines}
use Rattle.cc_init.proofs.Light.{init_light}
use Rattle.pk_agree.specs.Heaviest.{heaviest, pack_parts, parts_most}
use Rattle.pk_link.proofs.PartFits.{PartsFit, pack_fits}
use Rattle.pk_link.proofs.PartsIn.{PartIn}

most_among : (p : Part) (ps : List Part) → PartIn p ps → items_most p.items ≤ parts_most ps
most_among p [] i = absurd i
most_among p (q ∷ ps) (inl e) =
    subst (λ (r : Part). items_most r.items ≤ max (items_most q.items) (parts_most ps)) (sym e) (le-max_left (items_most q.items) (parts_most ps))
most_among p (q ∷ ps) (inr i) =
    let here : items_most p.items ≤ parts_most ps = most_among p ps i in
    let below : parts_most ps ≤ max (items_most q.items) (parts_most ps) = le-max_right (items_most q.items) (parts_most ps) in
    omega arith

all_light : (ps : List Part) → PartsFit ps → parts_most ps + turn_weight ≤ PIECE
all_light [] h = omega arith
all_light (p ∷ ps) h = both (items_most p.items) (parts_most ps) h.0.light (all_light ps h.1)
  where
    both : (a b : ℕ) → a + turn_weight ≤ PIECE → b + turn_weight ≤ PIECE → max a b + turn_weight ≤ PIECE
    both a b g l = omega arith

-- a piece of the module is at most as heavy
pub weighs_at_most : (m : Module) (p : Part) → PartIn p (pack_parts m) → items_most p.items + turn_weight ≤ heaviest m
unfolding heaviest
weighs_at_most m p i = let most : items_most p.items ≤ parts_most (pack_parts m) = most_among p (pack_parts m) i in omega arith

pub parts_light : (m : Module) → IsProgram m → Low m → parts_most (pack_parts m) + turn_weight ≤ PIECE
parts_light m program low =
    all_light (pack_parts m) (pack_fits m program low (pieces_light numbers_are_lines) takers_light placers_light grower_light dones_light (init_light m program))

pub heaviest_weighs : (m : Module) → IsProgram m → Low m → IsPieceWeight (heaviest m)
unfolding heaviest
heaviest_weighs m program low =
    ((let some : turn_weight ≤ parts_most (pack_parts m) + turn_weight = omega arith in some), parts_light m program low)

pub heaviest_is : (m : Module) (ps : List Part) → ps ≡ pack_parts m → parts_most ps + turn_weight ≡ heaviest m
unfolding heaviest
heaviest_is m ps e = ap (λ qs. parts_most qs + turn_weight) e

-- as the code has the pieces
pub parts_low : (m : Module) (ps : List Part) → IsProgram m → Low m → ps ≡ pack_parts m → parts_most ps + turn_weight ≤ PIECE
parts_low m ps program low e = subst (λ qs. parts_most qs + turn_weight ≤ PIECE) (sym e) (parts_light m program low)
