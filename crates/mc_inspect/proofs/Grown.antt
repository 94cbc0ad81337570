-- Before a cut for which the memory still grows: whether the state stands for an activation there.
use Rattle.std.proofs.Common.{◌≡◌, ℕ, pos, List, [], ◌∷◌, Option, Some, None, refl, sym, ap₂, subst, ◌∙◌}
use Rattle.std.specs.Prelude.{IfOk, MatchOption, Result, Ok, Err}
use Rattle.mc_nbt.specs.declared.memory.Memory.{Memory}
use Rattle.mc_nbt.specs.declared.value.Value.{Value}
use Rattle.wm_ast.specs.declared.module.Module.{Module}
use Rattle.wm_valid.specs.Typing.{HasFirst}
use Rattle.wm_flat.specs.Flat.{Activation}
use Rattle.wm_view.specs.declared.view.Inspection.{Inspection}
use Rattle.cc_line.specs.declared.leaf.PieceId.TheVariants as ids
use Rattle.cc_line.specs.Key.{body_piece, id_tree}
use Rattle.cc_pieces.specs.Growing.{grower_piece}
use Rattle.cc_body.specs.Layout.{frame_size}
use Rattle.cc_simulate.specs.Frame.{Frame}
use Rattle.cc_simulate.specs.Stands.{growing}
use Rattle.cc_told.proofs.Cases.{growers_are_named}
use Rattle.cc_told.proofs.Cuts.{func_low}
use Rattle.mc_inspect.specs.declared.reading.Reading.{Reading}
use Rattle.mc_inspect.specs.steps.Found.{Holds, HoldsNone, Tells}
use Rattle.mc_inspect.specs.steps.Growings.{Grows, GrowsNot}
use Rattle.mc_inspect.proofs.AtCuts.{calm_of}
use Rattle.mc_inspect.proofs.Following.{body_follows, follows_body, same_body}

-- ---- whether a memory grows

first_of : {A : Type 0} (xs : List A) → (xs ≡ [] → ⊥) → HasFirst xs
first_of [] never = never refl
first_of (x ∷ xs) never = tt

pub no_memory : (m : Module) (x : Reading) → m.mems ≡ [] → GrowsNot m x
no_memory m x none func index g = subst HasFirst none g.has_memory

pub no_count : (m : Module) (x : Reading) → ((n : ℕ) → x.scores.g ≡ Some (pos n) → ⊥) → GrowsNot m x
no_count m x none func index g = none g.missing g.told

pub grown_answer : (m : Module) (x : Reading) → (m.mems ≡ [] → ⊥) → (n : ℕ) × (x.scores.g ≡ Some (pos n)) → (o : Option (ℕ × ℕ))
    → MatchOption o ((f j : ℕ) → x.follows ≡ Some (ids.Body f j) → ⊥) (λ y. x.follows ≡ Some (ids.Body y.0 y.1))
    → MatchOption o (GrowsNot m x) (λ y. Grows m x y.0 y.1)
grown_answer m x some count None h = λ func index g. h func index g.follows
grown_answer m x some count (Some y) h = record { has_memory = first_of m.mems some; missing = count.0; told = count.1; follows = h }

-- ---- the activation

pub grown_not : (m : Module) (x : Reading) → GrowsNot m x → Tells m x grower_piece None
grown_not m x none program low p told read runs named cs a standing =
    let g = growers_are_named m program low cs a p standing named in
    none a.func g.cut.index (record {
      has_memory = g.has_memory;
      missing = g.missing;
      told = sym read.scores.g ∙ g.told;
      follows = follows_body x.follows p read.follows a.func g.cut.index (func_low m program a.func g.cut g.is_cut) g.follows;
    })

pub growing_answer : (m : Module) (x : Reading) (func index : ℕ) → Grows m x func index → (r : Result (Option Inspection) Memory)
    → IfOk r (λ o. MatchOption o (HoldsNone m x func index []) (λ v. Holds m x func index [] v)) → IfOk r (Tells m x grower_piece)
growing_answer m x func index grows (Err e) h = tt
growing_answer m x func index grows (Ok None) h = λ program low p told read runs named cs a standing.
    let g = growers_are_named m program low cs a p standing named in
    let (same_func, same_index) = same_body x.follows p read.follows func index a.func g.cut.index grows.follows (func_low m program a.func g.cut g.is_cut) g.follows in
    h program p cs a read (record {
      in_func = same_func;
      cut = g.cut;
      is_cut = g.is_cut;
      is_index = same_index;
      visit = g.visit;
      stands = g.stands;
      place = g.place;
      others = _;
      parts = refl;
      frame = g.frame;
      below = g.below;
      waiting = g.waiting;
      is_below = g.calm.below;
    })
growing_answer m x func index grows (Ok (Some v)) h = λ program low p told read runs named.
    let k = h p read in
    let a : Activation = k.activation in
    let c = k.held in
    record {
      callers = k.callers;
      activation = a;
      standing = growing (record {
        has_memory = grows.has_memory;
        cut = c.cut;
        is_cut = c.is_cut;
        visit = c.visit;
        stands = c.stands;
        place = c.place;
        missing = grows.missing;
        told = read.scores.g ∙ grows.told;
        named = named;
        follows =
            (body_follows x.follows p read.follows func index grows.follows).1
            ∙ ap₂ (λ (f j : ℕ). Some (id_tree (body_piece f j))) (sym c.in_func) (sym c.is_index);
        frame = subst (λ (os : List Value). Frame (frame_size m a.func) a.locals os p.places) (sym c.parts) c.frame;
        below = c.below;
        waiting = c.waiting;
        calm = calm_of m p c.below runs c.is_below;
      });
      shown = k.shown;
    }
