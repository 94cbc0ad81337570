-- What a world shows is one, whichever of its states and of their cases stand for it.
use Rattle.std.proofs.Common.{◌≡◌, ℕ, ◌<◌, ◌≤◌, inl, List, [], reverse, length, Some, refl, sym, ap, ◌∙◌, subst, arith}
use Rattle.std.proofs.lemmas.Option.{slice_get_within}
use Rattle.mc_nbt.specs.declared.value.Value.{Value}
use Rattle.mc_cmd.specs.Form.{Text}
use Rattle.mc_cmd.specs.World.{World}
use Rattle.wm_ast.specs.declared.module.Func.{Func}
use Rattle.wm_ast.specs.declared.module.FuncType.{FuncType}
use Rattle.wm_ast.specs.declared.module.Module.{Module}
use Rattle.wm_ast.specs.Configuration.{Config}
use Rattle.wm_ast.specs.Instance.{call_config}
use Rattle.wm_ast.specs.Store.{Store}
use Rattle.wm_valid.specs.Height.{Low}
use Rattle.wm_flat.specs.Flat.{Activation, starting, running, config_of}
use Rattle.wm_flat.specs.FlatTyping.{IsFunction}
use Rattle.wm_flat.specs.Program.{IsProgram}
use Rattle.wm_place.specs.Kinds.{function_body}
use Rattle.wm_view.specs.View.{inspection, view}
use Rattle.wm_view.proofs.Views.{views_agree}
use Rattle.cc_line.specs.Key.{key_next, body_piece, group_shared}
use Rattle.cc_line.specs.Place.{score_places}
use Rattle.cc_line.specs.Sight.{Shows, in_rest}
use Rattle.cc_line.specs.State.{State, seen}
use Rattle.cc_pieces.specs.Entry.{taker}
use Rattle.cc_pieces.specs.Law.{most_takers}
use Rattle.cc_body.specs.Layout.{frame_size}
use Rattle.cc_body.proofs.Bounds.{functions_are_few}
use Rattle.cc_simulate.specs.Stands.{Standing, Entering, Taking}
use Rattle.cc_simulate.specs.Stands.{at_cut, opening, making, fetching, restoring, placing, growing, dividing}
use Rattle.cc_told.specs.Cases.{Names}
use Rattle.cc_told.proofs.Cases.{others_are_none}
use Rattle.cc_told.proofs.Standings.{one_view}
use Rattle.pk_sight.specs.Shown.{IsStateOf}
use Rattle.pk_sight.proofs.ShownLemmas.{agree}
use Rattle.pk_agree.specs.Resume.{StandsFor, at_standing, at_entry, at_taker}
use Rattle.pk_agree.proofs.Standings.{frames_wide}
use Rattle.mc_inspect.specs.Inspect.{ViewsAreOne}
use Rattle.mc_inspect.proofs.Agreeing.{standing_kept}

-- ---- calls

-- a call from outside shows no frame
pub call_view : (s : Store) (n : ℕ) (args : List Value) → view (call_config s n args) ≡ inspection [] (Some 16) []
call_view s n args = views_agree s (starting n (reverse args))

-- ---- the state of a world

framed : (m : Module) (n count : ℕ) → count ≡ frame_size m n → score_places ≤ count
framed m n count e = subst (λ (k : ℕ). score_places ≤ k) (sym e) (frames_wide (function_body m n))

pub standing_wide : (m : Module) (cs : List Activation) (a : Activation) (p : State) → Standing m cs a p → score_places ≤ length p.places
standing_wide m cs a p (at_cut x) = framed m a.func (length p.places) x.frame.sized
standing_wide m cs a p (opening x) = x.has_scores
standing_wide m cs a p (making c ds x e) = x.passing.has_scores
standing_wide m cs a p (fetching c ds k x e) = x.passing.has_scores
standing_wide m cs a p (restoring c us x e) = x.has_scores
standing_wide m cs a p (placing x) = framed m a.func (length p.places) x.frame.sized
standing_wide m cs a p (growing x) = framed m a.func (length p.places) x.frame.sized
standing_wide m cs a p (dividing x) = framed m a.func (length p.places) x.frame.sized

pub standing_state : (m : Module) (ns : Text) (w : World) (cs : List Activation) (a : Activation) (p : State) → Shows ns w (seen p)
    → Standing m cs a p → IsStateOf ns w p
standing_state m ns w cs a p shows x = record { shows = shows; has_scores = standing_wide m cs a p x }

pub entering_state : (m : Module) (ns : Text) (w : World) (n : ℕ) (args : List Value) (p : State) → Shows ns w (seen p)
    → Entering m n args p → IsStateOf ns w p
entering_state m ns w n args p shows x = record { shows = shows; has_scores = x.has_scores }

pub taking_state : (m : Module) (ns : Text) (w : World) (n : ℕ) (args : List Value) (blank k : ℕ) (p : State) → Shows ns w (seen p)
    → Taking m n args blank k p → IsStateOf ns w p
taking_state m ns w n args blank k p shows x = record { shows = shows; has_scores = framed m n (length p.places) x.sized }

-- ---- where a call begins, no activation stands

pub function_low : (m : Module) → IsProgram m → (n : ℕ) (f : Func) (t : FuncType) → IsFunction m n f t → n < group_shared
function_low m program n f t x =
    let here : n < length m.funcs = slice_get_within m.funcs n f x.there in
    let few : length m.funcs ≤ 8192 = functions_are_few m program in
    omega arith

module _ (m : Module) (program : IsProgram m) (low : Low m) (cs : List Activation) (a : Activation) (p : State) (x : Standing m cs a p) where
  pub no_entry : (n : ℕ) (f : Func) (t : FuncType) → IsFunction m n f t → Names (body_piece n 0) p → ⊥
  no_entry n f t g e = others_are_none m program low cs a p x (body_piece n 0) (function_low m program n f t g, refl) e

  pub no_taker : (k : ℕ) → k < most_takers → Names (taker k) p → ⊥
  no_taker k l e = others_are_none m program low cs a p x (taker k) (inl (omega arith)) e

-- ---- two configurations

module _ (m : Module) (program : IsProgram m) (low : Low m) (ns : Text) (w : World) where
  -- the same piece is next in both
  same_name : (p q : State) → IsStateOf ns w p → IsStateOf ns w q → q.keys in_rest key_next ≡ p.keys in_rest key_next
  same_name p q s t = (agree ns w q p t s).keys in_rest key_next refl

  two_standings : (s t : Store) (cs ds : List Activation) (a b : Activation) (p q : State) → Shows ns w (seen p) → Shows ns w (seen q)
      → Standing m cs a p → Standing m ds b q → view (config_of s (running cs a)) ≡ view (config_of t (running ds b))
  two_standings s t cs ds a b p q g h x y =
      one_view m program low cs ds a b q s t
      (standing_kept m cs a p q (agree ns w q p (standing_state m ns w ds b q h y) (standing_state m ns w cs a p g x)) x) y

  -- a standing, and the beginning of a call
  never_entry : (cs : List Activation) (a : Activation) (p q : State) → Shows ns w (seen p) → Shows ns w (seen q) → Standing m cs a p
      → (n : ℕ) (f : Func) (t : FuncType) (args : List Value) → IsFunction m n f t → Entering m n args q → ⊥
  never_entry cs a p q g h x n f t args i y =
      no_entry m program low cs a p x n f t i
      (same_name q p (entering_state m ns w n args q h y) (standing_state m ns w cs a p g x) ∙ y.named)

  never_taker : (cs : List Activation) (a : Activation) (p q : State) → Shows ns w (seen p) → Shows ns w (seen q) → Standing m cs a p
      → (n : ℕ) (args : List Value) (blank k : ℕ) → k < most_takers → Taking m n args blank k q → ⊥
  never_taker cs a p q g h x n args blank k l y =
      no_taker m program low cs a p x k l
      (same_name q p (taking_state m ns w n args blank k q h y) (standing_state m ns w cs a p g x) ∙ y.named)

  calls_alike : (s t : Store) (n k : ℕ) (args others : List Value) → view (call_config s n args) ≡ view (call_config t k others)
  calls_alike s t n k args others = call_view s n args ∙ sym (call_view t k others)

  one : (c d : Config) → StandsFor m ns w c → StandsFor m ns w d → view c ≡ view d
  one c d (at_standing s cs a p g x e) (at_standing t ds b q h y f) =
      ap view e ∙ two_standings s t cs ds a b p q g h x y ∙ ap view (sym f)
  one c d (at_standing s cs a p g x e) (at_entry t n k ty args q h i y f) = absurd (never_entry cs a p q g h x n k ty args i y)
  one c d (at_standing s cs a p g x e) (at_taker t n k ty args blank j q h i l y f) = absurd (never_taker cs a p q g h x n args blank j l y)
  one c d (at_entry t n k ty args q h i y f) (at_standing s cs a p g x e) = absurd (never_entry cs a p q g h x n k ty args i y)
  one c d (at_taker t n k ty args blank j q h i l y f) (at_standing s cs a p g x e) = absurd (never_taker cs a p q g h x n args blank j l y)
  one c d (at_entry s n k ty args p g i x e) (at_entry t o z tz others q h j y f) =
      ap view e ∙ calls_alike s t n o args others ∙ ap view (sym f)
  one c d (at_entry s n k ty args p g i x e) (at_taker t o z tz others blank r q h j l y f) =
      ap view e ∙ calls_alike s t n o args others ∙ ap view (sym f)
  one c d (at_taker s n k ty args blank r p g i l x e) (at_entry t o z tz others q h j y f) =
      ap view e ∙ calls_alike s t n o args others ∙ ap view (sym f)
  one c d (at_taker s n k ty args blank r p g i l x e) (at_taker t o z tz others nones u q h j v y f) =
      ap view e ∙ calls_alike s t n o args others ∙ ap view (sym f)

pub views_are_one : ViewsAreOne
views_are_one m program low ns w c d x y = one m program low ns w c d x y
