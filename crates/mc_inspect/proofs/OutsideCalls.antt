-- A call from outside, whose first frame isn't made: which piece is next then.
use Rattle.std.proofs.Common.{◌≡◌, ◌<◌, ◌+◌, ℕ, ℤ, ◌≤◌, List, [], ◌∷◌, length, map, Bool, true, false, Option, Some, None, Vec, Global, Bor, inl, inr, refl, sym, ap, subst, ◌∙◌}
use Rattle.std.specs.Prelude.{slice_get, option_map, option_copied, is_some, IfOk, Result, Ok, Err}
use Rattle.std.specs.Bool.{MatchBool}
use Rattle.mc_nbt.specs.declared.memory.Memory.{Memory}
use Rattle.mc_nbt.specs.declared.value.Value.{Value}
use Rattle.mc_nbt.specs.declared.value.Value.TheVariants as values
use Rattle.wm_ast.specs.declared.module.FuncType.{FuncType}
use Rattle.wm_ast.specs.declared.module.Module.{Module}
use Rattle.wm_ast.specs.Types.{function_type}
use Rattle.wm_valid.specs.Arrows.{◌>>=◌}
use Rattle.wm_valid.proofs.OperandLaws.{bind_some}
use Rattle.wm_flat.specs.Program.{IsProgram}
use Rattle.wm_place.proofs.LevelLemmas.{some_of}
use Rattle.cc_line.specs.Key.{PieceId, body_piece, init_piece, shared_piece, end_piece, id_tree}
use Rattle.cc_line.specs.Place.{score_places}
use Rattle.cc_line.specs.State.{State, ints}
use Rattle.cc_entries.specs.Law.{NameTells}
use Rattle.cc_entries.proofs.Telling.{names_tell}
use Rattle.cc_pieces.specs.Entry.{first_taker, taker}
use Rattle.cc_pieces.specs.Law.{most_takers}
use Rattle.cc_simulate.specs.Frame.{local_ints}
use Rattle.cc_told.specs.Cases.{Names}
use Rattle.mc_inspect.specs.declared.reading.Reading.{Reading}
use Rattle.mc_inspect.specs.steps.Found.{Enters, IsOutside, Takes, TellsOfCall}
use Rattle.mc_inspect.specs.steps.Read.{HasArgs}
use Rattle.mc_inspect.proofs.OneView.{function_low}

-- ---- names

one_name : (p : State) (i j : PieceId) → NameTells i → NameTells j → Names i p → Names j p → i ≡ j
one_name p i j told tells x y = names_tell i j told tells (some_of (id_tree i) (id_tree j) (sym x ∙ y))

module _ (m : Module) (program : IsProgram m) (p : State) (i : PieceId) (told : NameTells i) (named : Names i p) where
  entry_named : (e : Enters m p) → i ≡ body_piece e.index 0
  entry_named e = one_name p i (body_piece e.index 0) told (function_low m program e.index e.func e.type e.is_function) named e.entering.named

  pub taker_named : (t : Takes m p) → i ≡ taker t.number
  taker_named t = one_name p i (taker t.number) told tt named t.taking.named

-- ---- the first piece of a function

-- any ints are those of values
pub as_values : List ℤ → List Value
as_values zs = map (λ (z : ℤ). values.I32 z) zs

pub as_values_ints : (zs : List ℤ) → local_ints (as_values zs) ≡ zs
unfolding as_values
as_values_ints [] = refl
as_values_ints (z ∷ zs) = ap (λ ys. z ∷ ys) (as_values_ints zs)

module _ (m : Module) (x : Reading) (func : ℕ) where
  pub no_function : (slice_get m.funcs func >>= function_type m) ≡ None → TellsOfCall m x (body_piece func 0) (Enters m) false
  no_function none program low p told read runs named e =
      let name = entry_named m program p (body_piece func 0) told named e in
      let same : e.index ≡ func = cc in
      let there : (slice_get m.funcs func >>= function_type m) ≡ Some e.type =
      ap (λ o. o >>= function_type m) (ap (slice_get m.funcs) (sym same) ∙ e.is_function.there) ∙ e.is_function.has_type in
      let never : None ≡ Some e.type = sym none ∙ there in
      cc

  no_args : option_map (λ (v : Vec ℤ Global). v.items) x.args ≡ None → TellsOfCall m x (body_piece func 0) (Enters m) false
  no_args none program low p told read runs named e =
      subst (λ (o : Option (List ℤ)). HasArgs o p) none read.args (local_ints e.args) e.entering.given

  some_entry : (t : FuncType) → (slice_get m.funcs func >>= function_type m) ≡ Some t → (zs : List ℤ) → option_map (λ (v : Vec ℤ Global). v.items) x.args ≡ Some zs
      → TellsOfCall m x (body_piece func 0) (Enters m) true
  some_entry t type zs given program low p told read runs named =
      let f = bind_some (slice_get m.funcs func) (function_type m) t type in
      let args = subst (λ (o : Option (List ℤ)). HasArgs o p) given read.args in
      record {
        index = func;
        func = f.0;
        type = t;
        is_function = record { there = f.1; has_type = f.2 };
        args = as_values zs;
        entering = record {
          named = named;
          given = args ∙ ap (λ ys. Some (ints ys)) (sym (as_values_ints zs));
          has_scores = subst (λ (ys : List ℤ). score_places ≤ length ys) (sym read.places) read.has_scores;
          runs = runs;
        };
      }

  pub entry_answer : (t : FuncType) → (slice_get m.funcs func >>= function_type m) ≡ Some t → (b : Bool)
      → MatchBool b ((zs : List ℤ) × (option_map (λ (v : Vec ℤ Global). v.items) x.args ≡ Some zs)) (option_map (λ (v : Vec ℤ Global). v.items) x.args ≡ None)
      → TellsOfCall m x (body_piece func 0) (Enters m) b
  entry_answer t type true h = some_entry t type h.0 h.1
  entry_answer t type false h = no_args h

-- ---- a type that is looked up

pub none_copied : {A : Type 0} (o : Option (Bor A)) → is_some o ≡ false → option_copied o ≡ None
none_copied None e = refl
none_copied (Some b) e = absurd cc

pub some_copied : {A : Type 0} (o : Option (Bor A)) → is_some o ≡ true → (t : A) × (option_copied o ≡ Some t)
some_copied None e = absurd cc
some_copied (Some b) e = (b.now, refl)

-- ---- whichever piece it is

module _ (m : Module) (x : Reading) where
  pub entry_outside : (func : ℕ) (b : Bool) → TellsOfCall m x (body_piece func 0) (Enters m) b → TellsOfCall m x (body_piece func 0) (IsOutside m) b
  entry_outside func true h program low p told read runs named = inl (h program low p told read runs named)
  entry_outside func false h program low p told read runs named = go
    where
      go : IsOutside m p → ⊥
      go (inl e) = h program low p told read runs named e
      go (inr t) = let never : body_piece func 0 ≡ taker t.number = taker_named m program p (body_piece func 0) told named t in cc

  pub later_inside : (func index : ℕ) → (index ≡ 0 → ⊥) → TellsOfCall m x (body_piece func index) (IsOutside m) false
  later_inside func index later program low p told read runs named = go
    where
      go : IsOutside m p → ⊥
      go (inl e) =
          let name : body_piece func index ≡ body_piece e.index 0 = entry_named m program p (body_piece func index) told named e in
          let first : index ≡ 0 = cc in
          later first
      go (inr t) = let never : body_piece func index ≡ taker t.number = taker_named m program p (body_piece func index) told named t in cc

  pub taker_outside : (index k : ℕ) → index ≡ first_taker + k → (r : Result Bool Memory) → IfOk r (TellsOfCall m x (taker k) (Takes m))
      → IfOk r (TellsOfCall m x (shared_piece index) (IsOutside m))
  taker_outside index k same (Err e) h = tt
  taker_outside index k same (Ok b) h =
      subst (λ (j : ℕ). TellsOfCall m x (shared_piece j) (IsOutside m) b) (sym same) (by_flag b h)
    where
      by_flag : (b : Bool) → TellsOfCall m x (taker k) (Takes m) b → TellsOfCall m x (taker k) (IsOutside m) b
      by_flag true g program low p told read runs named = inr (g program low p told read runs named)
      by_flag false g program low p told read runs named = go
        where
          go : IsOutside m p → ⊥
          go (inl e) = let never : taker k ≡ body_piece e.index 0 = entry_named m program p (taker k) told named e in cc
          go (inr t) = g program low p told read runs named t

  pub shared_inside : (index : ℕ) → ((k : ℕ) → k < most_takers → index ≡ first_taker + k → ⊥) → TellsOfCall m x (shared_piece index) (IsOutside m) false
  shared_inside index none program low p told read runs named = go
    where
      go : IsOutside m p → ⊥
      go (inl e) = let never : shared_piece index ≡ body_piece e.index 0 = entry_named m program p (shared_piece index) told named e in cc
      go (inr t) =
          let name : shared_piece index ≡ taker t.number = taker_named m program p (shared_piece index) told named t in
          let same : index ≡ first_taker + t.number = cc in
          none t.number t.few same

  pub init_inside : (j : ℕ) → TellsOfCall m x (init_piece j) (IsOutside m) false
  init_inside j program low p told read runs named = go
    where
      go : IsOutside m p → ⊥
      go (inl e) = let never : init_piece j ≡ body_piece e.index 0 = entry_named m program p (init_piece j) told named e in cc
      go (inr t) = let never : init_piece j ≡ taker t.number = taker_named m program p (init_piece j) told named t in cc

  pub end_inside : (w : ℕ) → TellsOfCall m x (end_piece w) (IsOutside m) false
  end_inside w program low p told read runs named = go
    where
      go : IsOutside m p → ⊥
      go (inl e) = let never : end_piece w ≡ body_piece e.index 0 = entry_named m program p (end_piece w) told named e in cc
      go (inr t) = let never : end_piece w ≡ taker t.number = taker_named m program p (end_piece w) told named t in cc
