-- Moves that go on: behind an instruction, into a block, into an arm.
use Rattle.std.proofs.Common.{◌≡◌, ◌≤◌, ℕ, List, [], ◌∷◌, ◌++◌, length, drop, Option, Some, option_map, refl, sym, ap, ◌∙◌, append_assoc, arith}
use Rattle.std.proofs.lemmas.List.{length-map, drop-append-le}
use Rattle.mc_nbt.specs.declared.value.Value.{Value}
use Rattle.wm_ast.specs.declared.module.ValType.{ValType}
use Rattle.wm_ast.specs.Code.{Op, block, loop, if_else, Code, nil, cons}
use Rattle.wm_ast.specs.Types.{const_type}
use Rattle.wm_ast.specs.declared.module.Module.{Module}
use Rattle.wm_valid.specs.Typing.{Scope}
use Rattle.wm_valid.specs.Arrows.{◌>>=◌, Change, changed, change}
use Rattle.wm_flat.specs.Flat.{Activation, past, inner}
use Rattle.wm_flat.specs.FlatTyping.{types_of}
use Rattle.wm_flat.specs.Operands.{under, operands}
use Rattle.wm_place.specs.Place.{Place, next, inside, inside_arm, path_of}
use Rattle.wm_place.specs.Spot.{level, spot, followed_by, spot_at}
use Rattle.wm_place.specs.Kinds.{stays_under}
use Rattle.wm_place.specs.Visit.{Visit}
use Rattle.wm_place.proofs.OrderLemmas.{path_leads_on}
use Rattle.wm_place.proofs.SpotLemmas.{find_next, find_block, find_loop, find_first_arm, find_second_arm}
use Rattle.wm_place.proofs.WalkLemmas.{run_behind}
use Rattle.cc_cut.specs.Way.{Way, way, path_behind}
use Rattle.cc_move.specs.Standing.{StandsAt, Comes}
use Rattle.cc_move.specs.Law.{OnwardComes, BlockComes, ArmComes}
use Rattle.cc_move.proofs.StandLemmas.{types_append, next_path, next_is, one_more, scope_at, body_at, visit_path, spot_is, comes}

-- ---- behind an instruction

-- a change leaves what stands under the operands that it takes
changed_over : (e : Change) (ts us : List ValType) → e.takes ≤ length ts → changed e (ts ++ us) ≡ changed e ts ++ us
changed_over e ts us h =
    ap (λ (l : List ValType). e.gives ++ l) (drop-append-le e.takes ts us h) ∙ sym (append_assoc e.gives (drop e.takes ts) us)

pub onward_comes : OnwardComes
onward_comes m a v s i is e locals vs h made few types same =
    let S : Scope = scope_at m a v s in
    let own : List ValType = types_of a.values in
    let below : List ValType = types_of (under a.levels) in
    let enough : e.takes ≤ length own = omega (arith, length-map a.values const_type, few) in
    comes m s.func s.type (past a i is locals vs) (next s.place) (spot s.spot.levels (followed_by s.spot.before i) is) (way (path_behind v.path) (changed e (types_of (operands a))))
    (record {
      is_function = s.is_function;
      there = find_next (body_at m a v s) s.place s.spot.levels s.spot.before i is (spot_is m a v s (cons i is) h);
      path = next_is a.place ∙ (ap path_behind s.path ∙ sym (next_path s.place));
      before = one_more a.before i ∙ ap (λ (c : Code). followed_by c i) s.before;
      code = refl;
      levels = s.levels;
      kinds =
          run_behind s.spot.before i S []
          ∙ (ap (λ (o : Option (List ValType)). o >>= λ us. change i S >>= λ x. Some (changed x us)) s.kinds
          ∙ (ap (λ (o : Option Change). o >>= λ x. Some (changed x own)) made ∙ ap (λ (l : List ValType). Some l) (sym types)));
      locals = same ∙ s.locals;
      results = s.results;
    })
    (next_path s.place ∙ ap path_behind (visit_path m a v s))
    (types_append vs (under a.levels)
    ∙ (ap (λ (l : List ValType). l ++ below) types
    ∙ (sym (changed_over e own below enough) ∙ ap (λ (l : List ValType). changed e l) (sym (types_append a.values (under a.levels))))))

-- ---- inside an instruction

-- the first place of a sequence inside
inside_comes : (m : Module) (a : Activation) (v : Visit) (s : StandsAt m a v) (i : Op) (is d : Code) (vs : List Value) (first : List ℕ) (p : Place) (w : Way)
    → spot_at (body_at m a v s) p ≡ Some (spot (level (Some s.place) s.spot.before i is ∷ s.spot.levels) nil d) → path_of p ≡ path_of s.place ++ first
    → stays_under i (types_of a.values) ≡ types_of vs → v.path ++ first ≡ w.to → types_of (vs ++ under a.levels) ≡ w.kinds → Comes m (inner a i is vs first d) w
inside_comes m a v s i is d vs first p w there path stays to kinds =
    let S : Scope = scope_at m a v s in
    comes m s.func s.type (inner a i is vs first d) p (spot (level (Some s.place) s.spot.before i is ∷ s.spot.levels) nil d) w
    (record {
      is_function = s.is_function;
      there = there;
      path = ap (λ (l : List ℕ). l ++ first) s.path ∙ sym path;
      before = refl;
      code = refl;
      levels = (
        record {
          place = s.path;
          before = s.before;
          op = refl;
          rest = refl;
          kinds = ap (λ (o : Option (List ValType)). option_map (stays_under i) o) s.kinds ∙ ap (λ (l : List ValType). Some l) stays;
        },
        s.levels,
      );
      kinds = refl;
      locals = s.locals;
      results = s.results;
    })
    (path ∙ (ap (λ (l : List ℕ). l ++ first) (visit_path m a v s) ∙ to))
    kinds

pub block_comes : BlockComes
block_comes m a v s ty body is = (
  λ h. inside_comes m a v s (block ty body) is body a.values (0 ∷ []) (inside s.place) (way (v.path ++ 0 ∷ []) (types_of (operands a)))
      (find_block (body_at m a v s) s.place s.spot.levels s.spot.before ty body is (spot_is m a v s (cons (block ty body) is) h)) (path_leads_on s.place).in_block refl refl refl,
  λ h. inside_comes m a v s (loop ty body) is body a.values (0 ∷ []) (inside s.place) (way (v.path ++ 0 ∷ []) (types_of (operands a)))
      (find_loop (body_at m a v s) s.place s.spot.levels s.spot.before ty body is (spot_is m a v s (cons (loop ty body) is) h)) (path_leads_on s.place).in_block refl refl refl,
)

pub arm_comes : ArmComes
arm_comes m a v s ty one other is c vs h e =
    let stays : drop 1 (types_of a.values) ≡ types_of vs = ap (λ (l : List Value). drop 1 (types_of l)) e in
    let kinds : types_of (vs ++ under a.levels) ≡ drop 1 (types_of (operands a)) = ap (λ (l : List Value). drop 1 (types_of (l ++ under a.levels))) (sym e) in (
      inside_comes m a v s (if_else ty one other) is one vs (0 ∷ 0 ∷ []) (inside_arm 0 s.place) (way (v.path ++ 0 ∷ 0 ∷ []) (drop 1 (types_of (operands a))))
          (find_first_arm (body_at m a v s) s.place s.spot.levels s.spot.before ty one other is (spot_is m a v s (cons (if_else ty one other) is) h)) ((path_leads_on s.place).in_arm 0) stays refl kinds,
      inside_comes m a v s (if_else ty one other) is other vs (1 ∷ 0 ∷ []) (inside_arm 1 s.place) (way (v.path ++ 1 ∷ 0 ∷ []) (drop 1 (types_of (operands a))))
          (find_second_arm (body_at m a v s) s.place s.spot.levels s.spot.before ty one other is (spot_is m a v s (cons (if_else ty one other) is) h)) ((path_leads_on s.place).in_arm 1) stays refl kinds,
    )
