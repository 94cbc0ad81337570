-- Paths tell places.
use Rattle.std.proofs.Common.{◌≡◌, ℕ, List, [], ◌∷◌, Option, Some, option_map, refl, sym, ap, ◌∙◌, subst}
use Rattle.wm_ast.specs.Code.{Op, block, loop, if_else, Code, nil, cons}
use Rattle.wm_valid.specs.Place.{front, after_front, arm}
use Rattle.wm_valid.specs.Arrows.{◌>>=◌}
use Rattle.wm_valid.proofs.OperandLaws.{bind_some}
use Rattle.wm_place.specs.Place.{Step, in_block, in_arm, Place, place, lead, path_of, into_op, into_code, place_from, place_of}
use Rattle.wm_place.specs.Spot.{Sequence, Spot, spot, position_of, sequence_at, spot_at}
use Rattle.wm_place.proofs.SpotLemmas.{found}
use Rattle.wm_place.proofs.LevelLemmas.{some_of, map_some, IsInner, last_step}
use Rattle.wm_place.proofs.PlaceLemmas.{stands, into_step, held_by, IsThere}

-- ---- the path of a place tells it

-- the positions that a step adds
abbrev pub added : Step → List ℕ → List ℕ
added (in_block n) path = n ∷ path
added (in_arm n k) path = n ∷ k ∷ path

inner_told : (s : Step) (steps : List Step) (op : Op) (rest c d : Code) (j : ℕ) (path : List ℕ) → after_front (position_of s) c ≡ Some (cons op rest) → IsInner s op d
    → place_from steps (added s (j ∷ path)) c ≡ place_from (s ∷ steps) (j ∷ path) d
inner_told (in_block n) steps (block ty b) rest c d j path f e =
    ap (λ (o : Option Code). o >>= λ r. into_code r j (λ body. place_from (in_block n ∷ steps) (j ∷ path) body) (λ body. place_from (in_arm n j ∷ steps) path body)) f
    ∙ ap (λ (x : Code). place_from (in_block n ∷ steps) (j ∷ path) x) e
inner_told (in_block n) steps (loop ty b) rest c d j path f e =
    ap (λ (o : Option Code). o >>= λ r. into_code r j (λ body. place_from (in_block n ∷ steps) (j ∷ path) body) (λ body. place_from (in_arm n j ∷ steps) path body)) f
    ∙ ap (λ (x : Code). place_from (in_block n ∷ steps) (j ∷ path) x) e
inner_told (in_block n) steps _ rest c d j path f e = absurd e
inner_told (in_arm n k) steps (if_else ty a b) rest c d j path f e =
    ap (λ (o : Option Code). o >>= λ r. into_code r k (λ body. place_from (in_block n ∷ steps) (k ∷ j ∷ path) body) (λ body. place_from (in_arm n k ∷ steps) (j ∷ path) body)) f
    ∙ ap (λ (o : Option Code). o >>= λ body. place_from (in_arm n k ∷ steps) (j ∷ path) body) e
inner_told (in_arm n k) steps _ rest c d j path f e = absurd e

steps_told : (body : Sequence) (steps : List Step) (q : Sequence) (j : ℕ) (path : List ℕ) → sequence_at body steps ≡ Some q
    → place_from [] (lead steps (j ∷ path)) body.code ≡ place_from steps (j ∷ path) q.code
steps_told body [] q j path e = ap (λ (y : Sequence). place_from [] (j ∷ path) y.code) (some_of body q e)
steps_told body (in_block n ∷ steps) q j path e =
    let w = last_step body (in_block n) steps q e in
    steps_told body steps w.sequence.sequence n (j ∷ path) w.sequence.there
    ∙ inner_told (in_block n) steps w.entered.op w.entered.rest w.sequence.sequence.code q.code j path (w.sequence.part.after ∙ ap Some w.entered.is_code) w.entered.inner
steps_told body (in_arm n k ∷ steps) q j path e =
    let w = last_step body (in_arm n k) steps q e in
    steps_told body steps w.sequence.sequence n (k ∷ j ∷ path) w.sequence.there
    ∙ inner_told (in_arm n k) steps w.entered.op w.entered.rest w.sequence.sequence.code q.code j path (w.sequence.part.after ∙ ap Some w.entered.is_code) w.entered.inner

pub told : (body : Sequence) (p : Place) (x : Spot) → spot_at body p ≡ Some x → place_of body.code (path_of p) ≡ Some p
told body p x e =
    let f = found body p x e in
    steps_told body p.steps f.sequence p.position [] f.there ∙ ap (option_map (λ rest. place p.steps p.position)) f.part.after

-- ---- a path tells a place that stands, and is its path

-- the place that is told
pub record Tells (body : Sequence) (steps : List Step) (path : List ℕ) (p : Place) : Type 0 where
  pub leads : path_of p ≡ lead steps path
  pub there : IsThere body p

op_tells : (body : Sequence) (steps : List Step) (n k : ℕ) (path : List ℕ) (q : Sequence) (i : Op) (rest : Code) (p : Place) → sequence_at body steps ≡ Some q → after_front n q.code ≡ Some (cons i rest)
    → ((t : Sequence) → sequence_at body (in_block n ∷ steps) ≡ Some t → place_from (in_block n ∷ steps) (k ∷ path) t.code ≡ Some p → Tells body (in_block n ∷ steps) (k ∷ path) p)
    → ((t : Sequence) → sequence_at body (in_arm n k ∷ steps) ≡ Some t → place_from (in_arm n k ∷ steps) path t.code ≡ Some p → Tells body (in_arm n k ∷ steps) path p)
    → into_op i k (λ c. place_from (in_block n ∷ steps) (k ∷ path) c) (λ c. place_from (in_arm n k ∷ steps) path c) ≡ Some p → Tells body steps (n ∷ k ∷ path) p
op_tells body steps n k path q (block ty c) rest p e f of_body of_arm h =
    let w = of_body (held_by steps n q (block ty c) rest c) (into_step body (in_block n) steps q (block ty c) rest c e f refl) h in
    record { leads = w.leads; there = w.there }
op_tells body steps n k path q (loop ty c) rest p e f of_body of_arm h =
    let w = of_body (held_by steps n q (loop ty c) rest c) (into_step body (in_block n) steps q (loop ty c) rest c e f refl) h in
    record { leads = w.leads; there = w.there }
op_tells body steps n k path q (if_else ty a b) rest p e f of_body of_arm h =
    let o = bind_some (arm k a b) (λ c. place_from (in_arm n k ∷ steps) path c) p h in
    let w = of_arm (held_by steps n q (if_else ty a b) rest o.0) (into_step body (in_arm n k) steps q (if_else ty a b) rest o.0 e f o.1) o.2 in
    record { leads = w.leads; there = w.there }
op_tells body steps n k path q _ rest p e f of_body of_arm h = absurd cc

code_tells : (body : Sequence) (steps : List Step) (n k : ℕ) (path : List ℕ) (q : Sequence) (c : Code) (p : Place) → sequence_at body steps ≡ Some q → after_front n q.code ≡ Some c
    → ((t : Sequence) → sequence_at body (in_block n ∷ steps) ≡ Some t → place_from (in_block n ∷ steps) (k ∷ path) t.code ≡ Some p → Tells body (in_block n ∷ steps) (k ∷ path) p)
    → ((t : Sequence) → sequence_at body (in_arm n k ∷ steps) ≡ Some t → place_from (in_arm n k ∷ steps) path t.code ≡ Some p → Tells body (in_arm n k ∷ steps) path p)
    → into_code c k (λ d. place_from (in_block n ∷ steps) (k ∷ path) d) (λ d. place_from (in_arm n k ∷ steps) path d) ≡ Some p → Tells body steps (n ∷ k ∷ path) p
code_tells body steps n k path q nil p e f of_body of_arm h = absurd cc
code_tells body steps n k path q (cons i rest) p e f of_body of_arm h = op_tells body steps n k path q i rest p e f of_body of_arm h

path_tells : (path : List ℕ) (body : Sequence) (steps : List Step) (q : Sequence) (p : Place) → sequence_at body steps ≡ Some q → place_from steps path q.code ≡ Some p → Tells body steps path p
path_tells [] body steps q p e h = absurd cc
path_tells (n ∷ []) body steps q p e h =
    let w = map_some (λ rest. place steps n) (after_front n q.code) p h in
    let same : place steps n ≡ p = w.2 in
    record {
      leads = ap path_of (sym same);
      there = (spot q.levels (front n q.code) w.0, subst (λ (r : Place). spot_at body r ≡ Some (spot q.levels (front n q.code) w.0)) same (stands body steps n q w.0 e w.1));
    }
path_tells (n ∷ k ∷ path) body steps q p e h =
    let w = bind_some (after_front n q.code) (λ rest. into_code rest k (λ c. place_from (in_block n ∷ steps) (k ∷ path) c) (λ c. place_from (in_arm n k ∷ steps) path c)) p h in
    code_tells body steps n k path q w.0 p e w.1 (λ t a b. path_tells (k ∷ path) body (in_block n ∷ steps) t p a b) (λ t a b. path_tells path body (in_arm n k ∷ steps) t p a b) w.2

pub tells : (body : Sequence) (path : List ℕ) (p : Place) → place_of body.code path ≡ Some p → Tells body [] path p
tells body path p e = path_tells path body [] body p refl e
