-- A step inside the labels and frames round it is a step of the whole.
use Rattle.std.proofs.Common.{◌≡◌, ℕ, suc, List, [], ◌∷◌, ◌++◌, length, refl, ap, ◌∙◌}
use Rattle.std.proofs.lemmas.List.{append-nil}
use Rattle.mc_nbt.specs.declared.value.Value.{Value}
use Rattle.wm_ast.specs.declared.answer.TrapKind.{TrapKind}
use Rattle.wm_ast.specs.declared.module.Module.{Module}
use Rattle.wm_ast.specs.Configuration.{value, label, frame, Items, empty, more, items_of, append, after_values}
use Rattle.wm_ast.specs.Step.{Reduct, rewritten, branching, returning, trapping, irreducible, go_on, at_label, at_frame}
use Rattle.wm_ast.specs.Step.{items_step}
use Rattle.wm_ast.specs.Store.{Store}
use Rattle.wm_flat.specs.Flat.{count_of, again_of, Level, Activation, wrap, plug, body_with, around}

pub append-after : (vs : List Value) (is js : Items) → append (after_values vs is) js ≡ after_values vs (append is js)
append-after [] is js = refl
append-after (v ∷ vs) is js = append-after vs (more (value v) is) js

pub after-append : (us vs : List Value) (is : Items) → after_values (us ++ vs) is ≡ after_values vs (after_values us is)
after-append [] vs is = refl
after-append (u ∷ us) vs is = after-append us vs (more (value u) is)

pub append-empty : (is : Items) → append is empty ≡ is
append-empty empty = refl
append-empty (more i is) = ap (more i) (append-empty is)

module _ (m : Module) where
  pub walk : (vs : List Value) (js : Items) (d : ℕ) (s : Store) (locals ws : List Value)
      → items_step m (after_values vs js) d s locals ws ≡ items_step m js d s locals (vs ++ ws)
  walk [] js d s locals ws = refl
  walk (v ∷ vs) js d s locals ws = walk vs (more (value v) js) d s locals ws

  -- values of a fresh sequence
  pub walked : (vs : List Value) (js : Items) (d : ℕ) (s : Store) (locals : List Value)
      → items_step m (after_values vs js) d s locals [] ≡ items_step m js d s locals vs
  walked vs js d s locals = walk vs js d s locals [] ∙ ap (items_step m js d s locals) (append-nil vs)

-- what the sequences round an item come to, by what it comes to
abbrev pub out_of : Store → List Value → List Level → Reduct → Reduct
out_of s locals [] r = r
out_of s locals (lv ∷ lvs) r =
    out_of s locals lvs
    (go_on (items_of lv.block.rest)
    (at_label s locals (count_of lv.block.op) (again_of lv.block.op) lv.values r))

abbrev pub around_reduct : Store → List Activation → ℕ → ℕ → Reduct → Reduct
around_reduct s [] n f r = go_on empty (at_frame s [] n f [] r)
around_reduct s (c ∷ cs) n f r =
    around_reduct s cs c.results c.func
    (out_of s c.locals c.levels (go_on (items_of c.code) (at_frame s c.locals n f c.values r)))

module _ (m : Module) where
  pub plug_step : (lvs : List Level) (is : Items) (d : ℕ) (s : Store) (locals : List Value)
      → items_step m (plug lvs is) d s locals [] ≡ out_of s locals lvs (items_step m is d s locals [])
  plug_step [] is d s locals = refl
  plug_step (lv ∷ lvs) is d s locals =
      plug_step lvs (wrap lv is) d s locals
      ∙ ap (out_of s locals lvs)
      (walked m lv.values
      (more (label (count_of lv.block.op) (again_of lv.block.op) is) (items_of lv.block.rest)) d s locals)

  pub around_step : (cs : List Activation) (n f : ℕ) (locals : List Value) (is : Items) (s : Store)
      → items_step m (around cs (frame n f locals is)) 0 s [] []
      ≡ around_reduct s cs n f (items_step m is (suc (length cs)) s locals [])
  around_step [] n f locals is s = refl
  around_step (c ∷ cs) n f locals is s =
      let inner = more (frame n f locals is) (items_of c.code) in
      let d = suc (length cs) in
      around_step cs c.results c.func c.locals (body_with c (more (frame n f locals is) empty)) s
      ∙ ap (around_reduct s cs c.results c.func)
      (plug_step c.levels (after_values c.values inner) d s c.locals
      ∙ ap (out_of s c.locals c.levels) (walked m c.values inner d s c.locals))

-- What goes through.

pub out_rewritten : (lvs : List Level) (s s' : Store) (locals locals' : List Value) (is : Items)
    → out_of s locals lvs (rewritten s' locals' is) ≡ rewritten s' locals' (plug lvs is)
out_rewritten [] s s' locals locals' is = refl
out_rewritten (lv ∷ lvs) s s' locals locals' is = out_rewritten lvs s s' locals locals' (wrap lv is)

pub out_trapping : (lvs : List Level) (s : Store) (locals : List Value) (k : TrapKind)
    → out_of s locals lvs (trapping k) ≡ trapping k
out_trapping [] s locals k = refl
out_trapping (lv ∷ lvs) s locals k = out_trapping lvs s locals k

pub out_returning : (lvs : List Level) (s : Store) (locals vs : List Value)
    → out_of s locals lvs (returning vs) ≡ returning vs
out_returning [] s locals vs = refl
out_returning (lv ∷ lvs) s locals vs = out_returning lvs s locals vs

pub around_trapping : (cs : List Activation) (s : Store) (n f : ℕ) (k : TrapKind)
    → around_reduct s cs n f (trapping k) ≡ trapping k
around_trapping [] s n f k = refl
around_trapping (c ∷ cs) s n f k =
    ap (around_reduct s cs c.results c.func) (out_trapping c.levels s c.locals k)
    ∙ around_trapping cs s c.results c.func k

pub around_rewritten : (cs : List Activation) (s s' : Store) (n f : ℕ) (locals : List Value) (is : Items)
    → around_reduct s cs n f (rewritten s' locals is) ≡ rewritten s' [] (around cs (frame n f locals is))
around_rewritten [] s s' n f locals is = refl
around_rewritten (c ∷ cs) s s' n f locals is =
    ap (around_reduct s cs c.results c.func)
    (out_rewritten c.levels s s' c.locals c.locals
    (after_values c.values (more (frame n f locals is) (items_of c.code))))
    ∙ around_rewritten cs s s' c.results c.func c.locals (body_with c (more (frame n f locals is) empty))

pub out_irreducible : (lvs : List Level) (s : Store) (locals : List Value)
    → out_of s locals lvs irreducible ≡ irreducible
out_irreducible [] s locals = refl
out_irreducible (lv ∷ lvs) s locals = out_irreducible lvs s locals

pub around_irreducible : (cs : List Activation) (s : Store) (n f : ℕ)
    → around_reduct s cs n f irreducible ≡ irreducible
around_irreducible [] s n f = refl
around_irreducible (c ∷ cs) s n f =
    ap (around_reduct s cs c.results c.func) (out_irreducible c.levels s c.locals)
    ∙ around_irreducible cs s c.results c.func

-- no branch leaves a frame
pub around_branching : (cs : List Activation) (s : Store) (n f l : ℕ) (vs : List Value)
    → around_reduct s cs n f (branching l vs) ≡ irreducible
around_branching [] s n f l vs = refl
around_branching (c ∷ cs) s n f l vs = around_irreducible (c ∷ cs) s n f
