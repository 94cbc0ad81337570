use Rattle.std.proofs.Common.{◌≡◌, ◌++◌, ◌∙◌, List, ℤ, ap, subst, sym}
use Rattle.mc_nbt.specs.declared.value.Value.{Value}
use Rattle.wm_ast.specs.declared.module.Module.{Module}
use Rattle.wm_flat.specs.FlatTyping.{types_of}
use Rattle.wm_flat.specs.Program.{IsProgram}
use Rattle.wm_valid.specs.Checked.{IsTyped}
use Rattle.cc_move.specs.Calls.{gives_of}
use Rattle.cc_simulate.specs.Callers.{IsHeld}
use Rattle.cc_simulate.specs.Frame.{local_ints}
use Rattle.pk_entries.specs.View.{entry_view}
use Rattle.pk_callers.proofs.CallerFound.{IsBehind, IsFrameOf, found_shown, no_cut, not_behind, not_held, told_none, told_some}
use Rattle.pk_callers.proofs.caller.caller_of.Goals as goal

program_of : (m : Module) → IsTyped m → IsProgram m
program_of m t = record { valid = t.valid; profile = t.profile; numbers = t.numbers }

pub returns-in_default-2 : goal.returns-in_default-2
returns-in_default-2 c =
    let site = c.in-Some.site in
    no_cut c.args.m.now (program_of c.args.m.now c.module-program.ensures.typed) c.args.gives.now (entry_view c.args.entry.now) site.func site.index
    (told_some _ _ _ site c.in-Some.is c.restored.ensures)
    (told_none _ _ _ c.in_default-2.is c.in_ok-spot.ensures)

pub returns-in_default-kinds_under : goal.returns-in_default-kinds_under
returns-in_default-kinds_under c =
    let site = c.in-Some.site in
    let spot = c.in-Some-2.spot in
    not_behind c.args.m.now (program_of c.args.m.now c.module-program.ensures.typed) c.args.gives.now (entry_view c.args.entry.now) site.func site.index
    (told_some _ _ _ site c.in-Some.is c.restored.ensures) spot
    (told_some _ _ _ spot c.in-Some-2.is c.in_ok-spot.ensures)
    (told_none _ _ _ c.in_default-kinds_under.is c.kinds_under.ensures)

pub returns-in_default-3 : goal.returns-in_default-3
returns-in_default-3 c =
    let m = c.args.m.now in
    let gives = c.args.gives.now in
    let b = entry_view c.args.entry.now in
    let site = c.in-Some.site in
    let spot = c.in-Some-2.spot in
    let stay = c.in-Some-kinds_under.stay.now in
    let follows = told_some _ _ _ site c.in-Some.is c.restored.ensures in
    let (t, call, results, kinds) = told_some _ _ _ c.in-Some-kinds_under.stay c.in-Some-kinds_under.is c.kinds_under.ensures in
    let behind : IsBehind m gives b site.func site.index spot stay =
    record { follows = follows; spot = told_some _ _ _ spot c.in-Some-2.is c.in_ok-spot.ensures; type = t; is_call = call; results = results; kinds = kinds } in
    not_held m (program_of m c.module-program.ensures.typed) gives b site.func site.index follows spot stay behind
    (subst (λ (zs : List ℤ). (ls os : List Value) → types_of ls ≡ spot.locals → types_of os ≡ stay → IsHeld spot.size (local_ints ls ++ local_ints os) zs → ⊥) c.as_slice.ensures.value
    (told_none _ _ _ c.in_default-3.is c.in_ok-frame.ensures))

pub returns : goal.returns
returns c =
    let m = c.args.m.now in
    let gives = c.args.gives.now in
    let b = entry_view c.args.entry.now in
    let site = c.in-Some.site in
    let spot = c.in-Some-2.spot in
    let stay = c.in-Some-kinds_under.stay.now in
    let frame = c.in-Some-3.frame in
    let follows = told_some _ _ _ site c.in-Some.is c.restored.ensures in
    let (t, call, results, kinds) = told_some _ _ _ c.in-Some-kinds_under.stay c.in-Some-kinds_under.is c.kinds_under.ensures in
    let behind : IsBehind m gives b site.func site.index spot stay =
    record { follows = follows; spot = told_some _ _ _ spot c.in-Some-2.is c.in_ok-spot.ensures; type = t; is_call = call; results = results; kinds = kinds } in
    let (func_is, locals, operands, held) = told_some _ _ _ frame c.in-Some-3.is c.in_ok-frame.ensures in
    let framed : IsFrameOf b site.func spot stay frame =
    record {
      func_is = func_is;
      locals = locals;
      operands_are = operands;
      held = subst (λ (zs : List ℤ). IsHeld spot.size (local_ints frame.locals ++ local_ints frame.operands) zs) c.as_slice.ensures.value held;
    } in
    found_shown m gives b site.func site.index spot stay frame behind framed c.in_ok-gives.gives
    (ap (λ (k : Module). gives_of k site.func) (sym c.module-program.ensures.same) ∙ c.in_ok-gives.ensures)
