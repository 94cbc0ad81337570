use Rattle.std.proofs.Common.{◌≡◌, map, [], ◌∷◌, ◌++◌, arith, get_or, ◌⊎◌, inl, inr}
use Rattle.std.proofs.lemmas.Result.{err_from_is_err_and}
use Rattle.std.proofs.lemmas.List.{map_push, nil_from_length, length-take, length-drop}
use Rattle.wm_ast.specs.View.{op_of}
use Rattle.wm_decode.specs.steps.Instruction.{inner, code_at}
use Rattle.wm_decode.proofs.Turns.{at_first, empty, op_split, ends_here, stops_here, goes_here}
use Rattle.wm_decode.proofs.instructions.+read.Goals as goal
use Rattle.wm_decode.proofs.instructions.+read.Goals.{instrs-then-b-eq-END-via-then-b-eq-END, instrs-then-b-eq-END-via-else-b-eq-END+then-b-eq-ELSE}

pub instr-returns-in-len1-up-clause-exact : goal.instr-returns-in-len1-up-clause-exact
instr-returns-in-len1-up-clause-exact t c n le =
    rw (op_split (inner (code_at n) c.args.depth) c.args.bytes.now c.in-len1-up.len_at_least) (c.instr_by.ensures.exact n (simp (length-take, length-drop) (omega arith)))

pub instrs-loop-rest-init : goal.instrs-loop-rest-init
instrs-loop-rest-init t c = record { within = omega arith; going = λ n lt. rw c.new-found.ensures.items (at_first n c.args.depth c.args.bytes.now lt) }

pub instrs-returns-then-b-eq-END-clause-exact : goal.instrs-returns-then-b-eq-END-clause-exact
instrs-returns-then-b-eq-END-clause-exact t c n lt =
    let w = c.loop-rest.invariant.going n lt in
    let is : (get_or c.loop-rest.rest.now 0 0 ≡ 11) ⊎ (get_or c.loop-rest.rest.now 0 0 ≡ 5) = elim c.then-b-eq-END.branch [ instrs-then-b-eq-END-via-then-b-eq-END w ↦ inl w.if-b-eq-END.true | instrs-then-b-eq-END-via-else-b-eq-END+then-b-eq-ELSE w ↦ inr w.if-b-eq-ELSE.true ] in
    rw c.from_vec.ensures (ends_here (map op_of c.loop-rest.found.items) n c.args.depth c.args.bytes.now c.loop-rest.rest.now c.in-len1-up.len_at_least w is)

pub instrs-returns-in_err-i-clause-exact : goal.instrs-returns-in_err-i-clause-exact
instrs-returns-in_err-i-clause-exact t c n lt =
    let p = err_from_is_err_and c.from_residual.result c.from_residual.ensures.1 in
    let w = c.loop-rest.invariant.going n lt in
    rw (p.1, p.2) (stops_here (map op_of c.loop-rest.found.items) n c.args.depth c.args.bytes.now c.loop-rest.rest.now c.in-len1-up.len_at_least w c.in_err-i.field-0.0 c.if-b-eq-END.false c.if-b-eq-ELSE.false c.in_err-i.ensures.exact)

pub instrs-loop-rest-preserved : goal.instrs-loop-rest-preserved
instrs-loop-rest-preserved t c = record {
  within = omega (arith, c.in_ok-i.ensures.shorter);
  going = λ n lt.
      let w = c.loop-rest.invariant.going n lt in
      let e : map op_of c.push.new.self.items ≡ map op_of c.loop-rest.found.items ++ op_of c.in_ok-i.i ∷ [] = rw c.in_ok-push.ensures.items (map_push op_of c.loop-rest.found.items c.in_ok-i.i) in
      rw e (goes_here (map op_of c.loop-rest.found.items) n c.args.depth c.args.bytes.now c.loop-rest.rest.now c.in-len1-up.len_at_least w (op_of c.in_ok-i.i) c.in_ok-i.after.now c.if-b-eq-END.false c.if-b-eq-ELSE.false c.in_ok-i.ensures.exact c.in_ok-i.ensures.shorter);
}

pub instrs-returns-clause-exact : goal.instrs-returns-clause-exact
instrs-returns-clause-exact t c n lt =
    let e : c.loop-rest.rest.now ≡ [] = nil_from_length c.loop-rest.rest.now (omega arith) in
    empty _ n c.args.depth c.args.bytes.now (rw e at (c.loop-rest.invariant.going n lt))
