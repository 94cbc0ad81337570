use Rattle.std.proofs.Common.{◌≡◌, ◌∙◌, ◌-◌, ◌++◌, ap, ℕ, take, drop, length}
use Rattle.std.specs.Prelude.{reverse}
use Rattle.std.proofs.lemmas.List.{take_rest}
use Rattle.wm_reduce.proofs.ListLaws.{lower_of, upper_of}
use Rattle.wm_reduce.proofs.stack.Stack.move_top.Goals as goal

pub returns : goal.returns
returns g c =
    let xs = c.self.inside.items.items in
    let kept : c.len.result - c.args.count ≡ length xs - c.args.count = ap (λ (k : ℕ). k - c.args.count) (c.len.ensures ∙ c.self.inside.items.ok.0) in (
      c.in_ok-extend_from_slice.ensures.items
          ∙ ap (λ l. c.args.others.now.items ++ l) (take_rest c.deref.result.now (c.len.result - c.args.count) ∙ ap (drop (c.len.result - c.args.count)) c.deref.ensures.value ∙ ap (λ (k : ℕ). drop k xs) kept ∙ upper_of c.args.count xs ∙ ap (λ l. reverse (take c.args.count l)) c.self.view_is),
      ap reverse c.truncate.ensures.items ∙ ap (λ (k : ℕ). reverse (take k xs)) kept ∙ lower_of c.args.count xs ∙ ap (drop c.args.count) c.self.view_is,
    )
