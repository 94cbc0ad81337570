use Rattle.std.proofs.Common.{◌≡◌, ◌∙◌, ◌-◌, ap, ℕ, take, drop, length}
use Rattle.std.specs.Prelude.{reverse}
use Rattle.wm_reduce.proofs.ListLaws.{lower_of}
use Rattle.wm_reduce.proofs.stack.Stack.drop_top.Goals as goal

pub returns : goal.returns
returns g c =
    let xs = c.self.inside.items.items in
    let kept : c.saturating_sub-kept.result ≡ length xs - c.args.count = c.saturating_sub-kept.ensures ∙ ap (λ (k : ℕ). k - c.args.count) (c.len.ensures ∙ c.self.inside.items.ok.0) in
    ap reverse c.truncate.ensures.items ∙ ap (λ (k : ℕ). reverse (take k xs)) kept ∙ lower_of c.args.count xs ∙ ap (drop c.args.count) c.self.view_is
