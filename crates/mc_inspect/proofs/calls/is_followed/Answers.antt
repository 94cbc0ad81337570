use Rattle.std.proofs.Common.{◌≡◌, true, rules}
use Rattle.mc_inspect.proofs.Followed.{followed_by_last}
use Rattle.mc_inspect.proofs.calls.is_followed.Goals as goal

pub returns-in-len2-up : goal.returns-in-len2-up
returns-in-len2-up c =
    let yes : c.eq.result ≡ true → c.last-item.result.follows ≡ c.args.piece = search rules in
    let no : c.last-item.result.follows ≡ c.args.piece → c.eq.result ≡ true = search rules in
    followed_by_last c.args.reading.now.entries c.in-Some.entries c.in-Some.is c.as_slice.result.now c.as_slice.ensures.value c.in-len2-up.len_at_least c.last-item.result c.last-item.is c.args.piece c.eq.result yes no
