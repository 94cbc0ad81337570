-- The acts of the pieces that take arguments, one after the other.
use Rattle.std.proofs.Common.{◌≡◌, ℕ, zero, suc, ◌+◌, ◌-◌, ◌*◌, ◌<◌, ◌≤◌, List, [], ◌∷◌, ◌++◌, refl, sym, ap, ◌∙◌, arith}
use Rattle.cc_line.specs.Step.{Act, site_to_place}
use Rattle.cc_line.specs.Item.{Item, no_more}
use Rattle.cc_line.specs.Key.{PieceId}
use Rattle.cc_line.specs.View.{items_from}
use Rattle.cc_call.specs.Acts.{acts_then}
use Rattle.cc_call.specs.Frames.{next_acts}
use Rattle.cc_call.proofs.PushLemmas.{run_more, run_none, run_starts}
use Rattle.cc_pieces.specs.Entry.{args_of_piece, arg_at, take_args, taker, taker_acts}
use Rattle.cc_pieces.specs.Lists.{acts_list}
use Rattle.cc_pieces.proofs.ListLemmas.{acts_end}

-- so many arguments are left to take
pub takes_more : (n i p q : ℕ) → i < n → q ≡ p + i → take_args (p + i) (n - i) ≡ site_to_place q (arg_at q) ∷ take_args (p + (i + 1)) (n - (i + 1))
takes_more n i p q h e = run_more (λ k p. take_args p k) (λ p. site_to_place p (arg_at p)) (λ k p. refl) (λ p. refl) n i p q h e

pub takes_none : (n i p : ℕ) → n ≤ i → take_args (p + i) (n - i) ≡ []
takes_none n i p h = run_none (λ k p. take_args p k) (λ p. site_to_place p (arg_at p)) (λ k p. refl) (λ p. refl) n i p h

pub takes_start : (xs : List Act) (n p : ℕ) → xs ++ take_args (p + 0) (n - 0) ≡ xs ++ take_args p n
takes_start xs n p = run_starts (λ k p. take_args p k) (λ p. site_to_place p (arg_at p)) (λ k p. refl) (λ p. refl) xs n p

-- the acts of the piece of arguments of a number that isn't 0
pub taker_made : (n source : ℕ) (id : PieceId) (before between after : List Act) → 0 < n → source ≡ n * args_of_piece → id ≡ taker (n - 1) → before ≡ [] → between ≡ before ++ take_args source args_of_piece
    → after ≡ between ++ next_acts id → after ≡ taker_acts n
taker_made zero source id before between after h e i b k l = absurd (omega (arith, h))
taker_made (suc n) source id before between after h e i b k l =
    let one_less : suc n - 1 ≡ n = omega arith in
    let turned : source ≡ args_of_piece * suc n = omega (arith, e) in
    l
    ∙ (ap (λ (xs : List Act). xs ++ next_acts id) (k ∙ (ap (λ (xs : List Act). xs ++ take_args source args_of_piece) b ∙ ap (λ (j : ℕ). take_args j args_of_piece) turned))
    ∙ ap (λ (j : PieceId). take_args (args_of_piece * suc n) args_of_piece ++ next_acts j) (i ∙ ap taker one_less))

-- the items of acts
pub acts_made : (items : List Item) (acts acts_are : List Act) → items ≡ [] ++ acts_list acts → acts ≡ acts_are → items_from items ≡ acts_then acts_are no_more
acts_made items acts acts_are e k = ap items_from e ∙ (ap (λ (as_told : List Act). items_from (acts_list as_told)) k ∙ sym (acts_end acts_are))
