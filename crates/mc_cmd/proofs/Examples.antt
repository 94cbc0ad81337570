-- What the operations of two scores make of some numbers.
use Rattle.std.proofs.Common.{◌≡◌, Option, Some, None, refl}
use Rattle.std.specs.Prelude.{ℤ, pos, negsuc, codes}
use Rattle.std.specs.Int.{int_wrap}
use Rattle.mc_cmd.specs.Command.{Op, assign, add, subtract, multiply, divide, remainder, lower, raise, swap, score_op}
use Rattle.mc_cmd.specs.World.{World, empty_world, with_objective, with_score, operate, effect}

-- `/=` rounds towards minus infinity
minus_seven_by_two : operate divide (negsuc 6) (pos 2) ≡ Some (negsuc 3)
unfolding int_wrap
minus_seven_by_two = refl

seven_by_minus_two : operate divide (pos 7) (negsuc 1) ≡ Some (negsuc 3)
unfolding int_wrap
seven_by_minus_two = refl

minus_seven_by_minus_two : operate divide (negsuc 6) (negsuc 1) ≡ Some (pos 3)
unfolding int_wrap
minus_seven_by_minus_two = refl

by_zero : operate divide (negsuc 6) (pos 0) ≡ None
by_zero = refl

-- the one quotient that wraps
least_by_minus_one : operate divide (negsuc 2147483647) (negsuc 0) ≡ Some (negsuc 2147483647)
unfolding int_wrap
least_by_minus_one = refl

least_by_one : operate divide (negsuc 2147483647) (pos 1) ≡ Some (negsuc 2147483647)
unfolding int_wrap
least_by_one = refl

-- `%=` has the divisor's sign
rest_of_minus_seven_by_two : operate remainder (negsuc 6) (pos 2) ≡ Some (pos 1)
rest_of_minus_seven_by_two = refl

rest_of_seven_by_minus_two : operate remainder (pos 7) (negsuc 1) ≡ Some (negsuc 0)
rest_of_seven_by_minus_two = refl

rest_of_minus_seven_by_minus_two : operate remainder (negsuc 6) (negsuc 1) ≡ Some (negsuc 0)
rest_of_minus_seven_by_minus_two = refl

rest_of_six_by_minus_two : operate remainder (pos 6) (negsuc 1) ≡ Some (pos 0)
rest_of_six_by_minus_two = refl

rest_by_zero : operate remainder (pos 7) (pos 0) ≡ None
rest_by_zero = refl

rest_of_least_by_minus_one : operate remainder (negsuc 2147483647) (negsuc 0) ≡ Some (pos 0)
rest_of_least_by_minus_one = refl

-- `+=`, `-=` and `*=` wrap
greatest_and_one : operate add (pos 2147483647) (pos 1) ≡ Some (negsuc 2147483647)
unfolding int_wrap
greatest_and_one = refl

least_less_one : operate subtract (negsuc 2147483647) (pos 1) ≡ Some (pos 2147483647)
unfolding int_wrap
least_less_one = refl

product_wraps : operate multiply (pos 65536) (pos 65536) ≡ Some (pos 0)
unfolding int_wrap
product_wraps = refl

-- `<` makes the target the lesser, `>` the greater
lesser : operate lower (pos 5) (negsuc 2) ≡ Some (negsuc 2)
lesser = refl

lesser_stays : operate lower (negsuc 2) (pos 5) ≡ Some (negsuc 2)
lesser_stays = refl

greater_one : operate raise (negsuc 2) (pos 5) ≡ Some (pos 5)
greater_one = refl

greater_stays : operate raise (pos 5) (negsuc 2) ≡ Some (pos 5)
greater_stays = refl

-- two scores, and what an operation leaves of both
abbrev two_scores : ℤ → ℤ → World
two_scores a b = with_score (with_score (with_objective empty_world (codes "o")) (codes "a") (codes "o") a) (codes "b") (codes "o") b

abbrev after_op : Op → World → World
after_op op w = (effect (score_op (codes "a") (codes "o") op (codes "b") (codes "o")) w).world

abbrev first_of : World → Option ℤ
first_of w = w.scores (codes "a") (codes "o")

abbrev second_of : World → Option ℤ
second_of w = w.scores (codes "b") (codes "o")

swapped : (a b : ℤ) → (first_of (after_op swap (two_scores a b)) ≡ Some b) × (second_of (after_op swap (two_scores a b)) ≡ Some a)
swapped a b = (refl, refl)

assigned : (a b : ℤ) → (first_of (after_op assign (two_scores a b)) ≡ Some b) × (second_of (after_op assign (two_scores a b)) ≡ Some b)
assigned a b = (refl, refl)

-- a division by zero changes nothing
divided_by_zero : (a : ℤ) → after_op divide (two_scores a (pos 0)) ≡ two_scores a (pos 0)
divided_by_zero a = refl

-- an unset target counts as 0; an unset source changes nothing
abbrev second_alone : ℤ → World
second_alone b = with_score (with_objective empty_world (codes "o")) (codes "b") (codes "o") b

swapped_with_unset : (b : ℤ) → (first_of (after_op swap (second_alone b)) ≡ Some b) × (second_of (after_op swap (second_alone b)) ≡ Some (pos 0))
swapped_with_unset b = (refl, refl)

lowered_from_unset : first_of (after_op lower (second_alone (pos 5))) ≡ Some (pos 0)
lowered_from_unset = refl

abbrev first_alone : ℤ → World
first_alone a = with_score (with_objective empty_world (codes "o")) (codes "a") (codes "o") a

unset_source : (a : ℤ) → after_op swap (first_alone a) ≡ first_alone a
unset_source a = refl

-- nor does an operation on an objective that isn't there
no_objective : after_op add empty_world ≡ empty_world
no_objective = refl
