-- Shares of some budgets, that were worked out by hand.
use Rattle.std.proofs.Common.{◌≡◌, refl}
use Rattle.mc_together.specs.Share.{share_of, sum_shares}

-- 1,025 of two: what is left over goes to the first one, and in the next tick to the second one
first_of_two : share_of 1025 2 0 0 ≡ 513
first_of_two = refl

second_of_two : share_of 1025 2 0 1 ≡ 512
second_of_two = refl

first_of_two_later : share_of 1025 2 1 0 ≡ 512
first_of_two_later = refl

second_of_two_later : share_of 1025 2 1 1 ≡ 513
second_of_two_later = refl

-- a program by itself has all
only_one : share_of 65536 1 7 0 ≡ 65536
only_one = refl

-- 65,536 of three, of which the last one has what is left over in the sixth tick
last_of_three : share_of 65536 3 5 2 ≡ 21846
last_of_three = refl

first_of_three : share_of 65536 3 5 0 ≡ 21845
first_of_three = refl

-- nothing is left over of the least budget of sixteen, and fifteen of the greatest
least_of_sixteen : share_of 8192 16 9 9 ≡ 512
least_of_sixteen = refl

greatest_of_sixteen : share_of 2147483647 16 17 1 ≡ 134217742
greatest_of_sixteen = refl

sum_of_three : sum_shares 65536 3 5 3 ≡ 65536
sum_of_three = refl
