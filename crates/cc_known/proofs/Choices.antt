-- The items that are chosen by what is known of the operands, on places.
use Rattle.std.proofs.Common.{◌≡◌, ℕ, suc, ◌+◌, ◌*◌, ◌≤◌, List, [], ◌∷◌, length, ℤ, Option, Some, None, Bool, true, false, refl, ap, ◌∙◌, subst, arith, if◌then◌else◌, codes}
use Rattle.std.specs.Prelude.{bit_or, bit_xor, option_map}
use Rattle.std.specs.Int.{w32, cast_unsigned}
use Rattle.std.specs.Str.{bytes_eq}
use Rattle.std.proofs.lemmas.Nat.{and_comm}
use Rattle.std.proofs.lemmas.Option.{same_Some}
use lib.Bits.{or_add_and, xor_add_and}
use Rattle.mc_nbt.specs.declared.value.Value.TheVariants as values
use Rattle.mc_cmd.specs.Chain.{cmd_weight}
use Rattle.mc_cmd.specs.Command.{Cmd, execute, plain}
use Rattle.mc_cmd.specs.Form.{Text}
use Rattle.wm_ast.specs.Apply.{apply}
use Rattle.wm_ast.specs.declared.answer.Answer.{Answer}
use Rattle.wm_ast.specs.declared.answer.Answer.TheVariants as answers
use Rattle.wm_ast.specs.declared.operation.NumOp.{NumOp}
use Rattle.wm_ast.specs.declared.operation.NumOp.TheVariants.{I32And, I32Or, I32Xor}
use Rattle.cc_line.specs.Core.{core_on_one}
use Rattle.cc_line.specs.Fit.{scratch_fits, spot_fits, steps_fit}
use Rattle.cc_line.specs.Item.{Items, items_fit, items_most}
use Rattle.cc_line.specs.Place.{Spot, scratch}
use Rattle.cc_line.specs.Routine.{Performs, outcome_of}
use Rattle.cc_line.specs.Step.{Step, step_command, step_weight, steps_weight}
use Rattle.cc_line.proofs.OnPlacesLemmas.{one_fits, one_most}
use Rattle.cc_line.proofs.RenameLemmas.{steps_renamed}
use Rattle.cc_line.proofs.Words.{score}
use Rattle.cc_text.specs.Short.{items_short}
use Rattle.cc_text.specs.Tables.{ItemsNamed}
use Rattle.cc_text.proofs.NamedItems.{named_steps}
use Rattle.cc_text.proofs.ShortSpots.{one_short}
use Rattle.cc_bits.specs.Operation.{one_items}
use Rattle.cc_known.specs.Choice.{chosen_items, either_items, items_by}
use Rattle.cc_known.specs.Law.{ChosenFit, ChosenNamed, ChosenPerform, ChosenShort, ChosenWeigh, CoresWork, IsOperand}
use Rattle.cc_known.specs.Operation.{is_symmetric, known_core, known_items, known_most}
use Rattle.cc_known.proofs.Operations.{Lines, known_lines}
use Rattle.cc_known.proofs.Working.{core_short, core_weighs}

-- ---- which core it is

-- items with this number for an operand that is known, and the other one in the place p
pub record By (op : NumOp) (known : Option ℕ) (p r : ℕ) (xs : Items) : Type 0 where
  pub number : ℕ
  pub core : List Step
  pub known_is : known ≡ Some number
  pub core_is : known_core op number ≡ Some core
  pub items_are : one_items p r core ≡ xs

by_number : (op : NumOp) (n p r : ℕ) (xs : Items) → known_items op n p r ≡ Some xs → By op (Some n) p r xs
by_number op n p r xs e = go (known_core op n) refl e
  where
    go : (o : Option (List Step)) → known_core op n ≡ o → option_map (one_items p r) o ≡ Some xs → By op (Some n) p r xs
    go None c f = absurd cc
    go (Some core) c f = record { number = n; core = core; known_is = refl; core_is = c; items_are = same_Some _ _ f }

by_known : (op : NumOp) (known : Option ℕ) (p r : ℕ) (xs : Items) → items_by op known p r ≡ Some xs → By op known p r xs
by_known op None p r xs e = absurd cc
by_known op (Some n) p r xs e = by_number op n p r xs e

pub data Chosen (op : NumOp) (first second : Option ℕ) (a b r : ℕ) (xs : Items) : Type 0 where
  by_second : By op second a r xs → Chosen op first second a b r xs
  by_first : is_symmetric op ≡ true → By op first b r xs → Chosen op first second a b r xs

pub chosen_is : (op : NumOp) (first second : Option ℕ) (a b r : ℕ) (xs : Items) → chosen_items op first second a b r ≡ Some xs → Chosen op first second a b r xs
chosen_is op first second a b r xs e = go (items_by op second a r) refl (is_symmetric op) refl e
  where
    go : (o : Option Items) → items_by op second a r ≡ o → (c : Bool) → is_symmetric op ≡ c → either_items o (if c then items_by op first b r else None) ≡ Some xs → Chosen op first second a b r xs
    go (Some ys) p c q f = by_second (by_known op second a r xs (p ∙ f))
    go None p true q f = by_first q (by_known op first b r xs f)
    go None p false q f = absurd cc

-- what holds of the items of each core on places holds of those that are chosen
by_core : (P : Items → Type 0) (op : NumOp) (known : Option ℕ) (p r : ℕ) (xs : Items) → By op known p r xs → ((n : ℕ) (core : List Step) → Lines op n core → P (one_items p r core)) → P xs
by_core P op known p r xs d f = subst P d.items_are (f d.number d.core (known_lines op d.number d.core d.core_is))

pub chosen_so : (P : Items → Type 0) (op : NumOp) (first second : Option ℕ) (a b r : ℕ) (xs : Items) → chosen_items op first second a b r ≡ Some xs
    → ((n : ℕ) (core : List Step) → Lines op n core → P (one_items a r core)) → ((n : ℕ) (core : List Step) → Lines op n core → P (one_items b r core)) → P xs
chosen_so P op first second a b r xs e f g = go (chosen_is op first second a b r xs e)
  where
    go : Chosen op first second a b r xs → P xs
    go (by_second d) = by_core P op second a r xs d f
    go (by_first q d) = by_core P op first b r xs d g

-- ---- what they perform

number_of : (known : Option ℕ) (n : ℕ) (z : ℤ) → known ≡ Some n → IsOperand known z → cast_unsigned w32 z ≡ n
number_of None n z e k = absurd cc
number_of (Some m) n z e k = k ∙ same_Some _ _ e

abbrev gives_word : ℕ → Option Answer
gives_word i = Some (answers.Value (values.I32 (score i)))

or_comm : (m n : ℕ) → bit_or m n ≡ bit_or n m
or_comm m n = let a = or_add_and m n in let b = or_add_and n m in let c = and_comm m n in omega (arith, a, b, c)

xor_comm : (m n : ℕ) → bit_xor m n ≡ bit_xor n m
xor_comm m n = let a = xor_add_and m n in let b = xor_add_and n m in let c = and_comm m n in omega (arith, a, b, c)

exchanged : (op : NumOp) → is_symmetric op ≡ true → (x y : ℤ) → apply op (values.I32 y ∷ (values.I32 x ∷ [])) ≡ apply op (values.I32 x ∷ (values.I32 y ∷ []))
exchanged I32And k x y = ap gives_word (and_comm (cast_unsigned w32 y) (cast_unsigned w32 x))
exchanged I32Or k x y = ap gives_word (or_comm (cast_unsigned w32 y) (cast_unsigned w32 x))
exchanged I32Xor k x y = ap gives_word (xor_comm (cast_unsigned w32 y) (cast_unsigned w32 x))
exchanged _ k x y = absurd cc

pub chosen_perform : ChosenPerform
chosen_perform op first second a b r xs c s x y o la lb lr ea eb ix iy kx ky e = go (chosen_is op first second a b r xs c)
  where
    go : Chosen op first second a b r xs → Performs xs s r (outcome_of o)
    go (by_second d) =
        let lines : Lines op d.number d.core = known_lines op d.number d.core d.core_is in
        subst (λ ys. Performs ys s r (outcome_of o)) d.items_are (lines.2 a r s x y o la lr ea ix iy (number_of second d.number y d.known_is ky) e)
    go (by_first q d) =
        let lines : Lines op d.number d.core = known_lines op d.number d.core d.core_is in
        subst (λ ys. Performs ys s r (outcome_of o)) d.items_are (lines.2 b r s y x o lb lr eb iy ix (number_of first d.number x d.known_is kx) (exchanged op q x y ∙ e))

-- ---- they fit

core_fits : (core : List Step) → steps_fit core ≡ true → (x : Spot) → spot_fits x ≡ true → steps_fit (core_on_one core x) ≡ true
core_fits core f x g = steps_renamed (λ h. if bytes_eq (codes "#a") h then x else scratch h) (λ h k. go (bytes_eq (codes "#a") h) h k) core f
  where
    go : (b : Bool) (h : Text) → scratch_fits h ≡ true → spot_fits (if b then x else scratch h) ≡ true
    go true h k = g
    go false h k = k

pub chosen_fit : ChosenFit
chosen_fit op first second a b r xs e fa fb fr =
    chosen_so (λ ys. items_fit ys ≡ true) op first second a b r xs e
    (λ n core l. one_fits (core_on_one core) a r (core_fits core l.0.fits) fa fr)
    (λ n core l. one_fits (core_on_one core) b r (core_fits core l.0.fits) fb fr)

-- ---- what they weigh

command_weighs : (c : Cmd) → cmd_weight c ≤ 2
command_weighs (plain s) = omega arith
command_weighs (execute us s) = omega arith

steps_weigh : (xs : List Step) → steps_weight xs ≤ 2 * length xs
steps_weigh [] = omega arith
steps_weigh (x ∷ xs) =
    let k : step_weight x ≤ 2 = command_weighs (step_command [] x) in
    let l : steps_weight xs ≤ 2 * length xs = steps_weigh xs in
    let r : step_weight x + steps_weight xs ≤ 2 * suc (length xs) = omega arith in
    r

core_most : (op : NumOp) (n p r : ℕ) (core : List Step) → Lines op n core → items_most (one_items p r core) ≤ known_most op
core_most op n p r core l =
    let most : 2 * length core + 4 ≤ known_most op = l.1 in
    let k : items_most (one_items p r core) ≤ steps_weight core + 4 = one_most (core_on_one core) p r (steps_weight core) (core_weighs core l.0.works) in
    let w : steps_weight core ≤ 2 * length core = steps_weigh core in
    omega (arith, most, k, w)

pub chosen_weigh : ChosenWeigh
chosen_weigh op first second a b r xs e =
    chosen_so (λ ys. items_most ys ≤ known_most op) op first second a b r xs e (λ n core l. core_most op n a r core l) (λ n core l. core_most op n b r core l)

-- ---- they are short, and call no helper

pub chosen_short : ChosenShort
chosen_short op first second a b r xs e =
    chosen_so (λ ys. items_short ys ≡ true) op first second a b r xs e
    (λ n core l. one_short (core_on_one core) a r (core_short core l.0.works))
    (λ n core l. one_short (core_on_one core) b r (core_short core l.0.works))

pub chosen_named : ChosenNamed
chosen_named names op first second a b r xs e = chosen_so (ItemsNamed names) op first second a b r xs e (λ n core l. named_steps names _) (λ n core l. named_steps names _)

pub cores_work : CoresWork
cores_work op n core e = (known_lines op n core e).0.works
