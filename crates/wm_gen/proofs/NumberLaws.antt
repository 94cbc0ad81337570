-- Numbers in their shortest spellings.
use Rattle.std.proofs.Common.{◌≡◌, ℕ, zero, suc, ◌+◌, ◌/◌, ◌%◌, ◌^◌, ◌<◌, ◌≤◌, List, [], ◌∷◌, ◌++◌, length, refl, sym, ◌∙◌, ap, cond, ltb, true, false, append_assoc, arith}
use Rattle.std.proofs.lemmas.Bool.{lt-ltb, le-ltb}
use Rattle.wm_gen.specs.Shortest.{sevens}

-- the number has at most seven bits for each of so many bytes and six more
abbrev pub Covers : ℕ → ℕ → Type 0
Covers zero n = n < 64
Covers (suc k) n = Covers k (n / 128)

-- how a number is spelled: what is left of it comes after so much
pub record OnWay (last : ℕ) (whole so_far : List ℕ) (rest : ℕ) : Type 0 where
  pub more : ℕ
  pub covers : Covers more rest
  pub joins : so_far ++ sevens last more rest ≡ whole

pub covers_64 : (n : ℕ) → n < 2 ^ 64 → Covers 9 n
covers_64 n h = omega arith

pub ends : (last k n : ℕ) → n < last → sevens last k n ≡ n ∷ []
unfolding sevens
ends last zero n h = refl
ends last (suc k) n h = rw (lt-ltb n last h) refl

pub goes_on : (last k n : ℕ) → last ≤ n → sevens last (suc k) n ≡ (n % 128 + 128) ∷ sevens last k (n / 128)
unfolding sevens
goes_on last k n h = rw (le-ltb n last h) refl

pub begins : (last : ℕ) (before : List ℕ) (n : ℕ) → n < 2 ^ 64 → OnWay last (before ++ sevens last 9 n) before n
begins last before n h = record { more = 9; covers = covers_64 n h; joins = refl }

pub step : (last : ℕ) (whole so_far : List ℕ) (rest : ℕ) → 64 ≤ last → last ≤ rest → OnWay last whole so_far rest
    → OnWay last whole (so_far ++ (rest % 128 + 128) ∷ []) (rest / 128)
step last whole so_far rest some up w = go w.more w.covers w.joins
  where
    go : (k : ℕ) → Covers k rest → so_far ++ sevens last k rest ≡ whole → OnWay last whole (so_far ++ (rest % 128 + 128) ∷ []) (rest / 128)
    go zero c j = absurd (omega arith)
    go (suc k) c j = record {
      more = k;
      covers = c;
      joins = append_assoc so_far ((rest % 128 + 128) ∷ []) (sevens last k (rest / 128)) ∙ ap (λ (l : List ℕ). so_far ++ l) (sym (goes_on last k rest up)) ∙ j;
    }

pub last_byte : (last : ℕ) (whole so_far : List ℕ) (rest : ℕ) → rest < last → OnWay last whole so_far rest → so_far ++ rest ∷ [] ≡ whole
last_byte last whole so_far rest low w = ap (λ (l : List ℕ). so_far ++ l) (sym (ends last w.more rest low)) ∙ w.joins

-- the length of a spelling
pub length_sevens : (last k n : ℕ) → length (sevens last k n) ≤ k + 1
unfolding sevens
length_sevens last zero n = omega arith
length_sevens last (suc k) n =
    let deeper : length (sevens last k (n / 128)) ≤ k + 1 = length_sevens last k (n / 128) in
    elim (ltb n last) as (λ b. length (cond b (n ∷ []) ((n % 128 + 128) ∷ sevens last k (n / 128))) ≤ suc k + 1) [ true ↦ omega arith | false ↦ omega arith ]
