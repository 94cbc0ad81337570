-- The numbers of a module that bytes spell lie in their ranges.
use Rattle.std.proofs.Common.{◌≡◌, ℕ, zero, suc, ◌+◌, ◌-◌, ◌*◌, ◌^◌, ◌<◌, ◌≤◌, List, [], ◌∷◌, ◌++◌, Some, inl, inr, option_map, refl, sym, ap, subst, ◌∙◌, arith, ℤ, pos, negsuc}
use Rattle.std.specs.Prelude.{slice_get, All, ◌+ℤ◌, ◌*ℤ◌}
use Rattle.std.proofs.lemmas.Bool.{lt-ltb}
use Rattle.std.proofs.lemmas.Int.{ints}
use Rattle.std.proofs.lemmas.Nat.{pow-add}
use Rattle.std.proofs.lemmas.List.Elements.{All-nil, All-cons, All-head, All-tail, All-rest}
use Rattle.std.proofs.lemmas.Option.{slice_get-map}
use lib.Signed.{mag}
use Rattle.mc_nbt.specs.declared.value.Value.TheVariants as values
use Rattle.wm_ast.specs.declared.module.Data.{Data}
use Rattle.wm_ast.specs.declared.module.Global.{Global}
use Rattle.wm_ast.specs.declared.module.Module.{Module}
use Rattle.wm_ast.specs.Code.{Op, block, loop, if_else, const, Code, nil, cons}
use Rattle.wm_ast.specs.Instruction.{SpellsOp, SpellsCode}
use Rattle.wm_ast.specs.Number.{IsLastSigned, IsSigned, below_zero}
use Rattle.wm_ast.specs.Part.{Body, SpellsGlobal, SpellsData, SpellsBody}
use Rattle.wm_ast.specs.Profile.{global_code}
use Rattle.wm_ast.specs.Section.{Section, SpellsSection, header}
use Rattle.wm_ast.specs.Spelling.{Content, custom_section, type_section, import_section, function_section, table_section, memory_section, global_section, export_section, start_section, element_section, code_section, data_section, SpellsContent, AreSectionsOf, Parts, no_parts, with_content, parts_of, body_of, Spells}
use Rattle.wm_ast.specs.Vector.{SpellsEach}
use Rattle.wm_ast.specs.View.{code_of}
use Rattle.wm_valid.specs.InRange.{IsByte, OpInRange, CodeInRange, HasNumbersInRange}

-- Signed numbers.

below_zero_is : (b : ℕ) → b < 128 → below_zero b ≡ negsuc (127 - b)
unfolding below_zero
below_zero_is b h = omega (arith, ints)

last_within : (bits b : ℕ) (n : ℤ) → IsLastSigned bits b n → mag n < 2 ^ (bits - 1)
last_within bits b n (inl h) = let l = h.1 in subst (λ z. mag z < 2 ^ (bits - 1)) (sym h.2) l
last_within bits b n (inr h) =
    let l = h.1 in
    let k = h.2 in
    subst (λ z. mag z < 2 ^ (bits - 1)) (sym (h.3 ∙ below_zero_is b l)) (let z : 127 - b < 2 ^ (bits - 1) = omega arith in z)

step_within : (p q b : ℕ) (high : ℤ) → b < 256 → 128 ≤ b → p ≡ 128 * q → mag high < q → mag ((pos 128 *ℤ high) +ℤ pos (b - 128)) < p
step_within p q b (pos h) l k e w =
    let z : (pos 128 *ℤ pos h) +ℤ pos (b - 128) ≡ pos (128 * h + (b - 128)) = omega (arith, ints) in
    subst (λ x. mag x < p) (sym z) (let y : 128 * h + (b - 128) < p = omega arith in y)
step_within p q b (negsuc h) l k e w =
    let z : (pos 128 *ℤ negsuc h) +ℤ pos (b - 128) ≡ negsuc (128 * h + (255 - b)) = omega (arith, ints) in
    subst (λ x. mag x < p) (sym z) (let y : 128 * h + (255 - b) < p = omega arith in y)

signed_within : (bits : ℕ) (bs : List ℕ) (n : ℤ) → IsSigned bits bs n → mag n < 2 ^ (bits - 1)
signed_within bits [] n h = absurd h
signed_within bits (b ∷ []) n h = last_within bits b n h
signed_within bits (b ∷ c ∷ bs) n h =
    let w = signed_within (bits - 7) (c ∷ bs) h.3.0 h.3.2 in
    let big = h.2 in
    let e : bits - 1 ≡ 7 + (bits - 7 - 1) = omega arith in
    let p : 2 ^ (bits - 1) ≡ 128 * 2 ^ (bits - 7 - 1) = ap (λ k. 2 ^ k) e ∙ pow-add 2 7 (bits - 7 - 1) in
    subst (λ z. mag z < 2 ^ (bits - 1)) (sym h.3.1) (step_within (2 ^ (bits - 1)) (2 ^ (bits - 7 - 1)) b h.3.0 h.1 h.0 p w)

-- Instructions.

mutual
  op_in_range : (i : Op) (bytes : List ℕ) → SpellsOp i bytes → OpInRange i
  op_in_range (const (values.I32 n)) bytes h = lt-ltb (mag n) (2 ^ 31) (signed_within 32 h.0 n h.1)
  op_in_range (const (values.I64 n)) bytes h = lt-ltb (mag n) (2 ^ 63) (signed_within 64 h.0 n h.1)
  op_in_range (block ty body) bytes h = code_in_range body h.0 h.1
  op_in_range (loop ty body) bytes h = code_in_range body h.0 h.1
  op_in_range (if_else ty first second) bytes (inl h) = (code_in_range first h.0 h.2, code_in_range second h.1 h.3)
  op_in_range (if_else ty first nil) bytes (inr h) = (code_in_range first h.1.0 h.1.1, tt)
  op_in_range (if_else ty first (cons i is)) bytes (inr h) = absurd h.0
  op_in_range _ bytes h = tt

  code_in_range : (is : Code) (bytes : List ℕ) → SpellsCode is bytes → CodeInRange is
  code_in_range nil bytes h = tt
  code_in_range (cons i is) bytes h = (op_in_range i h.0 h.2, code_in_range is h.1 h.3)

-- Parts of bytes.

front_of : (xs ys : List ℕ) → All IsByte (xs ++ ys) → All IsByte xs
front_of [] ys a = All-nil IsByte
front_of (x ∷ xs) ys a = All-cons IsByte x xs (All-head IsByte x (xs ++ ys) a) (front_of xs ys (All-tail IsByte x (xs ++ ys) a))

rest_of : (xs ys : List ℕ) → All IsByte (xs ++ ys) → All IsByte ys
rest_of [] ys a = a
rest_of (x ∷ xs) ys a = rest_of xs ys (All-tail IsByte x (xs ++ ys) a)

bytes_front : (xs ys zs : List ℕ) → zs ≡ xs ++ ys → All IsByte zs → All IsByte xs
bytes_front xs ys zs e a = front_of xs ys (subst (All IsByte) e a)

bytes_behind : (xs ys zs : List ℕ) → zs ≡ xs ++ ys → All IsByte zs → All IsByte ys
bytes_behind xs ys zs e a = rest_of xs ys (subst (All IsByte) e a)

-- Items of vectors.

each_item : {A : Type 0} (Spells' : A → List ℕ → Type 0) (P : A → Type 0) (xs : List A) (bytes : List ℕ) → ((x : A) (own : List ℕ) → All IsByte own → Spells' x own → P x) → All IsByte bytes → SpellsEach Spells' xs bytes → (n : ℕ) (x : A) → slice_get xs n ≡ Some x → P x
each_item Spells' P [] bytes f a h n x e = absurd cc
each_item Spells' P (y ∷ xs) bytes f a h zero x e = subst P (let w : y ≡ x = cc in w) (f y h.0 (bytes_front h.0 h.1 bytes h.4 a) h.2)
each_item Spells' P (y ∷ xs) bytes f a h (suc n) x e = each_item Spells' P xs h.1 f (bytes_behind h.0 h.1 bytes h.4 a) h.3 n x e

-- The parts of a module.

abbrev GlobalInRange : Global → Type 0
GlobalInRange g = CodeInRange (global_code g)

abbrev BodyInRange : Body → Type 0
BodyInRange b = CodeInRange (code_of b.body)

abbrev DataInRange : Data → Type 0
DataInRange d = All IsByte d.bytes

record PartsInRange (p : Parts) : Type 0 where
  globals : (n : ℕ) (g : Global) → slice_get p.globals n ≡ Some g → GlobalInRange g
  bodies : (n : ℕ) (b : Body) → slice_get p.bodies n ≡ Some b → BodyInRange b
  datas : (n : ℕ) (d : Data) → slice_get p.datas n ≡ Some d → DataInRange d

global_in_range : (g : Global) (own : List ℕ) → All IsByte own → SpellsGlobal g own → GlobalInRange g
global_in_range g own a h = code_in_range (code_of g.init) h.3.inside h.3.spells

body_in_range : (b : Body) (own : List ℕ) → All IsByte own → SpellsBody b own → BodyInRange b
body_in_range b own a h = let f = h.3 in code_in_range (code_of b.body) f.4.inside f.4.spells

data_in_range : (d : Data) (own : List ℕ) → All IsByte own → SpellsData d own → DataInRange d
data_in_range d own a h =
    let items = bytes_behind h.1 h.2 (h.1 ++ h.2) refl (bytes_behind h.0 (h.1 ++ h.2) own h.6 a) in
    bytes_behind h.5.0 d.bytes h.2 h.5.2 items

content_in_range : (c : Content) (p : Parts) (bytes : List ℕ) → All IsByte bytes → SpellsContent c bytes → PartsInRange p → PartsInRange (with_content c p)
content_in_range (global_section gs) p bytes a h r = record {
  bodies = r.bodies;
  datas = r.datas;
  globals = each_item SpellsGlobal GlobalInRange gs h.1 global_in_range (bytes_behind h.0 h.1 bytes h.4 a) h.3;
}
content_in_range (code_section bs) p bytes a h r = record {
  globals = r.globals;
  datas = r.datas;
  bodies = each_item SpellsBody BodyInRange bs h.1 body_in_range (bytes_behind h.0 h.1 bytes h.4 a) h.3;
}
content_in_range (data_section ds) p bytes a h r = record {
  globals = r.globals;
  bodies = r.bodies;
  datas = each_item SpellsData DataInRange ds h.1 data_in_range (bytes_behind h.0 h.1 bytes h.4 a) h.3;
}
content_in_range custom_section p bytes a h r = r
content_in_range (type_section ts) p bytes a h r = record { globals = r.globals; bodies = r.bodies; datas = r.datas }
content_in_range (import_section is) p bytes a h r = record { globals = r.globals; bodies = r.bodies; datas = r.datas }
content_in_range (function_section ks) p bytes a h r = record { globals = r.globals; bodies = r.bodies; datas = r.datas }
content_in_range (table_section ts) p bytes a h r = record { globals = r.globals; bodies = r.bodies; datas = r.datas }
content_in_range (memory_section ms) p bytes a h r = record { globals = r.globals; bodies = r.bodies; datas = r.datas }
content_in_range (export_section es) p bytes a h r = record { globals = r.globals; bodies = r.bodies; datas = r.datas }
content_in_range (start_section f) p bytes a h r = record { globals = r.globals; bodies = r.bodies; datas = r.datas }
content_in_range (element_section es) p bytes a h r = record { globals = r.globals; bodies = r.bodies; datas = r.datas }

sections_in_range : (ss : List Section) (cs : List Content) (p : Parts) (bytes : List ℕ) → All IsByte bytes → SpellsEach SpellsSection ss bytes → AreSectionsOf ss cs → PartsInRange p → PartsInRange (parts_of p cs)
sections_in_range [] [] p bytes a h t r = r
sections_in_range [] (c ∷ cs) p bytes a h t r = absurd t
sections_in_range (s ∷ ss) [] p bytes a h t r = absurd t
sections_in_range (s ∷ ss) (c ∷ cs) p bytes a h t r =
    let own = bytes_front h.0 h.1 bytes h.4 a in
    let inner = All-rest IsByte s.id (h.2.0 ++ s.content) h.0 h.2.3 own in
    sections_in_range ss cs (with_content c p) h.1 (bytes_behind h.0 h.1 bytes h.4 a) h.3 t.1
    (content_in_range c p s.content (bytes_behind h.2.0 s.content (h.2.0 ++ s.content) refl inner) t.0.1 r)

pub numbers_in_range : (bytes : List ℕ) (m : Module) → All IsByte bytes → Spells bytes m → HasNumbersInRange m
numbers_in_range bytes m a h =
    let none : PartsInRange no_parts = record { globals = λ n g e. absurd cc; bodies = λ n b e. absurd cc; datas = λ n d e. absurd cc } in
    let r = sections_in_range h.sections h.contents no_parts h.framed.0 (bytes_behind header h.framed.0 bytes h.framed.2 a) h.framed.1 h.hold none in
    record {
      functions = λ n f e. r.bodies n (body_of f) (ap (λ l. slice_get l n) (sym h.made.bodies) ∙ slice_get-map body_of m.funcs n ∙ ap (λ o. option_map body_of o) e);
      globals = λ n g e. r.globals n g (ap (λ l. slice_get l n) (sym h.made.globals) ∙ e);
      datas = λ n d e. r.datas n d (ap (λ l. slice_get l n) (sym h.made.datas) ∙ e);
    }
