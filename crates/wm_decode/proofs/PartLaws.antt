-- Types, imports and exports: what is read is spelled, and what is spelled is read, whatever follows.
use Rattle.std.proofs.Common.{◌≡◌, ℕ, Bool, true, false, List, [], ◌∷◌, ◌++◌, Option, Some, None, refl, sym, ap, subst, ◌∙◌, append_assoc}
use Rattle.wm_ast.specs.declared.module.ValType.{ValType}
use Rattle.wm_ast.specs.declared.module.ValType.TheVariants as types
use Rattle.wm_ast.specs.declared.module.FuncType.{FuncType}
use Rattle.wm_ast.specs.declared.module.Limits.{Limits}
use Rattle.wm_ast.specs.declared.module.Space.{Space}
use Rattle.wm_ast.specs.declared.module.Space.TheVariants as spaces
use Rattle.wm_ast.specs.declared.module.Export.{Export}
use Rattle.wm_ast.specs.declared.module.Imported.{Imported}
use Rattle.wm_ast.specs.declared.module.Imported.TheVariants as imported
use Rattle.wm_ast.specs.declared.module.Import.{Import}
use Rattle.wm_ast.specs.Instruction.{type_byte}
use Rattle.wm_ast.specs.Part.{SpellsValType, SpellsFuncType, SpellsSizes, SpellsLimits, SpellsTableType, mutable_byte, SpellsGlobalType, SpellsImported, SpellsImport, space_byte, SpellsExport}
use Rattle.wm_ast.specs.Vector.{SpellsVector}
use Rattle.wm_frame.specs.Front.{AtFront}
use Rattle.wm_frame.specs.Reading.{◌>>=◌, unsigned_at}
use Rattle.wm_frame.proofs.Readers.{IsBytes, IsBytes-rest, IsBytes-after, Reads, some_is, bind_some}
use Rattle.wm_decode.specs.declared.types.Table.{Table}
use Rattle.wm_decode.specs.steps.Listing.{list_at, name_at, byte_at}
use Rattle.wm_decode.specs.steps.PartReading.{func_type_at, limits_at, table_at, mutable_at, global_type_at, imported_at, import_at, space_at, export_at}
use Rattle.wm_decode.specs.steps.ValueType.{val_type, val_type_at}
use Rattle.wm_decode.proofs.InstructionTakes.{test, byte_takes}
use Rattle.wm_decode.proofs.InstructionTakes.{val_type_takes as byte_of_type}
use Rattle.wm_decode.proofs.Listings.{joined, prefixed, begun, regrouped, three_reads, index_reads, list_reads, name_reads}

-- one byte at the front
pub one_byte : {A : Type 0} (G : A → List ℕ → Type 0) (b k : ℕ) (bs : List ℕ) (x : A) (y : A × List ℕ) → G x (k ∷ []) → b ≡ k → Some (x, bs) ≡ Some y → AtFront G (b ∷ bs) y.0 y.1
one_byte {A} G b k bs x y g is e =
    subst (λ (z : A × List ℕ). AtFront G (b ∷ bs) z.0 z.1) (some_is (x, bs) y e) (record { front = k ∷ []; parts = ap (λ n. n ∷ bs) is; spells = g })

val_type_is : (t : ValType) → val_type (type_byte t) ≡ Some t
val_type_is types.I32 = refl
val_type_is types.I64 = refl
val_type_is types.F32 = refl
val_type_is types.F64 = refl

val_type_again : (front : List ℕ) (t : ValType) (rest : List ℕ) → SpellsValType t front → val_type_at (front ++ rest) ≡ Some (t, rest)
unfolding val_type_at
val_type_again front t rest h = ap (λ (l : List ℕ). val_type_at (l ++ rest)) h ∙ ap (λ (r : Option ValType). r >>= λ u. Some (u, rest)) (val_type_is t)

val_type_takes : (bytes : List ℕ) (y : ValType × List ℕ) → IsBytes bytes → val_type_at bytes ≡ Some y → AtFront SpellsValType bytes y.0 y.1
unfolding val_type_at
val_type_takes [] y fits e = absurd cc
val_type_takes (b ∷ bs) y fits e =
    let a = bind_some (val_type b) (λ t. Some (t, bs)) y e in
    one_byte SpellsValType b (type_byte a.0) bs a.0 y refl (byte_of_type b a.0 a.1) a.2

pub val_type_reads : Reads SpellsValType val_type_at
val_type_reads = record { again = val_type_again; takes = val_type_takes }

val_types_reads : Reads (SpellsVector SpellsValType) (list_at val_type_at)
val_types_reads = list_reads SpellsValType val_type_at val_type_reads

func_type_again : (front : List ℕ) (t : FuncType) (rest : List ℕ) → SpellsFuncType t front → func_type_at (front ++ rest) ≡ Some (t, rest)
unfolding func_type_at byte_at
func_type_again front t rest h =
    let e : front ++ rest ≡ 0x60 ∷ (h.0 ++ (h.1 ++ rest)) = ap (λ (l : List ℕ). l ++ rest) h.4 ∙ ap (λ (l : List ℕ). 0x60 ∷ l) (append_assoc h.0 h.1 rest) in
    ap func_type_at e ∙ rw (val_types_reads.again h.0 t.params (h.1 ++ rest) h.2, val_types_reads.again h.1 t.results rest h.3) refl

func_type_takes : (bytes : List ℕ) (y : FuncType × List ℕ) → IsBytes bytes → func_type_at bytes ≡ Some y → AtFront SpellsFuncType bytes y.0 y.1
unfolding func_type_at
func_type_takes bytes y fits e =
    let a = bind_some (byte_at 0x60 bytes) _ y e in
    let b = bind_some (list_at val_type_at a.0) _ y a.2 in
    let c = bind_some (list_at val_type_at b.0.1) _ y b.2 in
    let s = byte_takes 0x60 bytes a.0 a.1 in
    let fits0 = IsBytes-after bytes (0x60 ∷ []) a.0 s fits in
    let t = val_types_reads.takes a.0 b.0 fits0 b.1 in
    let u = val_types_reads.takes b.0.1 c.0 (IsBytes-after a.0 t.front b.0.1 t.parts fits0) c.1 in
    subst (λ (z : FuncType × List ℕ). AtFront SpellsFuncType bytes z.0 z.1) (some_is (record { params = b.0.0; results = c.0.0 }, c.0.1) y c.2)
    (record {
      front = 0x60 ∷ (t.front ++ u.front);
      parts = prefixed 0x60 bytes a.0 (t.front ++ u.front) c.0.1 s (joined a.0 t.front u.front b.0.1 c.0.1 t.parts u.parts);
      spells = (t.front, u.front, t.spells, u.spells, refl);
    })

pub func_type_reads : Reads SpellsFuncType func_type_at
func_type_reads = record { again = func_type_again; takes = func_type_takes }

sizes_again : (least : ℕ) (most : Option ℕ) (front rest : List ℕ) → SpellsSizes least most front → limits_at (front ++ rest) ≡ Some (record { min = least; max = most }, rest)
unfolding limits_at
sizes_again least None front rest h = ap (λ (l : List ℕ). limits_at (l ++ rest)) h.2 ∙ rw (index_reads.again h.0 least rest h.1) refl
sizes_again least (Some most) front rest h =
    let e : front ++ rest ≡ 0x01 ∷ (h.0 ++ (h.1 ++ rest)) = ap (λ (l : List ℕ). l ++ rest) h.4 ∙ ap (λ (l : List ℕ). 0x01 ∷ l) (append_assoc h.0 h.1 rest) in
    ap limits_at e ∙ rw (index_reads.again h.0 least (h.1 ++ rest) h.2, index_reads.again h.1 most rest h.3) refl

limits_takes : (bytes : List ℕ) (y : Limits × List ℕ) → IsBytes bytes → limits_at bytes ≡ Some y → AtFront SpellsLimits bytes y.0 y.1
unfolding limits_at
limits_takes [] y fits e = absurd cc
limits_takes (b ∷ bs) y fits e =
    test b 0x00 _ _ y e (λ k w. one k w) λ e1.
    test b 0x01 _ _ y e1 (λ k w. two k w) λ e2. absurd cc
  where
    one : b ≡ 0x00 → (unsigned_at 32 bs >>= λ least. Some (record { min = least.0; max = None }, least.1)) ≡ Some y → AtFront SpellsLimits (b ∷ bs) y.0 y.1
    one k w =
        let a = bind_some (unsigned_at 32 bs) _ y w in
        let t = index_reads.takes bs a.0 (IsBytes-rest b bs fits) a.1 in
        subst (λ (z : Limits × List ℕ). AtFront SpellsLimits (b ∷ bs) z.0 z.1) (some_is (record { min = a.0.0; max = None }, a.0.1) y a.2)
        (record { front = 0x00 ∷ t.front; parts = begun b 0x00 bs t.front a.0.1 k t.parts; spells = (t.front, t.spells, refl) })

    two : b ≡ 0x01 → (unsigned_at 32 bs >>= λ least. unsigned_at 32 least.1 >>= λ most. Some (record { min = least.0; max = Some most.0 }, most.1)) ≡ Some y → AtFront SpellsLimits (b ∷ bs) y.0 y.1
    two k w =
        let a = bind_some (unsigned_at 32 bs) _ y w in
        let c = bind_some (unsigned_at 32 a.0.1) _ y a.2 in
        let fits0 = IsBytes-rest b bs fits in
        let t = index_reads.takes bs a.0 fits0 a.1 in
        let u = index_reads.takes a.0.1 c.0 (IsBytes-after bs t.front a.0.1 t.parts fits0) c.1 in
        subst (λ (z : Limits × List ℕ). AtFront SpellsLimits (b ∷ bs) z.0 z.1) (some_is (record { min = a.0.0; max = Some c.0.0 }, c.0.1) y c.2)
        (record {
          front = 0x01 ∷ (t.front ++ u.front);
          parts = begun b 0x01 bs (t.front ++ u.front) c.0.1 k (joined bs t.front u.front a.0.1 c.0.1 t.parts u.parts);
          spells = (t.front, u.front, t.spells, u.spells, refl);
        })

pub limits_reads : Reads SpellsLimits limits_at
limits_reads = record { again = λ front l rest h. sizes_again l.min l.max front rest h; takes = limits_takes }

-- a table type, by its limits
abbrev pub SpellsTable : Table → List ℕ → Type 0
SpellsTable t bytes = SpellsTableType t.limits bytes

table_again : (front : List ℕ) (t : Table) (rest : List ℕ) → SpellsTable t front → table_at (front ++ rest) ≡ Some (t, rest)
unfolding table_at byte_at
table_again front t rest h = ap (λ (l : List ℕ). table_at (l ++ rest)) h.2 ∙ rw (limits_reads.again h.0 t.limits rest h.1) refl

table_takes : (bytes : List ℕ) (y : Table × List ℕ) → IsBytes bytes → table_at bytes ≡ Some y → AtFront SpellsTable bytes y.0 y.1
unfolding table_at
table_takes bytes y fits e =
    let a = bind_some (byte_at 0x70 bytes) _ y e in
    let b = bind_some (limits_at a.0) _ y a.2 in
    let s = byte_takes 0x70 bytes a.0 a.1 in
    let t = limits_reads.takes a.0 b.0 (IsBytes-after bytes (0x70 ∷ []) a.0 s fits) b.1 in
    subst (λ (z : Table × List ℕ). AtFront SpellsTable bytes z.0 z.1) (some_is (record { limits = b.0.0 }, b.0.1) y b.2)
    (record { front = 0x70 ∷ t.front; parts = prefixed 0x70 bytes a.0 t.front b.0.1 s t.parts; spells = (t.front, t.spells, refl) })

pub table_reads : Reads SpellsTable table_at
table_reads = record { again = table_again; takes = table_takes }

mutable_is : (m : Bool) (rest : List ℕ) → mutable_at (mutable_byte m ∷ rest) ≡ Some (m, rest)
unfolding mutable_at
mutable_is false rest = refl
mutable_is true rest = refl

mutable_takes : (bytes : List ℕ) (y : Bool × List ℕ) → mutable_at bytes ≡ Some y → bytes ≡ mutable_byte y.0 ∷ y.1
unfolding mutable_at
mutable_takes [] y e = absurd cc
mutable_takes (b ∷ bs) y e =
    test b 0x00 _ _ y e (λ k w. is 0x00 false k w refl) λ e1.
    test b 0x01 _ _ y e1 (λ k w. is 0x01 true k w refl) λ e2. absurd cc
  where
    is : (n : ℕ) (m : Bool) → b ≡ n → Some (m, bs) ≡ Some y → mutable_byte m ≡ n → (b ∷ bs) ≡ mutable_byte y.0 ∷ y.1
    is n m k w j = subst (λ (z : Bool × List ℕ). (b ∷ bs) ≡ mutable_byte z.0 ∷ z.1) (some_is (m, bs) y w) (ap (λ i. i ∷ bs) (k ∙ sym j))

-- a global type, as a pair
abbrev pub SpellsPair : ValType × Bool → List ℕ → Type 0
SpellsPair g bytes = SpellsGlobalType g.0 g.1 bytes

global_type_again : (front : List ℕ) (g : ValType × Bool) (rest : List ℕ) → SpellsPair g front → global_type_at (front ++ rest) ≡ Some (g, rest)
unfolding global_type_at
global_type_again front g rest h =
    ap (λ (l : List ℕ). global_type_at (l ++ rest)) h ∙ rw (val_type_reads.again (type_byte g.0 ∷ []) g.0 (mutable_byte g.1 ∷ rest) refl, mutable_is g.1 rest) refl

-- two bytes at the front
typed : (bytes front mid rest : List ℕ) (j k : ℕ) → bytes ≡ front ++ mid → front ≡ j ∷ [] → mid ≡ k ∷ rest → bytes ≡ (j ∷ k ∷ []) ++ rest
typed bytes front mid rest j k p q r = p ∙ ap (λ (l : List ℕ). l ++ mid) q ∙ ap (λ (l : List ℕ). j ∷ l) r

global_type_takes : (bytes : List ℕ) (y : (ValType × Bool) × List ℕ) → IsBytes bytes → global_type_at bytes ≡ Some y → AtFront SpellsPair bytes y.0 y.1
unfolding global_type_at
global_type_takes bytes y fits e =
    let a = bind_some (val_type_at bytes) _ y e in
    let b = bind_some (mutable_at a.0.1) _ y a.2 in
    let t = val_type_reads.takes bytes a.0 fits a.1 in
    let u = mutable_takes a.0.1 b.0 b.1 in
    let g : ValType × Bool = (a.0.0, b.0.0) in
    subst (λ (z : (ValType × Bool) × List ℕ). AtFront SpellsPair bytes z.0 z.1) (some_is (g, b.0.1) y b.2)
    (record {
      front = type_byte a.0.0 ∷ mutable_byte b.0.0 ∷ [];
      parts = typed bytes t.front a.0.1 b.0.1 (type_byte a.0.0) (mutable_byte b.0.0) t.parts t.spells u;
      spells = refl;
    })

pub global_type_reads : Reads SpellsPair global_type_at
global_type_reads = record { again = global_type_again; takes = global_type_takes }

imported_again : (front : List ℕ) (i : Imported) (rest : List ℕ) → SpellsImported i front → imported_at (front ++ rest) ≡ Some (i, rest)
unfolding imported_at
imported_again front (imported.Func n) rest h = ap (λ (l : List ℕ). imported_at (l ++ rest)) h.2 ∙ rw (index_reads.again h.0 n rest h.1) refl
imported_again front (imported.Table l) rest h = ap (λ (k : List ℕ). imported_at (k ++ rest)) h.2 ∙ rw (table_reads.again h.0 (record { limits = l }) rest h.1) refl
imported_again front (imported.Memory l) rest h = ap (λ (k : List ℕ). imported_at (k ++ rest)) h.2 ∙ rw (limits_reads.again h.0 l rest h.1) refl
imported_again front (imported.Global t m) rest h = ap (λ (k : List ℕ). imported_at (k ++ rest)) h.2 ∙ rw (global_type_reads.again h.0 (t, m) rest h.1) refl

imported_takes : (bytes : List ℕ) (y : Imported × List ℕ) → IsBytes bytes → imported_at bytes ≡ Some y → AtFront SpellsImported bytes y.0 y.1
unfolding imported_at
imported_takes [] y fits e = absurd cc
imported_takes (b ∷ bs) y fits e =
    test b 0x00 _ _ y e (λ k w. func k w) λ e1.
    test b 0x01 _ _ y e1 (λ k w. table k w) λ e2.
    test b 0x02 _ _ y e2 (λ k w. memory k w) λ e3.
    test b 0x03 _ _ y e3 (λ k w. global k w) λ e4. absurd cc
  where
    made : (n : ℕ) (i : Imported) (front rest : List ℕ) → b ≡ n → bs ≡ front ++ rest → SpellsImported i (n ∷ front) → Some (i, rest) ≡ Some y → AtFront SpellsImported (b ∷ bs) y.0 y.1
    made n i front rest k p g w =
        subst (λ (z : Imported × List ℕ). AtFront SpellsImported (b ∷ bs) z.0 z.1) (some_is (i, rest) y w)
        (record { front = n ∷ front; parts = begun b n bs front rest k p; spells = g })

    func : b ≡ 0x00 → (unsigned_at 32 bs >>= λ index. Some (imported.Func index.0, index.1)) ≡ Some y → AtFront SpellsImported (b ∷ bs) y.0 y.1
    func k w =
        let a = bind_some (unsigned_at 32 bs) _ y w in
        let t = index_reads.takes bs a.0 (IsBytes-rest b bs fits) a.1 in
        made 0x00 (imported.Func a.0.0) t.front a.0.1 k t.parts (t.front, t.spells, refl) a.2

    table : b ≡ 0x01 → (table_at bs >>= λ t. Some (imported.Table t.0.limits, t.1)) ≡ Some y → AtFront SpellsImported (b ∷ bs) y.0 y.1
    table k w =
        let a = bind_some (table_at bs) _ y w in
        let t = table_reads.takes bs a.0 (IsBytes-rest b bs fits) a.1 in
        made 0x01 (imported.Table a.0.0.limits) t.front a.0.1 k t.parts (t.front, t.spells, refl) a.2

    memory : b ≡ 0x02 → (limits_at bs >>= λ l. Some (imported.Memory l.0, l.1)) ≡ Some y → AtFront SpellsImported (b ∷ bs) y.0 y.1
    memory k w =
        let a = bind_some (limits_at bs) _ y w in
        let t = limits_reads.takes bs a.0 (IsBytes-rest b bs fits) a.1 in
        made 0x02 (imported.Memory a.0.0) t.front a.0.1 k t.parts (t.front, t.spells, refl) a.2

    global : b ≡ 0x03 → (global_type_at bs >>= λ g. Some (imported.Global g.0.0 g.0.1, g.1)) ≡ Some y → AtFront SpellsImported (b ∷ bs) y.0 y.1
    global k w =
        let a = bind_some (global_type_at bs) _ y w in
        let t = global_type_reads.takes bs a.0 (IsBytes-rest b bs fits) a.1 in
        made 0x03 (imported.Global a.0.0.0 a.0.0.1) t.front a.0.1 k t.parts (t.front, t.spells, refl) a.2

imported_reads : Reads SpellsImported imported_at
imported_reads = record { again = imported_again; takes = imported_takes }

pub import_reads : Reads SpellsImport import_at
unfolding import_at
import_reads =
    three_reads (λ (i : Import). i.module) (λ (i : Import). i.name) (λ (i : Import). i.what)
    (λ module' name what. record { «module» = module'; name = name; what = what }) (λ i. refl) (λ a b c. (refl, refl, refl)) name_reads name_reads imported_reads

space_is : (s : Space) (rest : List ℕ) → space_at (space_byte s ∷ rest) ≡ Some (s, rest)
unfolding space_at
space_is spaces.Func rest = refl
space_is spaces.Table rest = refl
space_is spaces.Memory rest = refl
space_is spaces.Global rest = refl

space_takes : (bytes : List ℕ) (y : Space × List ℕ) → space_at bytes ≡ Some y → bytes ≡ space_byte y.0 ∷ y.1
unfolding space_at
space_takes [] y e = absurd cc
space_takes (b ∷ bs) y e =
    test b 0x00 _ _ y e (λ k w. is 0x00 spaces.Func k w refl) λ e1.
    test b 0x01 _ _ y e1 (λ k w. is 0x01 spaces.Table k w refl) λ e2.
    test b 0x02 _ _ y e2 (λ k w. is 0x02 spaces.Memory k w refl) λ e3.
    test b 0x03 _ _ y e3 (λ k w. is 0x03 spaces.Global k w refl) λ e4. absurd cc
  where
    is : (n : ℕ) (s : Space) → b ≡ n → Some (s, bs) ≡ Some y → space_byte s ≡ n → (b ∷ bs) ≡ space_byte y.0 ∷ y.1
    is n s k w j = subst (λ (z : Space × List ℕ). (b ∷ bs) ≡ space_byte z.0 ∷ z.1) (some_is (s, bs) y w) (ap (λ i. i ∷ bs) (k ∙ sym j))

export_again : (front : List ℕ) (x : Export) (rest : List ℕ) → SpellsExport x front → export_at (front ++ rest) ≡ Some (x, rest)
unfolding export_at
export_again front x rest h =
    let e = regrouped front h.0 (space_byte x.space ∷ h.1) rest h.4 in
    ap export_at e ∙ rw (name_reads.again h.0 x.name (space_byte x.space ∷ (h.1 ++ rest)) h.2, space_is x.space (h.1 ++ rest), index_reads.again h.1 x.index rest h.3) refl

export_takes : (bytes : List ℕ) (y : Export × List ℕ) → IsBytes bytes → export_at bytes ≡ Some y → AtFront SpellsExport bytes y.0 y.1
unfolding export_at
export_takes bytes y fits e =
    let a = bind_some (name_at bytes) _ y e in
    let b = bind_some (space_at a.0.1) _ y a.2 in
    let c = bind_some (unsigned_at 32 b.0.1) _ y b.2 in
    let t = name_reads.takes bytes a.0 fits a.1 in
    let u = space_takes a.0.1 b.0 b.1 in
    let fits1 = IsBytes-after bytes t.front a.0.1 t.parts fits in
    let v = index_reads.takes b.0.1 c.0 (IsBytes-after a.0.1 (space_byte b.0.0 ∷ []) b.0.1 u fits1) c.1 in
    subst (λ (z : Export × List ℕ). AtFront SpellsExport bytes z.0 z.1) (some_is (record { name = a.0.0; space = b.0.0; index = c.0.0 }, c.0.1) y c.2)
    (record {
      front = t.front ++ (space_byte b.0.0 ∷ v.front);
      parts = joined bytes t.front (space_byte b.0.0 ∷ v.front) a.0.1 c.0.1 t.parts (prefixed (space_byte b.0.0) a.0.1 b.0.1 v.front c.0.1 u v.parts);
      spells = (t.front, v.front, t.spells, v.spells, refl);
    })

pub export_reads : Reads SpellsExport export_at
export_reads = record { again = export_again; takes = export_takes }
