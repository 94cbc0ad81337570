-- What the search for an invalid item found.
use Rattle.std.specs.Prelude.{ℕ, ◌<◌, Option, Some, None}
use Rattle.wm_ast.specs.declared.item.Item.{Item}
use Rattle.wm_ast.specs.declared.item.Item.TheVariants.{Globals, Datas}
use Rattle.wm_ast.specs.declared.module.Module.{Module}
use Rattle.wm_valid.specs.InRange.{GlobalsInRange, DatasInRange}
use Rattle.wm_valid.specs.Valid.{IsValid, IsFirstInvalid, AllItemsValid}

-- the first number for which it doesn't hold, or none where it holds for all
abbrev pub FirstFailing : (ℕ → Type 0) → Option ℕ → Type 0
FirstFailing P None = (n : ℕ) → P n
FirstFailing P (Some n) = (¬ P n) × ((k : ℕ) → k < n → P k)

-- the first invalid item of a kind
abbrev pub FirstOfKind : Module → Item → Option ℕ → Type 0
FirstOfKind m kind found = FirstFailing (IsValid m kind) found

-- the first invalid item
abbrev pub FirstOfAll : Module → Option (Item × ℕ) → Type 0
FirstOfAll m None = AllItemsValid m
FirstOfAll m (Some p) = IsFirstInvalid m (record { item = p.0; index = p.1 })

-- the items of a kind before this index are valid
abbrev pub AllBefore : Module → Item → ℕ → Type 0
AllBefore m kind index = (n : ℕ) → n < index → IsValid m kind n

-- the numbers in the items of a kind lie in their ranges, but for functions
abbrev pub KindInRange : Module → Item → Type 0
KindInRange m Globals = GlobalsInRange m
KindInRange m Datas = DatasInRange m
KindInRange m _ = Unit {0}
