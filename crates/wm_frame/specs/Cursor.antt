-- What a cursor has left of the bytes.
use Rattle.std.specs.Prelude.{ℕ, ◌-◌, List, take, drop}
use Rattle.wm_frame.specs.declared.number.Cursor.{Cursor}

-- the bytes from the cursor's place up to its end
abbrev pub left : List ℕ → Cursor → List ℕ
left bytes c = take (c.end - c.at) (drop c.at bytes)

-- the bytes that a cursor passed
abbrev pub passed : List ℕ → Cursor → Cursor → List ℕ
passed bytes old new = take (new.at - old.at) (left bytes old)
