-- The content of a section, read from the left and used up.
use Rattle.std.specs.Prelude.{ℕ, List, map, Option, Some, None, ◌==◌, if◌then◌else◌}
use Rattle.wm_ast.specs.declared.module.Limits.{Limits}
use Rattle.wm_ast.specs.Part as parts
use Rattle.wm_ast.specs.Spelling.{Content, custom_section, type_section, import_section, function_section}
use Rattle.wm_ast.specs.Spelling.{table_section, memory_section, global_section, export_section, start_section}
use Rattle.wm_ast.specs.Spelling.{element_section, code_section, data_section}
use Rattle.wm_frame.specs.Reading.{◌>>=◌, unsigned_at}
use Rattle.wm_decode.specs.steps.Listing.{list_at, name_at, whole}
use Rattle.wm_decode.specs.steps.PartReading.{func_type_at, limits_at, table_at, import_at, export_at}
use Rattle.wm_decode.specs.steps.SegmentReading.{global_at, elem_at, data_at, body_at}
use Rattle.wm_decode.specs.declared.types.Table.{Table}
use Rattle.wm_decode.specs.declared.segment.Body.{Body}

-- the limits in a table type
abbrev pub limits_of : Table → Limits
limits_of t = t.limits

-- a function of the code section, as the grammar has it
abbrev pub seen_body : Body → parts.Body
seen_body b = record { locals = b.locals; body = b.body }

-- all of the content of the section of an id
unfoldable pub content_at : ℕ → List ℕ → Option Content
content_at id bytes =
    if id == 0 then (name_at bytes >>= λ x. Some custom_section)
    else (if id == 1 then (whole (list_at func_type_at bytes) >>= λ xs. Some (type_section xs))
    else (if id == 2 then (whole (list_at import_at bytes) >>= λ xs. Some (import_section xs))
    else (if id == 3 then (whole (list_at (unsigned_at 32) bytes) >>= λ xs. Some (function_section xs))
    else (if id == 4 then (whole (list_at table_at bytes) >>= λ xs. Some (table_section (map limits_of xs)))
    else (if id == 5 then (whole (list_at limits_at bytes) >>= λ xs. Some (memory_section xs))
    else (if id == 6 then (whole (list_at global_at bytes) >>= λ xs. Some (global_section xs))
    else (if id == 7 then (whole (list_at export_at bytes) >>= λ xs. Some (export_section xs))
    else (if id == 8 then (whole (unsigned_at 32 bytes) >>= λ x. Some (start_section x))
    else (if id == 9 then (whole (list_at elem_at bytes) >>= λ xs. Some (element_section xs))
    else (if id == 10 then (whole (list_at body_at bytes) >>= λ xs. Some (code_section (map seen_body xs)))
    else (if id == 11 then (whole (list_at data_at bytes) >>= λ xs. Some (data_section xs))
    else None)))))))))))
