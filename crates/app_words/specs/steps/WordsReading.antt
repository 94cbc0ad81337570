-- The job that words name, form by form.
use Rattle.std.specs.Prelude.{ℕ, List, [], ◌∷◌, length, codes, ◌&&◌, if◌then◌else◌, Option, Some, None, option_map}
use Rattle.std.specs.Str.{bytes_eq}
use Rattle.mc_cmd.specs.Form.{Text, Last}
use Rattle.mc_cmd.specs.Packing.{is_pack_namespace}
use Rattle.app_words.specs.Script.{limited, digits}
use Rattle.app_words.specs.Words.{is_workload_number, is_workload_size, is_library_count, is_program_count}
use Rattle.app_words.specs.declared.command_line.Job.{Job}
use Rattle.app_words.specs.declared.command_line.Job.TheVariants as jobs
use Rattle.app_words.specs.declared.named_files.NamedFile.{NamedFile}

-- a number and a size in decimal, each in its one spelling
abbrev pub workload_number : Last ℕ
workload_number = limited digits is_workload_number

abbrev pub workload_size : Last ℕ
workload_size = limited digits is_workload_size

-- the job of a number and a size, where there are both
abbrev pub gen_of : Text → Text → Option ℕ → Option ℕ → Option Job
gen_of file dir None o = None
gen_of file dir (Some number) None = None
gen_of file dir (Some number) (Some size) = Some (jobs.Gen number size file dir)

-- names and files, two words each, where no word is left
abbrev pub pairs_read : List Text → Option (List NamedFile)
pairs_read [] = Some []
pairs_read (w ∷ []) = None
pairs_read (name ∷ file ∷ words) = option_map (λ ls. record { name = name; file = file } ∷ ls) (pairs_read words)

-- the job of a module and libraries, where there are as many as it may be joined with
abbrev pub join_of : Text → Text → Text → Text → Option (List NamedFile) → Option Job
join_of file dir ns script None = None
join_of file dir ns script (Some ls) =
    if is_library_count (length ls) then Some (jobs.Join file dir ns script ls) else None

-- the job of several programs, where there are as many as may share a world
abbrev pub multi_of : Text → List Text → Option Job
multi_of script dirs = if is_program_count (length dirs) then Some (jobs.Multi script dirs) else None

-- the job of words that don't begin with `multi`
abbrev pub single_of : List Text → Option Job
single_of (form ∷ dir ∷ script ∷ []) = if bytes_eq form (codes "run") then Some (jobs.Run dir script) else None
single_of (form ∷ file ∷ dir ∷ ns ∷ []) =
    if bytes_eq form (codes "compile") && is_pack_namespace ns then Some (jobs.Compile file dir ns)
    else if bytes_eq form (codes "costs") && is_pack_namespace ns then Some (jobs.Costs file dir ns)
    else None
single_of (form ∷ file ∷ dir ∷ ns ∷ script ∷ []) =
    if bytes_eq form (codes "exec") && is_pack_namespace ns then Some (jobs.Exec file dir ns script)
    else if bytes_eq form (codes "inspect") && is_pack_namespace ns then Some (jobs.Inspect file dir ns script)
    else if bytes_eq form (codes "gen") then gen_of ns script (workload_number.read file) (workload_size.read dir)
    else None
single_of (form ∷ file ∷ dir ∷ ns ∷ script ∷ word ∷ words) =
    if bytes_eq form (codes "join") && is_pack_namespace ns
    then join_of file dir ns script (pairs_read (word ∷ words))
    else None
single_of words = None

abbrev pub job_of : List Text → Option Job
job_of (form ∷ script ∷ dirs) =
    if bytes_eq form (codes "multi") then multi_of script dirs else single_of (form ∷ script ∷ dirs)
job_of words = None
