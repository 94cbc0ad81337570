-- The words of the command line, and what they ask for.
use Rattle.std.specs.Prelude.{◌≡◌, ◌≢◌, ℕ, List, [], ◌∷◌, codes, length, nat_le, ◌&&◌, Bool, true, Result, Ok, Err}
use Rattle.std.specs.Fmt.{decimal}
use Rattle.mc_cmd.specs.Form.{Text}
use Rattle.mc_cmd.specs.Packing.{is_pack_namespace}
use Rattle.app_words.specs.declared.command_line.Job.{Job}
use Rattle.app_words.specs.declared.command_line.Job.TheVariants as jobs
use Rattle.app_words.specs.declared.command_line.WordsFault.{WordsFault}
use Rattle.app_words.specs.declared.command_line.WordsFault.TheVariants as faults
use Rattle.app_words.specs.declared.named_files.NamedFile.{NamedFile}

-- the number of a workload has 64 bits
abbrev pub is_workload_number : ℕ → Bool
is_workload_number n = nat_le n 18446744073709551615

-- the size of a workload: from 1 to 1,000 functions
abbrev pub is_workload_size : ℕ → Bool
is_workload_size n = nat_le 1 n && nat_le n 1000

-- a module is joined with 1 to 16 libraries
abbrev pub is_library_count : ℕ → Bool
is_library_count n = nat_le 1 n && nat_le n 16

-- `NAME FILE ..`
abbrev pub pair_words : List NamedFile → List Text
pair_words [] = []
pair_words (l ∷ ls) = l.name ∷ l.file ∷ pair_words ls

-- 1 to 16 programs share a world
abbrev pub is_program_count : ℕ → Bool
is_program_count n = nat_le 1 n && nat_le n 16

-- the forms: `compile FILE DIR NS`, `costs FILE DIR NS`, `run DIR SCRIPT`, `exec FILE DIR NS SCRIPT`,
-- `gen NUMBER SIZE FILE DIR`, `join MAIN DIR NS SCRIPT NAME FILE ..`, `multi SCRIPT DIR ..` and
-- `inspect FILE DIR NS SCRIPT`
abbrev pub job_words : Job → List Text
job_words (jobs.Compile file dir ns) = codes "compile" ∷ file ∷ dir ∷ ns ∷ []
job_words (jobs.Costs file dir ns) = codes "costs" ∷ file ∷ dir ∷ ns ∷ []
job_words (jobs.Run dir script) = codes "run" ∷ dir ∷ script ∷ []
job_words (jobs.Exec file dir ns script) = codes "exec" ∷ file ∷ dir ∷ ns ∷ script ∷ []
job_words (jobs.Gen number size file dir) = codes "gen" ∷ decimal number ∷ decimal size ∷ file ∷ dir ∷ []
job_words (jobs.Join file dir ns script libraries) = codes "join" ∷ file ∷ dir ∷ ns ∷ script ∷ pair_words libraries
job_words (jobs.Multi script dirs) = codes "multi" ∷ script ∷ dirs
job_words (jobs.Inspect file dir ns script) = codes "inspect" ∷ file ∷ dir ∷ ns ∷ script ∷ []

-- NS is the namespace of a pack, NUMBER and SIZE are those of a workload, and there are 1 to 16 pairs NAME FILE, or
-- 1 to 16 folders
abbrev pub job_fits : Job → Bool
job_fits (jobs.Compile file dir ns) = is_pack_namespace ns
job_fits (jobs.Costs file dir ns) = is_pack_namespace ns
job_fits (jobs.Run dir script) = true
job_fits (jobs.Exec file dir ns script) = is_pack_namespace ns
job_fits (jobs.Gen number size file dir) = is_workload_number number && is_workload_size size
job_fits (jobs.Join file dir ns script libraries) = is_pack_namespace ns && is_library_count (length libraries)
job_fits (jobs.Multi script dirs) = is_program_count (length dirs)
job_fits (jobs.Inspect file dir ns script) = is_pack_namespace ns

-- an answer to words: the job that they name; or they name none; or there was no memory
abbrev pub ReadsWords : List Text → Result Job WordsFault → Type 0
ReadsWords words (Ok job) = (words ≡ job_words job) × (job_fits job ≡ true)
ReadsWords words (Err faults.Usage) = (job : Job) → job_fits job ≡ true → words ≢ job_words job
ReadsWords words (Err faults.Memory) = Unit {0}
