-- Programs as they are counted.
use Rattle.std.specs.Prelude.{◌≡◌, ℕ, List, map, Option, Some, None, option_map, unwrap_or, slice_get, false}
use Rattle.mc_cmd.specs.declared.TheConstants.{LOAD_QUOTA}
use Rattle.mc_cmd.specs.Form.{Text}
use Rattle.mc_cmd.specs.Packing.{Written}
use Rattle.mc_cmd.specs.Pack.{Pack, functions_of}
use Rattle.mc_together.specs.Together.{Count, Standing, run_share}
use Rattle.pk_multi.specs.declared.program.Program.{Program}

-- what is counted of a program
abbrev pub count_of : Program → Count
count_of p = record { used = p.used; cut = p.cut; share = p.share }

-- what is counted of a program of which nothing ran
abbrev pub no_count : Count
no_count = record { used = 0; cut = false; share = LOAD_QUOTA }

-- what is counted of the program at a place
abbrev pub count_at : List Program → ℕ → Count
count_at ps i = unwrap_or (option_map count_of (slice_get ps i)) no_count

-- nothing ran of any of them
abbrev pub AreFresh : List Program → Type 0
AreFresh ps = (i : ℕ) → count_at ps i ≡ no_count

-- the namespaces of programs
abbrev pub spaces : List Program → List Text
spaces ps = map (λ p. p.names.ns) ps

-- the programs have the namespaces of the packs
abbrev pub AreNamed : List Program → List Written → Type 0
AreNamed ps ws = spaces ps ≡ map (λ w. w.index.ns) ws

-- a function of the program at a place, if there is one, with its share
abbrev pub run_found : List Pack → Text → ℕ → ℕ → Option Pack → Standing → Standing
run_found ps name b i None s = s
run_found ps name b i (Some p) s = run_share (functions_of ps) name b i p s

-- a function of the program at a place with its share
abbrev pub run_at : List Pack → Text → ℕ → ℕ → Standing → Standing
run_at ps name b i s = run_found ps name b i (slice_get ps i) s
