-- A module is within the limits exactly where each limit of the list is kept. Few pages are allowed.
use Rattle.std.proofs.Common.{ℕ, ◌≤◌, [], ◌∷◌, length, map, sum, Option, Some, None, All, arith}
use Rattle.std.proofs.lemmas.List.Elements.{All-nil, All-cons, All-from_recursion}
use Rattle.wm_ast.specs.declared.limit.TheConstants.{MAX_TYPES, MAX_FUNCTIONS, MAX_ALL_LOCALS, MAX_INSTRUCTIONS}
use Rattle.wm_ast.specs.declared.limit.TheConstants.{MAX_GLOBALS, MAX_EXPORTS, MAX_EXPORT_SIZE, PAGES}
use Rattle.wm_ast.specs.declared.module.Limits.{Limits}
use Rattle.wm_ast.specs.declared.module.Module.{Module}
use Rattle.wm_ast.specs.Profile.{function_locals, function_size, export_size, Limit, limits, IsKept, WithinLimits}
use Rattle.wm_ast.specs.Store.{within, most_pages_of}

pub by_name : (m : Module) → All IsKept (limits m) → WithinLimits m
by_name m kept =
    let none : Limit = record { counts = []; most = 0 } in
    record {
      types = kept 0 none (omega arith) 0 0 (omega arith);
      functions = kept 1 none (omega arith) 0 0 (omega arith);
      locals = kept 2 none (omega arith);
      all_locals = kept 3 none (omega arith) 0 0 (omega arith);
      instructions = kept 4 none (omega arith) 0 0 (omega arith);
      labels = kept 5 none (omega arith);
      globals = kept 6 none (omega arith) 0 0 (omega arith);
      tables = kept 7 none (omega arith);
      memories = kept 8 none (omega arith);
      exports = kept 9 none (omega arith) 0 0 (omega arith);
      export_sizes = kept 10 none (omega arith) 0 0 (omega arith);
    }

-- one count
one : (count most : ℕ) → count ≤ most → All (λ n. n ≤ most) (count ∷ [])
one count most h = All-cons (λ n. n ≤ most) count [] h (All-nil (λ n. n ≤ most))

pub in_list : (m : Module) → WithinLimits m → All IsKept (limits m)
in_list m w =
    All-from_recursion IsKept (limits m) (
      one (length m.types) MAX_TYPES w.types,
      (
        one (length m.funcs) MAX_FUNCTIONS w.functions,
        (
          w.locals,
          (
            one (sum (map (function_locals m) m.funcs)) MAX_ALL_LOCALS w.all_locals,
            (
              one (sum (map function_size m.funcs)) MAX_INSTRUCTIONS w.instructions,
              (
                w.labels,
                (
                  one (length m.globals) MAX_GLOBALS w.globals,
                  (
                    w.tables,
                    (
                      w.memories,
                      (
                        one (length m.exports) MAX_EXPORTS w.exports,
                        (one (sum (map (export_size m) m.exports)) MAX_EXPORT_SIZE w.export_sizes, tt),
                      ),
                    ),
                  ),
                ),
              ),
            ),
          ),
        ),
      ),
    )

-- Memories.

pub pages_few : PAGES ≤ 256
pages_few = omega arith

pub most_few : (o : Option Limits) → most_pages_of o ≤ PAGES
most_few None = omega arith
most_few (Some l) = by_maximum l.max
  where
    by_maximum : (o : Option ℕ) → within o ≤ PAGES
    by_maximum None = omega arith
    by_maximum (Some most) = omega arith
