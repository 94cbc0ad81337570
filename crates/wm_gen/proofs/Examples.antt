-- Worked cases: the bytes of bodies, as a script assembled them apart from these definitions.
use Rattle.std.proofs.Common.{◌≡◌, [], ◌∷◌, refl}
use Rattle.wm_ast.specs.View.{code_from}
use Rattle.wm_gen.specs.Shortest.{sevens, unsigned, signed, code_bytes}
use Rattle.wm_gen.specs.Workload.{body}

-- a function that mixes
mixes : code_bytes (code_from (body 2 0)) ≡
    65 ∷ 26 ∷ 33 ∷ 0 ∷ 3 ∷ 64 ∷ 32 ∷ 1 ∷ 66 ∷ 173 ∷ 254 ∷ 213 ∷ 228 ∷ 212 ∷ 133 ∷ 253 ∷ 168 ∷ 216 ∷ 0 ∷ 133 ∷
    32 ∷ 0 ∷ 173 ∷ 124 ∷ 33 ∷ 1 ∷ 32 ∷ 0 ∷ 65 ∷ 1 ∷ 107 ∷ 34 ∷ 0 ∷ 13 ∷ 0 ∷ 11 ∷ 32 ∷ 1 ∷ []
unfolding unsigned signed sevens
mixes = refl

-- one that stores and loads
stores : code_bytes (code_from (body 10 0)) ≡
    65 ∷ 192 ∷ 0 ∷ 33 ∷ 0 ∷ 3 ∷ 64 ∷ 32 ∷ 0 ∷ 65 ∷ 4 ∷ 108 ∷ 32 ∷ 0 ∷ 65 ∷ 178 ∷ 228 ∷ 137 ∷ 183 ∷ 1 ∷ 108 ∷
    54 ∷ 2 ∷ 227 ∷ 6 ∷ 32 ∷ 1 ∷ 32 ∷ 0 ∷ 65 ∷ 4 ∷ 108 ∷ 53 ∷ 2 ∷ 227 ∷ 6 ∷ 124 ∷ 33 ∷ 1 ∷ 32 ∷ 0 ∷ 65 ∷ 1 ∷
    107 ∷ 34 ∷ 0 ∷ 13 ∷ 0 ∷ 11 ∷ 32 ∷ 1 ∷ []
unfolding unsigned signed sevens
stores = refl

-- one that calls the function before it
calls : code_bytes (code_from (body 1 1)) ≡
    16 ∷ 0 ∷ 66 ∷ 217 ∷ 134 ∷ 209 ∷ 137 ∷ 4 ∷ 133 ∷ []
unfolding unsigned signed sevens
calls = refl

-- one that divides
divides : code_bytes (code_from (body 0 0)) ≡
    66 ∷ 145 ∷ 248 ∷ 236 ∷ 235 ∷ 196 ∷ 240 ∷ 142 ∷ 193 ∷ 6 ∷ 66 ∷ 170 ∷ 7 ∷ 128 ∷ 66 ∷ 136 ∷ 238 ∷ 145 ∷
    232 ∷ 0 ∷ 66 ∷ 170 ∷ 7 ∷ 130 ∷ 133 ∷ []
unfolding unsigned signed sevens
divides = refl

-- the first function has none before it, and mixes
first_mixes : code_bytes (code_from (body 1 0)) ≡
    65 ∷ 25 ∷ 33 ∷ 0 ∷ 3 ∷ 64 ∷ 32 ∷ 1 ∷ 66 ∷ 173 ∷ 254 ∷ 213 ∷ 228 ∷ 212 ∷ 133 ∷ 253 ∷ 168 ∷ 216 ∷ 0 ∷ 133 ∷
    32 ∷ 0 ∷ 173 ∷ 124 ∷ 33 ∷ 1 ∷ 32 ∷ 0 ∷ 65 ∷ 1 ∷ 107 ∷ 34 ∷ 0 ∷ 13 ∷ 0 ∷ 11 ∷ 32 ∷ 1 ∷ []
unfolding unsigned signed sevens
first_mixes = refl
