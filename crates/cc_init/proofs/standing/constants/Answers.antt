use Rattle.std.proofs.Common.{◌≡◌, ◌∙◌, List, [], ◌∷◌, ap, refl, sym, arith}
use Rattle.std.specs.Fmt.{decimal}
use Rattle.std.proofs.lemmas.Fmt.{decimal_digit}
use Rattle.mc_cmd.specs.Form.{Text}
use Rattle.cc_line.specs.Key.{score_four, score_page_words}
use Rattle.cc_line.specs.Step.{Act}
use Rattle.cc_mem.specs.Standing.{stem_byte, stem_half, stem_rest, stem_top}
use Rattle.std.specs.Prelude.{◌++◌}
use Rattle.cc_init.specs.Init.{constant_act, constants_acts}
use Rattle.cc_init.proofs.standing.constants.Goals as goal

more : {x y : Act} {xs ys : List Act} → x ≡ y → xs ≡ ys → x ∷ xs ≡ y ∷ ys
more e f = cc

-- with these texts for the numbers from 0 to 3
abbrev constants_by : Text → Text → Text → Text → List Act
constants_by zero one two three =
    constant_act score_four 4
    ∷ constant_act score_page_words 16384
    ∷ constant_act (stem_byte ++ zero) 1
    ∷ constant_act (stem_byte ++ one) 256
    ∷ constant_act (stem_byte ++ two) 65536
    ∷ constant_act (stem_byte ++ three) 16777216
    ∷ constant_act (stem_top ++ zero) 16777216
    ∷ constant_act (stem_top ++ one) 65536
    ∷ constant_act (stem_top ++ two) 256
    ∷ constant_act (stem_top ++ three) 1
    ∷ constant_act (stem_half ++ zero) 65536
    ∷ constant_act (stem_half ++ one) 256
    ∷ constant_act (stem_half ++ two) 1
    ∷ constant_act (stem_rest ++ one) 16777216
    ∷ constant_act (stem_rest ++ two) 65536
    ∷ constant_act (stem_rest ++ three) 256
    ∷ []

told : constants_by (48 ∷ []) (49 ∷ []) (50 ∷ []) (51 ∷ []) ≡ constants_acts
told =
    ap (λ t. constants_by t (49 ∷ []) (50 ∷ []) (51 ∷ [])) (sym (decimal_digit 0 (omega arith)))
    ∙ ap (λ t. constants_by (decimal 0) t (50 ∷ []) (51 ∷ [])) (sym (decimal_digit 1 (omega arith)))
    ∙ ap (λ t. constants_by (decimal 0) (decimal 1) t (51 ∷ [])) (sym (decimal_digit 2 (omega arith)))
    ∙ ap (λ t. constants_by (decimal 0) (decimal 1) (decimal 2) t) (sym (decimal_digit 3 (omega arith)))

pub returns : goal.returns
returns c =
    more c.constant.ensures (more c.constant-2.ensures (more c.constant-3.ensures (more c.constant-4.ensures
    (more c.constant-5.ensures (more c.constant-6.ensures (more c.constant-7.ensures (more c.constant-8.ensures
    (more c.constant-9.ensures (more c.constant-10.ensures (more c.constant-11.ensures (more c.constant-12.ensures
    (more c.constant-13.ensures (more c.constant-14.ensures (more c.constant-15.ensures (more c.constant-16.ensures refl)))))))))))))))
    ∙ told
