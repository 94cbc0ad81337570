-- The lines that tell where a program is, from one of them on.
use Rattle.std.proofs.Common.{◌≡◌, ◌∙◌, refl, ap, ap₂, sym, ℕ, zero, suc, ◌+◌, ◌-◌, ◌^◌, ◌<◌, List, [], ◌∷◌, ◌++◌, length, drop, get_or, replicate, false, append-nil, arith}
use Rattle.std.specs.Fmt.{decimal, digits, padded_integral, format_spec, char_count}
use Rattle.mc_nbt.specs.declared.value.Value.{Value}
use Rattle.mc_cmd.specs.Form.{Text}
use Rattle.wm_view.specs.declared.view.FrameView.{FrameView}
use Rattle.app_report.specs.Where.{value_line, value_lines, frame_text, frame_lines, hex_text, numbers_text}

-- the line of a value, and those behind it
pub values_from : (what : Text) (vs : List Value) (i n : ℕ) (v : Value) → i < length vs → value_lines what n (drop i vs) ≡ value_line what n (get_or vs i v) ++ value_lines what (n + 1) (drop (i + 1) vs)
values_from what [] i n v h = absurd (omega arith)
values_from what (x ∷ vs) zero n v h = refl
values_from what (x ∷ vs) (suc i) n v h =
    let next : suc i + 1 ≡ suc (i + 1) = omega arith in
    values_from what vs i n v (omega arith) ∙ ap (λ k. value_line what n (get_or vs i v) ++ value_lines what (n + 1) (drop k (x ∷ vs))) (sym next)

-- a frame, and those behind it
pub frames_from : (fs : List FrameView) (i n : ℕ) (f : FrameView) → i < length fs → frame_lines n (drop i fs) ≡ frame_text n (get_or fs i f) ++ frame_lines (n + 1) (drop (i + 1) fs)
frames_from [] i n f h = absurd (omega arith)
frames_from (x ∷ fs) zero n f h = refl
frames_from (x ∷ fs) (suc i) n f h =
    let next : suc i + 1 ≡ suc (i + 1) = omega arith in
    frames_from fs i n f (omega arith) ∙ ap (λ k. frame_text n (get_or fs i f) ++ frame_lines (n + 1) (drop k (x ∷ fs))) (sym next)

-- a number, and those behind it
pub numbers_from : (ns : List ℕ) (i n : ℕ) → i < length ns → numbers_text (drop i ns) ≡ (32 ∷ decimal (get_or ns i n)) ++ numbers_text (drop (i + 1) ns)
numbers_from [] i n h = absurd (omega arith)
numbers_from (x ∷ ns) zero n h = refl
numbers_from (x ∷ ns) (suc i) n h =
    let next : suc i + 1 ≡ suc (i + 1) = omega arith in
    numbers_from ns i n (omega arith) ∙ ap (λ k. (32 ∷ decimal (get_or ns i n)) ++ numbers_text (drop k (x ∷ ns))) (sym next)

-- the padding of an opcode
padded_hex : (w n : ℕ) → padded_integral (format_spec 32 0 4 w (2 ^ 64 - 1)) false [] (digits 16 false n) ≡ hex_text w n
unfolding padded_integral char_count
padded_hex w n =
    let short : w - length (digits 16 false n) - 0 - 0 ≡ w - length (digits 16 false n) = omega arith in
    ap₂ (λ k t. replicate k 48 ++ t) short (append-nil (digits 16 false n))

pub padded_short : (n : ℕ) → padded_integral (format_spec 32 0 4 2 (2 ^ 64 - 1)) false [] (digits 16 false n) ≡ hex_text 2 n
padded_short n = padded_hex 2 n

pub padded_long : (n : ℕ) → padded_integral (format_spec 32 0 4 4 (2 ^ 64 - 1)) false [] (digits 16 false n) ≡ hex_text 4 n
padded_long n = padded_hex 4 n
