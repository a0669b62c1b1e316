-- How long a frame is, six samples; and how long a line: a number has at most twenty digits, so 59 bytes at the most.
-- Assumes nothing.
use Rattle.std.specs.Prelude.{◌≡◌, ◌∷◌, ◌++◌, ◌+◌, ◌/◌, ◌%◌, ◌≤◌, ◌<◌}
use Rattle.lists.specs.Prelude.{ap, ◌∙◌, Bool, true, false, cond, List, [], ℕ, zero, suc, arith, ltb, length, get_or}
use Rattle.lists.specs.Prelude.{length-append, Float}
use Rattle.lists.proofs.Tables.{length_tab, get_or_tab}
use Rattle.big_endian.specs.Fields.{float_at}
use Rattle.lists.specs.Tables.{chunk}
use Rattle.big_endian.proofs.Lists.{length_strided}
use Rattle.ears_wire.specs.Records.{whole_in_of}
use Rattle.ears_wire.specs.Frames.{frame_of, line_frames}
use Rattle.ears_wire.specs.Line.{decimal_by, decimal_digits, frames_word, unsettled_word, refused_word, at_word}
use Rattle.ears_wire.specs.Line.{newline}
use Rattle.ears_wire.specs.Line.{frames_line, refused_line, refused_at_line}

pub six_each : (bytes : List ℕ) (n : ℕ) → n < length (line_frames bytes) → length (get_or (line_frames bytes) n []) ≡ 6
six_each bytes n h =
    let frame : ℕ → List Float = λ i. frame_of (chunk 24 i bytes) in
    ap length (get_or_tab 0 (whole_in_of 24 bytes) frame n []
    (omega (arith, length_tab 0 (whole_in_of 24 bytes) frame)))
    ∙ length_strided (float_at (chunk 24 (0 + n) bytes)) 4 0 6

-- one digit, or one more than the number's tenth has
one_more : (t : Bool) (k digit last : ℕ) (before : List ℕ) → length before ≤ k
    → length (cond t (digit ∷ []) (before ++ (last ∷ []))) ≤ suc k
one_more true k digit last before h = omega arith
one_more false k digit last before h = omega (arith, length-append before (last ∷ []), h)

digits_short : (k n : ℕ) → length (decimal_by k n) ≤ k
unfolding decimal_by
digits_short zero n = omega arith
digits_short (suc k) n = one_more (ltb n 10) k (48 + n) (48 + n % 10) (decimal_by k (n / 10)) (digits_short k (n / 10))

decimal_short : (n : ℕ) → length (decimal_digits n) ≤ 20
unfolding decimal_digits
decimal_short n = digits_short 20 n

-- two numbers, each behind its word
two_short : (first second : List ℕ) (m n : ℕ) → length first + length second ≤ 18
    → length (first ++ (decimal_digits m ++ (second ++ (decimal_digits n ++ newline)))) ≤ 59
unfolding newline
two_short first second m n h =
    let last = decimal_digits n ++ newline in
    let behind = second ++ last in
    omega (
      arith,
      h,
      length-append first (decimal_digits m ++ behind),
      length-append (decimal_digits m) behind,
      length-append second last,
      length-append (decimal_digits n) newline,
      decimal_short m,
      decimal_short n,
    )

pub frames_short : (frames unsettled : ℕ) → length (frames_line frames unsettled) ≤ 59
unfolding frames_line frames_word unsettled_word
frames_short frames unsettled = two_short frames_word unsettled_word frames unsettled (omega arith)

pub refused_short : (number : ℕ) → length (refused_line number) ≤ 59
unfolding refused_line refused_word newline
refused_short number = omega (arith, length-append (decimal_digits number) newline, decimal_short number)

pub refused_at_short : (number place : ℕ) → length (refused_at_line number place) ≤ 59
unfolding refused_at_line refused_word at_word
refused_at_short number place = two_short refused_word at_word number place (omega arith)
