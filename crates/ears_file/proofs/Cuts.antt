-- The same ears wherever the line is cut: `cut_anywhere`; and what a part more adds to the past, the ears and the
-- counts of a line. Assumes nothing.
use Rattle.std.specs.Prelude.{◌≡◌, ◌∷◌, ◌++◌, ◌+◌}
use Rattle.lists.specs.Prelude.{sym, ap, ◌∙◌, List, [], flatten, flat_map, append-nil, append_assoc, ℕ, arith, Float}
use Rattle.hrtf_history.specs.Setup.{Setup}
use Rattle.hrtf_history.specs.History.{heard, unsettled_in, after}
use Rattle.hrtf_history.proofs.Pieces.{after_append, heard_append, unsettled_append}
use Rattle.ears_wire.specs.Records.{whole_in_of, rest_in}
use Rattle.ears_wire.specs.Frames.{line_frames}
use Rattle.ears_wire.specs.Ears.{ear_bytes}
use Rattle.ears_wire.proofs.Ears.{ears_append}
use Rattle.ears_wire.proofs.Cut.{cut_frames, cut_whole}
use Rattle.ears_file.specs.Lines.{ears_of}
use Rattle.ears_file.specs.Promise.{bytes_beyond, put_in_parts, CutAnywhere}

-- ---- a line, and a part more

module _ (u : Setup) (line part : List ℕ) where
  -- its frames, and those that the part makes whole
  abbrev fs : List (List Float)
  fs = line_frames line

  abbrev gs : List (List Float)
  gs = line_frames (rest_in 24 line ++ part)

  pub past_more : after u (after u [] fs) gs ≡ after u [] (line_frames (line ++ part))
  past_more = sym (ap (after u []) (cut_frames line part) ∙ after_append u [] fs gs)

  ears_more : ears_of u line ++ bytes_beyond u line part ≡ ears_of u (line ++ part)
  ears_more =
      sym (ap (λ (hs : List (List Float)). ear_bytes (heard u [] hs)) (cut_frames line part)
      ∙ ap ear_bytes (heard_append u [] fs gs) ∙ ears_append (heard u [] fs) (heard u (after u [] fs) gs))

  pub unsettled_more : unsettled_in u 0 [] fs + unsettled_in u 0 (after u [] fs) gs
      ≡ unsettled_in u 0 [] (line_frames (line ++ part))
  unsettled_more = sym (ap (unsettled_in u 0 []) (cut_frames line part) ∙ unsettled_append u 0 [] fs gs)

pub whole_more : (line part : List ℕ) → whole_in_of 24 line + whole_in_of 24 (rest_in 24 line ++ part)
    ≡ whole_in_of 24 (line ++ part)
whole_more line part = sym (cut_whole 24 (omega arith) line part)

-- ---- parts

put_after : (u : Setup) (line : List ℕ) (parts : List (List ℕ))
    → ears_of u line ++ flatten (put_in_parts u line parts) ≡ ears_of u (line ++ flatten parts)
unfolding flatten
put_after u line [] = append-nil (ears_of u line) ∙ ap (ears_of u) (sym (append-nil line))
put_after u line (part ∷ parts) =
    let later = flatten (put_in_parts u (line ++ part) parts) in
    sym (append_assoc (ears_of u line) (bytes_beyond u line part) later)
    ∙ ap (λ (bs : List ℕ). bs ++ later) (ears_more u line part)
    ∙ put_after u (line ++ part) parts ∙ ap (ears_of u) (append_assoc line part (flatten parts))

pub cut_anywhere : CutAnywhere
unfolding ear_bytes flat_map
cut_anywhere u parts = put_after u [] parts

-- so two ways of cutting the same line put out the same
cut_alike : (u : Setup) (parts others : List (List ℕ)) → flatten parts ≡ flatten others
    → flatten (put_in_parts u [] parts) ≡ flatten (put_in_parts u [] others)
cut_alike u parts others e = cut_anywhere u parts ∙ ap (ears_of u) e ∙ sym (cut_anywhere u others)
