-- A line that is put together sample by sample: how it begins, one sample more, and the whole of it. Assumes nothing.
use Rattle.std.specs.Prelude.{◌≡◌, ◌++◌, ◌+◌, ◌*◌, ◌/◌, ◌%◌, ◌≤◌, ◌<◌}
use Rattle.lists.specs.Prelude.{refl, sym, ap, ◌∙◌, List, flat_map, append-nil, ℕ, zero-add, arith, Float, nan}
use Rattle.lists.specs.Prelude.{binary32, to_bits, length, take, drop, drop-length, take-length}
use Rattle.lists.specs.Tables.{tab}
use Rattle.lists.specs.Placed.{placed}
use Rattle.lists.proofs.Tables.{length_tab, get_or_tab}
use Rattle.lists.proofs.Placed.{placed_start}
use Rattle.big_endian.specs.Fields.{with_field, with_float}
use Rattle.big_endian.specs.Bytes.{bytes_of}
use Rattle.big_endian.specs.Lists.{field_bytes, float_bytes}
use Rattle.big_endian.proofs.Lists.{length_field_bytes, write_none, write_kept, write_more}

module _ (sample : ℕ → Float) (count : ℕ) (room : List ℕ) where
  abbrev samples : List Float
  samples = tab 0 count sample

  -- the first i samples stand at the start of a room that has place for all
  pub record Begun (line : List ℕ) (i : ℕ) : Type 0 where
    pub fits : 4 * count ≡ length room
    pub below : i ≤ count
    stands : line ≡ placed room 0 (float_bytes (take i samples))

  pub begun_none : 4 * count ≡ length room → Begun room 0
  begun_none fits = record { fits = fits; below = omega arith; stands = write_none 4 (to_bits binary32) room 0 samples }

  pub begun_kept : (line : List ℕ) (i : ℕ) → Begun line i → length line ≡ length room
  begun_kept line i b =
      let all = length_tab 0 count sample in
      write_kept 4 (to_bits binary32) room 0 samples line i b.stands (omega arith) (omega arith)

  pub begun_more : (line last : List ℕ) (i : ℕ) (x : Float) → Begun line i → i < count → x ≡ sample i
      → last ≡ with_float line (i * 4) x → Begun last (i + 1)
  unfolding with_float
  begun_more line last i x b h is put =
      let all = length_tab 0 count sample in
      let place : i * 4 ≡ 0 + 4 * i = omega arith in
      let value = is ∙ sym (get_or_tab 0 count sample i nan h ∙ ap sample (zero-add i)) in
      let here = put ∙ (λ j. with_field line (place j) 4 (to_bits binary32 (value j))) in
      let more = write_more 4 (to_bits binary32) room 0 samples line last nan i in
      record {
        fits = b.fits;
        below = omega arith;
        stands = more (omega arith) b.stands (omega arith) (omega arith) here;
      }

  pub begun_whole : (line : List ℕ) (i : ℕ) → Begun line i → count ≤ i → line ≡ float_bytes (tab 0 count sample)
  begun_whole line i b h =
      let all = length_tab 0 count sample in
      let done : i ≡ length samples = omega arith in
      let bytes = float_bytes samples in
      let long : length bytes ≡ length room = length_field_bytes 4 (to_bits binary32) samples ∙ omega arith in
      let taken = ap (λ (k : ℕ). take k samples) done ∙ take-length samples in
      b.stands ∙ ap (λ (l : List Float). placed room 0 (float_bytes l)) taken ∙ placed_start room bytes
      ∙ ap (λ (l : List ℕ). bytes ++ l) (ap (λ (k : ℕ). drop k room) long ∙ drop-length room) ∙ append-nil bytes

-- it is a line of frames: sample i belongs to frame i / 6, and there to channel i % 6
pub line_frames_lem : (sample : ℕ → ℕ → Float)
    → float_bytes (tab 0 192 (λ i. sample (i % 6) (i / 6))) ≡ flat_map float_bytes
    (tab 0 32 (λ n. tab 0 6 (λ p. sample p n)))
unfolding field_bytes flat_map bytes_of
line_frames_lem sample = refl
