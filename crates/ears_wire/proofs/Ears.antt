-- The bytes of frames: how many there are, one frame more, and what two stores of four bytes leave. Assumes nothing.
use Rattle.std.specs.Prelude.{◌≡◌, ◌∷◌, ◌++◌, ◌+◌, ◌*◌, ◌≤◌}
use Rattle.lists.specs.Prelude.{refl, sym, ap, ◌∙◌, List, [], flat_map, ℕ, zero, suc, zero-add, add-one, arith, length}
use Rattle.lists.specs.Prelude.{length-append, Float, binary32, to_bits}
use Rattle.big_endian.specs.Bytes.{bytes_of}
use Rattle.lists.specs.Placed.{placed}
use Rattle.big_endian.specs.Fields.{with_float}
use Rattle.big_endian.specs.Lists.{float_bytes}
use Rattle.big_endian.proofs.Bytes.{length_bytes}
use Rattle.big_endian.proofs.Fields.{field_put}
use Rattle.lists.proofs.Placed.{placed_none, length_placed}
use Rattle.big_endian.proofs.Lists.{part_more, length_field_bytes, field_bytes_two}
use Rattle.lists.specs.Tables.{tab}
use Rattle.lists.proofs.Joined.{joined_none, joined_append, joined_snoc}
use Rattle.lists.proofs.Tables.{tab_snoc}
use Rattle.planes.specs.Planes.{frame_at, frames_of}
use Rattle.ears_wire.specs.Ears.{ear_bytes}

pub ears_append : (fs gs : List (List Float)) → ear_bytes (fs ++ gs) ≡ ear_bytes fs ++ ear_bytes gs
unfolding ear_bytes
ears_append = joined_append float_bytes

-- two samples, one store after the other
pub both_stored : (out one two : List ℕ) (at : ℕ) (a b : Float) → at + 8 ≤ length out → one ≡ with_float out at a
    → two ≡ with_float one (at + 4) b → two ≡ placed out at (float_bytes (a ∷ b ∷ []))
unfolding with_float
both_stored out one two at a b h e f =
    let first = field_put out one at 4 (to_bits binary32 a) (omega arith) (omega arith) e in
    let four = length_bytes 4 (to_bits binary32 a) in
    let long : length one ≡ length out = ap length first ∙ length_placed out at (bytes_of 4 (to_bits binary32 a))
    (omega arith) in
    part_more out one two (bytes_of 4 (to_bits binary32 a)) (bytes_of 4 (to_bits binary32 b)) at 4 (at + 4) first four
    refl
    (omega (arith, length_bytes 4 (to_bits binary32 b)))
    (field_put one two (at + 4) 4 (to_bits binary32 b) (omega arith) (omega arith) f)
    ∙ ap (placed out at) (sym (field_bytes_two 4 (to_bits binary32) a b))

-- the loop: the ears of the frames so far stand at the start
pub length_ears : (ears : List Float) (stride n : ℕ) → length (ear_bytes (frames_of ears stride 2 n)) ≡ n * 8
unfolding ear_bytes flat_map
length_ears ears stride n = go 0 n
  where
    go : (i n : ℕ) → length (ear_bytes (tab i n (frame_at ears stride 2))) ≡ n * 8
    go i zero = refl
    go i (suc n) =
        length-append (float_bytes (frame_at ears stride 2 i)) (ear_bytes (tab (suc i) n (frame_at ears stride 2)))
        ∙ omega (arith, length_field_bytes 4 (to_bits binary32) (frame_at ears stride 2 i), go (suc i) n)

module _ (ears : List Float) (stride : ℕ) (out : List ℕ) where
  pub giving_none : out ≡ placed out 0 (ear_bytes (frames_of ears stride 2 0))
  unfolding ear_bytes
  giving_none = sym (ap (placed out 0) (joined_none float_bytes) ∙ placed_none out 0)

  pub giving_more : (n : ℕ) (ys last : List ℕ) → n * 8 + 8 ≤ length out
      → ys ≡ placed out 0 (ear_bytes (frames_of ears stride 2 n))
      → last ≡ placed ys (n * 8) (float_bytes (frame_at ears stride 2 n))
      → last ≡ placed out 0 (ear_bytes (frames_of ears stride 2 (n + 1)))
  unfolding ear_bytes
  giving_more n ys last h e f =
      let so_far = ear_bytes (frames_of ears stride 2 n) in
      let frame = float_bytes (frame_at ears stride 2 n) in
      let more : so_far ++ frame ≡ ear_bytes (frames_of ears stride 2 (n + 1)) =
      sym (rw (add-one n, tab_snoc 0 n (frame_at ears stride 2))
      (joined_snoc float_bytes (frames_of ears stride 2 n) (frame_at ears stride 2 (0 + n))
      ∙ ap (λ (k : ℕ). so_far ++ float_bytes (frame_at ears stride 2 k)) (zero-add n))) in
      part_more out ys last so_far frame 0 (n * 8) (n * 8) e (length_ears ears stride n) (omega arith)
      (omega (arith, length_field_bytes 4 (to_bits binary32) (frame_at ears stride 2 n))) f
      ∙ ap (placed out 0) more

  pub giving_long : (n : ℕ) (ys : List ℕ) → n * 8 ≤ length out → ys
      ≡ placed out 0 (ear_bytes (frames_of ears stride 2 n))
      → length ys ≡ length out
  giving_long n ys h e =
      ap length e ∙ length_placed out 0 (ear_bytes (frames_of ears stride 2 n))
      (omega (arith, length_ears ears stride n))
