-- The names of the kit that the crates use, under one roof: a file of a crate that uses `lists` brings in by name what
-- it needs of them.
pub use Rattle.std.proofs.Common.{◌∙◌, ap, ap₂, subst, subst₂, sym, inl, inr, ⊎_elim, true≢false, append_assoc}
pub use Rattle.std.proofs.Common.{append-nil, add_assoc, add_comm, add-mul, add-sub_of_le, add-suc, add-zero}
pub use Rattle.std.proofs.Common.{div-add-mod', div-lt_iff_lt-mul, div-mul-le_self, div-one, eq-or-lt_of_le}
pub use Rattle.std.proofs.Common.{eq-zero-or-pos, le-add_left, le-add_right, le_antisymm, le-div_iff_mul-le, le_of_eq}
pub use Rattle.std.proofs.Common.{le_of_lt, le_of_mul-le-mul_right, le_of_suc-le-suc, le_refl, le_trans, lt_irrefl}
pub use Rattle.std.proofs.Common.{lt_of_le_of_lt, lt_of_lt_of_le, lt_of_mul-lt-mul_right, lt_of_not-le, mod-eq_of_lt}
pub use Rattle.std.proofs.Common.{mod-lt, mul-add, mul_assoc, mul_comm, mul-div_cancel, mul-le-mul, mul-le-mul_left}
pub use Rattle.std.proofs.Common.{mul-le-mul_right, mul_left_comm, mul-lt-mul_of_pos_right, mul-one, mul-pos}
pub use Rattle.std.proofs.Common.{mul_right_comm, mul-suc, mul-zero, ne_of_lt, not-le_of_lt, not-suc-le-zero, one-mul}
pub use Rattle.std.proofs.Common.{pow-suc, sub-add_cancel, sub-eq-zero_of_le, sub-le, suc-add, suc-mul, suc-ne-zero}
pub use Rattle.std.proofs.Common.{zero-add, zero-lt-suc, zero-mul, add-one, sub-one, arith, drop_of_length-le}
pub use Rattle.std.proofs.Common.{length-append, length-drop, length-set, length-take, take-append-drop, drop_at}
pub use Rattle.std.proofs.Common.{drop-cons, drop-drop, drop-set-lt, ext_get_or, get_or-append-add, get_or-drop}
pub use Rattle.std.proofs.Common.{get_or-set_other, get_or-set_same, get_or-take, length-take-le, take-add, take_all}
pub use Rattle.std.proofs.Common.{take_at, take-suc, take-suc-set, take-take, eqb→eq, leb→le, le→leb, lit<, lit≤}
pub use Rattle.std.proofs.Common.{ltb→lt, lt→ltb, nltb→le, pow-add, pow_mono, pow_pos, shl_exact, shl_lt, rules, eq-eqb}
pub use Rattle.std.proofs.Common.{eqb-true, le-leb, le-ltb, leb-false, leb-true, lt-ltb, ltb-false, ltb-true, ne_eqb}
pub use Rattle.std.specs.Prelude.{◌≡◌, ◌≢◌, refl, ◌⊎◌, Bool, ◌&&◌, ◌||◌, cond, false, not, true, List, [], ◌++◌, ◌∷◌}
pub use Rattle.std.specs.Prelude.{map, reverse, drop, get_or, length, replicate, set, take, T, eqb, leb, ltb, ◌*ℤ◌}
pub use Rattle.std.specs.Prelude.{◌-ℤ◌, nat_abs, negsuc, neg_ℤ, pos, ℤ, Float}
pub use Rattle.std.proofs.Math.Path.{fun_ext}
pub use Rattle.std.proofs.Math.Logic.{⊎_map}
pub use Rattle.std.specs.Bool.{beq as bool_beq}
pub use Rattle.std.proofs.Math.Bool.{and_comm, and-eq-true_iff, and-false, and-true, or_assoc, or-false, or-true}
pub use Rattle.std.proofs.lemmas.Bool.{false≢true, eqb-false, lt-leb, not-false, not-true}
unfoldable pub use mathlib.Core.List.{flat_map, flatten}
pub use Rattle.std.proofs.lemmas.List.{map-append, get_or-replicate, length-map, length-replicate, length-reverse}
pub use Rattle.std.proofs.lemmas.List.{drop-append-le, take-append-le}
pub use Rattle.std.proofs.lemmas.Simd.{map-map}
pub use mathlib.Core.List.{reverse-append, reverse-cons, reverse-reverse, reverse_aux}
pub use Prim.Native.Nat.Ordering.{eq as ordering_eq}
pub use Prim.Native.Nat.Ordering.{gt as ordering_gt}
pub use Prim.Native.Nat.Ordering.{lt as ordering_lt}
pub use Prim.Native.Nat.{Ordering, ◌%◌, ◌*◌, ◌+◌, ◌-◌, ◌/◌, ◌<◌, ◌^◌, ◌≤◌}
pub use Prim.Native.Nat.{compare, max, min, suc, suc-le-suc, zero, zero-le, ℕ}
pub use Rattle.std.proofs.Math.Nat.{add-lt-add_of_lt_of_le, add-mod_right, add-mul-mod_self_left, add_right_cancel}
pub use Rattle.std.proofs.Math.Nat.{div-add-mod, div-div-eq-div-mul, div-eq_of_lt, div-le_of_le-mul}
pub use Rattle.std.proofs.Math.Nat.{eq_of_mul-eq-mul_right, le_dest, le_intro, le_of_mul-le-mul_left, le-suc}
pub use Rattle.std.proofs.Math.Nat.{lt-div-mul-add, lt_of_mul-lt-mul_left, min-eq_left, min-eq_right, mod-add-mod}
pub use Rattle.std.proofs.Math.Nat.{mod-one, mod_self, mul-add-div_right, mul-add-mod_self_right, mul-div_right}
pub use Rattle.std.proofs.Math.Nat.{mul-mod_left, mul-mod_right, mul-mul-mul_comm, mul-sub, one-le-pow}
pub use Rattle.std.proofs.Math.Nat.{pow-le-pow_right, pow-succ', sub-pos_iff_lt, sub-zero, suc-le-suc_iff, two-pow-succ}
pub use Rattle.std.proofs.Math.Nat.{zero-div, zero-mod}
pub use Rattle.std.proofs.Math.Numerals.{add-two, lt_of_le_of_ne}
pub use Rattle.std.proofs.Math.Decide.{dec_le, dec_lt, ℕ_discrete}
pub use Rattle.std.proofs.Math.ListN.{get_or-append, get_or-eq_default, get_or-map}
pub use Rattle.std.proofs.Math.Seq.{drop-append-add, drop-length, length-sets, set_out, take-append_seam, take-length}
pub use Rattle.std.proofs.Math.Seq.{take-nil}
pub use Rattle.std.proofs.lemmas.List.Edits.{sets, sets-eq}
pub use Rattle.std.proofs.Math.Dec.{compare_is_eq, is_le, nleb→lt}
pub use Rattle.std.proofs.Math.Pow.{pow-lt, shr_mono, split, suc_ones}
pub use Rattle.std.proofs.Math.IntN.{sub_ℕ}
unfoldable pub use Rattle.std.specs.Float.Ieee.{add, climb, div, eq, fits, in_float, is_nan, le, lt, mul, nan_bits, neg}
unfoldable pub use Rattle.std.specs.Float.Ieee.{odd, of_bits, of_fields, of_int, ones, round, size, span, sub, sum}
unfoldable pub use Rattle.std.specs.Float.Ieee.{to_bits, to_unsigned, top, units, unlike}
pub use Rattle.std.specs.Float.{Format, binary32, binary64, fin, inf, nan}
pub use Rattle.std.specs.Float.Ieee.{below, down, emax, hid, level, low, ne, nearest, prec, up}
