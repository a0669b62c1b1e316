-- The kit's names that a proof by hand uses, handed on under one roof. Assumes nothing.
pub use mathlib.Core.Path.{◌∙◌, ◌≡◌, ap, refl, subst, sym}
pub use Prim.Native.Nat.{◌*◌, ◌+◌, ◌-◌, ◌<◌, ◌^◌, ◌≤◌, min, suc, ℕ}
pub use native.Mathlib.Omega.{arith}
pub use mathlib.Core.Bool.{Bool, false}
pub use mathlib.Core.List.{List, [], ◌∷◌}
pub use lib.ListN.{get_or, length, take}
pub use lib.Dec.{T, lit<, ltb, ltb→lt, nltb→le}
pub use lib.Ieee.{Float}
pub use seplogic.Ra.Ura.{Ura}
pub use base.Fraction.{full_share}
pub use mir.Syntax.{Ty, erased, imm, named, ty_ptr, ty_ref, w64}
pub use mir.Val.{Val, WT, has_ty, vbool, vint, vptr, vunit}
pub use base.Logic.{SProp, emp, ent, ex_e, fst∗, id⊢, sep, snd∗, via}
pub use base.Fml.{Fml, GName, Lft, Share, fat, fbor, fdies, flent, flft, fobs, froom, fsep, ftrue}
pub use prog.Memory.{Memory}
pub use prog.Routine.{Routine}
unfoldable pub use prog.Wp.{after_turn}
pub use prog.Wp.{Calls, Env, Heap, Loops, Tables, Wp, WpFn, at_return}
pub use ghost.Atoms.{Atoms, meaning}
pub use contract.Monad.{Fun, fact}
pub use contract.Lifetimes.{AllOutlive, Lfts}
unfoldable pub use contract.Running.{tables_of}
pub use contract.Running.{tables}
pub use types.Kit.{ !, Item, Sq, ◌$◌, ◌∵◌, ◌⊛◌, any_q, at_ret, await, by, done, drop, feq_i, feq_l, fjoin, fjoin3}
pub use types.Kit.{fpack, fpick, frame, fsplit, fsplit3, join, keep, later, move, pick, prop, qed, raw, rewrite, runs}
pub use types.Kit.{some, split, suffices, use1, use2, use3, ‵, ⋆}
pub use types.Part.{agg, look_in, sub, whole}
pub use types.Run.{addr, again, alloc0, alloc1, and_then, assigns, bin, enter, exec, false_lit, fld, forget, free0}
pub use types.Run.{free1, from, hop, init, land, lit, load, look, look_raw, no_more, of_opd, params1, pass0, pass1}
pub use types.Run.{returns, stop, store_raw, true_lit, unit_lit}
pub use types.Tokens.{lent_back, lft_end, lft_new}
pub use sound.WpLaws.{FmC, WpFn-mono, fm_of}
pub use denote.RattleType.{RattleType, owns}
pub use denote.Laws.{Is, shows}
unfoldable pub use denote.Memory.{part_of}
pub use denote.Memory.{cell_at, lone, mem, part_at, pointee}
pub use denote.Plain.{bool_Makes, bool_Tells, bool_vals, uint_Lawful, uint_Makes, uint_Tells, uint_vals}
pub use denote.Builtin.{bool, f32, f64, u64, usize}
pub use denote.Array.{Array, Array-Lawful, Array-Makes, Array-Tells, array_vals}
pub use denote.Ref.{MutRef, Bor, MutBor, ShrRef, mut_Tells, shr_vals, mut_vals, shr_copy, shr_Tells}
pub use denote.Slice.{Room, ShrSlice, finally, mut_slice_Tells, shr_slice_copy, shr_slice_Tells, shr_slice_vals}
pub use denote.Slice.{mut_slice_vals, slice_ty}
pub use denote.Slice.{slice_val}
pub use denote.Lend.{lends_ref, lends_shr_slice, ref_back}
pub use denote.Signature.{plain}
pub use denote.Steps.{closes, heard, nothing, only, opens, owned, peeks}
pub use denote.Struct.Steps.{spelt}
pub use denote.Triple.Statement.{Contract, Triple}
pub use denote.Triple.Call.{calls_at, calls_at_last}
pub use denote.Triple.Entry.{Args, Vals, on_entry}
pub use denote.Triple.Spec.{Meets, triple_of}
pub use denote.Triple.Table.{cited, entered}
pub use denote.Triple.Walked.{AllGo, Stays, Walks, ends_at, gave_slice, Goes-gave_slice, Goes-none, Goes-none_ref}
pub use denote.Triple.Walked.{Goes-none_slice, Goes-ref, Goes-slice, needs, says, stay_none, stay_none_ref}
pub use denote.Triple.Walked.{stay_none_slice, stay_ref, stay_slice, walk_Meets, walk_of, walked}
pub use denote.Triple.Clauses.{Lasts, ensured, lasts}
pub use denote.Exit.{yes}

-- a pair, so that tuples nested to the right lie on a line
infixr 2 ◌&◌
abbrev pub ◌&◌ {α β} : {X : Type α} {Y : Type β} → X → Y → X × Y
x & y = (x, y)
