-- Types that own only facts, and the parameters of a function that is walked. Assumes nothing.
--     Data R           R is plain data: its machine value, its laws, and that what it owns is had for nothing
--     word, flag, unit, struct    `usize` and `u64`, `bool`, `()`, and a declared type, by its laws
--     Param s k        what a walk says of a parameter: what is had of it at exit, its machine values, and their laws
--     plainly, shared, pointed, changed, passed_on    data; a `&[T]`; a `&`; a `&mut [T]` that is had at exit; and one
--                      that was given to a callee for good
--     met_by           a function meets its contract where its walk from the entry does (`Walk`)
use types.Logic.{Logic}
use denote.Slice.{shr_slice_vals, mut_slice_vals}
use denote.Ref.{shr_vals}
use Rattle.walks.proofs.Kit.{◌≡◌, refl, sym, subst, ℕ, List, [], ◌∷◌, Ura, w64, Val, vint, vbool, vunit, ent}
use Rattle.walks.proofs.Kit.{sep, ftrue, WpFn, Tables, Lfts, AllOutlive, WpFn-mono}
use Rattle.walks.proofs.Kit.{RattleType, Is, uint_Tells, uint_Makes, uint_Lawful, bool_Tells, bool_Makes, usize}
use Rattle.walks.proofs.Kit.{bool, shr_Tells, shr_slice_Tells, mut_slice_Tells, plain}
use Rattle.walks.proofs.Kit.{Meets, Args, on_entry, Stays, stay_none, stay_none_slice, stay_none_ref, stay_slice}
use Rattle.walks.proofs.Kit.{gave_slice, walk_of, AllGo, Goes-none, Goes-none_slice, Goes-none_ref, Goes-slice}
use Rattle.walks.proofs.Kit.{Goes-gave_slice, walked, walk_Meets, yes, Triple, triple_of, entered}
use Rattle.walks.proofs.Kit.{tables, tables_of}
use mir.Syntax.{Fn}
use prog.Wp.{Closed}
use prog.Model.{Model}
use mir.Syntax.{Callee as Name}
use prog.Routine.{Env as Names}
use contract.Running.{Running}
use contract.Lifetimes.{Shares}
use denote.RattleType.{flat, Valss}
use denote.Laws.{Tells, Tellss, Lawful, Makes, Spells, Are, Ises, valss}
use denote.Plain.{Nothing, bool_Lawful, Nothing-Tells, Nothing-Lawful, Nothing-Makes}
use denote.Exit.{Kept, Exit, unchanged, Last, left}
use denote.Struct.Struct.{Plains}
use denote.Struct.Declared.{Declared, fields, row}
use denote.Struct.Laws as LL
use denote.Signature.{Slot, AllWithin, name_of, meet_at, shr_slice_of, shr_ref_to, mut_slice_of, types_at}
use denote.Triple.End.{Kepts}
use denote.Triple.Clauses.{Ended, Clauses, closing}
use denote.Triple.Walked.{Stay, Goes}

pub record Data (R : RattleType) : Type 2 where
  pub val : R.Denot → Val
  pub tells : Tells R (Is R) (λ x. val x ∷ [])
  pub still : (k : Kept) (x : R.Denot) (w : Last (R.exit k) x) → left (R.exit k) x w ≡ ftrue
  pub lawful : {M : Type 1} {𝓤 : Ura M} (𝓛 : Logic 𝓤) → Lawful 𝓛 R
  pub makes : {M : Type 1} {𝓤 : Ura M} (𝓛 : Logic 𝓤) → Makes 𝓛 R (Is R)

abbrev pub word : Data usize
word = record {
  val = vint w64;
  tells = uint_Tells w64;
  still = λ k x w. refl;
  lawful = λ 𝓛. uint_Lawful 𝓛 w64;
  makes = λ 𝓛. uint_Makes 𝓛 w64;
}

abbrev pub flag : Data bool
flag = record {
  val = vbool;
  tells = bool_Tells;
  still = λ k x w. refl;
  lawful = bool_Lawful;
  makes = bool_Makes;
}

abbrev pub unit : Data Nothing
unit = record {
  val = λ _. vunit;
  tells = Nothing-Tells;
  still = λ k x w. refl;
  lawful = Nothing-Lawful;
  makes = Nothing-Makes;
}

pub still_left : {D : Type 0} (e : Exit D) → e ≡ unchanged → (x : D) (w : Last e x) → left e x w ≡ ftrue
still_left {D} e p = subst (λ (e' : Exit D). (x : D) (w : Last e' x) → left e' x w ≡ ftrue) (sym p) (λ x w. refl)

abbrev pub struct : (T : Declared) (L : LL.Laws T) → Plains (fields T) → LL.Copyables T.parts → Data (row T)
struct T L P C = record {
  val = LL.val T L;
  tells = LL.tells T L;
  still = λ k. still_left ((row T).exit k) (LL.still T C k);
  lawful = λ 𝓛. LL.lawful T L 𝓛;
  makes = λ 𝓛. LL.makes T P 𝓛;
}

pub record Param {n : ℕ} (s : Slot n) (k : Kept) : Type 2 where
  pub stay : Stay s k
  pub vals : (κs : Lfts n) → (s.row κs).Denot → List Val
  pub tells : (κs : Lfts n) → Tells (s.row κs) (Is (s.row κs)) (vals κs)
  pub goes : {M : Type 1} {𝓤 : Ura M} (𝓛 : Logic 𝓤) → Goes 𝓛 n s k stay

module _ {n : ℕ} where
  abbrev pub plainly : {R : RattleType} → Data R → Param {n = n} (plain (λ _. R)) yes
  plainly {R} d = record {
    stay = stay_none (λ _. R) yes;
    vals = λ κs x. d.val x ∷ [];
    tells = λ κs. d.tells;
    goes = λ 𝓛. Goes-none 𝓛 n (λ _. R) yes (λ κs. d.still yes);
  }

  abbrev pub shared : (j : ℕ) (ok : AllWithin n (j ∷ [])) (R : RattleType) → Param {n = n}
      (shr_slice_of (j ∷ []) ok (plain (λ _. R))) yes
  shared j ok R = record {
    stay = stay_none_slice (j ∷ []) ok (plain (λ _. R)) yes;
    vals = λ κs. shr_slice_vals;
    tells = λ κs. shr_slice_Tells (name_of (j ∷ [])) (meet_at n (j ∷ []) ok κs) R;
    goes = λ 𝓛. Goes-none_slice 𝓛 n (j ∷ []) ok (plain (λ _. R)) yes;
  }

  abbrev pub pointed : (j : ℕ) (ok : AllWithin n (j ∷ [])) (s : Slot n) → Param {n = n} (shr_ref_to (j ∷ []) ok s) yes
  pointed j ok s = record {
    stay = stay_none_ref (j ∷ []) ok s yes;
    vals = λ κs. shr_vals;
    tells = λ κs. shr_Tells (name_of (j ∷ [])) (meet_at n (j ∷ []) ok κs) (s.row κs);
    goes = λ 𝓛. Goes-none_ref 𝓛 n (j ∷ []) ok s yes;
  }

  abbrev pub changed : (j : ℕ) (ok : AllWithin n (j ∷ [])) (R : RattleType) → Param {n = n}
      (mut_slice_of (j ∷ []) ok (plain (λ _. R))) yes
  changed j ok R = record {
    stay = stay_slice (j ∷ []) ok (plain (λ _. R));
    vals = λ κs. mut_slice_vals;
    tells = λ κs. mut_slice_Tells (name_of (j ∷ [])) (meet_at n (j ∷ []) ok κs) R;
    goes = λ 𝓛. Goes-slice 𝓛 n j ok (plain (λ _. R));
  }

  abbrev pub passed_on : (j : ℕ) (ok : AllWithin n (j ∷ [])) (R : RattleType) → Param {n = n}
      (mut_slice_of (j ∷ []) ok (plain (λ _. R))) yes
  passed_on j ok R = record {
    stay = gave_slice (j ∷ []) ok (plain (λ _. R));
    vals = λ κs. mut_slice_vals;
    tells = λ κs. mut_slice_Tells (name_of (j ∷ [])) (meet_at n (j ∷ []) ok κs) R;
    goes = λ 𝓛. Goes-gave_slice 𝓛 n j ok (plain (λ _. R));
  }

  abbrev pub Params : (ss : List (Slot n)) → Kepts ss → Type 2
  Params [] ks = Unit {2}
  Params (s ∷ ss) ks = Param s ks.0 × Params ss ks.1

  abbrev pub stays : (ss : List (Slot n)) (ks : Kepts ss) → Params ss ks → Stays ss ks
  stays [] ks ps = tt
  stays (s ∷ ss) ks ps = (ps.0.stay, stays ss ks.1 ps.1)

  abbrev pub spells : (ss : List (Slot n)) (ks : Kepts ss) → Params ss ks → (κs : Lfts n) → Spells (types_at ss κs)
  spells [] ks ps κs = tt
  spells (s ∷ ss) ks ps κs = (ps.0.vals κs, spells ss ks.1 ps.1 κs)

  tell : (ss : List (Slot n)) (ks : Kepts ss) (ps : Params ss ks) (κs : Lfts n)
      → Tellss (types_at ss κs) (Ises (types_at ss κs)) (spells ss ks ps κs)
  tell [] ks ps κs = tt
  tell (s ∷ ss) ks ps κs = (ps.0.tells κs, tell ss ks.1 ps.1 κs)

  go : {M : Type 1} {𝓤 : Ura M} (𝓛 : Logic 𝓤) (ss : List (Slot n)) (ks : Kepts ss)
      (ps : Params ss ks) → AllGo 𝓛 n ss ks (stays ss ks ps)
  go 𝓛 [] ks ps = tt
  go 𝓛 (s ∷ ss) ks ps = (ps.0.goes 𝓛, go 𝓛 ss ks.1 ps.1)

abbrev pub Params-of : Ended → Type 2
Params-of T = Params T.signature.params T.kept

abbrev pub stays_of : (T : Ended) → Params-of T → Stays T.signature.params T.kept
stays_of T = stays T.signature.params T.kept

-- the machine values that a is passed as
abbrev pub vals_of : (T : Ended) → Params-of T → (κs : Lfts T.signature.lifetimes) → Args T.signature κs
    → Valss (types_at T.signature.params κs)
vals_of T ps κs = valss (types_at T.signature.params κs) (spells T.signature.params T.kept ps κs)

-- a walk from the entry, with the machine values written out and the parameters' relations in hand
abbrev pub Walk : {M : Type 1} {𝓤 : Ura M} (𝓛 : Logic 𝓤) (T : Ended) (ps : Params-of T) (c : Clauses 𝓤 T)
    (𝓣 : Tables 𝓤 𝓛.H) → Fn → Type 1
Walk {𝓤 = 𝓤} 𝓛 T ps c 𝓣 e =
    (κs : Lfts T.signature.lifetimes) (qs : Shares T.signature.lifetimes)
    (bounds : AllOutlive T.signature.lifetimes T.signature.outlives κs) (a : Args T.signature κs)
    (g : (c κs a).ghost)
    → Are (types_at T.signature.params κs) (Ises (types_at T.signature.params κs)) a (vals_of T ps κs a)
    → ent 𝓤 (sep 𝓤 (on_entry 𝓛 T.signature κs qs a (vals_of T ps κs a)) ((c κs a).requires g))
    (WpFn 𝓤 𝓛.H 𝓣.C 𝓣.Λ e (flat (types_at T.signature.params κs) (vals_of T ps κs a))
    ((walk_of 𝓛 T (stays_of T ps) c).post ((κs, qs, bounds, a, vals_of T ps κs a), g)))

meets_by : {M : Type 1} {𝓤 : Ura M} (𝓛 : Logic 𝓤) (T : Ended) (ps : Params-of T)
    (c : Clauses 𝓤 T) (𝓣 : Tables 𝓤 𝓛.H) (e : Fn) → Walk 𝓛 T ps c 𝓣 e
    → Meets 𝓛 T.signature (WpFn 𝓤 𝓛.H 𝓣.C 𝓣.Λ e) (closing 𝓛 T c)
meets_by {𝓤 = 𝓤} 𝓛 T ps c 𝓣 e walk =
    walk_Meets 𝓛 T (stays_of T ps) (go 𝓛 T.signature.params T.kept ps) c (WpFn 𝓤 𝓛.H 𝓣.C 𝓣.Λ e)
    (WpFn-mono 𝓤 𝓛.H 𝓛.laws 𝓣 e)
    (walked 𝓛 T (stays_of T ps) c (WpFn 𝓤 𝓛.H 𝓣.C 𝓣.Λ e) (spells T.signature.params T.kept ps)
    (tell T.signature.params T.kept ps) walk)

-- the same, as the function's theorem states it: over the tables of its code's environment
pub met_by : {M : Type 1} {𝓤 : Ura M} (𝓛 : Logic 𝓤) (𝓜 : Model 𝓤 𝓛.H) (𝓡 : Running 𝓤 𝓛.H 𝓜) (T : Ended)
    (ps : Params-of T) (c : Clauses 𝓤 T) (γ : Names) (k : Name) (e : Fn)
    → Closed 𝓤 𝓛.H (tables 𝓤 𝓛.H 𝓜 𝓡 γ).C (tables 𝓤 𝓛.H 𝓜 𝓡 γ).Λ k e
    → Walk 𝓛 T ps c (tables_of 𝓤 𝓛.H 𝓜 (tables 𝓤 𝓛.H 𝓜 𝓡 γ)) e
    → Triple 𝓤 ((tables 𝓤 𝓛.H 𝓜 𝓡 γ).C k) (triple_of 𝓛 T.signature (closing 𝓛 T c))
unfolding tables_of
met_by {𝓤 = 𝓤} 𝓛 𝓜 𝓡 T ps c γ k e closed walk =
    entered 𝓤 𝓛.H (triple_of 𝓛 T.signature (closing 𝓛 T c)) (tables 𝓤 𝓛.H 𝓜 𝓡 γ).C
    (tables 𝓤 𝓛.H 𝓜 𝓡 γ).Λ k e
    closed (meets_by 𝓛 T ps c (tables_of 𝓤 𝓛.H 𝓜 (tables 𝓤 𝓛.H 𝓜 𝓡 γ)) e walk)
