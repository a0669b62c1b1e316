-- The laws of an answer under way: a part that has room stands there (`then_room`), one that has none is left out
-- (`then_cut`) with all that would follow it (`cut_then`). And when an answer is given at all (`taken`, `untaken`,
-- `answered`), and to which operation (`chosen`). Assumes nothing.
use Rattle.std.specs.Prelude.{◌≡◌, ◌+◌, ◌≤◌, ◌<◌}
use Rattle.lists.specs.Prelude.{sym, ap, ◌∙◌, List, ℕ, dec_lt, arith, le-leb, lt-leb, eq-eqb, ne_eqb, length}
use Rattle.lists.specs.Placed.{placed}
use Rattle.probe_answer.specs.Answers.{Draft, draft, none, taking, nowhere, cut, ◌then◌}

module _ (size : ℕ) (args out : List ℕ) (answer : Draft) where
  pub taken : length args ≡ size → answer ≡ taking size args out answer
  unfolding taking
  taken e = rw (eq-eqb (length args) size e)

  pub untaken : (length args ≡ size → ⊥) → none out ≡ taking size args out answer
  unfolding taking
  untaken e = rw (ne_eqb (length args) size e)

-- what is shown of a result, where the arguments have the length
pub answered : {R : Type 0} (show : R → Draft) {q r : R} {d : Draft} (size : ℕ) (args out : List ℕ) → length args ≡ size
    → r ≡ q → d ≡ show r → d ≡ taking size args out (show q)
answered show {q} size args out h e p = p ∙ ap show e ∙ taken size args out (show q) h

-- or of what a function makes of what is read
pub called : {R A : Type 0} (show : R → List ℕ → Draft) (f : A → R) {x y : A} {r : R} {d : Draft} (size : ℕ)
    (args out : List ℕ) → d ≡ show r out → r ≡ f x → x ≡ y → length args ≡ size
    → d ≡ taking size args out (show (f y) out)
called show f size args out p e q h = answered (λ r. show r out) size args out h (e ∙ ap f q) p

pub called_two : {R A B : Type 0} (show : R → List ℕ → Draft) (f : A → B → R) {x y : A} {u v : B} {r : R} {d : Draft}
    (size : ℕ) (args out : List ℕ) → d ≡ show r out → r ≡ f x u → x ≡ y → u ≡ v → length args ≡ size
    → d ≡ taking size args out (show (f y v) out)
called_two show f size args out p e q s h = answered (λ r. show r out) size args out h (e ∙ (λ i. f (q i) (s i))) p

-- the answer of a family to the operation that was matched
pub chosen : (answer_of : ℕ → List ℕ → List ℕ → Draft) (k : ℕ) {operation : ℕ} {args out : List ℕ} {d : Draft}
    → d ≡ answer_of k args out → operation ≡ k → d ≡ answer_of operation args out
chosen answer_of k {operation} {args} {out} p e = p ∙ ap (λ (n : ℕ). answer_of n args out) (sym e)

-- and to one of two, which another answers as this does
pub of_two : (F G : ℕ → List ℕ → List ℕ → Draft) (k n : ℕ) {args out : List ℕ} → k ≤ n → n ≤ k + 1
    → F k args out ≡ G k args out → F (k + 1) args out ≡ G (k + 1) args out → F n args out ≡ G n args out
of_two F G k n l h p q =
    elim (dec_lt n (k + 1)) [
      | yes m ↦ let e : n ≡ k = omega arith in rw e p
      | no m ↦ let e : n ≡ k + 1 = omega arith in rw e q
    ]

-- what is answered of lists as long as those that are lent is answered of lists as long as is asked for
pub asked : {X : Type 0} (answer_by : X → List ℕ → List ℕ → Draft) {x y : X} {args out : List ℕ} {d : Draft}
    → d ≡ answer_by x args out → x ≡ y → d ≡ answer_by y args out
asked answer_by {args} {out} p e = p ∙ (λ i. answer_by (e i) args out)

module _ (d : Draft) (part : List ℕ) where
  pub then_room : d.place + length part ≤ length d.bytes
      → d then part ≡ draft (d.place + length part) (placed d.bytes d.place part)
  unfolding ◌then◌
  then_room h = rw (le-leb (d.place + length part) (length d.bytes) h)

  pub then_cut : length d.bytes < d.place + length part → d then part ≡ cut d
  unfolding ◌then◌
  then_cut h = rw (lt-leb (d.place + length part) (length d.bytes) h)

  pub cut_then : length d.bytes < nowhere → cut d then part ≡ cut d
  unfolding ◌then◌
  cut_then h = rw (lt-leb (nowhere + length part) (length d.bytes) (omega arith))
