-- What entering a value answers is the first of the table's rows 13 and 17 that applies; where a variable is not taken the values are as they were.
-- Assumes nothing.
use Rattle.std.proofs.Common.{Result, Ok, Err}
use mathlib.Core.Path.{◌≡◌, refl, sym, ap, ◌∙◌, subst}
use mathlib.Core.Bool.{Bool, true, false, not, cond, true≢false}
use mathlib.Core.List.{List, [], ◌∷◌}
use Prim.Native.Nat.{ℕ, ◌*◌}
use lib.Dec.{ltb}
use lib.Seq.{sets}
use Rattle.declarations.specs.declared.Declared.{Declared}
use Rattle.declarations.specs.declared.Refused.{Refused}
use Rattle.declarations.specs.declared.Refused.TheVariants.{Undeclared as NotDeclared, Unfit as DoesNotFit}
use Rattle.stored_values.specs.Stored.{Stored, stored, variable_entered, field}
use Rattle.padding.specs.Padding.{enters, padded}
use Rattle.counters.specs.declared.Counters.{Counters}
use Rattle.declarations.specs.Declarations.{variable_declared, counter_declared, side_at, length_at, width_at}
use Rattle.counters.specs.Counters.{counter_entered, counters_after, ten_to}
use Rattle.grammar.specs.Named.{ENTERED-AT}
use Rattle.session.specs.declared.Session.{Session}
use Rattle.session.specs.Session.{counting}
use Rattle.answers.specs.declared.Answer.{Answer}
use Rattle.answers.specs.declared.Answer.TheVariants.{Taken, Undeclared, Misfit}
use Rattle.answers.specs.Answers.{row, answer_of, is_taken, number_of}
use Rattle.lent.specs.Lent.{World, world}
use Rattle.results.specs.Result.{Ran, done, ran}
use Rattle.value_commands.specs.Values.{refusal_answer, entered_answer}

-- ---- the first row

first-entered :
    (a b : Bool) (x y z : Stored) → x.answer ≡ Ok tt → y.answer ≡ Err DoesNotFit → z.answer ≡ Err NotDeclared →
    answer_of (row (Undeclared ENTERED-AT) (not a) ∷ row Misfit (not b) ∷ []) ≡ entered_answer (cond a (cond b x y) z).answer
unfolding answer_of
first-entered true true x y z e f g = sym (ap entered_answer e)
first-entered true false x y z e f g = sym (ap entered_answer f)
first-entered false b x y z e f g = sym (ap entered_answer g)

pub variable-first :
    (d : Declared) (n : ℕ) (text v : List ℕ) →
    answer_of (row (Undeclared ENTERED-AT) (not (variable_declared d n)) ∷ row Misfit (not (enters (side_at d n) (length_at d n) text)) ∷ [])
    ≡ entered_answer (variable_entered d n text v).answer
unfolding variable_entered
variable-first d n text v = first-entered (variable_declared d n) (enters (side_at d n) (length_at d n) text) _ _ _ refl refl refl

first_counted :
    (a b : Bool) (after : Counters) →
    answer_of (row (Undeclared ENTERED-AT) (not a) ∷ row Misfit (not b) ∷ []) ≡ entered_answer (cond a (cond b (Ok after) (Err DoesNotFit)) (Err NotDeclared))
unfolding answer_of
first_counted true true after = refl
first_counted true false after = refl
first_counted false b after = refl

pub counter-first :
    (d : Declared) (c : Counters) (n v : ℕ) →
    answer_of (row (Undeclared ENTERED-AT) (not (counter_declared d n)) ∷ row Misfit (not (ltb v (ten_to (width_at d n)))) ∷ [])
    ≡ entered_answer (counter_entered d c n v)
unfolding counter_entered
counter-first d c n v = first_counted (counter_declared d n) (ltb v (ten_to (width_at d n))) _

-- ---- the values

abbrev pub is_entered : Result Unit Refused → Bool
is_entered (Ok u) = true
is_entered (Err r) = false

kept-choice :
    (p q : Bool) (u v : List ℕ) →
    is_entered (cond p (cond q (stored (Ok tt) u) (stored (Err DoesNotFit) v)) (stored (Err NotDeclared) v)).answer ≡ false →
    (cond p (cond q (stored (Ok tt) u) (stored (Err DoesNotFit) v)) (stored (Err NotDeclared) v)).values ≡ v
kept-choice true true u v h = absurd (true≢false h)
kept-choice true false u v h = refl
kept-choice false q u v h = refl

variable-kept :
    (d : Declared) (n : ℕ) (text v : List ℕ) → is_entered (variable_entered d n text v).answer ≡ false → (variable_entered d n text v).values ≡ v
unfolding variable_entered
variable-kept d n text v h =
    kept-choice (variable_declared d n) (enters (side_at d n) (length_at d n) text)
    (sets v (34 * n) (field (padded (side_at d n) (length_at d n) text))) v h

entered-cases :
    (e : Result Unit Refused) (s : Session) (b st l d v v' o : List ℕ) → (is_entered e ≡ false → v' ≡ v) →
    ran (done (entered_answer e) s 0) (world b st l d v') o
    ≡ cond (is_taken (entered_answer e)) (ran (done Taken s 0) (world b st l d v') o)
    (ran (done (entered_answer e) s 0) (world b st l d v) o)
unfolding answer_of is_taken number_of
entered-cases (Ok u) s b st l d v v' o h = refl
entered-cases (Err NotDeclared) s b st l d v v' o h = ap (λ (k : List ℕ). ran (done (Undeclared ENTERED-AT) s 0) (world b st l d k) o) (h refl)
entered-cases (Err DoesNotFit) s b st l d v v' o h = ap (λ (k : List ℕ). ran (done Misfit s 0) (world b st l d k) o) (h refl)

entered_by :
    (dec : Declared) (n : ℕ) (text : List ℕ) (e : Result Unit Refused) (s : Session) (b st l d v v' o : List ℕ) → stored e v' ≡ variable_entered dec n text v →
    ran (done (entered_answer e) s 0) (world b st l d v') o
    ≡ cond (is_taken (entered_answer (variable_entered dec n text v).answer))
    (ran (done Taken s 0) (world b st l d (variable_entered dec n text v).values) o)
    (ran (done (entered_answer (variable_entered dec n text v).answer) s 0) (world b st l d v) o)
entered_by dec n text e s b st l d v v' o q =
    subst
    (λ (x : Stored).
    ran (done (entered_answer e) s 0) (world b st l d v') o
    ≡ cond (is_taken (entered_answer x.answer)) (ran (done Taken s 0) (world b st l d x.values) o)
    (ran (done (entered_answer x.answer) s 0) (world b st l d v) o))
    q
    (entered-cases e s b st l d v v' o
    (λ h. ap (λ (x : Stored). x.values) q ∙ variable-kept dec n text v (sym (ap (λ (x : Stored). is_entered x.answer) q) ∙ h)))

-- what entering a variable leaves, by its rows
pub variable-by :
    (dec : Declared) (n : ℕ) (text : List ℕ) (e : Result Unit Refused) (s : Session) (b st l d v v' o : List ℕ) → stored e v' ≡ variable_entered dec n text v →
    let a = answer_of (row (Undeclared ENTERED-AT) (not (variable_declared dec n)) ∷ row Misfit (not (enters (side_at dec n) (length_at dec n) text)) ∷ []) in
    ran (done (entered_answer e) s 0) (world b st l d v') o
    ≡ cond (is_taken a) (ran (done Taken s 0) (world b st l d (variable_entered dec n text v).values) o) (ran (done a s 0) (world b st l d v) o)
variable-by dec n text e s b st l d v v' o q =
    entered_by dec n text e s b st l d v v' o q
    ∙ ap (λ (a : Answer). cond (is_taken a) (ran (done Taken s 0) (world b st l d (variable_entered dec n text v).values) o) (ran (done a s 0) (world b st l d v) o))
    (sym (variable-first dec n text v))

-- ---- the counters

abbrev pub left_by : Session → World → List ℕ → Result Counters Refused → Ran
left_by s w o (Ok next) = ran (done Taken (counting s next) 0) w o
left_by s w o (Err r) = ran (done (refusal_answer r) s 0) w o

counted-cases :
    (e : Result Counters Refused) (k : Counters) (s : Session) (w : World) (o : List ℕ) →
    left_by s w o e ≡ cond (is_taken (entered_answer e)) (ran (done Taken (counting s (counters_after k e)) 0) w o) (ran (done (entered_answer e) s 0) w o)
unfolding is_taken number_of
counted-cases (Ok next) k s w o = refl
counted-cases (Err NotDeclared) k s w o = refl
counted-cases (Err DoesNotFit) k s w o = refl

-- what entering a counter leaves, by its rows
pub counter-by :
    (d : Declared) (k : Counters) (n v : ℕ) (e : Result Counters Refused) (s : Session) (w : World) (o : List ℕ) → e ≡ counter_entered d k n v →
    let a = answer_of (row (Undeclared ENTERED-AT) (not (counter_declared d n)) ∷ row Misfit (not (ltb v (ten_to (width_at d n)))) ∷ []) in
    left_by s w o e ≡ cond (is_taken a) (ran (done Taken (counting s (counters_after k (counter_entered d k n v))) 0) w o) (ran (done a s 0) w o)
counter-by d k n v e s w o q =
    ap (left_by s w o) q
    ∙ counted-cases (counter_entered d k n v) k s w o
    ∙ ap (λ (a : Answer). cond (is_taken a) (ran (done Taken (counting s (counters_after k (counter_entered d k n v))) 0) w o) (ran (done a s 0) w o))
    (sym (counter-first d k n v))
