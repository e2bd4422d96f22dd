-- The verdict of an item is the first of the table's rows 12 to 15 that applies to it.
-- Assumes nothing.
use Rattle.std.proofs.Common.{Result, Ok, Err}
use mathlib.Core.Path.{◌≡◌, refl, sym, ap, ◌∙◌}
use mathlib.Core.Bool.{Bool, true, false, not, cond}
use mathlib.Core.List.{List, [], ◌∷◌}
use Prim.Native.Nat.{ℕ}
use Rattle.kinds.specs.declared.Kind.{Kind}
use Rattle.kinds.specs.declared.Kind.TheVariants.{Shown}
use Rattle.elements.specs.Elements.{elements}
use Rattle.elements.specs.declared.Element.{Element}
use Rattle.declarations.specs.declared.Declared.{Declared}
use Rattle.declarations.specs.Declarations.{variable_declared, counter_declared}
use Rattle.reach.specs.declared.DataFault.TheVariants.{Undeclared as Unnamed, Past as TooFar}
use Rattle.reach.specs.Answers.{undeclared_by, past_by, some_of, leftmost, data_answer}
use Rattle.summary.specs.Summary.{judged as fit_always}
use Rattle.fitness.specs.Judged.{with_fit, data_judged}
use Rattle.grammar.specs.Named.{DECLARED-AT}
use Rattle.grammar.specs.declared.Item.{Item}
use Rattle.grammar.specs.declared.Item.TheVariants.{Origin, Variable, Counter, Text, Bars, Box, Frame, Slant, Picture, Format}
use Rattle.recording.specs.declared.Refusal.{Refusal}
use Rattle.recording.specs.declared.Refusal.TheVariants.{Again as Before, Undeclared as Unknown, Past as Reaches, Unfit as Wrong}
use Rattle.recording.specs.Judged.{of_data, judged}
use Rattle.answers.specs.declared.Answer.{Answer}
use Rattle.answers.specs.declared.Answer.TheVariants.{Again, Undeclared, Past, Unfit}
use Rattle.answers.specs.Answers.{Row, row, answer_of}
use Rattle.item_commands.specs.Items.{
  declared_before,
  not_declared,
  reaches_past,
  unfit_data,
  shown_by,
  leftmost_in,
  data_place,
  fit_rows,
  verdict_answer,
  judgement_answer,
  data_answer_of,
}

-- the first of four tests that applies, where 13, 14 and 15 point to u, p and at
abbrev pub first_verdict : (u p at : ℕ) → Bool → Bool → Bool → Bool → Result Unit Refusal
first_verdict u p at a b c e = cond a (Err (Before DECLARED-AT)) (cond b (Err (Unknown u)) (cond c (Err (Reaches p)) (cond e (Err (Wrong at)) (Ok tt))))

again-first : (b : Bool) → cond b (Err (Before DECLARED-AT)) (Ok tt) ≡ first_verdict 0 0 0 b false false false
again-first true = refl
again-first false = refl

data-first :
    (m n at : ℕ) (u p f : Bool) → of_data at (cond u (Err (Unnamed m)) (cond p (Err (TooFar n)) (Ok tt))) f ≡ first_verdict m n at false u p (not f)
data-first m n at true p f = refl
data-first m n at false true f = refl
data-first m n at false false true = refl
data-first m n at false false false = refl

pub first-verdict :
    (d : Declared) (line : List ℕ) (it : Item) →
    judged d line it
    ≡ first_verdict (leftmost_in (undeclared_by d) line (shown_by it)) (leftmost_in (past_by d) line (shown_by it)) (data_place (shown_by it)) (declared_before d it)
    (not_declared d line (shown_by it))
    (reaches_past d line (shown_by it))
    (unfit_data d line (shown_by it))
unfolding judged data_answer declared_before not_declared reaches_past unfit_data
first-verdict d line (Origin o) = refl
first-verdict d line (Variable v) = again-first (variable_declared d v.n)
first-verdict d line (Counter c) = again-first (counter_declared d c.n)
first-verdict d line (Text t) =
    data-first (leftmost (undeclared_by d) (elements line t.at)) (leftmost (past_by d) (elements line t.at)) t.at
    (some_of (undeclared_by d) (elements line t.at))
    (some_of (past_by d) (elements line t.at))
    (fit_always line d (elements line t.at) Shown)
first-verdict d line (Bars b) =
    data-first (leftmost (undeclared_by d) (elements line b.at)) (leftmost (past_by d) (elements line b.at)) b.at
    (some_of (undeclared_by d) (elements line b.at))
    (some_of (past_by d) (elements line b.at))
    (fit_always line d (elements line b.at) b.kind)
first-verdict d line (Box r) = refl
first-verdict d line (Frame f) = refl
first-verdict d line (Slant l) = refl
first-verdict d line (Picture p) = refl
first-verdict d line (Format f) = refl

-- ---- as the table's answers

-- the answer of a verdict, or what comes after
abbrev pub pick_answer_of : Result Unit Refusal → List Row → Answer
pick_answer_of (Ok u) rows = answer_of rows
pick_answer_of (Err (Before p)) rows = Again p
pick_answer_of (Err (Unknown p)) rows = Undeclared p
pick_answer_of (Err (Reaches p)) rows = Past p
pick_answer_of (Err (Wrong p)) rows = Unfit p

rows-first :
    (u p at : ℕ) (a b c e : Bool) (rows : List Row) →
    answer_of (row (Again DECLARED-AT) a ∷ row (Undeclared u) b ∷ row (Past p) c ∷ row (Unfit at) e ∷ rows)
    ≡ pick_answer_of (first_verdict u p at a b c e) rows
unfolding answer_of
rows-first u p at true b c e rows = refl
rows-first u p at false true c e rows = refl
rows-first u p at false false true e rows = refl
rows-first u p at false false false true rows = refl
rows-first u p at false false false false rows = refl

pub fit-first : (d : Declared) (line : List ℕ) (it : Item) (rows : List Row) → answer_of (fit_rows d line it rows) ≡ pick_answer_of (judged d line it) rows
fit-first d line it rows =
    rows-first (leftmost_in (undeclared_by d) line (shown_by it)) (leftmost_in (past_by d) line (shown_by it)) (data_place (shown_by it)) (declared_before d it)
    (not_declared d line (shown_by it))
    (reaches_past d line (shown_by it))
    (unfit_data d line (shown_by it))
    rows
    ∙ ap (λ (v : Result Unit Refusal). pick_answer_of v rows) (sym (first-verdict d line it))

pub fit-answer : (d : Declared) (line : List ℕ) (it : Item) → verdict_answer (judged d line it) ≡ answer_of (fit_rows d line it [])
unfolding answer_of
fit-answer d line it = sym (fit-first d line it [] ∙ alone (judged d line it))
  where
    alone : (v : Result Unit Refusal) → pick_answer_of v [] ≡ verdict_answer v
    alone (Ok u) = refl
    alone (Err (Before p)) = refl
    alone (Err (Unknown p)) = refl
    alone (Err (Reaches p)) = refl
    alone (Err (Wrong p)) = refl

-- ---- the same of what judges data alone: 13, 14 and 15, and 13 and 14

pub judgement-first :
    (d : Declared) (line : List ℕ) (at : ℕ) (es : List Element) (kind : Kind) →
    judgement_answer at (data_judged d line es kind)
    ≡ answer_of
    (row (Undeclared (leftmost (undeclared_by d) es)) (some_of (undeclared_by d) es)
    ∷ row (Past (leftmost (past_by d) es)) (some_of (past_by d) es)
    ∷ row (Unfit at) (not (fit_always line d es kind))
    ∷ [])
unfolding data_answer answer_of
judgement-first d line at es kind = by (some_of (undeclared_by d) es) (some_of (past_by d) es) (fit_always line d es kind)
  where
    by : (u p f : Bool) →
        judgement_answer at (with_fit (cond u (Err (Unnamed (leftmost (undeclared_by d) es))) (cond p (Err (TooFar (leftmost (past_by d) es))) (Ok tt))) f)
        ≡ answer_of (row (Undeclared (leftmost (undeclared_by d) es)) u ∷ row (Past (leftmost (past_by d) es)) p ∷ row (Unfit at) (not f) ∷ [])
    by true p f = refl
    by false true f = refl
    by false false true = refl
    by false false false = refl

pub data-answer-first :
    (d : Declared) (es : List Element) →
    data_answer_of (data_answer d es)
    ≡ answer_of
    (row (Undeclared (leftmost (undeclared_by d) es)) (some_of (undeclared_by d) es) ∷ row (Past (leftmost (past_by d) es)) (some_of (past_by d) es) ∷ [])
unfolding data_answer answer_of
data-answer-first d es = by (some_of (undeclared_by d) es) (some_of (past_by d) es)
  where
    by : (u p : Bool) →
        data_answer_of (cond u (Err (Unnamed (leftmost (undeclared_by d) es))) (cond p (Err (TooFar (leftmost (past_by d) es))) (Ok tt)))
        ≡ answer_of (row (Undeclared (leftmost (undeclared_by d) es)) u ∷ row (Past (leftmost (past_by d) es)) p ∷ [])
    by true p = refl
    by false true = refl
    by false false = refl
