-- What the walk over a line's data has found before each element: 13 and 14 with what is left, and 15 with what is left, are as of the whole.
use Rattle.std.proofs.Common.{Result, Ok, Err}
use mathlib.Core.Path.{◌≡◌, refl, sym, ap, ◌∙◌}
use mathlib.Core.Bool.{true, false, cond}
use mathlib.Core.List.{List}
use Prim.Native.Nat.{ℕ}
use Rattle.kinds.specs.declared.Kind.{Kind}
use Rattle.elements.specs.declared.Element.{Element}
use Rattle.elements.specs.Elements.{element_at, elements, after}
use Rattle.elements.proofs.Steps.{elements-next, elements-stop}
use Rattle.declarations.specs.declared.Declared.{Declared}
use Rattle.reach.specs.declared.DataFault.{DataFault}
use Rattle.reach.specs.declared.DataFault.TheVariants.{Past}
use Rattle.fitness.specs.declared.NotFit.TheVariants.{Undeclared}
use Rattle.summary.specs.declared.Summary.{Summary as Sum}
use Rattle.reach.specs.Answers.{undeclared_by, past_by, or_else, answered, data_answer}
use Rattle.summary.specs.Summary.{judged, summary, summary_of, joined, decided}
use Rattle.fitness.specs.Judged.{with_fit, data_judged}
use Rattle.reach.proofs.Answering.{answered-undeclared, answered-next, answered-stop}
use Rattle.summary.proofs.Summing.{summed, decided-judged}

pub record Walked (line : List ℕ) (at : ℕ) (d : Declared) (kind : Kind) (past : Result Unit DataFault) (s : Sum) (i : ℕ) : Type 0 where
  pub answer : answered d past (elements line i) ≡ data_answer d (elements line at)
  pub sums : summed kind line d s (elements line i) ≡ summed kind line d (summary 0 0 true) (elements line at)

module _ (line : List ℕ) (at : ℕ) (d : Declared) (kind : Kind) where
  pub walked_start : Walked line at d kind (Ok tt) (summary 0 0 true) at
  unfolding data_answer
  walked_start = record { answer = refl; sums = refl }

  module _ (past : Result Unit DataFault) (s : Sum) (i : ℕ) (w : Walked line at d kind past s i) where
    module _ (e : Element) (found : element_at line i ≡ Ok e) where
      pub walked-undeclared : undeclared_by d e.what ≡ true → Err (Undeclared e.at) ≡ data_judged d line (elements line at) kind
      walked-undeclared h = rw (← w.answer, answered-undeclared d past line i e found h)

      pub walked_next :
          undeclared_by d e.what ≡ false →
          Walked line at d kind (or_else past (cond (past_by d e.what) (Err (Past e.at)) (Ok tt))) (joined s (summary_of kind line d e)) (after e)
      walked_next h = record {
        answer = sym (answered-next d past line i e found h) ∙ w.answer;
        sums = rw (elements-next line i e found) at w.sums;
      }

    pub walked_stop : (p : ℕ) → element_at line i ≡ Err p → with_fit past (decided s kind) ≡ data_judged d line (elements line at) kind
    walked_stop p found =
        let a : past ≡ data_answer d (elements line at) = sym (answered-stop d past line i p found) ∙ w.answer in
        let j : decided s kind ≡ judged line d (elements line at) kind =
        ap (λ (t : Sum). decided t kind) (rw (elements-stop line i p found) at w.sums) ∙ decided-judged kind line d (elements line at) in
        rw (a, j)
