use mathlib.Core.Path.{◌≡◌}
use mathlib.Core.Logic.{inl, inr, ⊎_elim}
use borrow.Author.Tests.{ne_eqb}
use Rattle.answers.specs.Answers.{is_full}
use Rattle.answers.proofs.is_full.Goals as goal

pub returns-in-19 : goal.returns-in-19
unfolding is_full
returns-in-19 c = ⊎_elim
    (λ (e : c.number.result ≡ 19). rw (← c.number.ensures, e))
    (λ (e : c.number.result ≡ 23). rw (← c.number.ensures, e))
    c.in-19.is

pub returns-in_default : goal.returns-in_default
unfolding is_full
returns-in_default c = let r = c.in_default.in_default-own.rest in rw (← c.number.ensures, ne_eqb c.number.result 19 (λ e. r.1 (inl e)), ne_eqb c.number.result 23 (λ e. r.1 (inr e)))
