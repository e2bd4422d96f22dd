-- What a command leaves of everything it is lent: as its table answers, or as it was.
-- Assumes nothing.
use Rattle.std.specs.Prelude.{ℕ, cond, List, length}
use Rattle.std.proofs.lemmas.List.Edits.{sets}
use Rattle.session.specs.declared.Session.{Session}
use Rattle.answers.specs.declared.Answer.{Answer}
use Rattle.answers.specs.declared.Answer.TheVariants.{Taken}
use Rattle.answers.specs.Answers.{is_taken}
use Rattle.lent.specs.Lent.{World}
use Rattle.results.specs.declared.Done.{Done}
use Rattle.results.specs.World.{State}

abbrev pub done : Answer → Session → ℕ → Done
done a s k = record { answer = a; session = s; written = k }

-- a command over a part x of what it is lent: taken it leaves t, refused the part as it was
abbrev pub settles : {A : Type 0} → Answer → Session → A → Done × A → Done × A
settles a s x t = cond (is_taken a) t (done a s 0, x)

-- what a command leaves of everything it is lent
pub record Ran : Type 0 where
  pub done : Done
  pub world : World
  pub output : List ℕ

abbrev pub ran : Done → World → List ℕ → Ran
ran r w o = record { done = r; world = w; output = o }

-- taken it leaves the state st and writes the bytes to the output, refused all is as it was
abbrev pub ran_by : Answer → Session → World → List ℕ → State → List ℕ → Ran
ran_by a s w o st bytes =
    cond (is_taken a) (ran (done Taken st.session (length bytes)) st.world (sets o 0 bytes)) (ran (done a s 0) w o)
