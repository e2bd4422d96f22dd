-- The ten proof cases of paper 01: what the definitions give for the table is what the table expects.
-- Assumes nothing.
use mathlib.Core.Path.{◌≡◌, refl, ap}
use mathlib.Core.List.{List, [], ◌∷◌, ◌++◌}
use lib.ListN.{replicate}
use Rattle.kinds.specs.Text.{bytes}
use Rattle.counters.specs.Counters.{counter_value}
use Rattle.answers.specs.declared.Answer.TheVariants.{Taken, Unended, Long, Limits, Illegal}
use Rattle.cases.specs.Calls.{Stand, start, calls}
use Rattle.cases.specs.Table.{Case, gives, wrong_picture, table, given, expected}
use Rattle.cases.proofs.Opened.{computed, bars}
use Rattle.cases.proofs.Laws.{answered, answer-of}
use Rattle.cases.proofs.Sample.{w0, s0, sound-0, legal-font, opening, nine, twelve}

-- ---- (8) to (10): one call after opening

q80 : (calls 1 (bytes "q80\n") start).answers ≡ 0 ∷ []
unfolding computed w0
q80 = answer-of s0 w0 (replicate 18240 0) (bytes "q80\n") _ opening (answered s0 w0 (bytes "q80\n") Taken refl legal-font sound-0 refl)

q79 : (calls 1 (bytes "q79\n") start).answers ≡ 7 ∷ []
unfolding computed w0
q79 = answer-of s0 w0 (replicate 18240 0) (bytes "q79\n") _ opening (answered s0 w0 (bytes "q79\n") (Limits 1) refl legal-font sound-0 refl)

short : (calls 1 (replicate 255 65) start).answers ≡ 4 ∷ []
unfolding computed w0
short = answer-of s0 w0 (replicate 18240 0) (replicate 255 65) _ opening (answered s0 w0 (replicate 255 65) Unended refl legal-font sound-0 refl)

long : (calls 1 (replicate 256 65) start).answers ≡ 5 ∷ []
unfolding computed w0
long = answer-of s0 w0 (replicate 18240 0) (replicate 256 65) _ opening (answered s0 w0 (replicate 256 65) Long refl legal-font sound-0 refl)

illegal : (calls 1 (bytes "GM\"A\",134\n" ++ wrong_picture) start).answers ≡ 16 ∷ []
unfolding computed w0
illegal =
    answer-of s0 w0 (replicate 18240 0) (bytes "GM\"A\",134\n" ++ wrong_picture) _ opening
    (answered s0 w0 (bytes "GM\"A\",134\n" ++ wrong_picture) Illegal refl legal-font sound-0 refl)

-- ---- row by row

abbrev Holds : List Case → Type 0
Holds [] = Unit {0}
Holds (c ∷ cs) = (gives c.asked ≡ c.expected) × Holds cs

together : (cs : List Case) → Holds cs → given cs ≡ expected cs
together [] h = refl
together (c ∷ cs) h = λ i. h.0 i ∷ together cs h.1 i

rows : Holds table
unfolding computed bars
rows = (
  ap (λ (t : Stand). t.answers) nine,
  (
    ap (λ (t : Stand). t.listed) nine,
    (
      ap (λ (t : Stand). counter_value t.session.counters 0 ∷ []) nine,
      (
        ap (λ (t : Stand). t.answers) twelve,
        (
          ap (λ (t : Stand). t.black) twelve,
          (
            ap (λ (t : Stand). counter_value t.session.counters 0 ∷ []) twelve,
            (refl, (refl, (refl, (refl, (refl, (refl, (refl, (q80, (q79, (short, (long, (illegal, tt)))))))))))),
          ),
        ),
      ),
    ),
  ),
)

-- "One statement over one table covers these ten"
pub cases : given table ≡ expected table
cases = together table rows
