-- The number of free portions, command by command.
-- Assumes nothing.
use Prim.Native.Nat.{ℕ, suc}
use mathlib.Core.Path.{◌≡◌, refl, ap, ◌∙◌}
use mathlib.Core.Bool.{true}
use mathlib.Core.List.{List, [], ◌∷◌, ◌++◌}
use lib.ListN.{drop, replicate}
use Rattle.pcx.specs.Cases.{header, file}
use Rattle.growing.specs.Keep.{kept}
use Rattle.erasing.specs.Erase.{freed, erased}
use Rattle.calls.specs.Running.{line_table, line_by}
use Rattle.store_sound.specs.Sound.{store_sound}
use Rattle.sound.specs.Sound.{sound}
use Rattle.session.specs.declared.Session.{Session}
use Rattle.lent.specs.Lent.{World}
use Rattle.calls.specs.Outcomes.{After}
use Rattle.calls.specs.Station.{commanded}
use Rattle.cases.specs.Calls.{Stand, start, font, output}
use Rattle.cases.specs.Table.{sample}
use Rattle.cases.specs.FreeRoom.{free_after, recording, portion, links, directory, memory, filled, outgrown, given, expected}
use Rattle.cases.proofs.Opened.{computed}
use Rattle.sound.proofs.Times.{fresh-times}
use Rattle.cases.proofs.Laws.{sound-from, store-from, background, frees}
use Rattle.cases.proofs.Sample.{w0, w1, w2, w3, w4, s0, s1, s5, s7, opening, call-1, call-2, call-3, call-4, call-5, call-6, call-7, call-8, call-9}

-- ---- the sample session

free_on :
    (n : ℕ) (input : List ℕ) (s : Session) (w : World) (a : After) (rest : List ℕ) → commanded s font w output input ≡ a →
    free_after n (drop a.outcome.read input) a.outcome.session a.world ≡ rest → free_after (suc n) input s w ≡ a.outcome.session.free ∷ rest
free_on n input s w a rest e f =
    ap (λ (b : After). b.outcome.session.free ∷ free_after n (drop b.outcome.read input) b.outcome.session b.world) e
    ∙ ap (λ (l : List ℕ). a.outcome.session.free ∷ l) f

-- opening frees all 64 portions, and TEST takes one
sample-numbers : start.session.free ∷ free_after 9 sample start.session start.world ≡ 64 ∷ 63 ∷ 63 ∷ 63 ∷ 63 ∷ 63 ∷ 63 ∷ 63 ∷ 63 ∷ 63 ∷ []
sample-numbers =
    ap (λ (t : Stand). t.session.free ∷ free_after 9 sample t.session t.world) opening
    ∙ ap (λ (l : List ℕ). 64 ∷ l)
    (free_on 8 sample s0 w0 _ _ call-1
    (free_on 7 (drop 9 sample) s1 w1 _ _ call-2
    (free_on 6 (drop 23 sample) s1 w2 _ _ call-3
    (free_on 5 (drop 33 sample) s1 w3 _ _ call-4
    (free_on 4 (drop 36 sample) s1 w4 _ _ call-5
    (free_on 3 (drop 39 sample) s1 w4 _ _ call-6
    (free_on 2 (drop 48 sample) s5 w4 _ _ call-7
    (free_on 1 (drop 51 sample) s5 w4 _ _ call-8
    (free_on 0 (drop 58 sample) s7 w4 _ [] call-9 refl)))))))))

-- ---- the small station

store-recording : store_sound (portion ++ replicate 768 0) links directory ≡ true
unfolding computed
store-recording = store-from (portion ++ replicate 768 0) links directory refl refl refl refl refl refl refl (frees portion 768 links refl refl) refl

pub sound-recording : sound recording memory ≡ true
unfolding computed memory
sound-recording = sound-from recording memory refl fresh-times (background 608 1 76) store-recording refl refl refl

fills : given filled recording memory ≡ expected filled
unfolding computed line_table line_by kept freed erased header file memory
fills = refl

takes_one : given outgrown recording memory ≡ expected outgrown
unfolding computed line_table line_by memory
takes_one = refl
