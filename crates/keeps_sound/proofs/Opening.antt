-- Whenever opening is taken, what it leaves is sound.
-- Assumes nothing.
use mathlib.Core.Path.{◌≡◌, refl, sym, ap, ◌∙◌, subst}
use mathlib.Core.Bool.{Bool, true, false, not, ◌||◌, false≢true, cond}
use mathlib.Core.List.{List}
use Prim.Native.Nat.{ℕ, zero, suc, ◌+◌, ◌*◌, ◌/◌, ◌<◌}
use native.Mathlib.Omega.{arith}
use lib.ListN.{length, replicate, length-replicate}
use lib.Dec.{eqb}
use Rattle.cells.specs.Cell.{zeros}
use Rattle.cells.proofs.Cells.{length-zeros, get_or-zeros, cell_at}
use Rattle.cells.proofs.Counts.{all_of}
use Rattle.store.specs.Chain.{free_count}
use Rattle.store.specs.Entry.{entries, entry, kind}
use Rattle.store_sound.proofs.Cleared.{cleared-sound}
use Rattle.sound.specs.Sound.{sound}
use Rattle.content_check.specs.Contents.{content_ok, contents_ok}
use Rattle.answers.specs.declared.Answer.TheVariants.{Taken, Lengths}
use Rattle.answers.specs.Answers.{number_of, is_taken}
use Rattle.session.specs.Session.{none, fresh}
use Rattle.lent.specs.Lent.{World, rows_of, wrong_lent}
use Rattle.results.proofs.Answers.{or-none}
use Rattle.calls.specs.Outcomes.{Opened, opened_by, labelled}
use Rattle.calls.specs.Station.{cleared, opened}
use Rattle.keeps_sound.specs.Good.{Good}
use Rattle.keeps_sound.specs.Tens.{Tens}
use Rattle.keeps_sound.proofs.Layers.{good-sound}
use Rattle.keeps_sound.proofs.Facts.{lent-facts}
use Rattle.keeps_sound.proofs.Fresh.{fresh-good}

-- ---- cleared lists

zero-kind : (n i : ℕ) → i < n / 16 → kind (entry (zeros n) i) ≡ 0
zero-kind n i h = cell_at 16 (zeros n) i 0 (omega arith) ∙ get_or-zeros n (i * 16 + 0) (omega arith)

zero-content : (store links : List ℕ) (n i : ℕ) → i < n / 16 → content_ok store links (zeros n) i ≡ true
unfolding content_ok
zero-content store links n i h = rw (zero-kind n i h)

zero-contents : (store links : List ℕ) (n : ℕ) → contents_ok store links (zeros n) ≡ true
unfolding contents_ok
zero-contents store links n =
    all_of (content_ok store links (zeros n)) (entries (zeros n)) (λ i h. zero-content store links n i (omega (arith, length-zeros n)))

all-free : (n : ℕ) → free_count (replicate n 65535) ≡ n
all-free zero = refl
all-free (suc n) = omega (arith, all-free n)

-- ---- the call

cleared-good : (w : World) → wrong_lent w ≡ false → Good (fresh (rows_of w) (length w.links)) (cleared w)
unfolding cleared
cleared-good w e =
    let b : length (zeros (length w.background)) ≡ length w.background = length-zeros (length w.background) in
    subst (λ (n : ℕ). Good (fresh (n / 76) (length w.links)) (cleared w)) b
    (fresh-good (length w.background) (zeros (length w.store)) (replicate (length w.links) 65535) (zeros (length w.directory)) w.values
    (rw (
      b,
      length-zeros (length w.store),
      length-replicate {A = ℕ} (length w.links) 65535,
      length-zeros (length w.directory),
      length-zeros (length w.values),
    ) e)
    (cleared-sound w.store w.links w.directory (lent-facts w e).memory)
    (zero-contents (zeros (length w.store)) (replicate (length w.links) 65535) (length w.directory))
    (length w.links) (sym (all-free (length w.links))))

opened-by :
    (t : Bool) (page : List ℕ) (w : World) → (wrong_lent w || not (eqb (length page) (length w.background))) ≡ t →
    (cond t (opened_by (labelled Lengths none) page w) (opened_by (labelled Taken (fresh (rows_of w) (length w.links))) (zeros (length page)) (cleared w))).outcome.answer ≡ Taken →
    Good
    (cond t (opened_by (labelled Lengths none) page w) (opened_by (labelled Taken (fresh (rows_of w) (length w.links))) (zeros (length page)) (cleared w))).outcome.session
    (cond t (opened_by (labelled Lengths none) page w) (opened_by (labelled Taken (fresh (rows_of w) (length w.links))) (zeros (length page)) (cleared w))).world
unfolding is_taken number_of
opened-by true page w e t = absurd (false≢true (ap is_taken t))
opened-by false page w e t = cleared-good w (or-none (wrong_lent w) (not (eqb (length page) (length w.background))) e).0

pub opened-good : (page : List ℕ) (w : World) → (opened page w).outcome.answer ≡ Taken → Good (opened page w).outcome.session (opened page w).world
unfolding opened
opened-good page w t = opened-by (wrong_lent w || not (eqb (length page) (length w.background))) page w refl t

pub opened-sound : (page : List ℕ) (w : World) → (opened page w).outcome.answer ≡ Taken → sound (opened page w).outcome.session (opened page w).world ≡ true
opened-sound page w t = good-sound (opened page w).outcome.session (opened page w).world (opened-good page w t)

opened-ten : (t : Bool) (a b : Opened) → Tens a.outcome.session → Tens b.outcome.session → Tens (cond t a b).outcome.session
opened-ten true a b p q = p
opened-ten false a b p q = q

pub opened-tens : (page : List ℕ) (w : World) → Tens (opened page w).outcome.session
unfolding opened
opened-tens page w = opened-ten (wrong_lent w || not (eqb (length page) (length w.background))) _ _ (record { flags = refl; values = refl }) (record { flags = refl; values = refl })
