-- What the calls leave, from what the functions they call ensure.
use mathlib.Core.Path.{◌≡◌, sym, ◌∙◌}
use mathlib.Core.Bool.{Bool, true, false, ◌||◌}
use mathlib.Core.List.{List}
use Prim.Native.Nat.{ℕ}
use lib.ListN.{length}
use lib.Dec.{eqb}
use lib.Seq.{sets}
use borrow.Author.Tests.{eq-eqb, ne_eqb, eqb-true, not-false}
use Rattle.session.specs.declared.Session.{Session}
use Rattle.answers.specs.declared.Answer.{Answer}
use Rattle.answers.specs.declared.Answer.TheVariants.{Lengths}
use Rattle.answers.specs.Answers.{answer_of, number_of, place_of}
use Rattle.lent.specs.Lent.{World}
use Rattle.fits.specs.Fits.{fit_rows}
use Rattle.clock_call.specs.Passing.{passed}
use Rattle.memory.specs.Memory.{Memory}
use Rattle.repair.specs.declared.Outcome.{Outcome as Mended}
use Rattle.repair.specs.Repair.{repaired_by, repaired}
use Rattle.station.specs.Outcome.{Outcome}
use Rattle.session.specs.declared.Labelled.{Labelled}
use Rattle.station.specs.Outcomes.{after, drawn_by, opened_by}
use Rattle.station.specs.Station.{opened, commanded, labelled_by}
use Rattle.image.specs.Image.{image_size, session_of, image_of}
use Rattle.image.proofs.Inverse.{whole}
use Rattle.exported.proofs.Kept.{neither}
use Rattle.exported.specs.Face.{counts_stored, image_wrong, counts_wrong, opening, commanding, labelling, clocking, opened_face, commanded_face, labelled_face, clocked_face, fitted_face, repairing, repaired_face}

module _ (i p : List ℕ) (w : World) where
  pub open-wrong : (r : ℕ) → (length i ≡ image_size → ⊥) → r ≡ number_of Lengths → opening r i p w ≡ opened_face i p w
  unfolding opened_face
  open-wrong r h e = rw (ne_eqb (length i) image_size h, e)

  pub open_done : (o : Labelled) (i' p' : List ℕ) (w' : World) (r : ℕ) → length i ≡ image_size → opened_by o p' w' ≡ opened p w
      → i' ≡ sets i 0 (image_of o.session) → r ≡ number_of o.answer → opening r i' p' w' ≡ opened_face i p w
  unfolding opened_face
  open_done o i' p' w' r h e q n = rw (eq-eqb (length i) image_size h, ← e, n, q, whole i o.session h)

module _ (i f : List ℕ) (w : World) (p : List ℕ) where
  pub label-wrong : (r : ℕ) → (length i ≡ image_size → ⊥) → r ≡ number_of Lengths → labelling r i p ≡ labelled_face i f w p
  unfolding labelled_face
  label-wrong r h e = rw (ne_eqb (length i) image_size h, e)

  pub label-done : (s : Session) (o : Labelled) (i' p' : List ℕ) (r : ℕ) → length i ≡ image_size → s ≡ session_of i → drawn_by o p' ≡ labelled_by s f w p
      → i' ≡ sets i 0 (image_of o.session) → r ≡ number_of o.answer → labelling r i' p' ≡ labelled_face i f w p
  unfolding labelled_face
  label-done s o i' p' r h d e q n = rw (eq-eqb (length i) image_size h, ← d, ← e, n, q, whole i o.session h)

module _ (i cs f : List ℕ) (w : World) (out input : List ℕ) (wrong : Bool) (is : wrong ≡ (image_wrong i || counts_wrong cs)) where
  pub command-wrong : (cs' : List ℕ) (r : ℕ) → wrong ≡ true → cs' ≡ counts_stored cs 0 0 0 → r ≡ number_of Lengths
      → commanding r i cs' w out ≡ commanded_face i cs f w out input
  unfolding commanded_face
  command-wrong cs' r h d e = rw (← is, h, d, e)

  pub command-done : (s : Session) (o : Outcome) (i' cs' : List ℕ) (w' : World) (out' : List ℕ) (r p : ℕ) → wrong ≡ false → s ≡ session_of i
      → after o w' out' ≡ commanded s f w out input → i' ≡ sets i 0 (image_of o.session) → cs' ≡ counts_stored cs o.read o.written p
      → p ≡ place_of o.answer → r ≡ number_of o.answer → commanding r i' cs' w' out' ≡ commanded_face i cs f w out input
  unfolding commanded_face
  command-done s o i' cs' w' out' r p h d e q k m n =
      let t : length i ≡ image_size = eqb-true (length i) image_size (not-false (eqb (length i) image_size) (neither (image_wrong i) (counts_wrong cs) (sym is ∙ h))) in
      rw (← is, h, ← d, ← e, n, q, k, m, whole i o.session t)

module _ (i : List ℕ) (seconds : ℕ) where
  pub clock-wrong : (r : ℕ) → (length i ≡ image_size → ⊥) → r ≡ number_of Lengths → clocking r i ≡ clocked_face i seconds
  unfolding clocked_face
  clock-wrong r h e = rw (ne_eqb (length i) image_size h, e)

  pub clock-done : (s : Session) (o : Labelled) (i' : List ℕ) (r : ℕ) → length i ≡ image_size → s ≡ session_of i → o ≡ passed s seconds
      → i' ≡ sets i 0 (image_of o.session) → r ≡ number_of o.answer → clocking r i' ≡ clocked_face i seconds
  unfolding clocked_face
  clock-done s o i' r h d e q n = rw (eq-eqb (length i) image_size h, ← d, ← e, n, q, whole i o.session h)

module _ (i l d : List ℕ) (kind : ℕ) (name : List ℕ) (size r : ℕ) where
  pub fits-wrong : (length i ≡ image_size → ⊥) → r ≡ number_of Lengths → r ≡ fitted_face i l d kind name size
  unfolding fitted_face
  fits-wrong h e = rw (ne_eqb (length i) image_size h, e)

  pub fits-done : (s : Session) (a : Answer) → length i ≡ image_size → s ≡ session_of i → a ≡ answer_of (fit_rows s.owed l d kind name size) → r ≡ number_of a
      → r ≡ fitted_face i l d kind name size
  unfolding fitted_face
  fits-done s a h e q n = rw (eq-eqb (length i) image_size h, ← e, n, q)

module _ (i cs : List ℕ) (rows : ℕ) (m : Memory) (v out : List ℕ) (wrong : Bool) (is : wrong ≡ (image_wrong i || counts_wrong cs)) where
  pub repair-wrong : (cs' : List ℕ) (r : ℕ) → wrong ≡ true → cs' ≡ counts_stored cs 0 0 0 → r ≡ number_of Lengths
      → repairing r i cs' m v out ≡ repaired_face i cs rows m v out
  unfolding repaired_face
  repair-wrong cs' r h d e = rw (← is, h, d, e)

  pub repair-done : (s : Session) (o : Mended) (i' cs' : List ℕ) (m' : Memory) (v' out' : List ℕ) (r : ℕ) → wrong ≡ false → s ≡ session_of i
      → repaired_by o m' v' out' ≡ repaired s rows m v out → i' ≡ sets i 0 (image_of o.session) → cs' ≡ counts_stored cs 0 o.written 0
      → r ≡ number_of o.answer → repairing r i' cs' m' v' out' ≡ repaired_face i cs rows m v out
  unfolding repaired_face
  repair-done s o i' cs' m' v' out' r h d e q k n =
      let t : length i ≡ image_size = eqb-true (length i) image_size (not-false (eqb (length i) image_size) (neither (image_wrong i) (counts_wrong cs) (sym is ∙ h))) in
      rw (← is, h, ← d, ← e, n, q, k, whole i o.session t)
