-- "A refusal leaves session and all lent memory unchanged": the image byte for byte, and every lent list; a command stores its counts.
-- "a refused opening returns zeros": 83 of them.
use mathlib.Core.Path.{◌≡◌, refl}
use mathlib.Core.Bool.{Bool, true, false, cond, ◌||◌}
use mathlib.Core.List.{List}
use Prim.Native.Nat.{ℕ, ◌<◌}
use lib.ListN.{length, get_or, replicate}
use lib.Dec.{eqb}
use borrow.Author.Tests.{eq-eqb, eqb-true, not-false}
use Rattle.session.specs.declared.Session.{Session}
use Rattle.answers.specs.declared.Answer.{Answer}
use Rattle.answers.specs.declared.Answer.TheVariants.{Lengths}
use Rattle.answers.specs.Answers.{is_taken, number_of}
use Rattle.lent.specs.Lent.{World}
use Rattle.calls.specs.Outcomes.{After, after, outcome, Drawn, drawn_by, labelled}
use Rattle.unread.specs.Front.{read_by}
use Rattle.calls.specs.Station.{commanded, labelled_by}
use Rattle.session.specs.declared.Labelled.{Labelled}
use Rattle.clock_call.specs.Passing.{passed}
use Rattle.clock_call.proofs.Refusing.{clock-refusal-keeps}
use Rattle.memory.specs.Memory.{Memory}
use Rattle.repair.specs.Repair.{Repaired, repaired_by, outcome as outcome_of, repaired}
use Rattle.repair.proofs.Promises.{repair-refusal-keeps}
use Rattle.calls.proofs.Promises.{open-refusal-keeps, command-refusal-keeps, label-refusal-keeps}
use Rattle.image.specs.Image.{image_size, session_of, image_of}
use Rattle.exported.specs.Face.{
  image_wrong,
  counts_wrong,
  counts_stored,
  opening,
  commanding,
  labelling,
  clocking,
  commanding_of,
  labelling_of,
  clocking_of,
  opened_face,
  commanded_face,
  labelled_face,
  clocked_face,
  repairing,
  repairing_of,
  repaired_face,
}
use Rattle.image.proofs.Inverse.{image-session, zeros-image}

pub neither : (a b : Bool) → (a || b) ≡ false → a ≡ false
neither true b e = e
neither false b e = refl

-- ---- opening

pub open-refusal : (i p : List ℕ) (w : World) → length i ≡ image_size → eqb (opened_face i p w).answer 0 ≡ false → opened_face i p w ≡ opening (number_of Lengths) (replicate image_size 0) p w
unfolding opened_face is_taken
open-refusal i p w h n =
    let q = eq-eqb (length i) image_size h in
    rw (q, open-refusal-keeps p w (rw q at n), zeros-image)

-- ---- a command

-- where the station's call keeps session and lists, this one keeps the image too
command-same : (i cs o : List ℕ) (w : World) (c : After) (a : Answer) (s : Session) (n k : ℕ) → c ≡ after (outcome a s n k) w o → image_of s ≡ i
    → commanding_of cs c ≡ commanding (commanding_of cs c).answer i (commanding_of cs c).counts w o
command-same i cs o w c a s n k e q = rw (e, q)

command-either : (t : Bool) (i cs o : List ℕ) (w : World) (c : After)
    → (t ≡ false → is_taken c.outcome.answer ≡ false → commanding_of cs c ≡ commanding (commanding_of cs c).answer i (commanding_of cs c).counts w o)
    → eqb (cond t (commanding (number_of Lengths) i (counts_stored cs 0 0 0) w o) (commanding_of cs c)).answer 0 ≡ false
    → cond t (commanding (number_of Lengths) i (counts_stored cs 0 0 0) w o) (commanding_of cs c)
    ≡ commanding (cond t (commanding (number_of Lengths) i (counts_stored cs 0 0 0) w o) (commanding_of cs c)).answer i
    (cond t (commanding (number_of Lengths) i (counts_stored cs 0 0 0) w o) (commanding_of cs c)).counts w o
unfolding is_taken
command-either true i cs o w c k n = refl
command-either false i cs o w c k n = k refl n

-- an image that is not wrong is its session's
same : (i : List ℕ) → ((k : ℕ) → get_or i k 0 < 256) → image_wrong i ≡ false → image_of (session_of i) ≡ i
same i small e = image-session i small (eqb-true (length i) image_size (not-false (eqb (length i) image_size) e))

module _ (i : List ℕ) (small : (k : ℕ) → get_or i k 0 < 256) (f : List ℕ) (w : World) where
  pub command-refusal : (cs o input : List ℕ) → eqb (commanded_face i cs f w o input).answer 0 ≡ false
      → commanded_face i cs f w o input ≡ commanding (commanded_face i cs f w o input).answer i (commanded_face i cs f w o input).counts w o
  unfolding commanded_face
  command-refusal cs o input =
      let c = commanded (session_of i) f w o input in
      command-either (image_wrong i || counts_wrong cs) i cs o w c
      (λ e h. command-same i cs o w c c.outcome.answer (session_of i) (read_by c.outcome.answer input) 0 (command-refusal-keeps (session_of i) f w o input h)
      (same i small (neither (image_wrong i) (counts_wrong cs) e)))

-- ---- a label

label_same : (i p : List ℕ) (c : Drawn) (a : Answer) (s : Session) → c ≡ drawn_by (labelled a s) p → image_of s ≡ i
    → labelling_of c ≡ labelling (labelling_of c).answer i p
label_same i p c a s e q = rw (e, q)

label-either : (t : Bool) (i p : List ℕ) (c : Drawn)
    → (t ≡ false → is_taken c.outcome.answer ≡ false → labelling_of c ≡ labelling (labelling_of c).answer i p)
    → eqb (cond t (labelling (number_of Lengths) i p) (labelling_of c)).answer 0 ≡ false
    → cond t (labelling (number_of Lengths) i p) (labelling_of c) ≡ labelling (cond t (labelling (number_of Lengths) i p) (labelling_of c)).answer i p
unfolding is_taken
label-either true i p c k n = refl
label-either false i p c k n = k refl n

pub label-refusal : (i : List ℕ) → ((k : ℕ) → get_or i k 0 < 256) → (f : List ℕ) (w : World) (p : List ℕ) → eqb (labelled_face i f w p).answer 0 ≡ false
    → labelled_face i f w p ≡ labelling (labelled_face i f w p).answer i p
unfolding labelled_face
label-refusal i small f w p =
    let c = labelled_by (session_of i) f w p in
    label-either (image_wrong i) i p c (λ e h. label_same i p c c.outcome.answer (session_of i) (label-refusal-keeps (session_of i) f w p h) (same i small e))

-- ---- the clock

clock-same : (i : List ℕ) (c : Labelled) (a : Answer) (s : Session) → c ≡ labelled a s → image_of s ≡ i → clocking_of c ≡ clocking (clocking_of c).answer i
clock-same i c a s e q = rw (e, q)

clock-either : (t : Bool) (i : List ℕ) (c : Labelled)
    → (t ≡ false → is_taken c.answer ≡ false → clocking_of c ≡ clocking (clocking_of c).answer i)
    → eqb (cond t (clocking (number_of Lengths) i) (clocking_of c)).answer 0 ≡ false
    → cond t (clocking (number_of Lengths) i) (clocking_of c) ≡ clocking (cond t (clocking (number_of Lengths) i) (clocking_of c)).answer i
unfolding is_taken
clock-either true i c k n = refl
clock-either false i c k n = k refl n

pub clock-refusal : (i : List ℕ) → ((k : ℕ) → get_or i k 0 < 256) → (seconds : ℕ) → eqb (clocked_face i seconds).answer 0 ≡ false
    → clocked_face i seconds ≡ clocking (clocked_face i seconds).answer i
unfolding clocked_face
clock-refusal i small seconds =
    let c = passed (session_of i) seconds in
    clock-either (image_wrong i) i c (λ e h. clock-same i c c.answer (session_of i) (clock-refusal-keeps (session_of i) seconds h) (same i small e))

-- ---- a repair

-- where the call keeps session and lists, this one keeps the image too
repair-same : (i cs v o : List ℕ) (m : Memory) (r : Repaired) (a : Answer) (s : Session) → r ≡ repaired_by (outcome_of a s 0) m v o → image_of s ≡ i
    → repairing_of cs r ≡ repairing (repairing_of cs r).answer i (counts_stored cs 0 0 0) m v o
repair-same i cs v o m r a s e q = rw (e, q)

repair-either : (t : Bool) (i cs v o : List ℕ) (m : Memory) (r : Repaired)
    → (t ≡ false → is_taken r.outcome.answer ≡ false → repairing_of cs r ≡ repairing (repairing_of cs r).answer i (counts_stored cs 0 0 0) m v o)
    → eqb (cond t (repairing (number_of Lengths) i (counts_stored cs 0 0 0) m v o) (repairing_of cs r)).answer 0 ≡ false
    → cond t (repairing (number_of Lengths) i (counts_stored cs 0 0 0) m v o) (repairing_of cs r)
    ≡ repairing (cond t (repairing (number_of Lengths) i (counts_stored cs 0 0 0) m v o) (repairing_of cs r)).answer i (counts_stored cs 0 0 0) m v o
unfolding is_taken
repair-either true i cs v o m r k n = refl
repair-either false i cs v o m r k n = k refl n

-- "with nothing touched"
pub repair-refusal : (i : List ℕ) → ((k : ℕ) → get_or i k 0 < 256) → (cs : List ℕ) (rows : ℕ) (m : Memory) (v o : List ℕ) → eqb (repaired_face i cs rows m v o).answer 0 ≡ false
    → repaired_face i cs rows m v o ≡ repairing (repaired_face i cs rows m v o).answer i (counts_stored cs 0 0 0) m v o
unfolding repaired_face
repair-refusal i small cs rows m v o =
    let r = repaired (session_of i) rows m v o in
    repair-either (image_wrong i || counts_wrong cs) i cs v o m r
    (λ e h. repair-same i cs v o m r r.outcome.answer (session_of i) (repair-refusal-keeps (session_of i) rows m v o h)
    (same i small (neither (image_wrong i) (counts_wrong cs) e)))
