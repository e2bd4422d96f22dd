-- GM, as the code does it: refused by one of its rows, or stored.
-- Assumes nothing.
use mathlib.Core.Path.{◌≡◌, refl, sym, ap, ◌∙◌}
use mathlib.Core.Bool.{Bool, true, false, not}
use mathlib.Core.List.{List, []}
use Prim.Native.Nat.{ℕ}
use lib.ListN.{length}
use Rattle.pcx.specs.Rules.{legal as legal_picture}
use Rattle.growing.specs.Keep.{kept}
use Rattle.free_number.specs.After.{after_stored}
use Rattle.std.specs.Prelude.{Option, is_some}
use Rattle.finding.specs.Find.{titled_at}
use Rattle.grammar.specs.declared.StorePicture.{StorePicture}
use Rattle.grammar.specs.declared.PictureCommand.TheVariants.{Store}
use Rattle.parts.specs.Names.{packed_of}
use Rattle.session.specs.declared.Session.{Session}
use Rattle.answers.specs.declared.Answer.{Answer}
use Rattle.answers.specs.declared.Answer.TheVariants.{Taken, InUse, Illegal}
use Rattle.answers.specs.Answers.{answer_of, is_taken, number_of}
use Rattle.answers.proofs.Rows.{answer-skip, answer-stop}
use Rattle.full.specs.Full.{full_rows}
use Rattle.lent.specs.Lent.{World, world}
use Rattle.results.specs.declared.Done.{Done}
use Rattle.results.specs.World.{memory_of}
use Rattle.results.specs.Result.{Ran, done, ran, ran_by}
use Rattle.results.specs.Named.{lookup}
use Rattle.results.proofs.Parts.{in_memory, in_state, refused-by, taken-by}
use Rattle.picture_commands.specs.Pictures.{picture_rows, picture_runs, picture_by}

module _ (s : Session) (line more : List ℕ) (p : StorePicture) (w : World) (title : List ℕ) (found : Option ℕ) (used : Bool)
    (titled : title ≡ packed_of line p.at p.length) (looked : found ≡ titled_at w.directory true title) (asked : used ≡ is_some found) where
  by_rows :
      (a : Answer) (x : Ran) → x ≡ ran_by a s w [] (picture_runs w s line more (Store p)) [] → answer_of (picture_rows w s line more (Store p)) ≡ a →
      x ≡ picture_by w s line more (Store p)
  by_rows a x e f = e ∙ ap (λ (k : Answer). ran_by k s w [] (picture_runs w s line more (Store p)) []) (sym f)

  as-asked : is_some (lookup w true line p.at p.length) ≡ used
  as-asked = ap (λ (t : List ℕ). is_some (titled_at w.directory true t)) (sym titled) ∙ ap is_some (sym looked) ∙ sym asked

  pub keep-in-use : (r : Done) → used ≡ true → r ≡ done InUse s 0 → ran r w [] ≡ picture_by w s line more (Store p)
  unfolding is_taken number_of
  keep-in-use r there e = by_rows InUse (ran r w []) (λ j. ran (e j) w []) (answer-stop InUse _ _ (as-asked ∙ there))

  module _ (unused : used ≡ false) (good : Bool) (judged : good ≡ legal_picture more) where
    pub keep-illegal : (r : Done) → not good ≡ true → r ≡ done Illegal s 0 → ran r w [] ≡ picture_by w s line more (Store p)
    unfolding is_taken number_of
    keep-illegal r bad e =
        by_rows Illegal (ran r w []) (λ j. ran (e j) w []) (answer-skip InUse _ _ (as-asked ∙ unused) ∙ answer-stop Illegal _ _ (ap not (sym judged) ∙ bad))

    module _ (legal : not good ≡ false) (full : Answer) (room : Bool) (told : full ≡ answer_of (full_rows s.free w.directory (length more)))
        (has : room ≡ is_taken full) where
      last-rows : answer_of (picture_rows w s line more (Store p)) ≡ full
      last-rows = answer-skip InUse _ _ (as-asked ∙ unused) ∙ answer-skip Illegal _ _ (ap not (sym judged) ∙ legal) ∙ sym told

      pub keep-full : (r : Done) → not room ≡ true → r ≡ done full s 0 → ran r w [] ≡ picture_by w s line more (Store p)
      keep-full r none e =
          by_rows full (ran r w [])
          ((λ j. ran (e j) w []) ∙ refused-by full full room s w [] (in_state (picture_runs w s line more (Store p))) refl has none) last-rows

      pub keep-stored :
          (r : Done) (after : Session) (st l d : List ℕ) → not room ≡ false → r ≡ done Taken after 0 → after ≡ after_stored s (length more) →
          memory_of (world [] st l d []) ≡ kept (memory_of w) 2 title more → ran r (world w.background st l d w.values) [] ≡ picture_by w s line more (Store p)
      keep-stored r after st l d some e a k =
          by_rows full (ran r (world w.background st l d w.values) [])
          (taken-by full full room (in_state (picture_runs w s line more (Store p))) (ran (done full s 0) w []) (ran r (world w.background st l d w.values) [])
          refl has some
          (λ j. in_memory ((e ∙ ap (λ (x : Session). done Taken x 0) a) j) w.background w.values []
          ((k ∙ ap (λ (n : List ℕ). kept (memory_of w) 2 n more) titled) j)))
          last-rows
