-- FS, as the code does it: refused by one of its rows, or begun.
-- Assumes nothing.
use mathlib.Core.Path.{◌≡◌, refl, sym, ap, ◌∙◌}
use mathlib.Core.Bool.{Bool, true, false, not}
use mathlib.Core.List.{List, []}
use Prim.Native.Nat.{ℕ}
use Rattle.free_number.specs.After.{after_stored}
use Rattle.std.specs.Prelude.{Option, is_some}
use Rattle.finding.specs.Find.{titled_at}
use Rattle.grammar.specs.declared.Named.{Named}
use Rattle.grammar.specs.declared.FormCommand.TheVariants.{Start}
use Rattle.starting.specs.Start.{begun}
use Rattle.parts.specs.Names.{packed_of}
use Rattle.session.specs.declared.Session.{Session}
use Rattle.answers.specs.declared.Answer.{Answer}
use Rattle.answers.specs.declared.Answer.TheVariants.{Taken, InUse}
use Rattle.answers.specs.Answers.{answer_of, is_taken, number_of}
use Rattle.answers.proofs.Rows.{answer-skip, answer-stop}
use Rattle.full.specs.Full.{full_rows}
use Rattle.lent.specs.Lent.{World, world}
use Rattle.results.specs.declared.Done.{Done}
use Rattle.results.specs.World.{memory_of}
use Rattle.results.specs.Result.{Ran, done, ran, ran_by}
use Rattle.results.specs.Named.{named}
use Rattle.results.proofs.Parts.{in_memory, in_state, refused-by, taken-by}
use Rattle.form_commands.specs.Forms.{form_rows, form_runs, form_by}

module _ (s : Session) (line : List ℕ) (n : Named) (w : World) (title : List ℕ) (found : Option ℕ) (used : Bool)
    (titled : title ≡ packed_of line n.at n.length) (looked : found ≡ titled_at w.directory false title) (asked : used ≡ is_some found) where
  by_rows :
      (a : Answer) (x : Ran) → x ≡ ran_by a s w [] (form_runs w s line (Start n)) [] → answer_of (form_rows w s line (Start n)) ≡ a → x ≡ form_by w s line (Start n)
  by_rows a x e f = e ∙ ap (λ (k : Answer). ran_by k s w [] (form_runs w s line (Start n)) []) (sym f)

  as-asked : is_some (named w false line n) ≡ used
  as-asked = ap (λ (t : List ℕ). is_some (titled_at w.directory false t)) (sym titled) ∙ ap is_some (sym looked) ∙ sym asked

  pub start-in-use : (r : Done) → used ≡ true → r ≡ done InUse s 0 → ran r w [] ≡ form_by w s line (Start n)
  unfolding is_taken number_of
  start-in-use r there e = by_rows InUse (ran r w []) (λ j. ran (e j) w []) (answer-stop InUse _ _ (as-asked ∙ there))

  module _ (unused : used ≡ false) (full : Answer) (room : Bool) (told : full ≡ answer_of (full_rows s.free w.directory 0))
      (has : room ≡ is_taken full) where
    last-rows : answer_of (form_rows w s line (Start n)) ≡ full
    last-rows = answer-skip InUse _ _ (as-asked ∙ unused) ∙ sym told

    pub start-full : (r : Done) → not room ≡ true → r ≡ done full s 0 → ran r w [] ≡ form_by w s line (Start n)
    start-full r none e =
        by_rows full (ran r w [])
        ((λ j. ran (e j) w []) ∙ refused-by full full room s w [] (in_state (form_runs w s line (Start n))) refl has none) last-rows

    pub start-begun :
        (r : Done) (after : Session) (l d : List ℕ) → not room ≡ false → r ≡ done Taken after 0 → after ≡ after_stored s 0 →
        memory_of (world [] w.store l d []) ≡ begun (memory_of w) 3 title → ran r (world w.background w.store l d w.values) [] ≡ form_by w s line (Start n)
    start-begun r after l d some e a k =
        by_rows full (ran r (world w.background w.store l d w.values) [])
        (taken-by full full room (in_state (form_runs w s line (Start n))) (ran (done full s 0) w []) (ran r (world w.background w.store l d w.values) [])
        refl has some
        (λ j. in_memory ((e ∙ ap (λ (x : Session). done Taken x 0) a) j) w.background w.values []
        ((k ∙ ap (begun (memory_of w) 3) titled) j)))
        last-rows
