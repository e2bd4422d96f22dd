-- GK, as the code does it: none, all pictures, or the one that was found.
-- Assumes nothing.
use mathlib.Core.Path.{◌≡◌, sym, ap, ◌∙◌}
use mathlib.Core.Bool.{Bool, true, false, not, ◌&&◌, cond}
use mathlib.Core.List.{List, []}
use Prim.Native.Nat.{ℕ}
use Rattle.std.specs.Prelude.{Option, is_some}
use Rattle.grammar.specs.declared.Named.{Named}
use Rattle.grammar.specs.declared.PictureCommand.TheVariants.{Erase}
use Rattle.session.specs.declared.Session.{Session}
use Rattle.answers.specs.declared.Answer.TheVariants.{Taken, Missing}
use Rattle.lent.specs.Lent.{World}
use Rattle.results.specs.declared.Done.{Done}
use Rattle.results.specs.World.{State, state}
use Rattle.results.specs.Result.{done, ran}
use Rattle.results.specs.Named.{named, erased_named, erased_every}
use Rattle.results.proofs.Parts.{in_state}
use Rattle.results.proofs.Erasing.{erase-taken, erase-refused}
use Rattle.picture_commands.specs.Pictures.{picture_runs, picture_by}

pub none-erased :
    (s : Session) (line : List ℕ) (n : Named) (w : World) (found : Option ℕ) (missing : Bool) (r : Done) → found ≡ named w true line n →
    missing ≡ (not n.all && not (is_some found)) → missing ≡ true → r ≡ done Missing s 0 → ran r w [] ≡ picture_by w s line [] (Erase n)
none-erased s line n w found missing r = erase-refused s w true line n found missing (picture_runs w s line [] (Erase n)) r

module _ (s after : Session) (line : List ℕ) (n : Named) (w w' : World) (found : Option ℕ) (missing : Bool)
    (looked : found ≡ named w true line n) (asked : missing ≡ (not n.all && not (is_some found))) (there : missing ≡ false)
    (r : Done) (taken : r ≡ done Taken after 0) where
  erased-leaves : (x : State) → state after w' ≡ x → picture_runs w s line [] (Erase n) ≡ x → ran r w' [] ≡ picture_by w s line [] (Erase n)
  erased-leaves x e f =
      (λ j. ran (taken j) w' []) ∙ ap in_state (e ∙ sym f)
      ∙ erase-taken s w true line n found missing (picture_runs w s line [] (Erase n)) looked asked there

  pub all-erased : n.all ≡ true → state after w' ≡ erased_every s w true → ran r w' [] ≡ picture_by w s line [] (Erase n)
  all-erased all e = erased-leaves (erased_every s w true) e (ap (λ (b : Bool). cond b (erased_every s w true) (erased_named s w (named w true line n))) all)

  pub one-erased : n.all ≡ false → state after w' ≡ erased_named s w found → ran r w' [] ≡ picture_by w s line [] (Erase n)
  one-erased one e =
      erased-leaves (erased_named s w (named w true line n)) (e ∙ ap (erased_named s w) looked)
      (ap (λ (b : Bool). cond b (erased_every s w true) (erased_named s w (named w true line n))) one)
