-- FK, as the code does it: none, all forms, the active one, another one.
-- Assumes nothing.
use mathlib.Core.Path.{◌≡◌, sym, ap, ◌∙◌}
use mathlib.Core.Bool.{Bool, true, false, not, ◌&&◌, cond}
use mathlib.Core.List.{List, []}
use Prim.Native.Nat.{ℕ}
use lib.Dec.{eqb}
use borrow.Author.Tests.{eq-eqb, ne_eqb}
use Rattle.stored_values.specs.Stored.{unset}
use Rattle.std.specs.Prelude.{Option, is_some}
use Rattle.grammar.specs.declared.Named.{Named}
use Rattle.grammar.specs.declared.FormCommand.TheVariants.{Erase}
use Rattle.session.specs.declared.Session.{Session}
use Rattle.session.specs.Session.{activated}
use Rattle.answers.specs.declared.Answer.TheVariants.{Taken, Missing}
use Rattle.lent.specs.Lent.{World, world}
use Rattle.results.specs.declared.Done.{Done}
use Rattle.results.specs.World.{State, state, inactive}
use Rattle.results.specs.Result.{done, ran}
use Rattle.results.specs.Named.{place_of, named, erased_named, erased_every}
use Rattle.results.proofs.Parts.{in_state}
use Rattle.results.proofs.Erasing.{erased-by, every-erased-by, erase-taken, erase-refused}
use Rattle.form_commands.specs.Forms.{erased_form, form_runs, form_by}

pub none-erased :
    (s : Session) (line : List ℕ) (n : Named) (w : World) (found : Option ℕ) (missing : Bool) (r : Done) → found ≡ named w false line n →
    missing ≡ (not n.all && not (is_some found)) → missing ≡ true → r ≡ done Missing s 0 → ran r w [] ≡ form_by w s line (Erase n)
none-erased s line n w found missing r = erase-refused s w false line n found missing (form_runs w s line (Erase n)) r

module _ (s after : Session) (line : List ℕ) (n : Named) (st l d v st' l' d' : List ℕ) (found : Option ℕ) (missing : Bool)
    (looked : found ≡ named (world [] st l d v) false line n) (asked : missing ≡ (not n.all && not (is_some found))) (there : missing ≡ false) where
  abbrev w : World
  w = world [] st l d v

  taken-leaves : (x : State) → form_runs w s line (Erase n) ≡ x → in_state x ≡ form_by w s line (Erase n)
  taken-leaves x e = ap in_state (sym e) ∙ erase-taken s w false line n found missing (form_runs w s line (Erase n)) looked asked there

  ended : (r : Done) (v' : List ℕ) → r ≡ done Taken (activated after 65535) 0 → v' ≡ unset v → ran r (world [] st' l' d' v') [] ≡ in_state (inactive (state after (world [] st' l' d' v)))
  ended r v' er ev = λ j. ran (er j) (world [] st' l' d' (ev j)) []

  pub all-erased :
      (r : Done) (v' : List ℕ) → n.all ≡ true → r ≡ done Taken (activated after 65535) 0 → v' ≡ unset v →
      state after (world [] st' l' d' []) ≡ erased_every s (world [] st l d []) false → ran r (world [] st' l' d' v') [] ≡ form_by w s line (Erase n)
  all-erased r v' all er ev e =
      ended r v' er ev
      ∙ ap (λ (x : State). in_state (inactive x)) (every-erased-by false s after [] v st l d st' l' d' e)
      ∙ taken-leaves (inactive (erased_every s w false)) (ap (λ (b : Bool). cond b (inactive (erased_every s w false)) (erased_form s w (named w false line n))) all)

  module _ (one : n.all ≡ false) (e : state after (world [] st' l' d' []) ≡ erased_named s (world [] st l d []) found) (i : ℕ) (at : i ≡ place_of found) where
    erased : state after (world [] st' l' d' v) ≡ erased_named s w (named w false line n)
    erased = erased-by found s after [] v st l d st' l' d' e ∙ ap (erased_named s w) looked

    found-erased : (b : Bool) → eqb s.active i ≡ b → form_runs w s line (Erase n) ≡ cond b (inactive (erased_named s w (named w false line n))) (erased_named s w (named w false line n))
    found-erased b t =
        ap (λ (b : Bool). cond b (inactive (erased_every s w false)) (erased_form s w (named w false line n))) one
        ∙ ap (λ (b : Bool). cond b (inactive (erased_named s w (named w false line n))) (erased_named s w (named w false line n)))
        (ap (eqb s.active) (sym (at ∙ ap place_of looked)) ∙ t)

    pub active-erased :
        (r : Done) (v' : List ℕ) → s.active ≡ i → r ≡ done Taken (activated after 65535) 0 → v' ≡ unset v →
        ran r (world [] st' l' d' v') [] ≡ form_by w s line (Erase n)
    active-erased r v' same er ev =
        ended r v' er ev ∙ ap (λ (x : State). in_state (inactive x)) erased
        ∙ taken-leaves (inactive (erased_named s w (named w false line n))) (found-erased true (eq-eqb s.active i same))

    pub other-erased : (r : Done) → (s.active ≡ i → ⊥) → r ≡ done Taken after 0 → ran r (world [] st' l' d' v) [] ≡ form_by w s line (Erase n)
    other-erased r other er =
        (λ j. ran (er j) (world [] st' l' d' v) []) ∙ ap in_state erased
        ∙ taken-leaves (erased_named s w (named w false line n)) (found-erased false (ne_eqb s.active i other))
