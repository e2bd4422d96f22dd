-- FK and GK: what they leave of session and memory, in the lists around these.
-- Assumes nothing.
use mathlib.Core.Path.{◌≡◌, sym, ap, ◌∙◌}
use mathlib.Core.Bool.{Bool, true, false, not, ◌&&◌}
use mathlib.Core.List.{List, [], ◌∷◌}
use Prim.Native.Nat.{ℕ}
use Rattle.std.specs.Prelude.{None, Option, Some, is_some}
use Rattle.memory.specs.Memory.{Memory}
use Rattle.grammar.specs.declared.Named.{Named}
use Rattle.session.specs.declared.Session.{Session}
use Rattle.answers.specs.declared.Answer.TheVariants.{Missing}
use Rattle.answers.specs.Answers.{row, answer_of, is_taken, number_of}
use Rattle.lent.specs.Lent.{World, world}
use Rattle.results.specs.declared.Done.{Done}
use Rattle.results.specs.World.{State, state}
use Rattle.results.specs.Result.{done, ran, ran_by}
use Rattle.results.specs.Named.{named, not_found, erased_named, erased_every}
use Rattle.results.proofs.Parts.{in_state}

-- a session and a memory as what they leave together
pub erased-together :
    (a a' : Session) (m m' : Memory) → a ≡ a' → m ≡ m' →
    state a (world [] m.store m.links m.directory []) ≡ state a' (world [] m'.store m'.links m'.directory [])
erased-together a a' m m' p q = λ j. state (p j) (world [] (q j).store (q j).links (q j).directory [])

-- in the lists around them
abbrev around : List ℕ → List ℕ → State → State
around b v x = state x.session (world b x.world.store x.world.links x.world.directory v)

pub every-erased-by :
    (p : Bool) (a a' : Session) (b v s l d s' l' d' : List ℕ) →
    state a' (world [] s' l' d' []) ≡ erased_every a (world [] s l d []) p → state a' (world b s' l' d' v) ≡ erased_every a (world b s l d v) p
every-erased-by p a a' b v s l d s' l' d' e = ap (λ (x : State). around b v x) e

pub erased-by :
    (f : Option ℕ) (a a' : Session) (b v s l d s' l' d' : List ℕ) →
    state a' (world [] s' l' d' []) ≡ erased_named a (world [] s l d []) f → state a' (world b s' l' d' v) ≡ erased_named a (world b s l d v) f
erased-by (Some i) a a' b v s l d s' l' d' e = ap (λ (x : State). around b v x) e
erased-by None a a' b v s l d s' l' d' e = ap (λ (x : State). around b v x) e

-- a name that was found, or all: the command is taken
pub erase-taken :
    (s : Session) (w : World) (picture : Bool) (line : List ℕ) (n : Named) (found : Option ℕ) (missing : Bool) (x : State) →
    found ≡ named w picture line n → missing ≡ (not n.all && not (is_some found)) → missing ≡ false →
    in_state x ≡ ran_by (answer_of (row Missing (not_found w picture line n) ∷ [])) s w [] x []
unfolding answer_of is_taken number_of
erase-taken s w picture line n found missing x looked asked there =
    let some : not_found w picture line n ≡ false = ap (λ (f : Option ℕ). not n.all && not (is_some f)) (sym looked) ∙ sym asked ∙ there in
    sym (ap (λ (b : Bool). ran_by (answer_of (row Missing b ∷ [])) s w [] x []) some)

-- a name that was not found: all is as it was
pub erase-refused :
    (s : Session) (w : World) (picture : Bool) (line : List ℕ) (n : Named) (found : Option ℕ) (missing : Bool) (x : State) (r : Done) →
    found ≡ named w picture line n → missing ≡ (not n.all && not (is_some found)) → missing ≡ true → r ≡ done Missing s 0 →
    ran r w [] ≡ ran_by (answer_of (row Missing (not_found w picture line n) ∷ [])) s w [] x []
unfolding answer_of is_taken number_of
erase-refused s w picture line n found missing x r looked asked gone answered =
    let none : not_found w picture line n ≡ true = ap (λ (f : Option ℕ). not n.all && not (is_some f)) (sym looked) ∙ sym asked ∙ gone in
    (λ j. ran (answered j) w []) ∙ sym (ap (λ (b : Bool). ran_by (answer_of (row Missing b ∷ [])) s w [] x []) none)
