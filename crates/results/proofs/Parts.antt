-- What a command leaves of the lists it was lent, put back into all that is lent; and how an answer ends it.
-- Assumes nothing.
use mathlib.Core.Path.{◌≡◌, sym, ap, ◌∙◌}
use mathlib.Core.Bool.{Bool, true, false, not, cond}
use mathlib.Core.List.{List, []}
use Prim.Native.Nat.{ℕ}
use borrow.Author.Tests.{not-true, not-false}
use Rattle.memory.specs.Memory.{Memory}
use Rattle.session.specs.declared.Session.{Session}
use Rattle.answers.specs.declared.Answer.{Answer}
use Rattle.answers.specs.declared.Answer.TheVariants.{Taken}
use Rattle.answers.specs.Answers.{is_taken}
use Rattle.lent.specs.Lent.{World, world}
use Rattle.results.specs.declared.Done.{Done}
use Rattle.results.specs.World.{State}
use Rattle.results.specs.Result.{done, Ran, ran, ran_by}
use Rattle.results.proofs.Answers.{cond_map, cond-true, cond-false}

-- ---- a part put back

abbrev pub in_memory : Done → List ℕ → List ℕ → List ℕ → Memory → Ran
in_memory r b v o m = ran r (world b m.store m.links m.directory v) o

-- what a command that was taken leaves
abbrev pub in_state : State → Ran
in_state x = ran (done Taken x.session 0) x.world []

abbrev pub on_background : List ℕ → List ℕ → List ℕ → List ℕ → List ℕ → Ran → Ran
on_background s l d v o x = ran x.done (world x.world.background s l d v) o

abbrev pub on_memory : List ℕ → List ℕ → List ℕ → Ran → Ran
on_memory b v o x = ran x.done (world b x.world.store x.world.links x.world.directory v) o

abbrev pub on_links : List ℕ → List ℕ → List ℕ → List ℕ → Ran → Ran
on_links b s v o x = ran x.done (world b s x.world.links x.world.directory v) o

abbrev pub on_directory : List ℕ → List ℕ → Ran → Ran
on_directory s l x = ran x.done (world [] s l x.world.directory []) []

abbrev pub on_values : List ℕ → List ℕ → List ℕ → List ℕ → List ℕ → Ran → Ran
on_values b s l d o x = ran x.done (world b s l d x.world.values) o

abbrev pub on_forms : List ℕ → List ℕ → Ran → Ran
on_forms b o x = ran x.done (world b x.world.store x.world.links x.world.directory x.world.values) o

abbrev pub on_page : List ℕ → List ℕ → List ℕ → List ℕ → Ran → Ran
on_page s l d o x = ran x.done (world x.world.background s l d x.world.values) o

abbrev pub on_output : World → Ran → Ran
on_output w x = ran x.done w x.output

abbrev pub on_nothing : World → List ℕ → Ran → Ran
on_nothing w o x = ran x.done w o

abbrev pub in_output : World → Done × List ℕ → Ran
in_output w p = ran p.0 w p.1

pub lifted : {A B : Type 0} (f : A → B) (r : A) (a : Answer) (x y : A) → r ≡ cond (is_taken a) x y → f r ≡ cond (is_taken a) (f x) (f y)
lifted f r a x y e = ap f e ∙ cond_map f (is_taken a) x y

-- what a command leaves of a part, put back into all that is lent
pub ran-in :
    (f : Ran → Ran) (a : Answer) (s : Session) (w : World) (x : State) → f (ran_by a s w [] x []) ≡ cond (is_taken a) (f (in_state x)) (f (ran (done a s 0) w []))
ran-in f a s w x = cond_map f (is_taken a) (in_state x) (ran (done a s 0) w [])

-- ---- by an answer

pub refused-by :
    (a a' : Answer) (b : Bool) (s : Session) (w : World) (o : List ℕ) (x : Ran) → a ≡ a' → b ≡ is_taken a → not b ≡ true →
    ran (done a s 0) w o ≡ cond (is_taken a') x (ran (done a' s 0) w o)
refused-by a a' b s w o x e f n =
    ap (λ (k : Answer). ran (done k s 0) w o) e
    ∙ sym (cond-false (is_taken a') x (ran (done a' s 0) w o) (sym (ap is_taken e) ∙ sym f ∙ not-true b n))

pub taken-by :
    (a a' : Answer) (b : Bool) (x y z : Ran) → a ≡ a' → b ≡ is_taken a → not b ≡ false → z ≡ x → z ≡ cond (is_taken a') x y
taken-by a a' b x y z e f n g = g ∙ sym (cond-true (is_taken a') x y (sym (ap is_taken e) ∙ sym f ∙ not-false b n))

-- ---- storing: what a taken command leaves of session and memory

pub ran-stored :
    (a a' : Session) (m m' : Memory) (b v o : List ℕ) → a ≡ a' → m ≡ m' → in_memory (done Taken a 0) b v o m ≡ in_memory (done Taken a' 0) b v o m'
ran-stored a a' m m' b v o p q = λ j. in_memory (done Taken (p j) 0) b v o (q j)
