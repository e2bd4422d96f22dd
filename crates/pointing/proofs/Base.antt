-- What was taken before refusals pointed is taken as before, and so is what was refused: only the places of answer 6 are others.
use Rattle.std.proofs.Common.{Option, Some, None}
use mathlib.Core.Path.{◌≡◌, refl}
use mathlib.Core.Bool.{Bool, true, false, cond, ◌&&◌, ◌||◌, not}
use mathlib.Core.List.{List, [], ◌∷◌}
use Prim.Native.Nat.{ℕ}
use Prim.Native.Char.{code}
use lib.Dec.{T, eqb}
use lib.ListN.{length}
use borrow.Author.Tests.{eqb-true}
use Rattle.classes.specs.declared.Class.TheVariants.{Mode, Side}
use Rattle.classes.proofs.Laws.{and_T}
use Rattle.reader.specs.Letters.{field_at}
use Rattle.grammar.specs.Forms.{row_of, is_field}
use Rattle.heads.specs.Heads.{head_of}
use Rattle.row_fields.specs.Reading.{Got, good, bad, fields_from}
use Rattle.read.specs.Commands.{judged, headed, read_of}
use Rattle.pointing.specs.Base.{plain_field_at, plain_fields_from, plain_headed, plain_read_of, placeless}
use Rattle.pointing.proofs.Rows.{to_end, ending, last, then_data, then-data, fine, every-fine, both-no}
use Rattle.pointing.proofs.Alike.{Alike, Close, equal, close-cond, close-alike, letter-close, type-close, signed-close, under-close}

-- ---- the letters of a row

-- the letter c of a field is followed by a comma, or by nothing
ends_at : (c f : ℕ) (fs : List ℕ) → eqb c (code "h") ≡ false → to_end c ≡ false → is_field c ≡ true → T (fine (f ∷ fs)) → eqb f c ≡ true → T (ending fs)
unfolding fine
ends_at c f fs p q r h e =
    let k : T (fine (c ∷ fs)) = rw (eqb-true f c e) at h in
    let x = both-no (eqb c (code "h")) (to_end c) (then_data fs) (last fs) ((ending fs || not (is_field c)) && fine fs) p q k in
    let y = (and_T (ending fs || not (is_field c)) (fine fs) x).0 in
    go (ending fs) (rw r at y)
  where
    go : (t : Bool) → T (t || false) → T t
    go true z = z
    go false z = z

under_at : (f : ℕ) (fs : List ℕ) → T (fine (f ∷ fs)) → eqb f (code "h") ≡ true → fs ≡ code "," ∷ (code "d" ∷ [])
unfolding fine
under_at f fs h e = then-data fs (let k : T (fine (code "h" ∷ fs)) = rw (eqb-true f (code "h") e) at h in k)

fine-tail : (f : ℕ) (fs : List ℕ) → T (fine (f ∷ fs)) → T (fine fs)
unfolding fine
fine-tail f fs h = go (eqb f (code "h")) (to_end f) h
  where
    done : (fs : List ℕ) → T (last fs) → T (fine fs)
    done [] k = tt
    done (c ∷ cs) k = absurd k

    go : (a b : Bool) → T (cond a (then_data fs) (cond b (last fs) ((ending fs || not (is_field f)) && fine fs))) → T (fine fs)
    go true b k = rw (then-data fs k) tt
    go false true k = done fs k
    go false false k = (and_T (ending fs || not (is_field f)) (fine fs) k).1

field-close : (f : ℕ) (fs : List ℕ) → T (fine (f ∷ fs)) → (s : List ℕ) (at : ℕ) → Close fs s (field_at f s at) (plain_field_at f s at)
unfolding field_at plain_field_at
field-close f fs h s at =
    close-cond fs s _ _ _ _ (eqb f (code "n") || (eqb f (code "w") || eqb f (code "y"))) (λ e. equal _)
    (λ e.
    close-cond fs s _ _ _ _ (eqb f (code "t") || (eqb f (code "a") || (eqb f (code "z") || eqb f (code "u")))) (λ e. equal _)
    (λ e.
    close-cond fs s _ _ _ _ (eqb f (code "s")) (λ e. signed-close fs s at)
    (λ e.
    close-cond fs s _ _ _ _ (eqb f (code "m")) (λ e. letter-close Mode fs s at (ends_at (code "m") f fs refl refl refl h e))
    (λ e.
    close-cond fs s _ _ _ _ (eqb f (code "j")) (λ e. letter-close Side fs s at (ends_at (code "j") f fs refl refl refl h e))
    (λ e.
    close-cond fs s _ _ _ _ (eqb f (code "k")) (λ e. type-close fs s at (ends_at (code "k") f fs refl refl refl h e))
    (λ e.
    close-cond fs s _ _ _ _ (eqb f (code "h")) (λ e. rw (under_at f fs h e) (under-close s at))
    (λ e. equal _)))))))

-- ---- a line

fields-alike : (fs : List ℕ) → T (fine fs) → (s : List ℕ) (at : ℕ) → Alike (fields_from fs s at) (plain_fields_from fs s at)
fields-alike [] h s at = same
  where
    go : (t : Bool) → Alike (cond t (good [] []) (bad [] [] at)) (cond t (good [] []) (bad [] [] at))
    go true = (refl, refl)
    go false = tt

    same : Alike (fields_from [] s at) (plain_fields_from [] s at)
    same = unfold fields_from plain_fields_from in go (eqb at (length s))
fields-alike (f ∷ fs) h s at = close-alike f fs s at (field-close f fs h s at) (λ e. fields-alike fs (fine-tail f fs h) s e)

alike-judged : (row rows : ℕ) (s : List ℕ) (g h : Got) → Alike g h → placeless (judged row rows s g) ≡ placeless (judged row rows s h)
unfolding judged
alike-judged row rows s (good vs ps) (good ws qs) k = rw (k.0, k.1)
alike-judged row rows s (good vs ps) (bad ws qs q) k = absurd k
alike-judged row rows s (bad vs ps p) (good ws qs) k = absurd k
alike-judged row rows s (bad vs ps p) (bad ws qs q) k = refl

-- every line is taken, refused by its form or refused by a limit as before, and a limit has the place that it had
pub reads-as-before : (rows : ℕ) (s : List ℕ) → placeless (read_of rows s) ≡ placeless (plain_read_of rows s)
unfolding read_of headed plain_read_of plain_headed
reads-as-before rows s = go (head_of s)
  where
    go : (x : Option ℕ) → placeless (headed x rows s) ≡ placeless (plain_headed x rows s)
    go None = refl
    go (Some row) =
        alike-judged row rows s (fields_from (row_of row).fields s 0) (plain_fields_from (row_of row).fields s 0) (fields-alike (row_of row).fields (every-fine row) s 0)
