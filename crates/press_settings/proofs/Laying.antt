-- A text that is written into a room of its own is there as far as the room holds it.
use mathlib.Core.Path.{◌≡◌, refl, sym, ap, ◌∙◌}
use mathlib.Core.List.{List}
use Prim.Native.Nat.{ℕ, ◌+◌, min}
use native.Mathlib.Omega.{arith}
use lib.ListN.{length, take, drop, length-take}
use lib.Seq.{sets, sets-eq, take_at}
use Rattle.ground.proofs.Stores.{sets_cut}
use Rattle.press_settings.specs.Names.{room, fitting}

pub laid : (out xs o : List ℕ) (r : ℕ) → room ≡ length out → r ≡ min (0 + length xs) (length out) → o ≡ sets out 0 xs → take r o ≡ fitting xs
laid out xs o r e p w =
    let ys = take room xs in
    let l = length-take room xs in
    let k : r ≡ length ys = omega (arith, l) in
    let s : o ≡ sets out 0 ys = w ∙ sym (sets_cut out 0 xs room (omega arith)) in
    rw (k, s)
    (ap (take (length ys)) (sets-eq ys out 0 (omega (arith, l))) ∙ take_at ys (drop (0 + length ys) out) (length ys) refl)
