-- The rows of 19 and 23, and room: where neither applies there is room, and the other way round.
-- Assumes nothing.
use mathlib.Core.Path.{◌≡◌, refl, sym, ap, ◌∙◌}
use mathlib.Core.Bool.{Bool, true, false, not, ◌&&◌, true≢false}
use mathlib.Core.List.{List, [], ◌∷◌}
use Prim.Native.Nat.{ℕ}
use native.Mathlib.Omega.{arith}
use Rattle.ground.proofs.Tests.{and_left, and_right, and_both}
use Rattle.store.specs.Chain.{needed}
use Rattle.room.specs.Room.{has_portions, has_entry, has_room}
use Rattle.answers.specs.declared.Answer.TheVariants.{Taken, FewPortions, NoEntry}
use Rattle.answers.specs.Answers.{row, answer_of, number_of}
use Rattle.full.specs.Full.{full_rows}

-- ---- by what there is: p, as many free portions as needed; q, an empty entry

taken-both : (p q : Bool) → answer_of (row FewPortions (not p) ∷ row NoEntry (not q) ∷ []) ≡ Taken → (q && p) ≡ true
unfolding answer_of number_of
taken-both true true e = refl
taken-both true false e = absurd (let z = ap number_of e in omega (arith, z))
taken-both false q e = absurd (let z = ap number_of e in omega (arith, z))

pub both-taken : (p q : Bool) → (p && q) ≡ true → answer_of (row FewPortions (not p) ∷ row NoEntry (not q) ∷ []) ≡ Taken
unfolding answer_of
both-taken true true e = refl
both-taken true false e = absurd (true≢false (sym e))
both-taken false q e = absurd (true≢false (sym e))

-- an entry is missing where portions are there and not both
pub entries-missing : (p q r : Bool) → r ≡ (p && q) → r ≡ false → p ≡ true → NoEntry ≡ answer_of (row FewPortions (not p) ∷ row NoEntry (not q) ∷ [])
unfolding answer_of
entries-missing true false r e f h = refl
entries-missing true true r e f h = absurd (true≢false (sym e ∙ f))
entries-missing false q r e f h = absurd (true≢false (sym h))

-- ---- of a number of free portions and a directory

module _ (free : ℕ) (directory : List ℕ) (size : ℕ) where
  pub taken-room : answer_of (full_rows free directory size) ≡ Taken → has_room free directory size ≡ true
  unfolding has_room
  taken-room e = taken-both (has_portions free (needed size)) (has_entry directory) e

  pub room-taken : has_room free directory size ≡ true → answer_of (full_rows free directory size) ≡ Taken
  unfolding has_room
  room-taken e = both-taken (has_portions free (needed size)) (has_entry directory) (and_both _ _ (and_right (has_entry directory) _ e) (and_left (has_entry directory) _ e))
