use Prim.Native.Nat.{ℕ, ◌+◌, ◌-◌}
use mathlib.Core.Path.{◌≡◌, sym, ap, ◌∙◌}
use lib.ListN.{length, take, drop, replicate, length-take, length-drop}
use Rattle.std.proofs.Common.{arith}
use Rattle.std.proofs.lemmas.List.{length-replicate, take-replicate}
use Rattle.ground.proofs.Stores.{sets-part}
use Rattle.ground.proofs.bytes.fill.Goals as goal

pub returns : goal.returns
returns c = let a = c.args in let from = c.min-from.result in let room = c.min-room.result in
    let part : length (take (from + room - from) (drop from a.out.now)) ≡ room = omega (arith, length-take (from + room - from) (drop from a.out.now), length-drop from a.out.now) in
    sets-part a.out.now (replicate a.n a.b) c.fill.new.self a.at from room _ c.min-from.ensures
    (omega (arith, length-replicate a.n a.b)) (omega arith)
    (c.fill.ensures.after (λ y e. e) ∙ ap (λ (n : ℕ). replicate n a.b) part ∙ sym (take-replicate room a.n a.b (omega arith)))
