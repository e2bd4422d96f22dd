-- What the definition of a frame says of the paper's own numbers, computed.
-- Assumes nothing.
use Rattle.std.specs.Prelude.{◌+◌, ◌≡◌, refl}
use Rattle.dots.specs.Cases.{count_below}
use Rattle.frames.specs.Frame.{frame}

-- proof case 6, `X10,10,3,360,250`: 350 by 240, with three dots of thickness at each side
pub x-wide : count_below 608 (λ x. frame 10 10 3 360 250 x 10) ≡ 350
x-wide = refl

pub x-high : count_below 4000 (λ y. frame 10 10 3 360 250 10 y) ≡ 240
x-high = refl

pub x-sides : count_below 608 (λ x. frame 10 10 3 360 250 x 100) ≡ 3 + 3
x-sides = refl

-- the corners may be given the other way round
pub x-turned : count_below 608 (λ x. frame 360 250 3 10 10 x 10) ≡ 350
x-turned = refl

-- a frame too thick is filled, and one with no inside at all is nothing
pub x-filled : count_below 608 (λ x. frame 10 10 80 60 60 x 35) ≡ 50
x-filled = refl

pub x-nothing : count_below 608 (λ x. frame 10 10 3 10 250 x 100) ≡ 0
x-nothing = refl
