use mathlib.Core.Path.{refl}
use native.Mathlib.Omega.{arith}
use Rattle.bars.specs.Drawing.{dots_of}
use Rattle.bars.proofs.width.Goals as goal

pub returns-in-Shown : goal.returns-in-Shown
unfolding dots_of
returns-in-Shown c = rw c.in-Shown.is (refl, omega arith)

pub returns-in-Code39 : goal.returns-in-Code39
unfolding dots_of
returns-in-Code39 c = rw c.in-Code39.is c.narrow_or_wide.ensures

pub returns-in-Interleaved : goal.returns-in-Interleaved
unfolding dots_of
returns-in-Interleaved c = rw c.in-Interleaved.is c.narrow_or_wide-in-Interleaved.ensures

pub returns-in-Ean13 : goal.returns-in-Ean13
unfolding dots_of
returns-in-Ean13 c = rw c.in-Ean13.is c.modules.ensures

pub returns-in-Code128 : goal.returns-in-Code128
unfolding dots_of
returns-in-Code128 c = rw c.in-Code128.is c.modules-in-Code128.ensures
