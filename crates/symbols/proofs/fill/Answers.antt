use mathlib.Core.Path.{refl}
use native.Mathlib.Omega.{arith}
use Rattle.symbols.specs.Elements.{elements_in}
use Rattle.kinds.proofs.FitData.{fit-most, fit-even, fit-twelve}
use Rattle.symbols.proofs.fill.Goals as goal

pub fill-requires : goal.fill-requires
fill-requires c = fit-most _ _ c.requires

pub fill-requires-in-Interleaved : goal.fill-requires-in-Interleaved
fill-requires-in-Interleaved c = (fit-most _ _ c.requires, fit-even _ (rw c.in-Interleaved.is at c.requires))

pub fill-requires-in-Ean13 : goal.fill-requires-in-Ean13
fill-requires-in-Ean13 c = fit-twelve _ (rw c.in-Ean13.is at c.requires)

pub returns-in-Shown : goal.returns-in-Shown
unfolding elements_in
returns-in-Shown c = rw c.in-Shown.is (record { next = refl; written = refl }, omega arith)

pub returns-in-Code39 : goal.returns-in-Code39
unfolding elements_in
returns-in-Code39 c = rw c.in-Code39.is c.fill.ensures

pub returns-in-Interleaved : goal.returns-in-Interleaved
unfolding elements_in
returns-in-Interleaved c = rw c.in-Interleaved.is c.fill-in-Interleaved.ensures

pub returns-in-Ean13 : goal.returns-in-Ean13
unfolding elements_in
returns-in-Ean13 c = rw c.in-Ean13.is c.fill-in-Ean13.ensures

pub returns-in-Code128 : goal.returns-in-Code128
unfolding elements_in
returns-in-Code128 c = rw c.in-Code128.is c.fill-in-Code128.ensures
