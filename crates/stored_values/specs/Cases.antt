-- Values entered, computed.
-- Assumes nothing.
use Prim.Native.Char.{code}
use Rattle.std.specs.Prelude.{◌≡◌, refl, [], Err}
use Rattle.kinds.specs.Bytes.{between}
use Rattle.kinds.specs.Text.{bytes}
use Rattle.declarations.specs.declared.Declared.{Declared}
use Rattle.declarations.specs.declared.Refused.TheVariants.{Undeclared, Unfit}
use Rattle.declarations.specs.Declarations.{nothing, with_variable}
use Rattle.padding.specs.Padding.{enters}
use Rattle.stored_values.specs.Stored.{variable_entered}

-- V0 of length 5, left justified
declared : Declared
declared = with_variable nothing 0 5 (code "L")

-- six bytes do not fit V0, and no text fits V1
case-long : (variable_entered declared 0 (bytes "ABCDEF") []).answer ≡ Err Unfit
unfolding declared with_variable nothing variable_entered enters between
case-long = refl

case-unknown : (variable_entered declared 1 [] []).answer ≡ Err Undeclared
unfolding declared with_variable nothing variable_entered
case-unknown = refl
