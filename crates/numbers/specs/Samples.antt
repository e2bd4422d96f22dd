-- Numbers of the paper's lines, and what reading them gives: antt computes each.
-- Assumes nothing.
use Rattle.std.specs.Prelude.{◌≡◌, refl, Ok, Err}
use Rattle.classes.specs.KindsBytes.{between}
use Rattle.classes.specs.Text.{bytes}
use Rattle.classes.specs.Bytes.{run}
use Rattle.numbers.specs.Number.{value_from, number_at, signed_at}

-- leading zeros are allowed, nine digits at most, and no sign stands before a number
zeros : number_at (bytes "LO010,2") 2 ≡ Ok (10, 5)
unfolding number_at run between value_from
zeros = refl

nine : number_at (bytes "P999999999") 1 ≡ Ok (999999999, 10)
unfolding number_at run between value_from
nine = refl

ten : number_at (bytes "P0000000001") 1 ≡ Err 1
unfolding number_at run between value_from
ten = refl

unsigned : number_at (bytes "P+1") 1 ≡ Err 1
unfolding number_at run between value_from
unsigned = refl

-- minus zero is plus zero
minus-zero : signed_at (bytes "-000") 0 ≡ Ok (1000000000, 4)
unfolding signed_at number_at run between value_from
minus-zero = refl

minus_one : signed_at (bytes "-1") 0 ≡ Ok (999999999, 2)
unfolding signed_at number_at run between value_from
minus_one = refl

-- a sign and its digits are one piece: where they are no number the sign is at fault, or the LF where the line ends behind it
sign-alone : signed_at (bytes "C0,1,+") 5 ≡ Err 6
unfolding signed_at number_at run between value_from
sign-alone = refl

sign-letter : signed_at (bytes "C0,1,+x") 5 ≡ Err 5
unfolding signed_at number_at run between value_from
sign-letter = refl

sign-ten : signed_at (bytes "C0,1,-1234567890") 5 ≡ Err 5
unfolding signed_at number_at run between value_from
sign-ten = refl
