use Prim.Native.Char.{code}
use borrow.Author.Tests.{ne_eqb}
use Rattle.reader.specs.Letters.{field_at}
use Rattle.reader.proofs.field_at.Goals as goal

pub returns-in-110 : goal.returns-in-110
unfolding field_at
returns-in-110 c = rw c.in-110.is c.number.ensures

pub returns-in-119 : goal.returns-in-119
unfolding field_at
returns-in-119 c = rw c.in-119.is c.number-in-119.ensures

pub returns-in-121 : goal.returns-in-121
unfolding field_at
returns-in-121 c = rw c.in-121.is c.number-in-121.ensures

pub returns-in-116 : goal.returns-in-116
unfolding field_at
returns-in-116 c = rw c.in-116.is c.text.ensures

pub returns-in-97 : goal.returns-in-97
unfolding field_at
returns-in-97 c = rw c.in-97.is c.text-in-97.ensures

pub returns-in-122 : goal.returns-in-122
unfolding field_at
returns-in-122 c = rw c.in-122.is c.text-in-122.ensures

pub returns-in-117 : goal.returns-in-117
unfolding field_at
returns-in-117 c = rw c.in-117.is c.text-in-117.ensures

pub returns-in-115 : goal.returns-in-115
unfolding field_at
returns-in-115 c = rw c.in-115.is c.signed.ensures

pub returns-in-109 : goal.returns-in-109
unfolding field_at
returns-in-109 c = rw c.in-109.is c.letter.ensures

pub returns-in-106 : goal.returns-in-106
unfolding field_at
returns-in-106 c = rw c.in-106.is c.letter-in-106.ensures

pub returns-in-107 : goal.returns-in-107
unfolding field_at
returns-in-107 c = rw c.in-107.is c.bar_type.ensures

pub returns-in-104 : goal.returns-in-104
unfolding field_at
returns-in-104 c = rw c.in-104.is c.under.ensures

pub returns-in-100 : goal.returns-in-100
unfolding field_at
returns-in-100 c = rw c.in-100.is c.data_form.ensures

pub returns-in-102 : goal.returns-in-102
unfolding field_at
returns-in-102 c = rw c.in-102.is c.format_form.ensures

pub returns-in-103 : goal.returns-in-103
unfolding field_at
returns-in-103 c = rw c.in-103.is c.format_form-in-103.ensures

pub returns-in_default : goal.returns-in_default
unfolding field_at
returns-in_default c = let r = c.in_default.in_default-own.rest in
    simp (
      ne_eqb _ (code "n") r.0.0.0.0.0.0.0.0.0.0.0.0.0.0.1,
      ne_eqb _ (code "w") r.0.0.0.0.0.0.0.0.0.0.0.0.0.1,
      ne_eqb _ (code "y") r.0.0.0.0.0.0.0.0.0.0.0.0.1,
      ne_eqb _ (code "t") r.0.0.0.0.0.0.0.0.0.0.0.1,
      ne_eqb _ (code "a") r.0.0.0.0.0.0.0.0.0.0.1,
      ne_eqb _ (code "z") r.0.0.0.0.0.0.0.0.0.1,
      ne_eqb _ (code "u") r.0.0.0.0.0.0.0.0.1,
      ne_eqb _ (code "s") r.0.0.0.0.0.0.0.1,
      ne_eqb _ (code "m") r.0.0.0.0.0.0.1,
      ne_eqb _ (code "j") r.0.0.0.0.0.1,
      ne_eqb _ (code "k") r.0.0.0.0.1,
      ne_eqb _ (code "h") r.0.0.0.1,
      ne_eqb _ (code "d") r.0.0.1,
      ne_eqb _ (code "f") r.0.1,
      ne_eqb _ (code "g") r.1,
      c.literal.ensures,
    )
