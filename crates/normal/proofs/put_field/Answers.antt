use Prim.Native.Char.{code}
use borrow.Author.Tests.{ne_eqb}
use mathlib.Core.Path.{◌∙◌, ap}
use mathlib.Core.Bool.{false}
use lib.ListN.{take}
use Rattle.normal.specs.Written.{written_field}
use Rattle.writing.specs.Writing.{cased}
use Rattle.writing.proofs.Writes.{wrote-same}
use Rattle.normal.proofs.put_field.Goals as goal

pub returns-in-110 : goal.returns-in-110
unfolding written_field
returns-in-110 c = rw c.in-110.is c.put_decimal.ensures

pub returns-in-119 : goal.returns-in-119
unfolding written_field
returns-in-119 c = rw c.in-119.is c.put_decimal-in-119.ensures

pub returns-in-121 : goal.returns-in-121
unfolding written_field
returns-in-121 c = rw c.in-121.is c.put_decimal-in-121.ensures

pub returns-in-116 : goal.returns-in-116
unfolding written_field
returns-in-116 c = rw c.in-116.is c.put_text.ensures

pub returns-in-117 : goal.returns-in-117
unfolding written_field
returns-in-117 c = rw c.in-117.is c.put_text-in-117.ensures

pub returns-in-97 : goal.returns-in-97
unfolding written_field
returns-in-97 c = rw c.in-97.is c.put_text-in-97.ensures

pub returns-in-122 : goal.returns-in-122
unfolding written_field
returns-in-122 c = rw c.in-122.is c.put_text-in-122.ensures

pub returns-in-115 : goal.returns-in-115
unfolding written_field
returns-in-115 c = rw c.in-115.is c.put_signed.ensures

pub returns-in-109 : goal.returns-in-109
unfolding written_field
returns-in-109 c = rw c.in-109.is (wrote-same c.copy.ensures (ap (cased false) (c.first.ensures ∙ ap (take 1) c.rest.ensures)))

pub returns-in-106 : goal.returns-in-106
unfolding written_field
returns-in-106 c = rw c.in-106.is (wrote-same c.copy-in-106.ensures (ap (cased false) (c.first-in-106.ensures ∙ ap (take 1) c.rest-in-106.ensures)))

pub returns-in-107 : goal.returns-in-107
unfolding written_field
returns-in-107 c = rw (c.in-107.is, ← c.type_length.ensures)
    (wrote-same c.copy-in-107.ensures (ap (cased false) (c.first-in-107.ensures ∙ ap (take c.type_length.result) c.rest-in-107.ensures)))

pub returns-in-104 : goal.returns-in-104
unfolding written_field
returns-in-104 c = rw c.in-104.is c.put_word.ensures

pub returns-in-100 : goal.returns-in-100
unfolding written_field
returns-in-100 c = rw c.in-100.is c.put_data.ensures

pub returns-in-102 : goal.returns-in-102
unfolding written_field
returns-in-102 c = rw c.in-102.is (wrote-same c.copy-in-102.ensures (ap (cased false) c.rest-in-102.ensures))

pub returns-in-103 : goal.returns-in-103
unfolding written_field
returns-in-103 c = rw c.in-103.is (wrote-same c.copy-in-103.ensures (ap (cased false) c.rest-in-103.ensures))

pub returns-in_default : goal.returns-in_default
unfolding written_field
returns-in_default c = let r = c.in_default.in_default-own.rest in
    simp (
      ne_eqb _ (code "n") r.0.0.0.0.0.0.0.0.0.0.0.0.0.0.1,
      ne_eqb _ (code "w") r.0.0.0.0.0.0.0.0.0.0.0.0.0.1,
      ne_eqb _ (code "y") r.0.0.0.0.0.0.0.0.0.0.0.0.1,
      ne_eqb _ (code "t") r.0.0.0.0.0.0.0.0.0.0.0.1,
      ne_eqb _ (code "u") r.0.0.0.0.0.0.0.0.0.0.1,
      ne_eqb _ (code "a") r.0.0.0.0.0.0.0.0.0.1,
      ne_eqb _ (code "z") r.0.0.0.0.0.0.0.0.1,
      ne_eqb _ (code "s") r.0.0.0.0.0.0.0.1,
      ne_eqb _ (code "m") r.0.0.0.0.0.0.1,
      ne_eqb _ (code "j") r.0.0.0.0.0.1,
      ne_eqb _ (code "k") r.0.0.0.0.1,
      ne_eqb _ (code "h") r.0.0.0.1,
      ne_eqb _ (code "d") r.0.0.1,
      ne_eqb _ (code "f") r.0.1,
      ne_eqb _ (code "g") r.1,
    )
    c.put.ensures
