use mathlib.Core.Path.{◌≡◌, refl, sym, ap, ◌∙◌}
use mathlib.Core.Bool.{Bool, true, false, not}
use mathlib.Core.List.{List}
use Prim.Native.Nat.{ℕ}
use lib.ListN.{length}
use lib.Dec.{eqb}
use borrow.Author.Tests.{eq-eqb, ne_eqb}
use Rattle.slots.specs.Slots.{version_at, body_sum_at}
use Rattle.writing.specs.Writing.{equal}
use Rattle.low_first.specs.Low.{number_at}
use Rattle.lasting.specs.File.{name, rows_of, file_size, file_sum, version_wrong, sizes_wrong}
use Rattle.file_parts.specs.Sums.{part_of}
use Rattle.lasting.proofs.Verdicts.{judged-by}
use Rattle.std.proofs.Common.{rules}
use Rattle.lasting.proofs.judged.judge.Goals as goal

pub returns-then-not-same : goal.returns-then-not-same
returns-then-not-same c = let f = c.args.file.now in
    let a : true ≡ not (equal (part_of f 0 version_at) name) = rw (← c.part.ensures, ← c.same.ensures) (sym (ap not c.if-not-same.true)) in
    judged-by f _ _ _ _ _ _ a refl refl refl refl refl

pub returns-then-version_wrong : goal.returns-then-version_wrong
returns-then-version_wrong c = let f = c.args.file.now in
    let a : false ≡ not (equal (part_of f 0 version_at) name) = rw (← c.part.ensures, ← c.same.ensures) (sym (ap not c.if-not-same.false)) in
    let b : true ≡ version_wrong f = sym c.if-version_wrong.true ∙ c.version_wrong.ensures in
    judged-by f _ _ _ _ _ _ a b refl refl refl refl

pub returns-then-sizes_wrong : goal.returns-then-sizes_wrong
returns-then-sizes_wrong c = let f = c.args.file.now in
    let a : false ≡ not (equal (part_of f 0 version_at) name) = rw (← c.part.ensures, ← c.same.ensures) (sym (ap not c.if-not-same.false)) in
    let b : false ≡ version_wrong f = sym c.if-version_wrong.false ∙ c.version_wrong.ensures in
    let w : true ≡ sizes_wrong f = sym c.if-sizes_wrong.true ∙ c.sizes_wrong.ensures in
    judged-by f _ _ _ _ _ _ a b w refl refl refl

pub returns-then-file-rows : goal.returns-then-file-rows
returns-then-file-rows c = let f = c.args.file.now in
    let a : false ≡ not (equal (part_of f 0 version_at) name) = rw (← c.part.ensures, ← c.same.ensures) (sym (ap not c.if-not-same.false)) in
    let b : false ≡ version_wrong f = sym c.if-version_wrong.false ∙ c.version_wrong.ensures in
    let w : false ≡ sizes_wrong f = sym c.if-sizes_wrong.false ∙ c.sizes_wrong.ensures in
    let d : true ≡ not (eqb (length f) (file_size (rows_of f))) = rw (← c.rows.ensures.0, ne_eqb _ _ c.if-file-rows.true) in
    judged-by f _ _ _ _ _ _ a b w d refl refl

pub returns-then-file_sum-four_at : goal.returns-then-file_sum-four_at
returns-then-file_sum-four_at c = let f = c.args.file.now in
    let a : false ≡ not (equal (part_of f 0 version_at) name) = rw (← c.part.ensures, ← c.same.ensures) (sym (ap not c.if-not-same.false)) in
    let b : false ≡ version_wrong f = sym c.if-version_wrong.false ∙ c.version_wrong.ensures in
    let w : false ≡ sizes_wrong f = sym c.if-sizes_wrong.false ∙ c.sizes_wrong.ensures in
    let d : false ≡ not (eqb (length f) (file_size (rows_of f))) = rw (← c.rows.ensures.0, eq-eqb _ _ c.if-file-rows.false) in
    let e : true ≡ not (eqb (file_sum f) (number_at 4 f body_sum_at)) = rw (← c.file_sum.ensures, ← c.four_at.ensures, ne_eqb _ _ c.if-file_sum-four_at.true) in
    judged-by f _ _ _ _ _ _ a b w d e refl

pub returns : goal.returns
returns c = let f = c.args.file.now in
    let a : false ≡ not (equal (part_of f 0 version_at) name) = rw (← c.part.ensures, ← c.same.ensures) (sym (ap not c.if-not-same.false)) in
    let b : false ≡ version_wrong f = sym c.if-version_wrong.false ∙ c.version_wrong.ensures in
    let w : false ≡ sizes_wrong f = sym c.if-sizes_wrong.false ∙ c.sizes_wrong.ensures in
    let d : false ≡ not (eqb (length f) (file_size (rows_of f))) = rw (← c.rows.ensures.0, eq-eqb _ _ c.if-file-rows.false) in
    let e : false ≡ not (eqb (file_sum f) (number_at 4 f body_sum_at)) = rw (← c.file_sum.ensures, ← c.four_at.ensures, eq-eqb _ _ c.if-file_sum-four_at.false) in
    judged-by f _ _ _ _ _ _ a b w d e c.choose.ensures
