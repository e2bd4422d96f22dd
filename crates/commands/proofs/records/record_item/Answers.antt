use Rattle.normal.specs.Written.{normal}
use mathlib.Core.Path.{ap, ◌∙◌}
use native.Mathlib.Omega.{arith}
use Rattle.growing.specs.Grow.{grown}
use Rattle.answers.specs.Answers.{answer_of}
use Rattle.results.proofs.Parts.{refused-by, taken-by, ran-stored}
use Rattle.commands.proofs.Kept.{kept_line, wrote-length}
use mathlib.Core.Bool.{not}
use Rattle.commands.proofs.records.record_item.Goals as goal

pub record_answer-a-requires : goal.record_answer-a-requires
record_answer-a-requires c = let w = c in let z = w in omega (arith, wrote-length _ _ _ z.requires w.write-n.ensures, z.requires)

pub returns-then-not-is_taken : goal.returns-then-not-is_taken
unfolding answer_of
returns-then-not-is_taken c = let w = c in let z = w in
    rw (c.answered.ensures, ← (wrote-length _ _ _ z.requires w.write-n.ensures))
    (refused-by _ _ _ _ _ _ _ c.record_answer-a.ensures c.is_taken.ensures (ap not c.if-not-is_taken.true))

pub overflow_add-n : goal.overflow_add-n
overflow_add-n c = let w = c in let z = w in omega (arith, wrote-length _ _ _ z.requires w.write-n.ensures, z.requires)

pub overflow_cast-n : goal.overflow_cast-n
overflow_cast-n c = let w = c in let z = w in omega (arith, wrote-length _ _ _ z.requires w.write-n.ensures, z.requires)

pub overflow_add-n-2 : goal.overflow_add-n-2
overflow_add-n-2 c = let w = c in let z = w in omega (arith, wrote-length _ _ _ z.requires w.write-n.ensures, z.requires)

pub returns : goal.returns
unfolding answer_of
returns c = let g = c in let f = g in let i = f in let w = i in let z = w in
    rw (c.taken.ensures, ← (wrote-length _ _ _ z.requires w.write-n.ensures))
    (taken-by _ _ _ _ _ _ i.record_answer-a.ensures i.is_taken.ensures (ap not i.if-not-is_taken.false)
    (ran-stored _ _ _ _ _ _ _ f.after_grown-after.ensures
    (g.grow.ensures
    ∙ ap (grown _ _) (kept_line (normal z.args.line.now) _ _ _ z.requires (wrote-length _ _ _ z.requires w.write-n.ensures) w.write-n.ensures.stored g.first.ensures))))
