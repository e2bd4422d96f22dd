use mathlib.Core.Path.{refl}
use Rattle.station.proofs.Calls.{command-refused, command-other, command-line}
use mathlib.Core.Bool.{not}
use mathlib.Core.Path.{ap}
use Rattle.station.proofs.commanding.command.Goals as goal

pub shape_of-background-then-not-is_taken : goal.shape_of-background-then-not-is_taken
shape_of-background-then-not-is_taken c = refl

pub shape_of-store-then-not-is_taken : goal.shape_of-store-then-not-is_taken
shape_of-store-then-not-is_taken c = refl

pub shape_of-links-then-not-is_taken : goal.shape_of-links-then-not-is_taken
shape_of-links-then-not-is_taken c = refl

pub shape_of-directory-then-not-is_taken : goal.shape_of-directory-then-not-is_taken
shape_of-directory-then-not-is_taken c = refl

pub shape_of-values-then-not-is_taken : goal.shape_of-values-then-not-is_taken
shape_of-values-then-not-is_taken c = refl

pub returns-then-not-is_taken : goal.returns-then-not-is_taken
returns-then-not-is_taken c = let t = c in
    rw c.outcome.ensures (command-refused _ _ _ _ _ _ _ _ refl t.first_answer-a.ensures t.is_taken.ensures (ap not c.if-not-is_taken.true))

pub shape_of-background-then-is_line : goal.shape_of-background-then-is_line
shape_of-background-then-is_line c = c.background-1.given

pub shape_of-store-then-is_line : goal.shape_of-store-then-is_line
shape_of-store-then-is_line c = c.store-1.given

pub shape_of-links-then-is_line : goal.shape_of-links-then-is_line
shape_of-links-then-is_line c = c.links-1.given

pub shape_of-directory-then-is_line : goal.shape_of-directory-then-is_line
shape_of-directory-then-is_line c = c.directory-1.given

pub shape_of-values-then-is_line : goal.shape_of-values-then-is_line
shape_of-values-then-is_line c = c.values-1.given

pub shape_of-output-then-is_line : goal.shape_of-output-then-is_line
shape_of-output-then-is_line c = c.output-1.given

pub returns-then-is_line : goal.returns-then-is_line
returns-then-is_line c = let o = c in let l = o in let r = l in let i = r in
    command-line _ _ _ _ _ _ _ _ _ _ i.first_answer-a.ensures i.is_taken.ensures (ap not i.if-not-is_taken.false) r.front-f.ensures r.front_read-read.ensures
    l.is_line.ensures _ _ l.if-is_line.true o.line_in.ensures o.on_line.ensures

pub shape_of-background : goal.shape_of-background
shape_of-background c = refl

pub shape_of-store : goal.shape_of-store
shape_of-store c = refl

pub shape_of-links : goal.shape_of-links
shape_of-links c = refl

pub shape_of-directory : goal.shape_of-directory
shape_of-directory c = refl

pub shape_of-values : goal.shape_of-values
shape_of-values c = refl

pub returns : goal.returns
returns c = let l = c in let r = l in let i = r in
    command-other _ _ _ _ _ _ _ _ _ _ i.first_answer-a.ensures i.is_taken.ensures (ap not i.if-not-is_taken.false) r.front-f.ensures r.front_read-read.ensures
    l.is_line.ensures _ _ l.if-is_line.false c.front_answer.ensures c.outcome-2.ensures
