use mathlib.Core.Path.{ap, ◌∙◌}
use mathlib.Core.Bool.{Bool, cond}
use Rattle.std.proofs.Common.{Ok, Err}
use Rattle.recording.specs.declared.Refusal.TheVariants.{Again}
use Rattle.grammar.specs.Named.{DECLARED-AT}
use Rattle.recording.specs.Judged.{judged}
use Rattle.recording.proofs.judge.Goals as goal

pub returns-in-Origin : goal.returns-in-Origin
unfolding judged
returns-in-Origin c = rw c.in-Origin.is

pub returns-in-Variable : goal.returns-in-Variable
unfolding judged
returns-in-Variable c = rw c.in-Variable.is (c.again.ensures ∙ ap (λ (x : Bool). cond x (Err (Again DECLARED-AT)) (Ok tt)) c.variable_declared.ensures)

pub returns-in-Counter : goal.returns-in-Counter
unfolding judged
returns-in-Counter c = rw c.in-Counter.is (c.again-in-Counter.ensures ∙ ap (λ (x : Bool). cond x (Err (Again DECLARED-AT)) (Ok tt)) c.counter_declared.ensures)

pub returns-in-Text : goal.returns-in-Text
unfolding judged
returns-in-Text c = rw c.in-Text.is c.judge_data.ensures

pub returns-in-Bars : goal.returns-in-Bars
unfolding judged
returns-in-Bars c = rw c.in-Bars.is c.judge_data-in-Bars.ensures

pub returns-in-Box : goal.returns-in-Box
unfolding judged
returns-in-Box c = rw c.in-Box.is

pub returns-in-Frame : goal.returns-in-Frame
unfolding judged
returns-in-Frame c = rw c.in-Frame.is

pub returns-in-Slant : goal.returns-in-Slant
unfolding judged
returns-in-Slant c = rw c.in-Slant.is

pub returns-in-Picture : goal.returns-in-Picture
unfolding judged
returns-in-Picture c = rw c.in-Picture.is

pub returns-in-Format : goal.returns-in-Format
unfolding judged
returns-in-Format c = rw c.in-Format.is
