use Rattle.recording.specs.Judged.{declares}
use Rattle.recording.proofs.declare.Goals as goal

pub returns-in-Origin : goal.returns-in-Origin
unfolding declares
returns-in-Origin c = rw c.in-Origin.is

pub returns-in-Variable : goal.returns-in-Variable
unfolding declares
returns-in-Variable c = rw c.in-Variable.is c.with_variable.ensures

pub returns-in-Counter : goal.returns-in-Counter
unfolding declares
returns-in-Counter c = rw c.in-Counter.is c.with_counter.ensures

pub returns-in-Text : goal.returns-in-Text
unfolding declares
returns-in-Text c = rw c.in-Text.is

pub returns-in-Bars : goal.returns-in-Bars
unfolding declares
returns-in-Bars c = rw c.in-Bars.is

pub returns-in-Box : goal.returns-in-Box
unfolding declares
returns-in-Box c = rw c.in-Box.is

pub returns-in-Frame : goal.returns-in-Frame
unfolding declares
returns-in-Frame c = rw c.in-Frame.is

pub returns-in-Slant : goal.returns-in-Slant
unfolding declares
returns-in-Slant c = rw c.in-Slant.is

pub returns-in-Picture : goal.returns-in-Picture
unfolding declares
returns-in-Picture c = rw c.in-Picture.is

pub returns-in-Format : goal.returns-in-Format
unfolding declares
returns-in-Format c = rw c.in-Format.is c.formatted.ensures
