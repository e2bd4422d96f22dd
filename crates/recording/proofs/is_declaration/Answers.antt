use Rattle.recording.specs.Judged.{declaration}
use Rattle.recording.proofs.is_declaration.Goals as goal

pub returns-in-Origin : goal.returns-in-Origin
unfolding declaration
returns-in-Origin c = rw c.in-Origin.is

pub returns-in-Variable : goal.returns-in-Variable
unfolding declaration
returns-in-Variable c = rw c.in-Variable.is

pub returns-in-Counter : goal.returns-in-Counter
unfolding declaration
returns-in-Counter c = rw c.in-Counter.is

pub returns-in-Text : goal.returns-in-Text
unfolding declaration
returns-in-Text c = rw c.in-Text.is

pub returns-in-Bars : goal.returns-in-Bars
unfolding declaration
returns-in-Bars c = rw c.in-Bars.is

pub returns-in-Box : goal.returns-in-Box
unfolding declaration
returns-in-Box c = rw c.in-Box.is

pub returns-in-Frame : goal.returns-in-Frame
unfolding declaration
returns-in-Frame c = rw c.in-Frame.is

pub returns-in-Slant : goal.returns-in-Slant
unfolding declaration
returns-in-Slant c = rw c.in-Slant.is

pub returns-in-Picture : goal.returns-in-Picture
unfolding declaration
returns-in-Picture c = rw c.in-Picture.is

pub returns-in-Format : goal.returns-in-Format
unfolding declaration
returns-in-Format c = rw c.in-Format.is
