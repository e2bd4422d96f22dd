use Rattle.recording.specs.Judged.{has_picture}
use Rattle.recording.proofs.has_picture.Goals as goal

pub returns-in-Origin : goal.returns-in-Origin
unfolding has_picture
returns-in-Origin c = rw c.in-Origin.is

pub returns-in-Variable : goal.returns-in-Variable
unfolding has_picture
returns-in-Variable c = rw c.in-Variable.is

pub returns-in-Counter : goal.returns-in-Counter
unfolding has_picture
returns-in-Counter c = rw c.in-Counter.is

pub returns-in-Text : goal.returns-in-Text
unfolding has_picture
returns-in-Text c = rw c.in-Text.is

pub returns-in-Bars : goal.returns-in-Bars
unfolding has_picture
returns-in-Bars c = rw c.in-Bars.is

pub returns-in-Box : goal.returns-in-Box
unfolding has_picture
returns-in-Box c = rw c.in-Box.is

pub returns-in-Frame : goal.returns-in-Frame
unfolding has_picture
returns-in-Frame c = rw c.in-Frame.is

pub returns-in-Slant : goal.returns-in-Slant
unfolding has_picture
returns-in-Slant c = rw c.in-Slant.is

pub returns-in-Picture : goal.returns-in-Picture
unfolding has_picture
returns-in-Picture c = rw c.in-Picture.is c.has_named.ensures

pub returns-in-Format : goal.returns-in-Format
unfolding has_picture
returns-in-Format c = rw c.in-Format.is
