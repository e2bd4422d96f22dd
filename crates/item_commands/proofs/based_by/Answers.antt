use Rattle.item_commands.proofs.based_by.Goals as goal

pub returns-in-Origin : goal.returns-in-Origin
returns-in-Origin c = rw (c.in-Origin.is, c.based.ensures, c.sixteen_bits-y.ensures, c.sixteen_bits-x.ensures)

pub returns-in-Variable : goal.returns-in-Variable
returns-in-Variable c = rw c.in-Variable.is

pub returns-in-Counter : goal.returns-in-Counter
returns-in-Counter c = rw c.in-Counter.is

pub returns-in-Text : goal.returns-in-Text
returns-in-Text c = rw c.in-Text.is

pub returns-in-Bars : goal.returns-in-Bars
returns-in-Bars c = rw c.in-Bars.is

pub returns-in-Box : goal.returns-in-Box
returns-in-Box c = rw c.in-Box.is

pub returns-in-Frame : goal.returns-in-Frame
returns-in-Frame c = rw c.in-Frame.is

pub returns-in-Slant : goal.returns-in-Slant
returns-in-Slant c = rw c.in-Slant.is

pub returns-in-Picture : goal.returns-in-Picture
returns-in-Picture c = rw c.in-Picture.is

pub returns-in-Format : goal.returns-in-Format
returns-in-Format c = rw (c.in-Format.is, c.formatted.ensures, c.with.ensures)
