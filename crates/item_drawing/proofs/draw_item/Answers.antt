use Rattle.item_drawing.specs.Draw.{draws_item, shown, picture_bytes}
use Rattle.item_drawing.proofs.draw_item.Goals as goal

pub returns-in-Origin : goal.returns-in-Origin
unfolding draws_item shown picture_bytes
returns-in-Origin c = rw c.in-Origin.is

pub returns-in-Variable : goal.returns-in-Variable
unfolding draws_item shown picture_bytes
returns-in-Variable c = rw c.in-Variable.is

pub returns-in-Counter : goal.returns-in-Counter
unfolding draws_item shown picture_bytes
returns-in-Counter c = rw c.in-Counter.is

pub returns-in-Text : goal.returns-in-Text
unfolding draws_item shown picture_bytes
returns-in-Text c = rw c.in-Text.is c.draw_text.ensures

pub returns-in-Bars : goal.returns-in-Bars
unfolding draws_item shown picture_bytes
returns-in-Bars c = rw c.in-Bars.is c.draw_bars.ensures

pub returns-in-Box : goal.returns-in-Box
unfolding draws_item shown picture_bytes
returns-in-Box c = rw c.in-Box.is c.draw_box.ensures

pub returns-in-Frame : goal.returns-in-Frame
unfolding draws_item shown picture_bytes
returns-in-Frame c = rw c.in-Frame.is c.draw_frame.ensures

pub returns-in-Slant : goal.returns-in-Slant
unfolding draws_item shown picture_bytes
returns-in-Slant c = rw c.in-Slant.is c.draw_slant.ensures

pub returns-in-Picture : goal.returns-in-Picture
unfolding draws_item shown picture_bytes
returns-in-Picture c = rw c.in-Picture.is c.draw_picture.ensures

pub returns-in-Format : goal.returns-in-Format
unfolding draws_item shown picture_bytes
returns-in-Format c = rw c.in-Format.is
