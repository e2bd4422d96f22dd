-- The definitions that are computed with, crate by crate: whoever unfolds `computed` unfolds all of them.
-- Drawing, soundness as a whole and the free portions are left shut: the laws say what is needed of them.
-- Assumes nothing.
use mathlib.Core.Bool.{Bool, true}
use Rattle.kinds.specs.Bytes as FitBytes
use Rattle.kinds.specs.Fit as Fit
use Rattle.classes.specs.Bytes as FieldBytes
use Rattle.numbers.specs.Number as Number
use Rattle.fields.specs.Field as Field
use Rattle.elements.specs.Elements as Elements
use Rattle.reader.specs.Letters as Letters
use Rattle.grammar.specs.Forms as Grammar
use Rattle.heads.specs.Heads as Heads
use Rattle.row_fields.specs.Reading as Reading
use Rattle.row_limits.specs.Limits as Limits
use Rattle.read.specs.Commands as Commands
use Rattle.front.specs.Front as Front
use Rattle.parts.specs.Names as Names
use Rattle.writing.specs.Writing as Writing
use Rattle.normal.specs.Written as Written
use Rattle.listing.specs.Listing as Listing
use Rattle.cells.specs.Cell as Cell
use Rattle.cells.specs.Scan as Scan
use Rattle.store.specs.Entry as Entry
use Rattle.finding.specs.Find as Find
use Rattle.contents.specs.Content as Content
use Rattle.content_lines.specs.Lines as Lines
use Rattle.growing.specs.Grow as Grow
use Rattle.room.specs.Room as Room
use Rattle.starting.specs.Start as Start
use Rattle.store_sound.specs.Sound as Shelves
use Rattle.free_number.specs.Number as Free
use Rattle.sound.specs.Sound as Sound
use Rattle.content_check.specs.Contents as Contents
use Rattle.activity_check.specs.Activity as Activity
use Rattle.declarations.specs.Declarations as Declarations
use Rattle.counters.specs.Counters as Counters
use Rattle.counter_steps.specs.Steps as Steps
use Rattle.stored_values.specs.Stored as Stored
use Rattle.padding.specs.Padding as Padding
use Rattle.values.specs.Sound as Values
use Rattle.pieces.specs.Data as Data
use Rattle.forms.specs.Form as Form
use Rattle.recording.specs.Judged as Judged
use Rattle.kept_line.specs.Held as Held
use Rattle.item_drawing.specs.Draw as ItemDraw
use Rattle.form_drawing.specs.Draw as FormDraw
use Rattle.item_commands.specs.Items as Items
use Rattle.pcx.specs.Rules as Pictures
use Rattle.pcx.specs.Cases as Picture
use Rattle.font.specs.Rules as Fonts
use Rattle.pages.specs.Pages as Whole
use Rattle.symbols.specs.Tables as Tables
use Rattle.code128.specs.Code128 as Code128
use Rattle.shortest.specs.Found as Found
use Rattle.symbols.specs.Elements as Bars
use Rattle.code128.specs.Widths as Widths
use Rattle.bars.specs.Drawing as Drawing
use Rattle.calendar.specs.Clock as Clocks
use Rattle.formats.specs.Formats as Formats
use Rattle.format_field.specs.Reading as Stamping
use Rattle.answers.specs.Answers as Answers
use Rattle.lent.specs.Lent as Lent
use Rattle.calls.specs.Table as Rows
use Rattle.calls.specs.Station as Station
use Rattle.unread.specs.Front as Fronts
use Rattle.cases.specs.Calls as Calls

-- reading a line, and writing it in normal form
unfoldable pub lines : Bool
unfolding FitBytes.between FieldBytes.run Number.value_from Number.number_at Field.text_at Number.signed_at Field.byte_at Heads.find Heads.head_by Heads.head_of Letters.field_at Reading.fields_from Grammar.spread Limits.meets Limits.field_limits Limits.limits_from Grammar.in_order Commands.judged Commands.headed Commands.read_of Front.size_of Front.asked_by Front.line_front Front.front_of Names.capital Names.name_byte Writing.digits Writing.signed Writing.cased Written.written_field Written.written_from Written.written_of Written.head_written Writing.equal Written.is_normal
lines = true

-- the store, and what moves in it
unfoldable pub memory : Bool
unfolding Cell.cell Cell.zeros Scan.lowest_from Entry.name Entry.first Entry.size Entry.many Find.found Find.same_name Find.titled Content.portion_after Content.place_after Content.bytes_from Content.extent Content.content_of Lines.lines_of Grow.next_last Grow.next_links Entry.last_of Grow.with_size Grow.grown Room.can_grow Room.has_room Start.name_end Start.new_entry Start.begun Start.finished Listing.listing_line Listing.listing_from Listing.listing
memory = true

-- values and data
unfoldable pub values : Bool
unfolding Elements.modifier_at Elements.held_at Elements.element_at Elements.elements_from Elements.elements Declarations.nothing Declarations.with_variable Declarations.with_counter Counters.ten_to Counters.none_set Counters.counter_entered Steps.onward Steps.inside Steps.lasts Steps.stepped_at Steps.moved_at Steps.moved_all Padding.enters Padding.padded Stored.field Stored.field_at Stored.value_in Stored.variable_in Stored.variable_entered Stored.unset Stored.field_sound Counters.counter_sound Values.values_sound Values.all_set Data.part_of Data.piece_of
values = true

-- forms, pictures and fonts
unfoldable pub forms : Bool
unfolding Held.item_in Form.takes Form.declaring Form.takes_all Form.declared_by Form.form_ok Form.declared_of Judged.has_picture Form.has_all Form.pictures_stored Judged.judged Judged.declares Items.declared_before Items.not_declared Items.reaches_past Items.unfit_data ItemDraw.far ItemDraw.draws_item FormDraw.draws_line FormDraw.draws_lines FormDraw.form_drawn Pictures.headed Pictures.times Pictures.next Pictures.given Pictures.empty_run Pictures.no_empty_run Pictures.waiting Pictures.filled Pictures.legal Picture.header Fonts.headed Fonts.fields_from Fonts.legal Whole.copied
forms = true

-- the clauses of sound
unfoldable pub clauses : Bool
unfolding Shelves.lent_ok Shelves.kinds_ok Shelves.legal_byte Shelves.name_byte_ok Shelves.name_ok Shelves.names_ok Shelves.unique_ok Shelves.uniques_ok Shelves.single_ok Shelves.singles_ok Shelves.portion_ok Shelves.links_ok Shelves.empties_ok Shelves.tail_of Shelves.tails_ok Free.free_number Sound.numbers_ok Contents.content_ok Contents.contents_ok Activity.active_ok Sound.active_bytes Activity.owed_ok Activity.activity_sound
clauses = true

-- the calls
unfoldable pub calls : Bool
unfolding Answers.number_of Answers.is_taken Answers.answer_of Lent.page_wrong Lent.links_wrong Lent.store_wrong Lent.directory_wrong Lent.lengths_wrong Rows.command_table Station.cleared Station.opened Fronts.read_by Station.label_page Station.label_session Calls.lent Calls.start
calls = true

-- bars
unfoldable pub bars : Bool
unfolding FitBytes.between Fit.in_class Fit.fit_length Fit.fit Field.kind_from Code128.rows128 Tables.rows39 Tables.rows25 Widths.digits Widths.each Code128.six Code128.weighed Code128.check128 Code128.elements128 Found.leaves_b Found.step Found.best Found.started Found.our_writing Bars.nine Bars.spaced Bars.elements39 Bars.five Bars.woven Bars.pairs Bars.elements25 Bars.weights Bars.check_digit Bars.elements_in Bars.elements Drawing.dots_of Drawing.widths Widths.sum
bars = true

-- date and time: the calendar, and formats as they are read
unfoldable pub times : Bool
unfolding Clocks.leap Clocks.thirty Clocks.days_in Clocks.legal_clock Clocks.fresh Formats.unit Formats.new_unit Formats.separator Formats.legal_format Formats.example Formats.packed Formats.unpacked Stamping.letter Stamping.unit_of Stamping.date_field Stamping.time_field Stamping.cut_at Stamping.field_at Stamping.further_at Stamping.format_at Stamping.format_field Declarations.formatted Sound.times_ok
times = true

unfoldable pub computed : Bool
unfolding lines memory values forms clauses calls
computed = true
