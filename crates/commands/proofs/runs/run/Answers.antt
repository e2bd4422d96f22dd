use Rattle.lent.specs.Lent.{world}
use Rattle.commands.proofs.Arms.{misplaced-run, end-run, item-run, page-run, form-run, picture-run, value-run, listing-run, clock-run}
use mathlib.Core.Bool.{not}
use mathlib.Core.Path.{ap}
use Rattle.commands.proofs.runs.run.Goals as goal

pub returns-then-not-has_place : goal.returns-then-not-has_place
returns-then-not-has_place c = let a = c.args in
    rw c.answered.ensures (misplaced-run a.session a.font.now a.line.now a.more.now a.output.now (world a.background.now a.store.now a.links.now a.directory.now a.values.now) a.command _ c.has_place.ensures (ap not c.if-not-has_place.true))

pub returns-in-Item : goal.returns-in-Item
returns-in-Item c = item-run _ _ _ _ _ _ _ _ _ _ _ _ _ _ c.in-Item.is c.has_place.ensures (ap not c.if-not-has_place.false) c.run_item.ensures

pub returns-in-End : goal.returns-in-End
returns-in-End c = let a = c.args in
    end-run a.session a.font.now a.line.now a.more.now a.output.now (world a.background.now a.store.now a.links.now a.directory.now a.values.now) a.command _ _ c.in-End.is c.has_place.ensures (ap not c.if-not-has_place.false)

pub returns-in-Page : goal.returns-in-Page
returns-in-Page c = let a = c.args in
    rw c.in-Page.is (page-run a.session a.font.now a.line.now a.more.now a.background.now a.store.now a.links.now a.directory.now a.values.now a.output.now _ c.in-Page.c c.run_page.ensures)

pub returns-in-Forms : goal.returns-in-Forms
returns-in-Forms c = let a = c.args in
    rw c.in-Forms.is (form-run a.session a.font.now a.line.now a.more.now a.background.now a.store.now a.links.now a.directory.now a.values.now a.output.now _ c.in-Forms.c c.run_form.ensures)

pub returns-in-Pictures : goal.returns-in-Pictures
returns-in-Pictures c = let a = c.args in
    rw c.in-Pictures.is (picture-run a.session a.font.now a.line.now a.more.now a.background.now a.store.now a.links.now a.directory.now a.values.now a.output.now _ c.in-Pictures.c c.run_picture.ensures)

pub returns-in-Values : goal.returns-in-Values
returns-in-Values c = let a = c.args in
    rw c.in-Values.is (value-run a.session a.font.now a.line.now a.more.now a.background.now a.store.now a.links.now a.directory.now a.values.now a.output.now _ c.in-Values.c c.run_value.ensures)

pub returns-in-Listing : goal.returns-in-Listing
returns-in-Listing c = let a = c.args in
    rw c.in-Listing.is (listing-run a.session a.font.now a.line.now a.more.now a.background.now a.store.now a.links.now a.directory.now a.values.now a.output.now _ c.in-Listing.c c.run_listing.ensures)

pub returns-in-Clock : goal.returns-in-Clock
returns-in-Clock c = let a = c.args in
    rw c.in-Clock.is (clock-run a.session a.font.now a.line.now a.more.now a.output.now (world a.background.now a.store.now a.links.now a.directory.now a.values.now) c.in-Clock.c _ c.run_clock.ensures)
