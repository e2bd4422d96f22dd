use Rattle.results.proofs.Parts.{in_output, lifted}
use Rattle.listing_commands.proofs.run_listing.Goals as goal

pub returns-in-Forms : goal.returns-in-Forms
returns-in-Forms c = rw c.in-Forms.is (lifted (in_output _) _ _ _ _ c.list_names.ensures)

pub returns-in-Pictures : goal.returns-in-Pictures
returns-in-Pictures c = rw c.in-Pictures.is (lifted (in_output _) _ _ _ _ c.list_names-in-Pictures.ensures)

pub returns-in-Form : goal.returns-in-Form
returns-in-Form c = rw c.in-Form.is c.print_form.ensures
