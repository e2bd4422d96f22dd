use Rattle.pages.specs.Pages.{white}
use Rattle.pages.proofs.whiten.Goals as goal

pub returns : goal.returns
unfolding white
returns c = c.fill.ensures.after (λ y e. e)
