use Rattle.mending.proofs.Parts.{link-freed, link-kept}
use Rattle.mending.proofs.kept_link.Goals as goal

pub returns-then-link_at-eq0 : goal.returns-then-link_at-eq0
returns-then-link_at-eq0 c = link-freed _ _ _ _ c.link_at.ensures.0 c.if-link_at-eq0.true

pub returns : goal.returns
returns c = link-kept _ _ _ _ c.link_at.ensures.0 c.if-link_at-eq0.false
