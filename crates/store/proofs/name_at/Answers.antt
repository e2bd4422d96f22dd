use mathlib.Core.List.{[], ◌∷◌}
use Rattle.store.specs.Entry.{name}
use Rattle.store.proofs.name_at.Goals as goal

pub returns : goal.returns
unfolding name
returns c = λ j.
    c.field-a.ensures.0 j
    ∷ c.field-b.ensures.0 j
    ∷ c.field-c.ensures.0 j
    ∷ c.field-d.ensures.0 j
    ∷ c.field-e.ensures.0 j
    ∷ c.field-f.ensures.0 j
    ∷ c.field-g.ensures.0 j
    ∷ c.field-h.ensures.0 j
    ∷ []
