use mathlib.Core.Path.{ap}
use mathlib.Core.Bool.{not}
use Rattle.verdicts.proofs.Naming.{name-kind, name-illegal, name-rest}
use Rattle.verdicts.proofs.names.wrong_name.Goals as goal

pub returns-then-kind_at-gt3 : goal.returns-then-kind_at-gt3
returns-then-kind_at-gt3 c = let a = c.args in
    name-kind a.directory.now a.verdicts.now a.i _ c.kind_at.ensures.0 c.if-kind_at-gt3.true

pub returns-then-not-name_ok : goal.returns-then-not-name_ok
returns-then-not-name_ok c = let o = c in let a = o.args in
    name-illegal a.directory.now a.verdicts.now a.i _ o.kind_at.ensures.0 o.if-kind_at-gt3.false _ c.name_ok.ensures (ap not c.if-not-name_ok.true)

pub returns : goal.returns
returns c = let o = c in let a = o.args in
    name-rest a.directory.now a.verdicts.now a.i _ o.kind_at.ensures.0 o.if-kind_at-gt3.false _ c.name_ok.ensures
    _ (ap not c.if-not-name_ok.false) c.name_kept.ensures
