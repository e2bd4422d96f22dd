use Rattle.activity_check.proofs.Owed.{owed_none, owed-recording, owed-rest}
use Rattle.activity_check.proofs.owed_ok.Goals as goal

pub returns-then-owed-eq0 : goal.returns-then-owed-eq0
returns-then-owed-eq0 c = owed_none _ _ c.if-owed-eq0.true

pub returns-then-recording : goal.returns-then-recording
returns-then-recording c = owed-recording _ _ _ _ c.if-owed-eq0.false c.recording.ensures c.if-recording.true

pub returns : goal.returns
returns c = owed-rest _ _ _ _ _ _ _ _ _ _ _ c.if-owed-eq0.false c.recording.ensures
    c.if-recording.false c.all_set-set.ensures c.lasts-lasting.ensures
    c.active_pictures.ensures c.both.ensures c.both-2.ensures
