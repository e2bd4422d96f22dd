use Rattle.activity_check.proofs.Owed.{activity-is}
use Rattle.activity_check.proofs.activity_sound.Goals as goal

pub returns : goal.returns
returns c = let o = c in let v = o in let a = v in
    activity-is _ _ _ _ _ _ _ _ _ _ _ _ a.active_declared-d.ensures v.active_ok-active.ensures v.values_sound-fit.ensures
    o.counts_ok-count.ensures o.owed_ok-owed.ensures c.both.ensures c.both-2.ensures c.both-3.ensures
