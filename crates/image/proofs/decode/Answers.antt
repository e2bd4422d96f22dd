use Rattle.image.proofs.Numbers.{session-read}
use Rattle.image.proofs.decode.Goals as goal

pub returns : goal.returns
returns c = let n = c in
    session-read _ n.word_at-width.ensures
    n.word_at-length.ensures
    n.byte-turn.ensures
    n.word_at-x.ensures
    n.word_at-y.ensures
    n.word_at-active.ensures
    n.word_at-owed.ensures
    n.word_at-drawn.ensures
    n.counters_of-counters.ensures
    n.word_at-free.ensures
    c.clock_at-clock.ensures
    c.format_at-date.ensures
    c.format_at-time.ensures
