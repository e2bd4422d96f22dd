use Rattle.image.proofs.Storing.{two_bytes, image-stored}
use Rattle.image.proofs.encode.Goals as goal

pub returns : goal.returns
returns c = let time = c in
    let date = time in
    let clock = date in
    let free = clock in
    let counters = free in
    let first = counters in
    image-stored _ _ first.head-bytes.ensures first.put.ensures
    counters.put_counters.ensures
    (two_bytes _ _ _ free.low-first.ensures free.high-second.ensures) free.put-2.ensures
    clock.clock_bytes-clock.ensures clock.put-3.ensures
    date.format_bytes-date.ensures date.put-4.ensures
    time.format_bytes-time.ensures time.put-5.ensures
