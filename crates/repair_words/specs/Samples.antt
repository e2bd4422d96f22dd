-- What is said of entries that are kept and dropped, and at the end: antt computes them.
-- Assumes nothing.
use Rattle.std.specs.Prelude.{◌≡◌, refl, ◌++◌}
use Rattle.kinds.specs.Text.{bytes}
use Rattle.writing.specs.Writing.{digits}
use Rattle.verdicts.specs.Verdicts.{kept, for_name, for_chain, for_size, for_shared, for_content}
use Rattle.repair_words.specs.RepairWords.{title_of, content_reason, reason_of, verdict_of, entry_of, sum_of, made_of}

-- one that is kept, and one of the name again, whose bytes are not shown
told : entry_of 0 kept 1 (bytes "UNIT") ++ entry_of 12 for_name 1 (bytes "UNIT") ≡
    bytes "entry 0: form \"UNIT\", kept\n" ++
    bytes "entry 12: dropped: its kind or name is wrong, or an entry before it has the name\n"
unfolding entry_of verdict_of title_of reason_of digits
told = refl

-- the portions: a broken chain, one of another length, one that another has too
dropped : entry_of 3 for_chain 2 (bytes "LOGO") ++ (entry_of 4 for_size 2 (bytes "LONG") ++ entry_of 511 for_shared 1 (bytes "A")) ≡
    bytes "entry 3: picture \"LOGO\", dropped: its chain of portions is broken\n" ++
    (bytes "entry 4: picture \"LONG\", dropped: its size does not agree with its portions, or is above the 32768 bytes of a picture\n" ++
    bytes "entry 511: form \"A\", dropped: it shares a portion with an entry before it that is kept\n")
unfolding entry_of verdict_of title_of reason_of digits
dropped = refl

-- the content: a picture, a form, and a form that was not ended
broken : entry_of 7 for_content 2 (bytes "LOGO") ++ (entry_of 8 for_content 1 (bytes "UNIT") ++ entry_of 9 for_content 3 (bytes "NEW")) ≡
    bytes "entry 7: picture \"LOGO\", dropped: what it holds breaks the rules of a picture\n" ++
    (bytes "entry 8: form \"UNIT\", dropped: what it holds breaks the rules of a form\n" ++
    bytes "entry 9: form \"NEW\", dropped: it is unfinished\n")
unfolding entry_of verdict_of title_of reason_of content_reason digits
broken = refl

summed : sum_of 3 2 1990 ++ made_of (bytes "shop.store.repaired") 800 (bytes "shop.store") ≡
    bytes "3 kept, 2 dropped, 1990 of 2024 portions free\n" ++
    bytes "the repaired store is shop.store.repaired, for labels of up to 800 rows; shop.store is as it was\n"
unfolding sum_of made_of digits
summed = refl
