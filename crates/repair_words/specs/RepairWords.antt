-- What the program says of a store that it repairs (paper 02, §11): a line for each entry that is not empty, the sum, and which file the
-- repaired store is. Assumes nothing.
use Rattle.std.specs.Prelude.{ℕ, cond, List, [], ◌++◌, eqb}
use Rattle.kinds.specs.Text.{bytes}
use Rattle.sentences.specs.Texts.{numbered}
use Rattle.store.specs.Chain.{most_portions}
use Rattle.verdicts.specs.Verdicts.{kept, for_name, for_chain, for_size, for_shared}

-- what it is by its kind, a form that is being recorded among the forms, and its name between quotes
unfoldable pub title_of : ℕ → List ℕ → List ℕ
title_of kind name = cond (eqb kind 2) (bytes "picture \"") (bytes "form \"") ++ (name ++ bytes "\"")

-- "Unfinished forms are dropped for content": these are of kind 3
unfoldable pub content_reason : ℕ → List ℕ
content_reason kind =
    cond (eqb kind 3) (bytes "it is unfinished")
    (cond (eqb kind 2) (bytes "what it holds breaks the rules of a picture") (bytes "what it holds breaks the rules of a form"))

-- why one is dropped that has a kind and a name of its own
unfoldable pub reason_of : ℕ → ℕ → List ℕ
reason_of v kind =
    cond (eqb v for_chain) (bytes "its chain of portions is broken")
    (cond (eqb v for_size) (bytes "its size does not agree with its portions, or is above the 32768 bytes of a picture")
    (cond (eqb v for_shared) (bytes "it shares a portion with an entry before it that is kept") (content_reason kind)))

-- what is said of an entry. One that is dropped for its name is not named: its name may be any bytes.
unfoldable pub verdict_of : ℕ → ℕ → List ℕ → List ℕ
verdict_of v kind name =
    cond (eqb v for_name) (bytes "dropped: its kind or name is wrong, or an entry before it has the name\n")
    (title_of kind name ++ cond (eqb v kept) (bytes ", kept\n") (bytes ", dropped: " ++ (reason_of v kind ++ bytes "\n")))

-- `entry I: form "NAME", kept`
unfoldable pub entry_of : ℕ → ℕ → ℕ → List ℕ → List ℕ
entry_of i v kind name = numbered (bytes "entry ") i ++ (bytes ": " ++ verdict_of v kind name)

-- `K kept, D dropped, F of 2024 portions free`
unfoldable pub sum_of : ℕ → ℕ → ℕ → List ℕ
sum_of keeps drops free =
    numbered [] keeps ++ (numbered (bytes " kept, ") drops ++ (numbered (bytes " dropped, ") free ++ (numbered (bytes " of ") most_portions ++ bytes " portions free\n")))

-- `the repaired store is NEW, for labels of up to R rows; OLD is as it was`
unfoldable pub made_of : List ℕ → ℕ → List ℕ → List ℕ
made_of new rows old = bytes "the repaired store is " ++ (new ++ (numbered (bytes ", for labels of up to ") rows ++ (bytes " rows; " ++ (old ++ bytes " is as it was\n"))))
