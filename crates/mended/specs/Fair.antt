-- Paper 02, §11: "An entry is kept exactly when it is a form or picture that meets every rule of sound by itself, apart from unused bytes, which are zeroed,
-- and shares neither a portion nor a name of its kind with an earlier kept one." The two halves of the sentence, each clause a fact: `Fair` and `Apart`.
-- Assumes nothing.
use Rattle.std.specs.Prelude.{◌≡◌, List, true, ◌⊎◌, ℕ, ◌<◌}
use Rattle.cells.specs.Count.{times}
use Rattle.store.specs.Chain.{needed, chain, chain_ok}
use Rattle.store.specs.Entry.{kind, name, first, size}
use Rattle.memory.specs.Memory.{Memory, entry_of}
use Rattle.store_sound.specs.Sound.{name_ok}
use Rattle.content_check.specs.Contents.{content_ok}
use Rattle.verdicts.specs.Verdicts.{Known, kept, verdict, judged, unjudged}

-- what is known before entry i is judged, and what is said of it
abbrev pub known_before : Memory → ℕ → Known
known_before m i = judged m unjudged i

abbrev pub said : Memory → ℕ → ℕ
said m i = verdict m (known_before m i) i

-- the portions of entry i: from its first on, as many as its size asks for
abbrev pub held : Memory → ℕ → List ℕ
held m i = chain m.links (first (entry_of m i)) (needed (size (entry_of m i)))

-- entry j is "an earlier kept one"
abbrev pub EarlierKept : Memory → ℕ → ℕ → Type 0
EarlierKept m i j = (j < i) × (said m j ≡ kept)

-- "a form or picture that meets every rule of sound by itself, apart from unused bytes": the rules are those of paper 01 that look at one entry
pub record Fair (m : Memory) (i : ℕ) : Type 0 where
  -- "a form or picture"; so it is not empty, no form being recorded, and its kind byte is none that means nothing
  pub form_or_picture : (kind (entry_of m i) ≡ 1) ⊎ (kind (entry_of m i) ≡ 2)
  -- "names upper-case, legal"
  pub named : name_ok (entry_of m i) ≡ true
  -- "each chain of exactly size/256 rounded up, at least one, portions"
  pub chained : chain_ok m.links (first (entry_of m i)) (needed (size (entry_of m i))) ≡ true
  -- "each form a row of normalised lines that recording would take one after another (presence of pictures aside); each picture legal": so none is above
  -- 32,768 bytes, and the rule for that needs no line of its own
  pub content : content_ok m.store m.links m.directory i ≡ true

-- "shares neither a portion nor a name of its kind with an earlier kept one"
pub record Apart (m : Memory) (i : ℕ) : Type 0 where
  -- "neither a portion": none stands in both chains
  pub portions : (j : ℕ) → EarlierKept m i j → (q : ℕ) → 0 < times q (held m i) → 0 < times q (held m j) → ⊥
  -- "nor a name of its kind": an earlier kept one is of another kind or of another name
  pub names : (j : ℕ) → EarlierKept m i j → kind (entry_of m i) ≡ kind (entry_of m j) → name (entry_of m i) ≡ name (entry_of m j) → ⊥
