-- A byte put behind what is stored: the links and the bytes stay sound, the entry has one byte more, and the others are as they were.
use mathlib.Core.Path.{◌≡◌, refl, sym, ap, ◌∙◌}
use mathlib.Core.List.{List, [], ◌∷◌, ◌++◌}
use mathlib.Core.Bool.{true}
use mathlib.Core.Logic.{inl}
use Prim.Native.Nat.{ℕ, zero, suc, ◌+◌, ◌-◌, ◌*◌, ◌%◌, ◌≤◌, ◌<◌}
use native.Mathlib.Omega.{arith}
use lib.ListN.{length, get_or, drop, take, set}
use lib.Seq.{get_or-append_seam, take-append-le}
use Rattle.cells.specs.Count.{times, all_zero}
use Rattle.store.specs.Chain.{chain, chain_ok, bytes_of, walk, needed}
use Rattle.room.specs.Room.{lowest_portion}
use Rattle.growing.specs.Grow.{next_last, next_links}
use Rattle.cells.proofs.Counts.{one-yes, times-append}
use Rattle.store_sound.proofs.Frame.{chain-below}
use Rattle.cells.proofs.Cells.{cell-fits, cell-set-other}
use Rattle.store_sound.proofs.Linked.{Linked, Change, changed, others, held-once, held_below, free-out}
use Rattle.store_sound.proofs.Changes.{hung, chain_snoc, grow, hung-chain}
use Rattle.store_sound.proofs.Bytes.{Filled, Fill, filled, others-bytes, put-content, put-tail, tail-new, bytes-append, bytes-length}
use Rattle.store_sound.proofs.Room.{Room, Case, is_full, is_in, is_first, case, next-full, room-some, lowest-below, lowest-free}
use Rattle.growing.proofs.Growth.{next-in, next-first}

pub chain_length : (ls : List ℕ) (p n : ℕ) → length (chain ls p n) ≡ n
chain_length ls p zero = refl
chain_length ls p (suc n) = ap suc (chain_length ls (get_or ls p 0) n)

last_of : (a b : List ℕ) (x y : ℕ) → length a ≡ length b → a ++ (x ∷ []) ≡ b ++ (y ∷ []) → x ≡ y
last_of a b x y l e =
    sym (get_or-append_seam a x [] 0) ∙ ap (λ (t : List ℕ). get_or t (length a) 0) e ∙ ap (λ (k : ℕ). get_or (b ++ (y ∷ [])) k 0) l ∙ get_or-append_seam b y [] 0

-- what is known of an entry that grows, before and after
pub record Grows (st ls : List ℕ) (fs ns sz : ℕ → ℕ) (E i last : ℕ) : Type 0 where
  pub links : Linked ls fs ns E
  pub bytes : Filled st ls fs ns sz E
  pub count : ns i ≡ needed (sz i)
  pub final : (k : ℕ) → ns i ≡ suc k → last ≡ walk ls (fs i) k

-- the links after the change, and where the byte goes: the last portion l of the chain, at place o
module _ (st ls ls' : List ℕ) (fs ns sz ns' sz' : ℕ → ℕ) (E i : ℕ) (old init : List ℕ) (l o b : ℕ)
    (s : Linked ls fs ns E) (c : Change ls ls' fs ns fs ns' E i old (init ++ (l ∷ []))) (f : Filled st ls fs ns sz E)
    (long : length st ≡ length ls * 256) (bo : o < 256) (at : sz i ≡ 256 * length init + o) (one_more : sz' i ≡ sz i + 1)
    (rest : (j : ℕ) → j < E → (j ≡ i → ⊥) → sz' j ≡ sz j) (some : ns' i ≡ 0 → ⊥)
    (kept : (q : ℕ) → times q (init ++ (l ∷ [])) ≡ 0 → times q old ≡ 0)
    (tail : all_zero (drop (256 * length init + o) (bytes_of st (init ++ (l ∷ [])))) ≡ true) where
  both : (q : ℕ) → times q (init ++ (l ∷ [])) ≡ times q init + times q (l ∷ [])
  both q = times-append q init (l ∷ [])

  new-below : (q : ℕ) → 0 < times q (init ++ (l ∷ [])) → q < length ls
  new-below q h = rw c.long at (chain-below ls' (fs i) (ns' i) (c.ok some) q (rw c.now h))

  last-below : l < length ls
  last-below = new-below l (omega (arith, both l, one-yes l l refl))

  init-below : (q : ℕ) → 0 < times q init → q < length ls
  init-below q h = new-below q (omega (arith, both q))

  fresh : times l init ≡ 0
  fresh = omega (arith, both l, one-yes l l refl, c.once l)

  pub put_fill : Fill st (set st (l * 256 + o) b) ls sz sz' E i old (init ++ (l ∷ []))
  put_fill = record {
    apart = λ q bq zo zn. cell-set-other 256 st l o b bo q (omega (arith, cell-fits 256 q (length ls) bq)) (λ e. omega (arith, both q, one-yes l q (sym e)));
    wiped = λ q bq ho zn. absurd (omega (arith, kept q zn));
    sizes = rest;
    tail = rw (one_more, at) (put-tail (length ls) st init l o b long init-below last-below fresh bo tail);
  }

  pub put-more : take (sz' i) (bytes_of (set st (l * 256 + o) b) (chain ls' (fs i) (ns' i))) ≡ take (sz i) (bytes_of st (init ++ (l ∷ []))) ++ (b ∷ [])
  put-more = rw (one_more, at, c.now) (put-content (length ls) st init l o b long init-below last-below fresh bo)

-- the chain stays as it is
module _ (ls : List ℕ) (fs ns ns' : ℕ → ℕ) (E i : ℕ) (s : Linked ls fs ns E) (bi : i < E)
    (no : (j : ℕ) → j < E → (j ≡ i → ⊥) → ns' j ≡ ns j) (ni : ns' i ≡ ns i) where
  pub stay : Change ls ls fs ns fs ns' E i (chain ls (fs i) (ns i)) (chain ls (fs i) (ns i))
  stay = record {
    here = bi;
    was = refl;
    now = rw ni;
    firsts = λ j b n. refl;
    counts = no;
    long = refl;
    kept = λ q b o n. refl;
    whence = λ q b n. inl n;
    once = held-once ls fs ns E s i bi;
    ok = λ n. rw ni (s.chained i bi (rw ni at n));
    gone = λ q b o n. absurd (omega arith);
    held = λ q b n k. omega (arith, free-out ls fs ns E s i bi q b k);
  }

pub record Put (st ls st' ls' : List ℕ) (fs ns sz ns' sz' : ℕ → ℕ) (E i last' b : ℕ) : Type 0 where
  pub grown : Grows st' ls' fs ns' sz' E i last'
  pub content : take (sz' i) (bytes_of st' (chain ls' (fs i) (ns' i))) ≡ take (sz i) (bytes_of st (chain ls (fs i) (ns i))) ++ (b ∷ [])
  pub chains : (j : ℕ) → j < E → (j ≡ i → ⊥) → chain ls' (fs j) (ns' j) ≡ chain ls (fs j) (ns j)
  pub others : (j : ℕ) → j < E → (j ≡ i → ⊥) → bytes_of st' (chain ls' (fs j) (ns' j)) ≡ bytes_of st (chain ls (fs j) (ns j))

module _ (st ls : List ℕ) (fs ns sz ns' sz' : ℕ → ℕ) (E i last more b : ℕ) (bi : i < E) (g : Grows st ls fs ns sz E i last)
    (r : Room st ls last (sz i) more) (m : 0 < more)
    (one_more : sz' i ≡ sz i + 1) (count : ns' i ≡ needed (sz' i))
    (rest : (j : ℕ) → j < E → (j ≡ i → ⊥) → sz' j ≡ sz j) (no : (j : ℕ) → j < E → (j ≡ i → ⊥) → ns' j ≡ ns j) where
  abbrev Goal : ℕ → List ℕ → Type 0
  Goal l ls' = Put st ls (set st (l * 256 + sz i % 256) b) ls' fs ns sz ns' sz' E i l b

  in-last : (k : ℕ) → ns i ≡ suc k → ns' i ≡ ns i → sz i ≡ 256 * k + sz i % 256 → Goal last ls
  in-last k is-suc ni at =
      let s = g.links in
      let e : chain ls (fs i) (ns i) ≡ chain ls (fs i) k ++ (walk ls (fs i) k ∷ []) = rw is-suc (chain_snoc ls (fs i) k) in
      let c : Change ls ls fs ns fs ns' E i (chain ls (fs i) k ++ (walk ls (fs i) k ∷ [])) (chain ls (fs i) k ++ (walk ls (fs i) k ∷ [])) = rw e at (stay ls fs ns ns' E i s bi no ni) in
      let bo : sz i % 256 < 256 = omega arith in
      let at' : sz i ≡ 256 * length (chain ls (fs i) k) + sz i % 256 = rw (chain_length ls (fs i) k) at in
      let some : ns' i ≡ 0 → ⊥ = λ z. omega arith in
      let tail : all_zero (drop (256 * length (chain ls (fs i) k) + sz i % 256) (bytes_of st (chain ls (fs i) k ++ (walk ls (fs i) k ∷ [])))) ≡ true = rw (← at', ← e) (g.bytes.tailed i bi) in
      let p = put_fill st ls ls fs ns sz ns' sz' E i _ (chain ls (fs i) k) (walk ls (fs i) k) (sz i % 256) b s c g.bytes r.long bo at' one_more rest some (λ q z. z) tail in
      rw (g.final k is-suc) (record {
        grown = record {
          links = changed ls ls fs ns fs ns' E i _ _ s c;
          bytes = filled st _ ls ls fs ns sz fs ns' sz' E i _ _ s c g.bytes p;
          count = count;
          final = λ j ej. sym (g.final k is-suc) ∙ g.final j (sym ni ∙ ej);
        };
        content =
            rw e (put-more st ls ls fs ns sz ns' sz' E i _ (chain ls (fs i) k) (walk ls (fs i) k) (sz i % 256) b s c g.bytes r.long bo at' one_more rest some (λ q z. z) tail);
        chains = others ls ls fs ns fs ns' E i _ _ s c;
        others = others-bytes st _ ls ls fs ns sz fs ns' sz' E i _ _ s c g.bytes p;
      })

  in-new : (k : ℕ) → ns i ≡ suc k → sz i % 256 ≡ 0 → 0 < sz i → Goal (lowest_portion ls) (hung ls last (lowest_portion ls))
  in-new k is-suc z0 pos =
      let s = g.links in
      let fr = room-some st ls last (sz i) more m r z0 pos in
      let bq = lowest-below ls fr in
      let fq = lowest-free ls bq in
      let n2 : ns' i ≡ suc (suc k) = omega (arith, g.count) in
      let c = grow ls fs ns fs ns' E i s bi (λ j x y. refl) no (lowest_portion ls) k bq r.small fq is-suc refl n2 in
      let bo : sz i % 256 < 256 = omega arith in
      let at' : sz i ≡ 256 * length (chain ls (fs i) (suc k)) + sz i % 256 = omega (arith, g.count, chain_length ls (fs i) (suc k)) in
      let some : ns' i ≡ 0 → ⊥ = λ z. omega arith in
      let kept : ((q : ℕ) → times q (chain ls (fs i) (suc k) ++ (lowest_portion ls ∷ [])) ≡ 0 → times q (chain ls (fs i) (suc k)) ≡ 0) = λ q z. omega (arith, times-append q (chain ls (fs i) (suc k)) (lowest_portion ls ∷ [])) in
      let below : ((q : ℕ) → 0 < times q (chain ls (fs i) (suc k)) → q < length ls) = rw is-suc at (held_below ls fs ns E s i bi) in
      let out : times (lowest_portion ls) (chain ls (fs i) (suc k)) ≡ 0 = rw is-suc at (free-out ls fs ns E s i bi (lowest_portion ls) bq fq) in
      let ok : chain_ok ls (fs i) (suc k) ≡ true = rw is-suc at (s.chained i bi (λ z. omega arith)) in
      let once : ((q : ℕ) → times q (chain ls (fs i) (suc k)) ≤ 1) = rw is-suc at (held-once ls fs ns E s i bi) in
      let tail = tail-new (length ls) st (chain ls (fs i) (suc k)) (lowest_portion ls) (sz i % 256) b r.long below bq out bo z0 (g.bytes.blank (lowest_portion ls) bq fq) in
      let p = put_fill st ls _ fs ns sz ns' sz' E i _ (chain ls (fs i) (suc k)) (lowest_portion ls) (sz i % 256) b s c g.bytes r.long bo at' one_more rest some kept tail in
      let cut : take (sz i) (bytes_of st (chain ls (fs i) (suc k) ++ (lowest_portion ls ∷ []))) ≡ take (sz i) (bytes_of st (chain ls (fs i) (suc k))) =
      ap (λ (t : List ℕ). take (sz i) t) (bytes-append st (chain ls (fs i) (suc k)) (lowest_portion ls ∷ []))
      ∙ take-append-le (sz i) (bytes_of st (chain ls (fs i) (suc k))) _ (omega (arith, bytes-length (length ls) st (chain ls (fs i) (suc k)) r.long below)) in
      let same : bytes_of st (chain ls (fs i) (ns i)) ≡ bytes_of st (chain ls (fs i) (suc k)) = ap (λ (n : ℕ). bytes_of st (chain ls (fs i) n)) is-suc in
      let w = put-more st ls _ fs ns sz ns' sz' E i _ (chain ls (fs i) (suc k)) (lowest_portion ls) (sz i % 256) b s c g.bytes r.long bo at' one_more rest some kept tail in
      let end : walk (hung ls (walk ls (fs i) k) (lowest_portion ls)) (fs i) (suc k) ≡ lowest_portion ls =
      last_of (chain (hung ls (walk ls (fs i) k) (lowest_portion ls)) (fs i) (suc k)) (chain ls (fs i) (suc k)) _ (lowest_portion ls)
      (chain_length (hung ls (walk ls (fs i) k) (lowest_portion ls)) (fs i) (suc k) ∙ sym (chain_length ls (fs i) (suc k)))
      (sym (chain_snoc (hung ls (walk ls (fs i) k) (lowest_portion ls)) (fs i) (suc k)) ∙ hung-chain ls (lowest_portion ls) bq (fs i) k ok out once) in
      rw (g.final k is-suc) (record {
        grown = record {
          links = changed ls _ fs ns fs ns' E i _ _ s c;
          bytes = filled st _ ls _ fs ns sz fs ns' sz' E i _ _ s c g.bytes p;
          count = count;
          final = λ j ej. sym end ∙ ap (λ (n : ℕ). walk (hung ls (walk ls (fs i) k) (lowest_portion ls)) (fs i) n) (let x : suc k ≡ j = omega arith in x);
        };
        content = w ∙ ap (λ (t : List ℕ). t ++ (b ∷ [])) (cut ∙ ap (λ (t : List ℕ). take (sz i) t) (sym same));
        chains = others ls _ fs ns fs ns' E i _ _ s c;
        others = others-bytes st _ ls _ fs ns sz fs ns' sz' E i _ _ s c g.bytes p;
      })

  pub put-sound : Goal (next_last ls last (sz i)) (next_links ls last (sz i))
  put-sound = go (case (sz i))
    where
      pre : ns i ≡ suc (ns i - 1)
      pre = omega (arith, g.count)

      go : Case (sz i) → Goal (next_last ls last (sz i)) (next_links ls last (sz i))
      go (is_full e p) = rw ((next-full ls last (sz i) r.small r.inside e p).0, (next-full ls last (sz i) r.small r.inside e p).1) (in-new (ns i - 1) pre e p)
      go (is_in n) = rw ((next-in ls last (sz i) n).0, (next-in ls last (sz i) n).1) (in-last (ns i - 1) pre (omega (arith, g.count)) (omega (arith, g.count)))
      go (is_first z) = rw ((next-first ls last (sz i) z).0, (next-first ls last (sz i) z).1) (in-last (ns i - 1) pre (omega (arith, g.count)) (omega (arith, g.count)))
