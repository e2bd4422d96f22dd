-- A row of bytes put behind what is stored: one byte after another.
use mathlib.Core.Path.{◌≡◌, refl, sym, ap, ◌∙◌}
use mathlib.Core.List.{List, [], ◌∷◌, ◌++◌, append-nil, append_assoc}
use mathlib.Core.Bool.{cond}
use Prim.Native.Nat.{ℕ, suc, ◌+◌, ◌*◌, ◌%◌, ◌<◌}
use native.Mathlib.Omega.{arith}
use native.Mathlib.Numerals.{sub-one}
use lib.ListN.{length, take}
use lib.Dec.{eqb}
use borrow.Author.Tests.{eq-eqb, ne_eqb}
use Rattle.store.specs.Chain.{chain, bytes_of, needed}
use Rattle.growing.specs.Grow.{next_last, Growing, growing, put_all}
use Rattle.store_sound.proofs.Linked.{changed}
use Rattle.store_sound.proofs.Bytes.{Fill, filled}
use Rattle.store_sound.proofs.PutSound.{Grows, put-sound, stay}
use Rattle.store_sound.proofs.Room.{Room, room-step}

-- f with v at i
upd : (ℕ → ℕ) → ℕ → ℕ → ℕ → ℕ
upd f i v j = cond (eqb j i) v (f j)

upd-here : (f : ℕ → ℕ) (i v : ℕ) → upd f i v i ≡ v
unfolding upd
upd-here f i v = rw (eq-eqb i i refl)

upd_other : (f : ℕ → ℕ) (i v j : ℕ) → (j ≡ i → ⊥) → upd f i v j ≡ f j
unfolding upd
upd_other f i v j n = rw (ne_eqb j i n)

pub record Appended (st ls : List ℕ) (g : Growing) (fs ns sz ns' sz' : ℕ → ℕ) (E i : ℕ) (line : List ℕ) : Type 0 where
  pub grown : Grows g.store g.links fs ns' sz' E i g.last
  pub content : take (sz' i) (bytes_of g.store (chain g.links (fs i) (ns' i))) ≡ take (sz i) (bytes_of st (chain ls (fs i) (ns i))) ++ line
  pub chains : (j : ℕ) → j < E → (j ≡ i → ⊥) → chain g.links (fs j) (ns' j) ≡ chain ls (fs j) (ns j)
  pub others : (j : ℕ) → j < E → (j ≡ i → ⊥) → bytes_of g.store (chain g.links (fs j) (ns' j)) ≡ bytes_of st (chain ls (fs j) (ns j))

pub append-sound : (line st ls : List ℕ) (fs ns sz ns' sz' : ℕ → ℕ) (E i last : ℕ) → i < E → Grows st ls fs ns sz E i last → Room st ls last (sz i) (length line)
    → sz' i ≡ sz i + length line → ns' i ≡ needed (sz' i) → ((j : ℕ) → j < E → (j ≡ i → ⊥) → sz' j ≡ sz j) → ((j : ℕ) → j < E → (j ≡ i → ⊥) → ns' j ≡ ns j)
    → Appended st ls (put_all (growing st ls last (sz i)) line) fs ns sz ns' sz' E i line
append-sound [] st ls fs ns sz ns' sz' E i last bi g r e n so nn =
    let zi : sz' i ≡ sz i = omega arith in
    let ni : ns' i ≡ ns i = n ∙ ap needed zi ∙ sym g.count in
    let c = stay ls fs ns ns' E i g.links bi nn ni in
    let f : Fill st st ls sz sz' E i (chain ls (fs i) (ns i)) (chain ls (fs i) (ns i)) =
    record { apart = λ q b o z. refl; wiped = λ q b o z. absurd (omega arith); sizes = so; tail = rw zi (g.bytes.tailed i bi) } in
    record {
      grown = record {
        links = changed ls ls fs ns fs ns' E i _ _ g.links c;
        bytes = filled st st ls ls fs ns sz fs ns' sz' E i _ _ g.links c g.bytes f;
        count = n;
        final = λ k ek. g.final k (sym ni ∙ ek);
      };
      content = rw (zi, ni) (sym (append-nil _));
      chains = λ j b ne. rw (nn j b ne);
      others = λ j b ne. rw (nn j b ne);
    }
append-sound (b ∷ line) st ls fs ns sz ns' sz' E i last bi g r e n so nn =
    let sz₁ = upd sz i (sz i + 1) in
    let ns₁ = upd ns i (needed (sz i + 1)) in
    let z₁ : sz₁ i ≡ sz i + 1 = upd-here sz i (sz i + 1) in
    let n₁ : ns₁ i ≡ needed (sz₁ i) = upd-here ns i (needed (sz i + 1)) ∙ ap needed (sym z₁) in
    let p = put-sound st ls fs ns sz ns₁ sz₁ E i last (suc (length line)) b bi g r (omega arith) z₁ n₁ (λ j x y. upd_other sz i (sz i + 1) j y) (λ j x y. upd_other ns i (needed (sz i + 1)) j y) in
    let r₁ = room-step st ls last (sz i) (suc (length line)) b (next_last ls last (sz i) * 256 + sz i % 256) (omega arith) r in
    let a = append-sound line _ _ fs ns₁ sz₁ ns' sz' E i (next_last ls last (sz i)) bi p.grown (rw (z₁, ← (sub-one (suc (length line)))) r₁)
    (omega arith) n (λ j x y. so j x y ∙ sym (upd_other sz i (sz i + 1) j y)) (λ j x y. nn j x y ∙ sym (upd_other ns i (needed (sz i + 1)) j y)) in
    let a' : Appended _ _ (put_all (growing _ _ (next_last ls last (sz i)) (sz i + 1)) line) fs ns₁ sz₁ ns' sz' E i line = rw z₁ at a in
    record {
      grown = a'.grown;
      content = a'.content ∙ ap (λ (t : List ℕ). t ++ line) p.content ∙ append_assoc (take (sz i) (bytes_of st (chain ls (fs i) (ns i)))) (b ∷ []) line;
      chains = λ j x y. a'.chains j x y ∙ p.chains j x y;
      others = λ j x y. a'.others j x y ∙ p.others j x y;
    }
