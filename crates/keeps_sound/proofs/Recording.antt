-- While a form is recorded: a line is kept behind it, FE ends it.
-- Assumes nothing.
use Rattle.std.proofs.Common.{Result, Ok, Err, Some, None}
use mathlib.Core.Path.{◌≡◌, refl, sym, ap, ◌∙◌, subst}
use mathlib.Core.Bool.{Bool, true, false, not, ◌&&◌, false≢true, cond}
use mathlib.Core.List.{List, [], ◌∷◌, ◌++◌}
use Prim.Native.Nat.{ℕ, ◌+◌, ◌≤◌, ◌<◌}
use native.Mathlib.Omega.{arith}
use native.Mathlib.Decide.{ℕ_discrete}
use lib.ListN.{length, length-append}
use lib.Dec.{eqb, leb}
use borrow.Author.Tests.{eq-eqb, ne_eqb, eqb-true, le-leb}
use Rattle.cells.proofs.Scan.{lowest-passes}
use Rattle.std.specs.Prelude.{Option, Some, is_some}
use Rattle.store.specs.Chain.{needed, free_count}
use Rattle.store.specs.Entry.{entries, entry, kind, name, size}
use Rattle.finding.specs.Find.{is_recording, recorded}
use Rattle.finding.proofs.Finding.{at-says}
use Rattle.memory.specs.Memory.{memory}
use Rattle.room.specs.Room.{can_grow}
use Rattle.growing.specs.Grow.{grown as behind}
use Rattle.starting.specs.Start.{finished}
use Rattle.store_sound.specs.Shelf.{held, held_of}
use Rattle.store_sound.proofs.Listing.{shelf-at}
use Rattle.store_sound.specs.Sound.{counts}
use Rattle.store_sound.proofs.Facts.{sound-facts, many-some}
use Rattle.store_sound.proofs.Free.{content-long}
use Rattle.store_sound.proofs.Grow.{grow-moved}
use Rattle.store_sound.proofs.Finish.{finish-moved}
use Rattle.declarations.specs.declared.Declared.{Declared}
use Rattle.read.specs.Commands.{read_of}
use Rattle.grammar.specs.declared.Item.{Item}
use Rattle.grammar.specs.declared.Command.{Command}
use Rattle.grammar.specs.declared.Command.TheVariants.{Item as item, End, Page, Forms, Pictures, Values, Listing, Clock}
use Rattle.normal.specs.Written.{normal, taken_item, is_normal}
use Rattle.writing.specs.Writing.{equal}
use Rattle.normal.proofs.Round.{normal-line, item-rows}
use Rattle.normal.proofs.Short.{normal-short}
use Rattle.recording.specs.declared.Refusal.{Refusal}
use Rattle.recording.specs.declared.Refusal.TheVariants.{Again as Before, Undeclared as Unknown, Past as Reaches, Unfit as Wrong}
use Rattle.recording.specs.Judged.{judged, is_taken as is_fine}
use Rattle.forms.specs.Form.{form_ok, declared_of, takes_stored, takes}
use Rattle.kept_line.specs.Held.{item_in, held_read}
use Rattle.forms.proofs.Growing.{form_ok-grows}
use Rattle.session.specs.declared.Session.{Session}
use Rattle.answers.specs.declared.Answer.TheVariants.{Taken, Misplaced, Missing, Again, Undeclared, Past, Unfit, FewPortions}
use Rattle.answers.specs.Answers.{Row, is_taken, number_of, answer_of}
use Rattle.lent.specs.Lent.{World, rows_of}
use Rattle.session.specs.Active.{active_of}
use Rattle.results.specs.World.{memory_of, content_at}
use Rattle.item_commands.specs.Items.{fit_rows, verdict_answer}
use Rattle.item_commands.proofs.First.{first-verdict}
use Rattle.calls.specs.Rows.{record_rows}
use Rattle.calls.specs.Does.{recorded_room, records}
use Rattle.ground.proofs.Tests.{and_left, and_both}
use Rattle.keeps_sound.specs.Good.{Good}
use Rattle.keeps_sound.proofs.Tables.{clear, not-no}
use Rattle.keeps_sound.proofs.OneLine.{normal-inside}
use Rattle.keeps_sound.proofs.Judging.{normal-judged}
use Rattle.keeps_sound.proofs.Freeing.{number-stays, number-grown}
use Rattle.keeps_sound.proofs.Stored.{held_ok, contents-at, activity-facts, owed-facts, good-moved}

-- ---- the form that is recorded

pub recorded-is : (directory : List ℕ) (i : ℕ) → recorded directory ≡ Some i → (i < entries directory) × (kind (entry directory i) ≡ 3)
recorded-is directory i e =
    let a = at-says (is_recording directory) (entries directory) i e in
    let t : is_recording directory i ≡ true = ap (is_recording directory) (sym a.0) ∙ lowest-passes (is_recording directory) (entries directory) (omega (arith, a.0, a.1)) in
    (a.1, eqb-true _ 3 t)

-- "labels owed only when nothing is recorded"
pub recording-owes-none : (s : Session) (w : World) (i : ℕ) → Good s w → recorded w.directory ≡ Some i → s.owed ≡ 0
recording-owes-none s w i g e =
    let a = activity-facts s w.directory (active_of w s) w.values g.activity in
    elim (ℕ_discrete s.owed 0) [
      | yes z ↦ z
      | no some ↦ absurd
          (false≢true
          (sym (ap (λ (f : Option ℕ). not (is_some f)) e)
          ∙ (owed-facts s.owed w.directory (active_of w s) w.values s.counters a.owed some).quiet))
    ]

-- what is recorded so far is a form
recorded-form : (s : Session) (w : World) (i : ℕ) → Good s w → i < entries w.directory → kind (entry w.directory i) ≡ 3 → form_ok (content_at w i) ≡ true
recorded-form s w i g b k =
    let h : held_ok (held_of w.store w.links (entry w.directory i)) ≡ true =
    ap held_ok (sym (shelf-at w.store w.links w.directory i b)) ∙ contents-at (memory_of w) g.contents i b in
    and_left (form_ok (content_at w i)) _ (rw k at h)

not-active : (k : ℕ) → k ≡ 3 → k ≡ 1 → ⊥
not-active k a b = omega arith

not_none : (k : ℕ) → k ≡ 3 → k ≡ 0 → ⊥
not_none k a b = omega arith

module _ (s : Session) (w : World) (g : Good s w) (i : ℕ) (e : recorded w.directory ≡ Some i) where
  here : i < entries w.directory
  here = (recorded-is w.directory i e).0

  three : kind (entry w.directory i) ≡ 3
  three = (recorded-is w.directory i e).1

  none-owed : s.owed ≡ 0
  none-owed = recording-owes-none s w i g e

  form : form_ok (content_at w i) ≡ true
  form = recorded-form s w i g here three

  -- the form calls for the portions of its size
  called-three : counts w.directory i ≡ needed (size (entry w.directory i))
  called-three = many-some w.store w.links w.directory i (λ z. not_none _ three z)

  content-size : length (content_at w i) ≡ size (entry w.directory i)
  content-size = content-long w.store w.links w.directory (sound-facts w.store w.links w.directory g.store) i here

  -- FE
  pub keeps-end : (line : List ℕ) → Good (records w s line i End).session (records w s line i End).world
  keeps-end line =
      let m' = memory w.store w.links (finished w.directory i) in
      let x = held 1 (name (entry w.directory i)) (content_at w i) in
      let v = finish-moved w.store w.links w.directory i g.store here three in
      good-moved s w g none-owed s.free m' i x v (number-stays s w g m' i x v here (ap needed content-size ∙ sym called-three)) here (rw form) (λ a. not-active _ three)

-- ---- a line

fit-fine :
    (d : Declared) (line : List ℕ) (it : Item) (rows : List Row) → answer_of (fit_rows d line it rows) ≡ Taken → (judged d line it ≡ (Ok tt)) × (answer_of rows ≡ Taken)
unfolding is_taken number_of
fit-fine d line it rows h =
    let a = clear (Again _) _ _ refl h in
    let b = clear (Undeclared _) _ _ refl a.1 in
    let c = clear (Past _) _ _ refl b.1 in
    let e = clear (Unfit _) _ _ refl c.1 in
    (rw (first-verdict d line it, a.0, b.0, c.0, e.0), e.1)

equal-self : (l : List ℕ) → equal l l ≡ true
unfolding equal
equal-self [] = refl
equal-self (x ∷ l) = and_both (eqb x x) (equal l l) (eq-eqb x x refl) (equal-self l)

-- a line in normal form holds what it is read as
normal-holds : (l : List ℕ) (i : Item) → length l ≤ 255 → read_of 1 l ≡ Ok (item i) → normal l ≡ l → item_in l ≡ Some i
unfolding item_in is_normal
normal-holds l i h r n =
    let t : (leb (length l) 255 && (taken_item (read_of 1 l) && equal (normal l) l)) ≡ true =
    and_both _ _ (le-leb (length l) 255 h) (and_both _ _ (ap taken_item r) (ap (λ (x : List ℕ). equal x l) n ∙ equal-self l)) in
    ap (λ (b : Bool). cond b (held_read (read_of 1 l)) None) t ∙ ap held_read r

-- what is answered 0 recording takes
zero-fine : (v : Result Unit Refusal) → number_of (verdict_answer v) ≡ 0 → is_fine v ≡ true
unfolding number_of
zero-fine (Ok u) e = refl
zero-fine (Err (Before p)) e = absurd (omega (arith, e))
zero-fine (Err (Unknown p)) e = absurd (omega (arith, e))
zero-fine (Err (Reaches p)) e = absurd (omega (arith, e))
zero-fine (Err (Wrong p)) e = absurd (omega (arith, e))

-- "recording would take" the normal form of a line that is taken
pub normal-takes : (rows : ℕ) (d : Declared) (line : List ℕ) (it : Item) → read_of rows line ≡ Ok (item it) → length line ≤ 255
    → judged d line it ≡ (Ok tt) → takes d (normal line) ≡ true
unfolding takes number_of
normal-takes rows d line it r h v =
    let n = normal-line rows line it r in
    ap (takes_stored d (normal line)) (normal-holds (normal line) n.back (normal-short rows line it r h) (item-rows rows 1 (normal line) n.back n.read) n.again)
    ∙ zero-fine (judged d (normal line) n.back) (normal-judged rows d line it r n ∙ ap (λ (x : Result Unit Refusal). number_of (verdict_answer x)) v)

module _ (s : Session) (w : World) (g : Good s w) (i : ℕ) (e : recorded w.directory ≡ Some i) where
  -- a recorded line
  pub keeps-recorded : (line : List ℕ) (it : Item) → read_of (rows_of w) line ≡ Ok (item it) → length line ≤ 255
      → answer_of (record_rows w s line i (item it)) ≡ Taken
      → Good (records w s line i (item it)).session (records w s line i (item it)).world
  unfolding is_taken number_of
  keeps-recorded line it r h c =
      let c₀ = clear Misplaced _ _ refl c in
      let c₁ = clear Missing _ _ refl c₀.1 in
      let c₂ = fit-fine (declared_of (content_at w i)) line it _ c₁.1 in
      let c₃ = clear FewPortions _ _ refl c₂.1 in
      let more : List ℕ = normal line ++ (10 ∷ []) in
      let long : length more ≡ length (normal line) + 1 = length-append (normal line) (10 ∷ []) in
      let can : can_grow (free_count w.links) (entry w.directory i) (length more) ≡ true =
      ap (can_grow (free_count w.links) (entry w.directory i)) long
      ∙ subst (λ (n : ℕ). can_grow n (entry w.directory i) (length (normal line) + 1) ≡ true) g.free (not-no _ c₃.0) in
      let fine : form_ok (content_at w i ++ more) ≡ true =
      form_ok-grows (content_at w i) (normal line) (form s w g i e) (normal-inside (rows_of w) line it r)
      (normal-takes (rows_of w) (declared_of (content_at w i)) line it r h c₂.0) in
      let x = held (kind (entry w.directory i)) (name (entry w.directory i)) (content_at w i ++ more) in
      let v = grow-moved w.store w.links w.directory i more g.store (here s w g i e) can in
      let stored : kind (entry w.directory i) ≡ 0 → ⊥ = not_none _ (three s w g i e) in
      let whole : length (content_at w i ++ more) ≡ size (entry w.directory i) + (length (normal line) + 1) =
      length-append (content_at w i) more ∙ (λ t. content-size s w g i e t + long t) in
      good-moved s w g (none-owed s w g i e) (recorded_room s w i line).free (behind (memory_of w) i more) i x v
      (number-grown s w g (behind (memory_of w) i more) i (length (normal line) + 1) x v (here s w g i e) stored
      (ap (λ (b : Bool). cond b 0 (needed (length (content_at w i ++ more)))) (ne_eqb (kind (entry w.directory i)) 0 stored) ∙ ap needed whole))
      (here s w g i e) (rw (three s w g i e, fine)) (λ a. not-active _ (three s w g i e))

  -- every command while a form is recorded
  pub keeps-records : (line : List ℕ) (c : Command) → read_of (rows_of w) line ≡ Ok c → length line ≤ 255
      → answer_of (record_rows w s line i c) ≡ Taken → Good (records w s line i c).session (records w s line i c).world
  keeps-records line (item it) r h a = keeps-recorded line it r h a
  keeps-records line End r h a = keeps-end s w g i e line
  keeps-records line (Page c) r h a = g
  keeps-records line (Forms c) r h a = g
  keeps-records line (Pictures c) r h a = g
  keeps-records line (Values c) r h a = g
  keeps-records line (Listing c) r h a = g
  keeps-records line (Clock c) r h a = g
