-- FS and GM: a new entry, empty or with all its bytes.
-- Assumes nothing.
use Rattle.std.proofs.Common.{Ok}
use mathlib.Core.Path.{◌≡◌, refl, sym, subst}
use mathlib.Core.Bool.{true, false, false≢true}
use mathlib.Core.List.{List, []}
use Prim.Native.Nat.{ℕ, ◌<◌}
use native.Mathlib.Omega.{arith}
use lib.ListN.{length}
use borrow.Author.Tests.{eqb-true}
use Rattle.cells.proofs.Scan.{lowest-passes}
use Rattle.std.specs.Prelude.{None, Option, Some, is_some}
use Rattle.store.specs.Chain.{free_count}
use Rattle.store.specs.Entry.{entries, entry, kind}
use Rattle.finding.specs.Find.{is_empty, recorded}
use Rattle.room.specs.Room.{lowest_entry, has_room}
use Rattle.starting.specs.Start.{begun}
use Rattle.growing.specs.Keep.{kept}
use Rattle.store_sound.specs.Shelf.{held}
use Rattle.store_sound.proofs.Start.{MayStart, room_says, begin-moved}
use Rattle.store_sound.proofs.Keep.{keep-moved}
use Rattle.pcx.specs.Rules.{legal}
use Rattle.pcx.proofs.Rules.{legal-says}
use Rattle.grammar.specs.declared.Named.{Named}
use Rattle.grammar.specs.declared.StorePicture.{StorePicture}
use Rattle.grammar.specs.declared.Command.TheVariants.{Forms, Pictures}
use Rattle.grammar.specs.declared.FormCommand.TheVariants.{Start}
use Rattle.grammar.specs.declared.PictureCommand.TheVariants.{Store}
use Rattle.read.specs.Commands.{read_of}
use Rattle.parts.specs.Names.{packed_of}
use Rattle.forms.proofs.Growing.{form_ok-empty}
use Rattle.session.specs.declared.Session.{Session}
use Rattle.free_number.specs.After.{after_stored}
use Rattle.answers.specs.declared.Answer.TheVariants.{Taken, Misplaced, InUse, Illegal}
use Rattle.answers.specs.Answers.{is_taken, number_of, answer_of}
use Rattle.full.proofs.Full.{taken-room}
use Rattle.lent.specs.Lent.{World, rows_of}
use Rattle.results.specs.World.{memory_of}
use Rattle.results.specs.Named.{lookup, named}
use Rattle.calls.specs.Rows.{run_rows}
use Rattle.calls.specs.Does.{runs}
use Rattle.keeps_sound.specs.Good.{Good}
use Rattle.keeps_sound.proofs.Tables.{clear, not-no}
use Rattle.keeps_sound.proofs.Titles.{start-title, store-title}
use Rattle.keeps_sound.proofs.Freeing.{number-stored}
use Rattle.keeps_sound.proofs.Stored.{good-moved}

none_found : (f : Option ℕ) → is_some f ≡ false → f ≡ None
none_found (Some i) e = absurd (false≢true (sym e))
none_found None e = refl

-- the entry that is taken is empty: it is not the active form's
empty-there : (free : ℕ) (directory : List ℕ) (size : ℕ) → has_room free directory size ≡ true
    → (lowest_entry directory < entries directory) × (kind (entry directory (lowest_entry directory)) ≡ 0)
empty-there free directory size h =
    let b = (room_says free directory size h).0 in
    (b, eqb-true _ 0 (lowest-passes (is_empty directory) (entries directory) b))

module _ (s : Session) (w : World) (g : Good s w) (z : s.owed ≡ 0) (quiet : recorded w.directory ≡ None) where
  -- room asked of the number is room by the links marked free
  counted-room : (size : ℕ) → has_room s.free w.directory size ≡ true → has_room (free_count w.links) w.directory size ≡ true
  counted-room size h = subst (λ (n : ℕ). has_room n w.directory size ≡ true) g.free h

  apart : (size : ℕ) → has_room s.free w.directory size ≡ true → s.active ≡ lowest_entry w.directory
      → kind (entry w.directory (lowest_entry w.directory)) ≡ 1 → ⊥
  apart size h e k = let o = (empty-there s.free w.directory size h).1 in let x : ⊥ = omega arith in x

  -- FS
  pub keeps-start : (font line more : List ℕ) (room : ℕ) (n : Named) → read_of (rows_of w) line ≡ Ok (Forms (Start n))
      → answer_of (run_rows w s line more room (Forms (Start n))) ≡ Taken
      → Good (runs font w s line more (Forms (Start n))).session (runs font w s line more (Forms (Start n))).world
  unfolding is_taken number_of
  keeps-start font line more room n r c =
      let c₁ = clear InUse _ _ refl (clear Misplaced _ _ refl c).1 in
      let title : List ℕ = packed_of line n.at n.length in
      let can : has_room s.free w.directory 0 ≡ true = taken-room s.free w.directory 0 c₁.1 in
      let there = empty-there s.free w.directory 0 can in
      let may : MayStart w.store w.links w.directory 3 title = record {
        sound = g.store;
        some = omega arith;
        low = omega arith;
        long = refl;
        legal = start-title (rows_of w) line n r;
        fresh = none_found (named w false line n) c₁.0;
        quiet = λ e. quiet;
      } in
      let v = begin-moved w.store w.links w.directory 3 title may (counted-room 0 can) in
      good-moved s w g z (after_stored s 0).free (begun (memory_of w) 3 title) (lowest_entry w.directory) (held 3 title []) v
      (number-stored s w g (begun (memory_of w) 3 title) (lowest_entry w.directory) (held 3 title []) v there.0 there.1 refl)
      there.0 (rw form_ok-empty) (apart 0 can)

  -- GM
  pub keeps-picture : (font line more : List ℕ) (room : ℕ) (p : StorePicture) → read_of (rows_of w) line ≡ Ok (Pictures (Store p))
      → answer_of (run_rows w s line more room (Pictures (Store p))) ≡ Taken
      → Good (runs font w s line more (Pictures (Store p))).session (runs font w s line more (Pictures (Store p))).world
  unfolding is_taken number_of
  keeps-picture font line more room p r c =
      let c₁ = clear InUse _ _ refl (clear Misplaced _ _ refl c).1 in
      let c₂ = clear Illegal _ _ refl c₁.1 in
      let title : List ℕ = packed_of line p.at p.length in
      let fine : legal more ≡ true = not-no _ c₂.0 in
      let can : has_room s.free w.directory (length more) ≡ true = taken-room s.free w.directory (length more) c₂.1 in
      let there = empty-there s.free w.directory (length more) can in
      let may : MayStart w.store w.links w.directory 2 title = record {
        sound = g.store;
        some = omega arith;
        low = omega arith;
        long = refl;
        legal = store-title (rows_of w) line p r;
        fresh = none_found (lookup w true line p.at p.length) c₁.0;
        quiet = λ e. quiet;
      } in
      let v = keep-moved w.store w.links w.directory 2 title more may (omega (arith, (legal-says more fine).header.long)) (counted-room (length more) can) in
      good-moved s w g z (after_stored s (length more)).free (kept (memory_of w) 2 title more) (lowest_entry w.directory) (held 2 title more) v
      (number-stored s w g (kept (memory_of w) 2 title more) (lowest_entry w.directory) (held 2 title more) v there.0 there.1 refl)
      there.0 fine (apart (length more) can)
