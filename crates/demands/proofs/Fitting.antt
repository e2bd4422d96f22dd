-- Paper 02, §7: what is answered to whether it fits is what FS, and GM with a legal picture, are answered.
-- Assumes nothing.
use mathlib.Core.Path.{◌≡◌, refl, sym, ap, ◌∙◌}
use mathlib.Core.Bool.{Bool, true, false, not, cond}
use mathlib.Core.List.{List, ◌∷◌}
use mathlib.Core.Logic.{◌⊎◌, inl, inr}
use Prim.Native.Nat.{ℕ, ◌+◌, ◌≤◌}
use native.Mathlib.Omega.{arith}
use lib.ListN.{length, take, drop}
use lib.Seq.{get_or-take, get_or-drop, length-take-le}
use lib.Dec.{ltb}
use borrow.Author.Tests.{ne_eqb, le-ltb}
use Rattle.classes.specs.declared.Class.TheVariants.{Named as NameByte}
use Rattle.classes.specs.Bytes.{part}
use Rattle.classes.proofs.Laws.{run-within}
use Rattle.normal.proofs.Back.{all_in as class_all, run_in, T_true}
use Rattle.font.specs.Rules.{legal as legal_font}
use Rattle.pcx.specs.Rules.{legal as legal_picture}
use Rattle.parts.specs.Names.{packed_of}
use Rattle.grammar.specs.declared.Named.{Named}
use Rattle.grammar.specs.declared.StorePicture.{StorePicture}
use Rattle.grammar.specs.declared.Command.TheVariants.{Forms, Pictures}
use Rattle.grammar.specs.declared.FormCommand.TheVariants.{Start}
use Rattle.grammar.specs.declared.PictureCommand.TheVariants.{Store}
use Rattle.std.specs.Prelude.{None, Option, Some, is_some}
use Rattle.finding.specs.Find.{recorded, titled_at}
use Rattle.store_sound.proofs.Facts.{sound-facts}
use Rattle.session.specs.declared.Session.{Session}
use Rattle.answers.specs.declared.Answer.{Answer}
use Rattle.answers.specs.declared.Answer.TheVariants.{Lengths, Limits, Owing, Misplaced, InUse, Illegal}
use Rattle.answers.specs.Answers.{row, answer_of}
use Rattle.answers.proofs.Rows.{answer-skip, answer-stop}
use Rattle.full.specs.Full.{full_rows}
use Rattle.lent.specs.Lent.{World, rows_of, wrong_lent, page_wrong, links_wrong, store_wrong, directory_wrong, lengths_wrong}
use Rattle.results.proofs.Answers.{or-none}
use Rattle.commands.specs.Rows.{placed_rows}
use Rattle.unread.specs.Front.{line_of}
use Rattle.keeps_sound.specs.Good.{Good}
use Rattle.keeps_sound.proofs.Titles.{Name, start-named, store-named}
use Rattle.fits.specs.Names.{user_of}
use Rattle.fits.specs.Fits.{lent_wrong, size_wrong, limits_wrong, place_rows}
use Rattle.demands.specs.Calls.{Asked, answered, Says}
use Rattle.demands.specs.Relist.{IsName, title_of}
use Rattle.demands.specs.Fitting.{fits, name_given, bytes_given}
use Rattle.demands.proofs.Names.{spelt-title, name-right, same-all}
use Rattle.demands.proofs.Bearing.{user-titled}
use Rattle.demands.proofs.Storing.{store_bytes}
use Rattle.demands.proofs.Unfit.{said-answer}

-- ---- the name that a line gives, within its limits

module _ (line : List ℕ) (at n : ℕ) (h : Name line at n) where
  abbrev given : List ℕ
  given = part line (at + 1) n

  given-long : length given ≡ n
  given-long = length-take-le n (drop (at + 1) line) (omega (arith, run-within NameByte (drop (at + 1) line), h.bytes))

  pub given-name : IsName given
  given-name = record {
    some = omega (arith, given-long, h.some);
    few = omega (arith, given-long, h.few);
    legal =
        sym (same-all NameByte given)
        ∙ ap (λ (m : ℕ). class_all NameByte (take m (drop (at + 1) line))) (sym h.bytes)
        ∙ T_true _ (run_in NameByte (drop (at + 1) line));
  }

  -- as an entry keeps it
  pub given-title : packed_of line at n ≡ title_of given
  given-title =
      ap (packed_of line at) (sym given-long)
      ∙ spelt-title line given at (λ k b. sym (get_or-take n (drop (at + 1) line) k 0 (omega (arith, given-long)) ∙ get_or-drop (at + 1) line k 0))

-- ---- the table of §7

module _ (s : Session) (w : World) (long : wrong_lent w ≡ false) where
  -- [1] of links and directory is one of the lengths that every call asks for
  lent-right : lent_wrong (length w.links) (length w.directory) ≡ false
  unfolding lent_wrong lengths_wrong store_wrong
  lent-right =
      let a = (or-none (page_wrong (length w.background)) _ long).1 in
      let b = or-none (store_wrong (length w.store) (length w.links)) _ a in
      rw ((or-none (links_wrong (length w.links)) _ b.0).0, (or-none (directory_wrong (length w.directory)) _ b.1).0)

  module _ (kind : ℕ) (name : List ℕ) (size : ℕ) where
    pub fits-outside : limits_wrong kind name size ≡ true → fits s w kind name size ≡ Limits 0
    fits-outside wrong = answer-skip Lengths _ _ lent-right ∙ answer-stop (Limits 0) _ _ wrong

    fits-within :
        limits_wrong kind name size ≡ false → fits s w kind name size ≡ answer_of (row Owing (ltb 0 s.owed) ∷ place_rows w.links w.directory kind name size)
    fits-within right = answer-skip Lengths _ _ lent-right ∙ answer-skip (Limits 0) _ _ right

form-right : (name : List ℕ) (size : ℕ) → IsName name → limits_wrong 1 name size ≡ false
unfolding limits_wrong size_wrong
form-right name size n = rw (name-right name n)

picture-right : (name : List ℕ) (size : ℕ) → IsName name → 1 ≤ size → size ≤ 32768 → limits_wrong 2 name size ≡ false
unfolding limits_wrong size_wrong
picture-right name size n low high =
    let some : size ≡ 0 → ⊥ = λ e. omega arith in
    rw (name-right name n, ne_eqb size 0 some, le-ltb 32768 size high)

-- ---- FS and GM: 8, then 9 to 23

module _ (w : World) (s : Session) (line more : List ℕ) (room : ℕ) where
  start-placed :
      (n : Named) (f : Option ℕ) →
      answer_of (placed_rows w s line more room (Forms (Start n)) f)
      ≡ answer_of (row Misplaced (is_some f) ∷ row InUse (is_some (titled_at w.directory false (packed_of line n.at n.length))) ∷ full_rows s.free w.directory 0)
  unfolding answer_of
  start-placed n (Some i) = refl
  start-placed n None = refl

  store-placed :
      (p : StorePicture) (f : Option ℕ) →
      answer_of (placed_rows w s line more room (Pictures (Store p)) f)
      ≡ answer_of (row Misplaced (is_some f) ∷ row InUse (is_some (titled_at w.directory true (packed_of line p.at p.length))) ∷ row Illegal (not (legal_picture more))
      ∷ full_rows s.free w.directory (length more))
  unfolding answer_of
  store-placed p (Some i) = refl
  store-placed p None = refl

-- 16 stands behind 10 and before 19
but-illegal :
    (o m u l : Bool) (x : Answer) →
    ((l ≡ false) × (cond o Owing (cond m Misplaced (cond u InUse (cond (not l) Illegal x))) ≡ Illegal))
    ⊎ (cond o Owing (cond m Misplaced (cond u InUse (cond (not l) Illegal x))) ≡ cond o Owing (cond m Misplaced (cond u InUse x)))
but-illegal true m u l x = inr refl
but-illegal false true u l x = inr refl
but-illegal false false true l x = inr refl
but-illegal false false false true x = inr refl
but-illegal false false false false x = inl (refl, refl)

-- ---- the answers, on sound memory

module _ (s : Session) (w : World) (g : Good s w) where
  -- the entry in use is the one that the line's name finds
  used :
      (line : List ℕ) (at n : ℕ) → Name line at n → (picture : Bool) →
      is_some (titled_at w.directory picture (packed_of line at n)) ≡ is_some (user_of w.directory picture (part line (at + 1) n))
  used line at n h picture =
      ap (λ (t : List ℕ). is_some (titled_at w.directory picture t)) (given-title line at n h)
      ∙ ap is_some (sym (user-titled (part line (at + 1) n) (given-name line at n h) w.directory picture
      (sound-facts w.store w.links w.directory g.store).names))

  module _ (a : Asked) (legal : legal_font a.font ≡ true) where
    pub start-same :
        (n : Named) (r : Says w a.input (Forms (Start n))) (size : ℕ) → (answered s w a).outcome.answer ≡ fits s w 1 (name_given r n.at n.length) size
    unfolding answer_of
    start-same n r size =
        let line : List ℕ = line_of a.input r.line in
        let h = start-named (rows_of w) line n r.means in
        said-answer s w a.font a.output a.input (Forms (Start n)) r g legal
        ∙ ap (cond (ltb 0 s.owed) Owing) (start-placed w s line (bytes_given r) (length a.output) n (recorded w.directory))
        ∙ rw (used line n.at n.length h false, g.free)
        (sym (fits-within s w g.lengths 1 (name_given r n.at n.length) size (form-right _ size (given-name line n.at n.length h))))

    -- "answer 16 aside"
    pub store_same :
        (p : StorePicture) (r : Says w a.input (Pictures (Store p))) →
        ((legal_picture (bytes_given r) ≡ false) × ((answered s w a).outcome.answer ≡ Illegal))
        ⊎ ((answered s w a).outcome.answer ≡ fits s w 2 (name_given r p.at p.length) (length (bytes_given r)))
    unfolding answer_of
    store_same p r =
        let line : List ℕ = line_of a.input r.line in
        let h = store-named (rows_of w) line p r.means in
        let b = store_bytes w a.input p r in
        rw (
          said-answer s w a.font a.output a.input (Pictures (Store p)) r g legal,
          store-placed w s line (bytes_given r) (length a.output) p (recorded w.directory),
          used line p.at p.length h true,
          g.free,
          fits-within s w g.lengths 2 (name_given r p.at p.length) (length (bytes_given r))
              (picture-right _ (length (bytes_given r)) (given-name line p.at p.length h) b.1.0 b.1.1),
        )
        (but-illegal (ltb 0 s.owed) (is_some (recorded w.directory)) (is_some (user_of w.directory true (name_given r p.at p.length))) (legal_picture (bytes_given r)) _)
