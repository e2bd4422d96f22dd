-- Paper 02, §7, of lines as they are sent: `FS"name"` and `GM"name",n` for every text that can stand in quotes, a name or not, and for every n.
-- Assumes nothing.
use Rattle.std.proofs.Common.{Result, Ok, Err}
use mathlib.Core.Path.{◌≡◌, refl, sym, ap, ◌∙◌}
use mathlib.Core.Bool.{Bool, true, false, not, cond, ◌||◌, true≢false}
use mathlib.Core.List.{List, [], ◌∷◌, ◌++◌}
use mathlib.Core.Logic.{◌⊎◌, inr, ⊎_elim, ⊎_map}
use Prim.Native.Nat.{ℕ, ◌+◌, ◌-◌, ◌≤◌}
use native.Mathlib.Omega.{arith}
use lib.ListN.{length, take, length-append}
use lib.Seq.{take-append_seam, drop-append-add}
use lib.Dec.{eqb, ltb}
use borrow.Author.Tests.{eq-eqb, lt-ltb}
use Rattle.read.specs.declared.Fault.{Fault}
use Rattle.kinds.specs.Bytes.{between}
use Rattle.classes.specs.Bytes.{part}
use Rattle.classes.proofs.Laws.{in-range, below-range, above-range}
use Rattle.writing.specs.Writing.{decimal}
use Rattle.font.specs.Rules.{legal as legal_font}
use Rattle.pcx.specs.Rules.{legal as legal_picture}
use Rattle.grammar.specs.declared.Command.{Command}
use Rattle.grammar.specs.declared.Command.TheVariants.{Forms, Pictures}
use Rattle.grammar.specs.declared.FormCommand.TheVariants.{Start}
use Rattle.grammar.specs.declared.PictureCommand.TheVariants.{Store}
use Rattle.read.specs.declared.Fault.TheVariants.{Limit}
use Rattle.read.specs.Commands.{read_of}
use Rattle.front.specs.declared.Front.TheVariants.{Line}
use Rattle.front.specs.Front.{front_of}
use Rattle.session.specs.declared.Session.{Session}
use Rattle.answers.specs.declared.Answer.TheVariants.{Limits, Illegal}
use Rattle.answers.specs.Answers.{answer_of, number_of}
use Rattle.lent.specs.Lent.{World, rows_of}
use Rattle.commands.specs.Rows.{line_rows}
use Rattle.unread.specs.Front.{line_of, more_of, front_read, read_by}
use Rattle.results.proofs.Answers.{cond_map}
use Rattle.ground.proofs.Tests.{or-second}
use Rattle.keeps_sound.specs.Good.{Good}
use Rattle.fits.specs.Names.{name_wrong}
use Rattle.fits.specs.Fits.{is_form, is_picture, size_wrong, limits_wrong}
use Rattle.demands.specs.Calls.{Asked, sending, answered, Says}
use Rattle.demands.specs.Relist.{start_line, name_in}
use Rattle.demands.specs.Fitting.{fits, name_given, bytes_given, store_line, Sendable, sending_with}
use Rattle.demands.proofs.Refusal.{command-reads}
use Rattle.demands.proofs.Unfit.{line-answer}
use Rattle.demands.proofs.Names.{right-name}
use Rattle.demands.proofs.Sayings.{start-judged, start-front, start-says}
use Rattle.demands.proofs.Storing.{stored_by, store-front, store-judged}
use Rattle.demands.proofs.Fitting.{fits-outside, start-same, store_same}

-- ---- a legal picture is not answered 16

pub legal-same : {A B : Type 0} (fine : Bool) → fine ≡ true → ((fine ≡ false) × A) ⊎ B → B
legal-same fine e = ⊎_elim (λ x. absurd (true≢false (sym e ∙ x.0))) (λ y. y)

-- ---- 7 of both

or-late : (a b c : Bool) → b ≡ true → (a || (b || c)) ≡ true
or-late true b c e = refl
or-late false b c e = rw e

-- a name that is none, of whatever kind
pub name-outside : (kind : ℕ) (name : List ℕ) (size : ℕ) → name_wrong name ≡ true → limits_wrong kind name size ≡ true
unfolding limits_wrong
name-outside kind name size e = or-late (not (is_form kind || is_picture kind)) (name_wrong name) (size_wrong kind size) e

-- a size that no picture has
size-no : (n : ℕ) → (n ≡ 0) ⊎ (32769 ≤ n) → between 1 32768 n ≡ false
size-no n =
    ⊎_elim (λ (e : n ≡ 0). below-range 1 32768 n (omega arith)) (λ (h : 32769 ≤ n). above-range 1 32768 n (omega arith))

pub size-outside : (name : List ℕ) (size : ℕ) → (size ≡ 0) ⊎ (32769 ≤ size) → limits_wrong 2 name size ≡ true
unfolding limits_wrong size_wrong
size-outside name size = ⊎_elim
    (λ (e : size ≡ 0). or-second (name_wrong name) _ (rw (eq-eqb size 0 e)))
    (λ (h : 32769 ≤ size). or-second (name_wrong name) _ (or-second (eqb size 0) (ltb 32768 size) (lt-ltb 32768 size (omega arith))))

module _ (s : Session) (w : World) (g : Good s w) (a : Asked) (legal : legal_font a.font ≡ true) where
  -- a line with a field outside its limits
  limit-answer :
      (line : List ℕ) (k p : ℕ) → front_of (line ++ (10 ∷ a.input)) ≡ Line (length line) k → read_of (rows_of w) line ≡ Err (Limit p) →
      (answered s w (sending line a)).outcome.answer ≡ Limits p
  unfolding answer_of
  limit-answer line k p front reads =
      let input : List ℕ = line ++ (10 ∷ a.input) in
      line-answer s w a.font a.output input g legal (length line) k front
      ∙ ap (λ (r : Result Command Fault). answer_of (line_rows w s (line_of input (length line)) (more_of input (length line) k) (length a.output) r))
      (ap (read_of (rows_of w)) (take-append_seam line (10 ∷ a.input)) ∙ reads)

-- ---- FS

module _ (s : Session) (w : World) (g : Good s w) (a : Asked) (legal : legal_font a.font ≡ true) where
  pub start-line-same :
      (t : List ℕ) → Sendable t (start_line t) → (size : ℕ) →
      number_of (answered s w (sending (start_line t) a)).outcome.answer ≡ number_of (fits s w 1 t size)
  unfolding number_of
  start-line-same t sendable size = by (name_wrong t) refl
    where
      by : (b : Bool) → name_wrong t ≡ b → number_of (answered s w (sending (start_line t) a)).outcome.answer ≡ number_of (fits s w 1 t size)
      by true e =
          ap number_of (limit-answer s w g a legal (start_line t) _ 2 (start-front t a.input sendable.quoted sendable.short)
          (start-judged t sendable.quoted (rows_of w) ∙ ap (λ (b : Bool). cond b (Err (Limit 2)) (Ok (Forms (Start (name_in 83 t))))) e))
          ∙ ap number_of (sym (fits-outside s w g.lengths 1 t size (name-outside 1 t size e)))
      by false e =
          ap number_of (start-same s w g (sending (start_line t) a) legal (name_in 83 t) (start-says t (right-name t e) w a.input) size
          ∙ ap (λ (n : List ℕ). fits s w 1 n size)
          (ap (λ (l : List ℕ). part l 3 (length t)) (take-append_seam (start_line t) (10 ∷ a.input)) ∙ take-append_seam t (34 ∷ [])))

  -- ---- GM

  -- with bytes behind it, as many as it says: 16, or the same
  module _ (t bytes : List ℕ) (sendable : Sendable t (store_line t (length bytes))) (low : 1 ≤ length bytes) (high : length bytes ≤ 32768) where
    abbrev line : List ℕ
    line = store_line t (length bytes)

    abbrev behind : Asked
    behind = record { font = a.font; output = a.output; input = bytes ++ a.input }

    abbrev command : Command
    command = Pictures (Store (stored_by t (length bytes)))

    sent_front : front_of (line ++ (10 ∷ behind.input)) ≡ Line (length line) (length line + 1 + length bytes)
    sent_front =
        let asks : cond (between 1 32768 (length bytes)) (length bytes) 0 ≡ length bytes = rw (in-range 1 32768 (length bytes) low high) in
        let all : length (bytes ++ a.input) ≡ length bytes + length a.input = length-append bytes a.input in
        store-front t sendable.quoted (length bytes) (omega arith) (bytes ++ a.input) sendable.short (omega (arith, asks, all))
        ∙ ap (λ (k : ℕ). Line (length line) (length line + 1 + k)) asks

    sent-judged : (b : Bool) → name_wrong t ≡ b → read_of (rows_of w) line ≡ cond b (Err (Limit 2)) (Ok command)
    sent-judged b e =
        store-judged t sendable.quoted (length bytes) (omega arith) (rows_of w) ∙ rw (in-range 1 32768 (length bytes) low high)
        (ap (λ (b : Bool). cond b (Err (Limit 2)) (Ok command)) e)

    abbrev sent-says : name_wrong t ≡ false → Says w (line ++ (10 ∷ behind.input)) command
    sent-says e = record {
      line = length line;
      whole = length line + 1 + length bytes;
      front = sent_front;
      means = ap (read_of (rows_of w)) (take-append_seam line (10 ∷ behind.input)) ∙ sent-judged false e;
    }

    sent-bytes : (e : name_wrong t ≡ false) → bytes_given (sent-says e) ≡ bytes
    sent-bytes e =
        let k : length line + 1 + length bytes - (length line + 1) ≡ length bytes = omega arith in
        (λ i. take (k i) (drop-append-add line (10 ∷ behind.input) 1 i)) ∙ take-append_seam bytes a.input

    sent-name : (e : name_wrong t ≡ false) → name_given (sent-says e) 2 (length t) ≡ t
    sent-name e =
        ap (λ (l : List ℕ). part l 3 (length t)) (take-append_seam line (10 ∷ behind.input)) ∙ take-append_seam t (34 ∷ 44 ∷ decimal (length bytes))

    abbrev Same : Type 0
    Same =
        ((legal_picture bytes ≡ false) × ((answered s w (sending_with line bytes a)).outcome.answer ≡ Illegal))
        ⊎ (number_of (answered s w (sending_with line bytes a)).outcome.answer ≡ number_of (fits s w 2 t (length bytes)))

    pub store-line-same : Same
    unfolding number_of
    store-line-same = by (name_wrong t) refl
      where
        by : (b : Bool) → name_wrong t ≡ b → Same
        by true e =
            inr (ap number_of (limit-answer s w g behind legal line _ 2 sent_front (sent-judged true e))
            ∙ ap number_of (sym (fits-outside s w g.lengths 2 t (length bytes) (name-outside 2 t (length bytes) e))))
        by false e =
            ⊎_map (λ x. (ap legal_picture (sym (sent-bytes e)) ∙ x.0, x.1)) (λ x. ap number_of (x ∙ (λ i. fits s w 2 (sent-name e i) (length (sent-bytes e i)))))
            (store_same s w g (sending line behind) legal (stored_by t (length bytes)) (sent-says e))

  -- with an n that is no picture's: 7, "and only the line is read"
  module _ (t : List ℕ) (n : ℕ) (sendable : Sendable t (store_line t n)) (out : (n ≡ 0) ⊎ (32769 ≤ n)) (small : n ≤ 999999999) where
    out-front : front_of (store_line t n ++ (10 ∷ a.input)) ≡ Line (length (store_line t n)) (length (store_line t n) + 1)
    out-front =
        let asks : cond (between 1 32768 n) n 0 ≡ 0 = rw (size-no n out) in
        let k : length (store_line t n) + 1 + cond (between 1 32768 n) n 0 ≡ length (store_line t n) + 1 = omega (arith, asks) in
        store-front t sendable.quoted n small a.input sendable.short (omega (arith, asks)) ∙ ap (Line (length (store_line t n))) k

    pub store_out : number_of (answered s w (sending (store_line t n) a)).outcome.answer ≡ 7
    unfolding number_of
    store_out =
        ap number_of (limit-answer s w g a legal (store_line t n) _ (cond (name_wrong t) 2 (2 + 1 + length t + 1 + 1)) out-front
        (store-judged t sendable.quoted n small (rows_of w)
        ∙ rw (size-no n out) (sym (cond_map (λ (p : ℕ). Err (Limit p)) (name_wrong t) 2 (2 + 1 + length t + 1 + 1)))))

    pub store-out-reads : (answered s w (sending (store_line t n) a)).outcome.read ≡ length (store_line t n) + 1
    unfolding read_by
    store-out-reads = command-reads s a.font w a.output (store_line t n ++ (10 ∷ a.input)) ∙ rw store_out (ap front_read out-front)
