-- Paper 02, §2: where a refusal points. Never past the LF, and to the number that a V, a C or a `?` names.
-- Assumes nothing.
use Rattle.std.specs.Prelude.{Result, Ok, Err, None, Option, Some}
use mathlib.Core.Path.{◌≡◌, refl, sym, ap, ◌∙◌, subst}
use mathlib.Core.Bool.{Bool, true, false, not, ◌&&◌, cond, true≢false}
use mathlib.Core.List.{List, [], ◌∷◌, ◌++◌}
use Prim.Native.Nat.{ℕ, suc, ◌+◌, ◌≤◌, ◌<◌}
use Prim.Native.Char.{code}
use native.Mathlib.Omega.{arith}
use lib.ListN.{length, get_or}
use lib.Dec.{eqb, ltb}
use borrow.Author.Tests.{ltb-true}
use Rattle.kinds.specs.Text.{bytes}
use Rattle.fields.specs.Field.{byte_at}
use Rattle.elements.specs.declared.What.{What}
use Rattle.elements.specs.declared.Element.{Element}
use Rattle.declarations.specs.declared.Declared.{Declared}
use Rattle.declarations.specs.Declarations.{outside_forms}
use Rattle.reach.specs.Answers.{undeclared_by, past_by}
use Rattle.reach.proofs.Leftmost.{leftmost-inside}
use Rattle.reader.specs.Letters.{field_at}
use Rattle.fields.proofs.Pairs.{ok_second}
use Rattle.row_fields.specs.Reading.{good, fields_from}
use Rattle.row_fields.proofs.Rows.{fields_split}
use Rattle.grammar.specs.Named.{VARIABLE, COUNTER, SET-VARIABLE, SET-COUNTER, DECLARED-AT, ENTERED-AT}
use Rattle.grammar.specs.Forms.{Form, forms, row_of, in_order}
use Rattle.grammar.proofs.Rows.{◌&◌, Each, each_row}
use Rattle.grammar.specs.declared.Item.{Item}
use Rattle.grammar.specs.declared.Item.TheVariants.{Origin, Variable, Counter, Text, Bars, Box, Frame, Slant, Picture, Format}
use Rattle.grammar.specs.declared.Command.{Command}
use Rattle.grammar.specs.declared.Command.TheVariants.{Item as item, End, Page, Forms, Pictures, Values, Listing, Clock}
use Rattle.grammar.specs.declared.FormCommand.TheVariants.{Start, Retrieve, Erase as EraseForm}
use Rattle.grammar.specs.declared.PictureCommand.TheVariants.{Store, Erase as ErasePicture}
use Rattle.grammar.specs.declared.ValueCommand.TheVariants.{Variable as EnterVariable, Counter as EnterCounter, Clear, Print}
use Rattle.grammar.specs.declared.ListingCommand.TheVariants.{Forms as ListForms, Pictures as ListPictures, Form as ListForm}
use Rattle.heads.specs.Heads.{head_of, head_by, find}
use Rattle.read.specs.declared.Fault.TheVariants.{Form as form, Limit}
use Rattle.read.specs.Commands.{read_of, headed}
use Rattle.normal.specs.Written.{normal}
use Rattle.pointing.proofs.Inside.{form-inside, limit-inside}
use Rattle.normal.proofs.Data.{a-stamp, Chain, ended, then, a-text, a-variable, a-counter}
use Rattle.finding.specs.Find.{recorded}
use Rattle.store.specs.Entry.{entry}
use Rattle.room.specs.Room.{can_grow}
use Rattle.front.specs.declared.Front.{Front}
use Rattle.front.specs.declared.Front.TheVariants.{Short, Long as LongLine, Idle, Line}
use Rattle.front.specs.Front.{front_of}
use Rattle.session.specs.declared.Session.{Session}
use Rattle.answers.specs.declared.Answer.{Answer}
use Rattle.answers.specs.declared.Answer.TheVariants.{FewPortions}
use Rattle.answers.specs.Answers.{Row, row, answer_of, place_of}
use Rattle.lent.specs.Lent.{World, rows_of}
use Rattle.forms.specs.Form.{declared_of}
use Rattle.results.specs.World.{content_at}
use Rattle.item_commands.specs.Items.{Shows, no_data, data_at, shown_by, leftmost_in, data_place, item_rows}
use Rattle.commands.specs.Rows.{placed_rows, line_rows}
use Rattle.keeps_sound.specs.Table.{command_table, front_rows}
use Rattle.unread.specs.Front.{line_of, more_of, is_line}
use Rattle.keeps_sound.specs.Station.{commanded}
use Rattle.keeps_sound.proofs.Titles.{line-parted}
use Rattle.keeps_sound.proofs.Judging.{Tells, item-tells}
use Rattle.demands.proofs.Refusal.{command-answer}
use Rattle.read.specs.declared.Fault.{Fault}

-- ---- the number behind a row's letters

-- letters that stand for themselves
abbrev Letters : List ℕ → Type 0
Letters [] = Unit {0}
Letters (f ∷ fs) = ((s : List ℕ) (at : ℕ) → field_at f s at ≡ byte_at f s at) × Letters fs

byte_one : (b : ℕ) (s : List ℕ) (at v e : ℕ) → byte_at b s at ≡ Ok (v, e) → (e ≡ at + 1) × (at < length s)
unfolding byte_at
byte_one b s at v e h = go (ltb at (length s)) (eqb (get_or s at 0) b) refl h
  where
    go : (x y : Bool) → ltb at (length s) ≡ x → cond {A = Result (ℕ × ℕ) ℕ} (x && y) (Ok (b, at + 1)) (Err at) ≡ Ok (v, e) → (e ≡ at + 1) × (at < length s)
    go true true t k = (sym (ok_second k), ltb-true at (length s) t)
    go true false t k = absurd (let z : ◌≡◌ {A = ℕ} 0 1 = cc in omega arith)
    go false y t k = absurd (let z : ◌≡◌ {A = ℕ} 0 1 = cc in omega arith)

-- the field behind them starts where they end, within the line
behind-letters :
    (ls : List ℕ) (f : ℕ) (fs s : List ℕ) (at : ℕ) (vs ps : List ℕ) → Letters ls → at ≤ length s → fields_from (ls ++ (f ∷ fs)) s at ≡ good vs ps →
    (get_or ps (length ls) 0 ≡ at + length ls) × (at + length ls ≤ length s)
behind-letters [] f fs s at vs ps l h k =
    let x = fields_split f fs s at vs ps k in
    (ap (λ (qs : List ℕ). get_or qs 0 0) x.places ∙ (let z : at ≡ at + 0 = omega arith in z), omega (arith, h))
behind-letters (b ∷ ls) f fs s at vs ps l h k =
    let x = fields_split b (ls ++ (f ∷ fs)) s at vs ps k in
    let o = byte_one b s at x.v x.e (sym (l.0 s at) ∙ x.first) in
    let r = behind-letters ls f fs s x.e x.vs x.ps l.1 (omega (arith, o)) x.others in
    let z : x.e + length ls ≡ at + suc (length ls) = omega (arith, o) in
    (ap (λ (qs : List ℕ). get_or qs (suc (length ls)) 0) x.places ∙ r.0 ∙ z, omega (arith, o, r))

-- [12] and [13] point to the number that names a variable or a counter: there it stands
module _ (s vs ps : List ℕ) where
  pub variable-number-at : fields_from (row_of VARIABLE).fields s 0 ≡ good vs ps → get_or (in_order (row_of VARIABLE).fields 0 ps) 0 0 ≡ DECLARED-AT
  unfolding in_order
  variable-number-at h = (behind-letters (bytes "V") (code "n") (bytes ",n,j,t") s 0 vs ps (λ t at. unfold field_at in refl, tt) (omega arith) h).0

  pub counter-number-at : fields_from (row_of COUNTER).fields s 0 ≡ good vs ps → get_or (in_order (row_of COUNTER).fields 0 ps) 0 0 ≡ DECLARED-AT
  unfolding in_order
  counter-number-at h = (behind-letters (bytes "C") (code "n") (bytes ",n,s,t") s 0 vs ps (λ t at. unfold field_at in refl, tt) (omega arith) h).0

  entered-variable : fields_from (row_of SET-VARIABLE).fields s 0 ≡ good vs ps → (get_or ps 2 0 ≡ ENTERED-AT) × (ENTERED-AT ≤ length s)
  entered-variable h =
      behind-letters (bytes "?V") (code "n") (bytes ",u") s 0 vs ps (λ t at. unfold field_at in refl, (λ t at. unfold field_at in refl, tt)) (omega arith) h

  entered-counter : fields_from (row_of SET-COUNTER).fields s 0 ≡ good vs ps → (get_or ps 2 0 ≡ ENTERED-AT) × (ENTERED-AT ≤ length s)
  entered-counter h =
      behind-letters (bytes "?C") (code "n") (bytes ",n") s 0 vs ps (λ t at. unfold field_at in refl, (λ t at. unfold field_at in refl, tt)) (omega arith) h

  pub set-variable-number-at : fields_from (row_of SET-VARIABLE).fields s 0 ≡ good vs ps → get_or (in_order (row_of SET-VARIABLE).fields 0 ps) 0 0 ≡ ENTERED-AT
  unfolding in_order
  set-variable-number-at h = (entered-variable h).0

  pub set-counter-number-at : fields_from (row_of SET-COUNTER).fields s 0 ≡ good vs ps → get_or (in_order (row_of SET-COUNTER).fields 0 ps) 0 0 ≡ ENTERED-AT
  unfolding in_order
  set-counter-number-at h = (entered-counter h).0

-- ---- what was read stands within the line

abbrev Entered : List ℕ → Command → Type 0
Entered s (item i) = Unit {0}
Entered s End = Unit {0}
Entered s (Page c) = Unit {0}
Entered s (Forms c) = Unit {0}
Entered s (Pictures c) = Unit {0}
Entered s (Values (EnterVariable v)) = ENTERED-AT ≤ length s
Entered s (Values (EnterCounter c)) = ENTERED-AT ≤ length s
Entered s (Values Clear) = Unit {0}
Entered s (Values (Print p)) = Unit {0}
Entered s (Listing c) = Unit {0}
Entered s (Clock c) = Unit {0}

Entering : ℕ → Form → Type 0
Entering k f =
    (s vs ps : List ℕ) → fields_from f.fields s 0 ≡ good vs ps
    → Entered s (f.makes s (λ i. get_or (in_order f.fields 0 vs) i 0) (λ i. get_or (in_order f.fields 0 ps) i 0))

entering : Each Entering forms
unfolding Entering
entering =
    (λ s vs ps k. tt)
    & (λ s vs ps k. tt)
    & (λ s vs ps k. tt)
    & (λ s vs ps k. tt)
    & (λ s vs ps k. tt)
    & (λ s vs ps k. tt)
    & (λ s vs ps k. tt)
    & (λ s vs ps k. tt)
    & (λ s vs ps k. tt)
    & (λ s vs ps k. tt)
    & (λ s vs ps k. tt)
    & (λ s vs ps k. tt)
    & (λ s vs ps k. tt)
    & (λ s vs ps k. tt)
    & (λ s vs ps k. tt)
    & (λ s vs ps k. tt)
    & (λ s vs ps k. tt)
    & (λ s vs ps k. tt)
    & (λ s vs ps k. tt)
    & (λ s vs ps k. tt)
    & (λ s vs ps k. tt)
    & (λ s vs ps k. tt)
    & (λ s vs ps k. tt)
    & (λ s vs ps k. tt)
    & (λ s vs ps k. (entered-variable s vs ps k).1)
    & (λ s vs ps k. (entered-counter s vs ps k).1)
    & (λ s vs ps k. tt)
    & (λ s vs ps k. tt)
    & (λ s vs ps k. tt)
    & (λ s vs ps k. tt)
    & (λ s vs ps k. tt)
    & (λ s vs ps k. tt)
    & (λ s vs ps k. tt)
    & (λ s vs ps k. tt)
    & (λ j s vs ps k. tt)

module _ (rows : ℕ) (s : List ℕ) where
  entered-within : (c : Command) → read_of rows s ≡ Ok c → Entered s c
  unfolding Entering
  entered-within c h = let p = line-parted rows s c h in subst (Entered s) p.command (each_row Entering entering p.row s p.vs p.ps p.read)

  chained : {at : ℕ} {es : List Element} → Chain s at es → at ≤ length s
  chained (ended e) = omega (arith, e)
  chained (then (a-text n e h) c) = omega (arith, chained c)
  chained (then (a-variable k p n h f) c) = omega (arith, chained c)
  chained (then (a-counter k p n h f) c) = omega (arith, chained c)
  chained (then (a-stamp st) c) = omega (arith, chained c)

  told-within : (i : Item) → Tells s i → data_place (shown_by i) ≤ length s
  unfolding Tells
  told-within (Origin o) t = omega arith
  told-within (Variable v) t = omega arith
  told-within (Counter c) t = omega arith
  told-within (Text x) t = chained t.1
  told-within (Bars b) t = chained t.1
  told-within (Box r) t = omega arith
  told-within (Frame f) t = omega arith
  told-within (Slant l) t = omega arith
  told-within (Picture p) t = omega arith
  told-within (Format f) t = omega arith

  data-within : (i : Item) → read_of rows s ≡ Ok (item i) → data_place (shown_by i) ≤ length s
  data-within i h = told-within i (item-tells rows s i h)

-- a line that is read has a byte
some_byte : (rows : ℕ) (s : List ℕ) (c : Command) → read_of rows s ≡ Ok c → 1 ≤ length s
unfolding read_of headed head_of head_by find
some_byte rows [] c h = absurd (let z : ◌≡◌ {A = ℕ} 0 1 = cc in omega arith)
some_byte rows (x ∷ l) c h = omega arith

-- ---- rows that point no further than n

abbrev Within : ℕ → List Row → Type 0
Within n [] = Unit {0}
Within n (r ∷ rs) = (place_of r.answer ≤ n) × Within n rs

answer-within : (n : ℕ) (rows : List Row) → Within n rows → place_of (answer_of rows) ≤ n
unfolding answer_of place_of
answer-within n [] h = omega arith
answer-within n (r ∷ rs) h = by r.applies (answer-within n rs h.1)
  where
    by : (b : Bool) → place_of (answer_of rs) ≤ n → place_of (cond b r.answer (answer_of rs)) ≤ n
    by true k = h.0
    by false k = k

none-far : (n : ℕ) → 0 ≤ n
none-far n = omega arith

leftmost-within : (q : What → Bool) (line : List ℕ) (x : Shows) → leftmost_in q line x ≤ length line
leftmost-within q line no_data = omega arith
leftmost-within q line (data_at at kind) = leftmost-inside q line at

module _ (w : World) (line : List ℕ) (rows : ℕ) where
  item-within :
      (d : Declared) (it : Item) (rs : List Row) → read_of rows line ≡ Ok (item it) → Within (length line) rs →
      Within (length line) (item_rows d w.directory line it rs)
  unfolding place_of
  item-within d it rs h k =
      none-far (length line)
      & some_byte rows line (item it) h
      & leftmost-within (undeclared_by d) line (shown_by it)
      & leftmost-within (past_by d) line (shown_by it)
      & data-within rows line it h
      & k

  module _ (s : Session) (more : List ℕ) (room : ℕ) where
    zero : 0 ≤ length line
    zero = none-far (length line)

    placed-within : (c : Command) (f : Option ℕ) → read_of rows line ≡ Ok c → Within (length line) (placed_rows w s line more room c f)
    unfolding place_of
    placed-within (item it) (Some i) h =
        let full : Row = row FewPortions (not (can_grow s.free (entry w.directory i) (length (normal line) + 1))) in
        (zero, item-within (declared_of (content_at w i)) it (full ∷ []) h (zero, tt))
    placed-within End (Some i) h = (zero, tt)
    placed-within (Page c) (Some i) h = (zero, tt)
    placed-within (Forms c) (Some i) h = (zero, tt)
    placed-within (Pictures c) (Some i) h = (zero, tt)
    placed-within (Values c) (Some i) h = (zero, tt)
    placed-within (Listing c) (Some i) h = (zero, tt)
    placed-within (Clock c) (Some i) h = (zero, tt)
    placed-within (item it) None h = (zero, item-within (outside_forms s.formats) it [] h tt)
    placed-within End None h = (zero, tt)
    placed-within (Page c) None h = (zero, tt)
    placed-within (Forms (Start n)) None h = zero & zero & zero & zero & tt
    placed-within (Forms (Retrieve n)) None h = zero & zero & tt
    placed-within (Forms (EraseForm n)) None h = zero & zero & tt
    placed-within (Pictures (Store p)) None h = zero & zero & zero & zero & zero & tt
    placed-within (Pictures (ErasePicture n)) None h = zero & zero & tt
    placed-within (Values (EnterVariable v)) None h = zero & entered-within rows line (Values (EnterVariable v)) h & zero & tt
    placed-within (Values (EnterCounter c)) None h = zero & entered-within rows line (Values (EnterCounter c)) h & zero & tt
    placed-within (Values Clear) None h = (zero, tt)
    placed-within (Values (Print p)) None h = zero & zero & zero & zero & tt
    placed-within (Listing ListForms) None h = zero & zero & tt
    placed-within (Listing ListPictures) None h = zero & zero & tt
    placed-within (Listing (ListForm n)) None h = zero & zero & zero & tt
    placed-within (Clock c) None h = (zero, tt)

-- ---- a command call

module _ (s : Session) (font : List ℕ) (w : World) (output input : List ℕ) where
  table-within :
      (n : ℕ) → Within n (front_rows w s input (length output) (front_of input)) → place_of (commanded s font w output input).outcome.answer ≤ n
  unfolding command_table place_of
  table-within n h =
      let r : place_of (answer_of (command_table s font w (length output) input)) ≤ n =
      answer-within n (command_table s font w (length output) input) (none-far n & none-far n & none-far n & h) in
      subst (λ (a : Answer). place_of a ≤ n) (sym (command-answer s font w output input)) r

  no_line : (f : Front) → is_line f ≡ false → Within 0 (front_rows w s input (length output) f)
  unfolding place_of
  no_line Short e = (none-far 0, tt)
  no_line (LongLine k) e = (none-far 0, tt)
  no_line (Idle k) e = tt
  no_line (Line n k) e = absurd (true≢false e)

  -- where the front of the input is no line there is nothing to point to
  pub command-points-nowhere : is_line (front_of input) ≡ false → place_of (commanded s font w output input).outcome.answer ≡ 0
  command-points-nowhere h = let r = table-within 0 (no_line (front_of input) h) in omega (arith, r)

  line-within :
      (n k : ℕ) (r : Result Command Fault) → read_of (rows_of w) (line_of input n) ≡ r →
      Within (length (line_of input n)) (line_rows w s (line_of input n) (more_of input n k) (length output) r)
  unfolding place_of
  line-within n k (Err (form p)) h = (form-inside (rows_of w) (line_of input n) p h, tt)
  line-within n k (Err (Limit p)) h = (let z = limit-inside (rows_of w) (line_of input n) p h in omega (arith, z), tt)
  line-within n k (Ok c) h =
      (none-far (length (line_of input n)), placed-within w (line_of input n) (rows_of w) s (more_of input n k) (length output) c (recorded w.directory) h)

  -- a place is never past the LF
  pub command-points-inside :
      (n k : ℕ) → front_of input ≡ Line n k → place_of (commanded s font w output input).outcome.answer ≤ length (line_of input n)
  command-points-inside n k e =
      table-within (length (line_of input n))
      (subst (λ (f : Front). Within (length (line_of input n)) (front_rows w s input (length output) f)) (sym e)
      (line-within n k (read_of (rows_of w) (line_of input n)) refl))
