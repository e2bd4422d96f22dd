-- What a group's command leaves of the lists it was lent, put back into all that is lent.
-- Assumes nothing.
use mathlib.Core.Path.{◌≡◌, sym, ap, ◌∙◌}
use mathlib.Core.Bool.{Bool, true, false, not, true≢false}
use mathlib.Core.List.{List, [], ◌∷◌}
use Prim.Native.Nat.{ℕ}
use lib.ListN.{length}
use borrow.Author.Tests.{not-true, not-false}
use Rattle.declarations.specs.Declarations.{outside_forms}
use Rattle.recording.specs.Judged.{declaration}
use Rattle.grammar.specs.declared.Command.{Command}
use Rattle.grammar.specs.declared.Item.{Item}
use Rattle.grammar.specs.declared.PageCommand.{PageCommand}
use Rattle.grammar.specs.declared.FormCommand.{FormCommand}
use Rattle.grammar.specs.declared.PictureCommand.{PictureCommand}
use Rattle.grammar.specs.declared.ValueCommand.{ValueCommand}
use Rattle.grammar.specs.declared.ListingCommand.{ListingCommand}
use Rattle.grammar.specs.declared.SetClock.{SetClock}
use Rattle.grammar.specs.declared.Command.TheVariants.{Item as item, End, Page, Forms, Pictures, Values, Listing, Clock}
use Rattle.session.specs.declared.Session.{Session}
use Rattle.answers.specs.declared.Answer.TheVariants.{Misplaced}
use Rattle.answers.specs.Answers.{row, answer_of, is_taken, number_of}
use Rattle.lent.specs.Lent.{World, world}
use Rattle.results.specs.Result.{done, Ran, ran, ran_by}
use Rattle.results.proofs.Parts.{lifted, on_background, on_page, on_forms, on_memory, on_values, on_output}
use Rattle.item_commands.specs.Items.{item_rows, item_by}
use Rattle.page_commands.specs.Page.{page_by}
use Rattle.page_commands.proofs.Around.{page-around}
use Rattle.form_commands.specs.Forms.{form_by}
use Rattle.form_commands.proofs.Around.{form-around}
use Rattle.picture_commands.specs.Pictures.{picture_by}
use Rattle.picture_commands.proofs.Around.{picture-around}
use Rattle.value_commands.specs.Values.{value_by}
use Rattle.value_commands.proofs.Around.{value-around}
use Rattle.listing_commands.specs.Listings.{listing_by}
use Rattle.clock_commands.specs.Clocks.{clock_by}
use Rattle.results.specs.declared.Done.{Done}
use Rattle.listing_commands.proofs.Around.{listing-around}
use Rattle.places.specs.Places.{places_of}
use Rattle.commands.specs.Rows.{group_rows}
use Rattle.commands.specs.Does.{runs, listed}
use Rattle.commands.specs.Running.{run_by}

module _ (s : Session) (font line more o : List ℕ) (w : World) where
  -- [9] a command that has no place
  pub misplaced-run : (c : Command) (p : Bool) → p ≡ (places_of c).otherwise → not p ≡ true → ran (done Misplaced s 0) w o ≡ run_by font w s line more o c
  unfolding answer_of is_taken number_of
  misplaced-run c p e h =
      ap (λ (k : Bool). ran_by (answer_of (row Misplaced (not k) ∷ group_rows w s line more (length o) c)) s w o (runs font w s line more c) (listed w line c))
      (sym (not-true p h) ∙ e)

  -- FE has none
  pub end-run : (c : Command) (x : Ran) (p : Bool) → c ≡ End → p ≡ (places_of c).otherwise → not p ≡ false → x ≡ run_by font w s line more o c
  end-run c x p f e h = absurd (true≢false (sym (not-false p h) ∙ e ∙ ap (λ (k : Command). (places_of k).otherwise) f))

  -- TS is lent none of the lists
  pub clock-run : (c : SetClock) (r : Done) → ran r (world [] [] [] [] []) [] ≡ clock_by (world [] [] [] [] []) s c → ran r w o ≡ run_by font w s line more o (Clock c)
  unfolding answer_of is_taken number_of
  clock-run c r e = ap (λ (y : Ran). ran y.done w o) e

module _ (s : Session) (font line more b st l d v o : List ℕ) (x : Ran) where
  pub item-run :
      (c : Command) (it : Item) (p : Bool) → c ≡ item it → p ≡ (places_of c).otherwise → not p ≡ false → x ≡ item_by font (world b st l d v) s line it →
      on_background st l d v o x ≡ run_by font (world b st l d v) s line more o c
  unfolding answer_of
  item-run c it p f e h z =
      let w : World = world b st l d v in
      let q : declaration it ≡ false = not-true (declaration it) (sym (e ∙ ap (λ (k : Command). (places_of k).otherwise) f) ∙ not-false p h) in
      lifted (on_background st l d v o) x (answer_of (item_rows (outside_forms s.formats) d line it [])) _ _ z
      ∙ ap (λ (k : Bool). ran_by (answer_of (row Misplaced (not (not k)) ∷ item_rows (outside_forms s.formats) d line it [])) s w o (runs font w s line more (item it)) []) (sym q)
      ∙ ap (run_by font w s line more o) (sym f)

  pub page-run : (c : PageCommand) → x ≡ page_by (world b [] [] [] v) s c → on_page st l d o x ≡ run_by font (world b st l d v) s line more o (Page c)
  unfolding answer_of is_taken number_of
  page-run c e = ap (on_page st l d o) e ∙ page-around c s b st l d v o

  pub form-run : (c : FormCommand) → x ≡ form_by (world [] st l d v) s line c → on_forms b o x ≡ run_by font (world b st l d v) s line more o (Forms c)
  unfolding answer_of
  form-run c e = ap (on_forms b o) e ∙ form-around c s line b st l d v o

  pub picture-run :
      (c : PictureCommand) → x ≡ picture_by (world [] st l d []) s line more c →
      on_memory b v o x ≡ run_by font (world b st l d v) s line more o (Pictures c)
  unfolding answer_of
  picture-run c e = ap (on_memory b v o) e ∙ picture-around c s line more b st l d v o

  pub value-run : (c : ValueCommand) → x ≡ value_by (world [] st l d v) s line c → on_values b st l d o x ≡ run_by font (world b st l d v) s line more o (Values c)
  unfolding answer_of
  value-run c e = ap (on_values b st l d o) e ∙ value-around c s line b st l d v o

  pub listing-run :
      (c : ListingCommand) → x ≡ listing_by (world [] st l d []) s line o c →
      on_output (world b st l d v) x ≡ run_by font (world b st l d v) s line more o (Listing c)
  unfolding answer_of
  listing-run c e = ap (on_output (world b st l d v)) e ∙ listing-around c s line b st l d v o
