-- The active form and the labels owed.
pub mod Activity
pub use Rattle.active_form.specs.Active
