-- What the entries must hold.
pub mod Contents
pub use Rattle.forms.specs.Form
