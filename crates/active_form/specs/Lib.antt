pub mod Active
pub use Rattle.form_drawing.specs.Draw
pub use Rattle.forms.specs.Form
