pub mod ActiveForm
