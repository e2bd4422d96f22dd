-- The active form of a session: its bytes, and what it declares.
-- Assumes nothing.
use Rattle.std.specs.Prelude.{List, ℕ}
use Rattle.declarations.specs.declared.Declared.{Declared}
use Rattle.active_form.specs.Form.{declared_of}
use Rattle.active_form.specs.Active.{active_bytes}
use Rattle.session.specs.declared.Session.{Session}
use Rattle.lent.specs.Lent.{World}

abbrev pub active_of : World → Session → List ℕ
active_of w s = active_bytes w.store w.links w.directory s.active

-- what it declares
abbrev pub active_declared : World → Session → Declared
active_declared w s = declared_of (active_of w s)
