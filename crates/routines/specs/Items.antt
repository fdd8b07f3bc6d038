-- Elements of both kinds.
use Rattle.std.specs.Prelude.{ℕ}
use Rattle.lines.specs.declared.line.Kind.{Kind}
use Rattle.lines.specs.declared.line.Kind.TheVariants.{Value as ValueKind, Handle as HandleKind}
use Rattle.elements.specs.declared.value.Value.{Value as Number}
use Rattle.elements.specs.declared.handle.Handle.{Handle as Holder}
use Rattle.elements.specs.Codes.{value_code, value_zero, handle_code, nil_handle}
use Rattle.routines.specs.declared.item.Item.{Item}
use Rattle.routines.specs.declared.item.Item.TheVariants.{Value, Handle}

abbrev pub code_of : Item → ℕ
code_of (Value v) = value_code v
code_of (Handle h) = handle_code h

-- the element in it, if it is of that kind, and else the zero element
abbrev pub as_value : Item → Number
as_value (Value v) = v
as_value (Handle h) = value_zero

abbrev pub as_handle : Item → Holder
as_handle (Value v) = nil_handle
as_handle (Handle h) = h

-- an element as one of that kind
abbrev pub as_kind : Kind → Item → Item
as_kind ValueKind e = Value (as_value e)
as_kind HandleKind e = Handle (as_handle e)
