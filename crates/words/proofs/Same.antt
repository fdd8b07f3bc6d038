-- Two answers that are one hold one value.
use Rattle.std.specs.Prelude.{◌≡◌, Some, Ok, Option, Result}
use Rattle.words.specs.declared.refusal.Fault.{Fault}

pub some_same : {X : Type 0} {x y : X} → ◌≡◌ {A = Option X} (Some x) (Some y) → x ≡ y
some_same e = cc

pub ok_same : {X : Type 0} {x y : X} → ◌≡◌ {A = Result X Fault} (Ok x) (Ok y) → x ≡ y
ok_same e = cc
