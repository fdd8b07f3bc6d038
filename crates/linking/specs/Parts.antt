-- The bodies of a script, and where a line may lead in its body.
use Rattle.std.specs.Prelude.{ℕ, ◌+◌, Bool, false, cond, not, ◌||◌, List, [], ◌∷◌, length, take, Some, None, Option, nat_lt}
use Rattle.std.specs.List.{slice_get, prefix_len}
use Rattle.lines.specs.declared.line.Line.{Line}
use Rattle.lines.specs.declared.line.Line.TheVariants.{Jump, JumpNegative, CaseSend, CaseReceive, CaseSendHandle, CaseReceiveHandle, CaseDefault}
use Rattle.lines.specs.Roles.{role}
use Rattle.script_laws.specs.Lawful.{is_opens, is_case}

-- a body: the text line that opens it, and its lines
pub record Part (N : Type 0) : Type 0 where
  pub line : ℕ
  pub lines : List (Line N)

-- the lines before the next that opens a body
abbrev pub own : {N : Type 0} → List (Line N) → List (Line N)
own ls = take (prefix_len (λ l. not (is_opens (role l))) ls) ls

-- the bodies of lines that begin with text line n
abbrev pub parts : {N : Type 0} → ℕ → List (Line N) → List (Part N)
parts n [] = []
parts n (l ∷ ls) = cond (is_opens (role l)) (record { line = n; lines = own ls } ∷ parts (n + 1) ls) (parts (n + 1) ls)

-- the line of its body that a line leads to, counted from 0
abbrev pub target : {N : Type 0} → Line N → Option ℕ
target (Jump t) = Some t
target (JumpNegative v t) = Some t
target (CaseSend o v t) = Some t
target (CaseReceive o v w t) = Some t
target (CaseSendHandle x h t) = Some t
target (CaseReceiveHandle x h w t) = Some t
target (CaseDefault t) = Some t
target _ = None

abbrev pub case_line : {N : Type 0} → Option (Line N) → Bool
case_line None = false
case_line (Some l) = is_case (role l)

-- whether a target lies beyond the end of the body, or on a case line; the end itself is fine
abbrev pub wild : {N : Type 0} → List (Line N) → Option ℕ → Bool
wild body None = false
wild body (Some t) = nat_lt (length body) t || case_line (slice_get body t)
