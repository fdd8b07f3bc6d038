-- What a sound program has at each line of each body, as a step needs it.
use Rattle.std.proofs.Common.{◌≡◌, ℕ, zero, suc, ◌+◌, ◌^◌, ◌<◌, ◌≤◌, true, List, [], ◌∷◌, length, take, drop, slice_index_or, Some, None, Option, refl, arith}
use Rattle.std.specs.List.{slice_get, All, AllByRecursion}
use Rattle.std.proofs.Math.Bridge.{le_prop}
use Rattle.std.proofs.Math.Logic.{∥∥₁_elim}
use Rattle.std.proofs.lemmas.List.Elements.{All-take, All-drop}
use Rattle.std.proofs.lemmas.List.Sums.{prefix_len-le-length}
use Rattle.std.proofs.lemmas.Option.{slice_get_within}
use Rattle.lines.specs.declared.line.Kind.{Kind}
use Rattle.lines.specs.declared.line.Kind.TheVariants.{Value, Handle}
use Rattle.lines.specs.declared.line.Operand.{Operand}
use Rattle.lines.specs.declared.line.Operand.TheVariants.{Named, Held}
use Rattle.linking.specs.declared.declared.Declared.{Declared}
use Rattle.linking.specs.declared.operation.Exchange.{Exchange}
use Rattle.linking.specs.declared.operation.Exchange.TheVariants.{Send, Receive, SendHandle, ReceiveHandle}
use Rattle.linking.specs.declared.operation.Operation.{Operation}
use Rattle.linking.specs.declared.operation.Operation.TheVariants.{Hold, Alone, Select, Case, Close}
use Rattle.linking.specs.Naming.{suited}
use Rattle.linking.specs.Programs.{Program, no_block}
use Rattle.linking.specs.Sound.{is_case, Uses, UsesOperand, SoundExchange, SoundOperation, Sound}
use Rattle.linking.proofs.Places.{block_sound, operation_sound, line_placed, line_fits, select_small, select_followed}
use Rattle.runs.specs.Cases.{branch}
use Rattle.machine.specs.Needs.{LowOperand, LowExchange, Low, LowOperation, HasCases, Fit}

-- ---- there is one proof of it at most
module _ (n : ℕ) where
  low_operand_prop : (o : Operand ℕ) → IsProp (LowOperand n o)
  low_operand_prop (Named c) a b = le_prop a b
  low_operand_prop (Held h) a b = refl

  low_exchange_prop : (e : Exchange ℕ) → IsProp (LowExchange n e)
  low_exchange_prop (Send o v) = low_operand_prop o
  low_exchange_prop (Receive o v w) = low_operand_prop o
  low_exchange_prop (SendHandle c h) = le_prop
  low_exchange_prop (ReceiveHandle c h w) = le_prop

  low_prop : (e : Option (Exchange ℕ)) → IsProp (Low n e)
  low_prop None a b = refl
  low_prop (Some e) a b = low_exchange_prop e a b

  low_operation_prop : (o : Operation) → IsProp (LowOperation n o)
  low_operation_prop (Hold h c) a b = le_prop a b
  low_operation_prop (Alone e) a b = low_exchange_prop e a b
  low_operation_prop (Case e t) a b = low_exchange_prop e a b
  low_operation_prop (Close o) a b = low_operand_prop o a b
  low_operation_prop _ a b = refl

  has_cases_prop : (o : Operation) (rest : List Operation) → IsProp (HasCases n o rest)
  has_cases_prop (Select k) rest a b = λ t. (le_prop a.0 b.0 t, le_prop a.1 b.1 t, λ j d l. low_prop (branch (slice_index_or (take k rest) j d)).exchange (a.2 j d l) (b.2 j d l) t)
  has_cases_prop _ rest a b = refl

pub fit_prop : (n : ℕ) (ops : List Operation) (i : ℕ) (o : Option Operation) → IsProp (Fit n ops i o)
fit_prop n ops i None a b = refl
fit_prop n ops i (Some o) a b = λ t. (low_operation_prop n o a.0 b.0 t, le_prop a.1 b.1 t, le_prop a.2 b.2 t, has_cases_prop n o (drop (i + 1) ops) a.3 b.3 t)

-- ---- what a sound operation names is there
module _ (ds : List Declared) where
  used : (w : Option Kind) (c : ℕ) (o : Option Declared) → slice_get ds c ≡ o → suited w o ≡ true → c < length ds
  used w c None got s = absurd (let never : ⊥ = cc in never)
  used w c (Some d) got s = slice_get_within ds c d got

  low_use : (w : Option Kind) (c : ℕ) → Uses ds w c → c < length ds
  low_use w c s = used w c (slice_get ds c) refl s

  low_operand : (w : Option Kind) (o : Operand ℕ) → UsesOperand ds w o → LowOperand (length ds) o
  low_operand w (Named c) s = low_use w c s
  low_operand w (Held h) s = tt

  low_exchange : (e : Exchange ℕ) → SoundExchange ds e → LowExchange (length ds) e
  low_exchange (Send o v) s = low_operand (Some Value) o s.0
  low_exchange (Receive o v w) s = low_operand (Some Value) o s.0
  low_exchange (SendHandle c h) s = low_use (Some Handle) c s.0
  low_exchange (ReceiveHandle c h w) s = low_use (Some Handle) c s.0

  module _ (bodies : ℕ) where
    low_operation : (o : Operation) → SoundOperation ds bodies o → LowOperation (length ds) o
    low_operation (Hold h c) s = low_use (Some Value) c s.1
    low_operation (Alone e) s = low_exchange e s
    low_operation (Case e t) s = low_exchange e s
    low_operation (Close o) s = low_operand None o s
    low_operation _ s = tt

    low_branch : (o : Operation) → SoundOperation ds bodies o → Low (length ds) (branch o).exchange
    low_branch (Case e t) s = low_exchange e s
    low_branch _ s = tt

all_places : {X : Type 0} (P Q : X → Type 0) → ((x : X) → P x → Q x) → (xs : List X) → AllByRecursion P xs → All Q xs
all_places P Q f [] a k d l = absurd (let never : ⊥ = omega (arith, l) in never)
all_places P Q f (x ∷ xs) a zero d l = f x a.0
all_places P Q f (x ∷ xs) a (suc k) d l = all_places P Q f xs a.1 k d (omega (arith, l))

-- ---- each line of a sound program
module _ (p : Program) (sound : Sound p) (n i : ℕ) where
  abbrev ops : List Operation
  ops = (slice_index_or p.bodies n no_block).operations

  abbrev LowBranch : Operation → Type 0
  LowBranch o = Low (length p.channels) (branch o).exchange

  low_branches : All LowBranch ops
  low_branches = all_places (SoundOperation p.channels (length p.bodies)) LowBranch (low_branch p.channels (length p.bodies)) ops (block_sound p n sound).in_range

  has_cases : (o : Operation) → slice_get ops i ≡ Some o → HasCases (length p.channels) o (drop (i + 1) ops)
  has_cases (Select k) got =
      let rest = drop (i + 1) ops in
      let enough : k ≤ length rest = omega (arith, prefix_len-le-length is_case rest, select_followed p n sound i k got) in
      (select_small p n sound i k got, enough, All-take LowBranch k rest (All-drop LowBranch (i + 1) ops low_branches))
  has_cases _ got = tt

  pub sound_fits : (o : Option Operation) → slice_get ops i ≡ o → Fit (length p.channels) ops i o
  sound_fits None got = tt
  sound_fits (Some o) got = (low_operation p.channels (length p.bodies) o (operation_sound p n sound i o got), omega (arith, line_placed p n sound i o got), slice_get_within ops i o got, has_cases o got)

-- ---- and of one that is known to be sound
module _ (p : Program) (sound : ∥ Sound p ∥₁) where
  pub fits : (n i : ℕ) (o : Option Operation) → slice_get (slice_index_or p.bodies n no_block).operations i ≡ o → Fit (length p.channels) (slice_index_or p.bodies n no_block).operations i o
  fits n i o got = ∥∥₁_elim sound (fit_prop (length p.channels) (slice_index_or p.bodies n no_block).operations i o) (λ s. sound_fits p s n i o got)

  pub line_number_fits : (n i : ℕ) (o : Operation) → slice_get (slice_index_or p.bodies n no_block).operations i ≡ Some o → (slice_index_or p.bodies n no_block).line + 1 + i < 2 ^ 32
  line_number_fits n i o got = ∥∥₁_elim sound le_prop (λ s. line_fits p n s i o got)

  pub few_channels : length p.channels ≤ 32
  few_channels = ∥∥₁_elim sound le_prop (λ s. s.few_channels)
