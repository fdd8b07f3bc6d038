-- What is asked of one channel of a board.
use Rattle.std.proofs.Common.{◌≡◌, ℕ, ◌<◌, ◌≤◌, true, false, cond, ltb, List, length, get_or, Some, None, Option, Ok, Err, Bool, sym, is_some, Bor, refl, ap, ◌∙◌, ⊎_elim, arith}
use Rattle.std.specs.List.{slice_get}
use Rattle.std.specs.Option.{ok_or, option_map, option_and_then, IfSome}
use Rattle.std.proofs.lemmas.List.{length-map, get_or_past, get_or_read}
use Rattle.std.proofs.lemmas.Option.{slice_get-get_or, slice_get_past}
use Rattle.std.proofs.lemmas.Bool.{cases_lt}
use Rattle.std.proofs.lemmas.Bool.Decides.{nat_tests}
use Rattle.words.specs.declared.refusal.Refusal.TheVariants.{Absent}
use Rattle.waiting.specs.declared.wish.Side.TheVariants.{Receivers, Senders}
use Rattle.waiting.specs.Queues.{queue}
use Rattle.elements.specs.declared.value.Value.{Value as Number}
use Rattle.elements.specs.declared.handle.Handle.{Handle as Holder}
use Rattle.routines.specs.declared.item.Item.{Item}
use Rattle.routines.specs.Items.{code_of}
use Rattle.runs.specs.declared.answer.ChannelAnswer.{ChannelAnswer}
use Rattle.runs.specs.Runs.{channel}
use Rattle.runs.specs.Questions.{if_there, no_item, channel_question, element_question}
use Rattle.hub.specs.declared.port.Port.{Port}
use Rattle.hub.specs.Boards.{Board, Enough, enough, buffered, seen_port, seen, Placed}
use Rattle.hub.specs.Ports.{there, told_of}
use Rattle.hub.specs.Deals.{no_port, port}
use Rattle.hub.proofs.Boards.{channel_seen, count_is, ends, stands}
use Rattle.hub.proofs.Places.{covered}

-- ---- the channel that a read of the ports found
pub record Found (ps : List Port) (c : ℕ) (q : Port) : Type 0 where
  pub there : c < length ps
  pub small : c < 32
  pub is : q ≡ port ps c

pub found : {ps xs : List Port} {c : ℕ} {read : Option (Bor Port)} {q : Bor Port} → Placed 0 0 0 ps → xs ≡ ps → read ≡ Some q
    → is_some read ≡ ltb c (length xs) → IfSome read (λ x. x.now ≡ get_or xs c x.now) → Found ps c q.now
found {ps} {xs} {c} {read} {q} placed same some there is =
    let known = rw (some, same) at there in
    let l : c < length ps = grind (arith, nat_tests) in
    record { there = l; small = omega (arith, ends 0 0 0 ps placed); is = get_or_read ps c q.now l (rw (some, same) at is) no_port }

-- ---- how it stands, by what a call was told of it
pub told_seen : (vs : List Number) (hs : List Holder) (b : Board) (c : ℕ) (q : Port) → Placed 0 0 0 b.ports → Enough vs hs → Found b.ports c q
    → (at : Board) → b ≡ at → (a : ChannelAnswer) (r s : ℕ) → r ≡ length (queue Receivers c at.line at.wishes) → s ≡ length (queue Senders c at.line at.wishes) → a ≡ told_of q r s
    → Ok a ≡ channel_question (seen at vs hs) c
told_seen vs hs b c q k n f at e a r s er es ea =
    let there : ltb c (length b.ports) ≡ true = grind (arith, nat_tests, f.there) in
    rw (ea, er, es, ← e, f.is, length-map b.ports (seen_port vs hs), there, count_is vs hs b c k n, channel_seen vs hs b c) refl

-- ---- the code of an element by its place: of a list, of a channel that is there, and of any
code_at : {X : Type 0} (code : X → ℕ) (xs : List X) (i : ℕ) (d : X) → if_there (ltb i (length xs)) (code (get_or xs i d)) ≡ ok_or (option_map code (slice_get xs i)) Absent
code_at code xs i d = ⊎_elim inside past (cases_lt i (length xs))
  where
    inside : i < length xs → if_there (ltb i (length xs)) (code (get_or xs i d)) ≡ ok_or (option_map code (slice_get xs i)) Absent
    inside l = let t : ltb i (length xs) ≡ true = grind (arith, nat_tests) in rw (t, slice_get-get_or xs i d l) refl

    past : length xs ≤ i → if_there (ltb i (length xs)) (code (get_or xs i d)) ≡ ok_or (option_map code (slice_get xs i)) Absent
    past l = let t : ltb i (length xs) ≡ false = grind (arith, nat_tests) in rw (t, slice_get_past xs i l) refl

-- what a look into the buffer of a channel gives
abbrev pub looked : List Number → List Holder → ℕ → Port → Option Item
looked vs hs i p = cond (there p.kind p.channel.ring vs hs) (slice_get (buffered p.kind p.channel.ring vs hs) i) None

module _ (vs : List Number) (hs : List Holder) (b : Board) (c i : ℕ) (k : Placed 0 0 0 b.ports) (n : Enough vs hs) where
  missing : length b.ports ≤ c → element_question (seen b vs hs) c i true ≡ Err Absent
  missing l =
      let none : length (channel (seen b vs hs) c).buffer ≡ 0 = count_is vs hs b c k n ∙ ap (λ p. p.channel.ring.count) (get_or_past b.ports c no_port l) in
      let past : ltb i 0 ≡ false = grind (arith, nat_tests) in
      rw (none, past) refl

  there_told : (q : Port) → Found b.ports c q → element_question (seen b vs hs) c i true ≡ ok_or (option_map code_of (looked vs hs i q)) Absent
  there_told q f =
      let s = stands 0 0 0 b.ports c no_port k f.there in
      rw (f.is, covered (port b.ports c).kind (port b.ports c).channel.ring vs hs s.fits n, channel_seen vs hs b c)
      (code_at code_of (seen_port vs hs (port b.ports c)).buffer i no_item)

  element_told : {xs : List Port} (read : Option (Bor Port)) → xs ≡ b.ports → is_some read ≡ ltb c (length xs) → IfSome read (λ x. x.now ≡ get_or xs c x.now)
      → element_question (seen b vs hs) c i true ≡ ok_or (option_map code_of (option_and_then (λ x. looked vs hs i x.now) read)) Absent
  element_told None same is at = let known = rw same at is in missing (grind (arith, nat_tests))
  element_told (Some q) same is at = there_told q.now (found {q = q} k same refl is at)

-- by what the read and the look gave
pub element_seen : (vs : List Number) (hs : List Holder) {b : Board} (c i : ℕ) → Placed 0 0 0 b.ports → {now : Board} → b ≡ now → {some : Bool} → some ≡ enough vs hs → some ≡ true
    → {xs : List Port} (read : Option (Bor Port)) → xs ≡ b.ports → is_some read ≡ ltb c (length xs) → IfSome read (λ x. x.now ≡ get_or xs c x.now)
    → {item : Option Item} → item ≡ option_and_then (λ x. looked vs hs i x.now) read → {code : Option ℕ} → code ≡ option_map code_of item
    → ok_or code Absent ≡ element_question (seen now vs hs) c i (enough vs hs)
element_seen vs hs {b} c i k eb some is read same known at ei ec =
    let n : Enough vs hs = record { values = grind (arith, nat_tests); handles = grind (arith, nat_tests) } in
    rw (ec, ei, ← some, is, ← eb) (sym (element_told vs hs b c i k n read same known at))
