-- What the questions answer: they are of a run alone, and change nothing; and when a step is refused.
use Rattle.std.specs.Prelude.{ℕ, Bool, true, false, cond, length, Some, None, Option, Ok, Err, Result, nat_lt, slice_index_or}
use Rattle.words.specs.declared.refusal.Refusal.{Refusal}
use Rattle.words.specs.declared.refusal.Refusal.TheVariants.{Small, Over, Absent}
use Rattle.elements.specs.Codes.{value_zero}
use Rattle.linking.specs.Programs.{Program}
use Rattle.waiting.specs.declared.wish.Side.TheVariants.{Receivers, Senders}
use Rattle.routines.specs.declared.item.Item.{Item}
use Rattle.routines.specs.declared.item.Item.TheVariants.{Value}
use Rattle.routines.specs.Items.{code_of}
use Rattle.runs.specs.declared.answer.RoutineAnswer.{RoutineAnswer}
use Rattle.runs.specs.declared.answer.ChannelAnswer.{ChannelAnswer}
use Rattle.runs.specs.Runs.{Parts, Hub, channel, routine, queued, text_line}

-- why a step is refused, if it is: too few cells come first, and then that the run is over
abbrev pub step_refused : Bool → Bool → Option Refusal
step_refused enough over = cond enough (cond over (Some Over) None) (Some Small)

-- what is told of something that is there
abbrev pub if_there : {A : Type 0} → Bool → A → Result A Refusal
if_there there a = cond there (Ok a) (Err Absent)

abbrev pub routine_told : {H : Type 0} → Program → Parts H → ℕ → RoutineAnswer
routine_told p run r = record {
  state = (routine run r).state;
  line = text_line p (routine run r);
  values = (routine run r).values;
  handles = (routine run r).handles;
}

abbrev pub routine_question : {H : Type 0} → Program → Parts H → ℕ → Result RoutineAnswer Refusal
routine_question p run r = if_there (nat_lt r (length run.routines)) (routine_told p run r)

abbrev pub channel_told : Hub → ℕ → ChannelAnswer
channel_told h c = record {
  kind = (channel h c).kind;
  capacity = (channel h c).capacity;
  count = length (channel h c).buffer;
  closed = (channel h c).closed;
  receivers = length (queued h Receivers c);
  senders = length (queued h Senders c);
}

abbrev pub channel_question : Hub → ℕ → Result ChannelAnswer Refusal
channel_question h c = if_there (nat_lt c (length h.channels)) (channel_told h c)

abbrev pub no_item : Item
no_item = Value value_zero

abbrev pub code_told : Hub → ℕ → ℕ → ℕ
code_told h c i = code_of (slice_index_or (channel h c).buffer i no_item)

-- the code of the element at place i of the buffer, 0 the oldest; too few cells come first
abbrev pub element_question : Hub → ℕ → ℕ → Bool → Result ℕ Refusal
element_question h c i false = Err Small
element_question h c i true = if_there (nat_lt i (length (channel h c).buffer)) (code_told h c i)
