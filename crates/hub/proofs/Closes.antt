-- Closing, where a channel lies among others.
use Rattle.std.proofs.Common.{◌≡◌, ℕ, ◌<◌, Bool, true, false, cond, ◌&&◌, not, leb, ltb, List, ◌++◌, length, set, Some, None, Option, Ok, Err, Result, is_ok, refl, ap, arith}
use Rattle.std.proofs.lemmas.List.{set-get_or, map-set}
use Rattle.std.proofs.lemmas.Bool.Decides.{nat_tests}
use Rattle.elements.specs.declared.value.Value.{Value as Number}
use Rattle.elements.specs.declared.handle.Handle.{Handle as Holder}
use Rattle.waiting.specs.declared.wish.Entry.{Entry}
use Rattle.waiting.specs.Lines.{State}
use Rattle.channels.specs.declared.channel.Channel.{Channel}
use Rattle.channels.specs.declared.errors.CloseError.{CloseError}
use Rattle.channels.specs.declared.errors.CloseError.TheVariants.{AlreadyClosed, NoRoom}
use Rattle.channels.specs.Seen.{shut}
use Rattle.channels.specs.Closes.{freed_at, line_closed, closing}
use Rattle.routines.specs.declared.item.Item.{Item}
use Rattle.runs.specs.Taking.{closed_at}
use Rattle.hub.specs.declared.port.Port.{Port}
use Rattle.hub.specs.Boards.{Board, seen_port, seen, Placed}
use Rattle.hub.specs.Deals.{no_port, port, may_close, leaving_from, board_closed}
use Rattle.hub.proofs.Boards.{Stands, stands, placed_set, channel_seen}

-- what is left where t says whether channel c may be closed
pub record Closed (t : Bool) (c : ℕ) (b : Board) (before : List (Entry Item)) (a : Option ℕ) (items : List (Entry Item)) (after : Board) : Type 0 where
  pub answered : a ≡ cond t (Some (length (leaving_from c b))) None
  pub noted : items ≡ cond t (before ++ leaving_from c b) before
  pub board : after ≡ cond t (board_closed c b) b
  pub seen : (vs : List Number) (hs : List Holder) → seen after vs hs ≡ cond t (closed_at (seen b vs hs) c) (seen b vs hs)
  pub placed : Placed 0 0 0 after.ports

abbrev pub ok_of : Result ℕ CloseError → Option ℕ
ok_of (Ok n) = Some n
ok_of (Err why) = None

module _ (b : Board) (c : ℕ) (k : Placed 0 0 0 b.ports) (i : c < length b.ports) (room : ℕ) (before : List (Entry Item)) where
  abbrev p : Port
  p = port b.ports c

  abbrev st : State Item
  st = record { line = b.line; table = b.wishes }

  at : Stands c p
  at = let s = stands 0 0 0 b.ports c no_port k i in record { number = omega (arith, s.number); sound = s.sound; fits = s.fits }

  abbrev Claim : Bool → Result ℕ CloseError → Type 0
  Claim t r = Closed t c b before (ok_of r) (cond (is_ok r) (before ++ freed_at p.channel st) before)
      (record { ports = set b.ports c (record p { channel = cond (is_ok r) (shut p.channel) p.channel }); line = (cond (is_ok r) (line_closed p.channel st) st).line; wishes = (cond (is_ok r) (line_closed p.channel st) st).table })

  same : set b.ports c p ≡ b.ports
  same = set-get_or b.ports c no_port

  refused : (why : CloseError) → Claim false (Err why)
  refused why = record {
    answered = refl;
    noted = refl;
    board = ap (λ ps. record b { ports = ps }) same;
    seen = λ vs hs. ap (λ ps. seen (record b { ports = ps }) vs hs) same;
    placed = rw same k;
  }

  closes : Claim true (Ok (length (freed_at p.channel st)))
  closes =
      let s = at in
      record {
        answered = rw s.number refl;
        noted = rw s.number refl;
        board = rw s.number refl;
        seen = λ vs hs. rw (map-set (seen_port vs hs) b.ports c (record p { channel = shut p.channel }), channel_seen vs hs b c, s.number) refl;
        placed = placed_set 0 0 0 b.ports c (record p { channel = shut p.channel }) no_port k (record { number = refl; kind = refl; base = refl; capacity = refl; sound = s.sound });
      }

  by_cases : (closed wide : Bool) → Claim (not closed && wide) (cond closed (Err AlreadyClosed) (cond wide (Ok (length (freed_at p.channel st))) (Err NoRoom)))
  by_cases true wide = refused AlreadyClosed
  by_cases false true = closes
  by_cases false false = refused NoRoom

  may_is : may_close c room b ≡ (not p.channel.closed && leb 64 room)
  may_is = let there : ltb c (length b.ports) ≡ true = grind (arith, nat_tests) in rw there refl

  close_took : Claim (may_close c room b) (closing p.channel.closed room (length (freed_at p.channel st)))
  close_took = rw may_is (by_cases p.channel.closed (leb 64 room))

  -- the same of what a call was given and has left
  pub close_leaves : (q : Port) (left : Channel) (r : Result ℕ CloseError) (st' : State Item) (items : List (Entry Item)) (a : Option ℕ)
      → q ≡ p → r ≡ closing q.channel.closed room (length (freed_at q.channel st))
      → left ≡ cond (is_ok r) (shut q.channel) q.channel → items ≡ cond (is_ok r) (before ++ freed_at q.channel st) before
      → st' ≡ cond (is_ok r) (line_closed q.channel st) st → a ≡ ok_of r
      → Closed (may_close c room b) c b before a items (record { ports = set b.ports c (record q { channel = left }); line = st'.line; wishes = st'.table })
  close_leaves q left r st' items a eq er el ei est ea = rw (ea, est, ei, el, er, eq) close_took
