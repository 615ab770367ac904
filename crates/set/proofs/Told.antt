-- What is told of each call, field by field: what it was handed, what it answered, and what was lent to it, as it was at entry and at exit. An event that
-- leaves one of them out, or has what a definition says in its place, is refused here. Assumes nothing.
use Prim.Native.Nat.{ℕ}
use mathlib.Core.Path.{◌≡◌, refl}
use mathlib.Core.Bool.{Bool}
use mathlib.Core.List.{List, []}
use lib.Ieee.{Float}
use lib.ListN.{length}
use Rattle.std.specs.Prelude.{Result, Ok, Err, None}
use Rattle.reply.specs.declared.Reply.TheVariants as reply
use Rattle.refusal.specs.declared.Refusal.{Refusal}
use Rattle.set.specs.declared.Set.{Set}
use Rattle.set.specs.declared.Typed.{Typed}
use Rattle.set.specs.declared.TypedAll.{TypedAll}
use Rattle.set.specs.declared.Lapsed.{Lapsed}
use Rattle.set.specs.declared.Filled.{Filled}
use Rattle.set.specs.Book.{typing, time, forcing, filling, queuing}
use Rattle.set.specs.Event.{typed_event, lapsed_event, forced_event, filled_event, queued_event, string_event}

module _ (s : Set) (cause : Refusal) where
  -- a typed byte, accepted and declined
  module _ (byte : ℕ) (carrier : Bool) (was left : List ℕ) where
    pub typed-told : (t : Typed)
        → typed_event s byte carrier was left (Ok t)
        ≡ record {
          call = typing byte carrier (length was);
          set = t.set;
          refusal = Ok tt;
          reply = t.reply;
          sent = t.sent;
          key = None;
          lent = record { bytes = was; samples = [] };
          left = record { bytes = left; samples = [] };
        }
    typed-told t = refl

    pub typed-declined :
        typed_event s byte carrier was left (Err cause)
        ≡ record {
          call = typing byte carrier (length was);
          set = s;
          refusal = Err cause;
          reply = reply.None;
          sent = 0;
          key = None;
          lent = record { bytes = was; samples = [] };
          left = record { bytes = left; samples = [] };
        }
    typed-declined = refl

  -- a lapse of time
  module _ (ns : ℕ) (carrier : Bool) where
    pub lapsed-told : (l : Lapsed)
        → lapsed_event s ns carrier (Ok l)
        ≡ record {
          call = time ns carrier;
          set = l.set;
          refusal = Ok tt;
          reply = l.reply;
          sent = 0;
          key = None;
          lent = record { bytes = []; samples = [] };
          left = record { bytes = []; samples = [] };
        }
    lapsed-told l = refl

    pub lapsed-declined :
        lapsed_event s ns carrier (Err cause)
        ≡ record {
          call = time ns carrier;
          set = s;
          refusal = Err cause;
          reply = reply.None;
          sent = 0;
          key = None;
          lent = record { bytes = []; samples = [] };
          left = record { bytes = []; samples = [] };
        }
    lapsed-declined = refl

  -- forced data mode
  pub forced-told : (left : Set)
      → forced_event s (Ok left)
      ≡ record {
        call = forcing;
        set = left;
        refusal = Ok tt;
        reply = reply.None;
        sent = 0;
        key = None;
        lent = record { bytes = []; samples = [] };
        left = record { bytes = []; samples = [] };
      }
  forced-told left = refl

  pub forced-declined :
      forced_event s (Err cause)
      ≡ record {
        call = forcing;
        set = s;
        refusal = Err cause;
        reply = reply.None;
        sent = 0;
        key = None;
        lent = record { bytes = []; samples = [] };
        left = record { bytes = []; samples = [] };
      }
  forced-declined = refl

  -- a fill
  module _ (was left : List Float) where
    pub filled-told : (f : Filled)
        → filled_event s was left (Ok f)
        ≡ record {
          call = filling (length was);
          set = f.set;
          refusal = Ok tt;
          reply = reply.None;
          sent = 0;
          key = f.key;
          lent = record { bytes = []; samples = was };
          left = record { bytes = []; samples = left };
        }
    filled-told f = refl

    pub filled-declined :
        filled_event s was left (Err cause)
        ≡ record {
          call = filling (length was);
          set = s;
          refusal = Err cause;
          reply = reply.None;
          sent = 0;
          key = None;
          lent = record { bytes = []; samples = was };
          left = record { bytes = []; samples = left };
        }
    filled-declined = refl

  -- 02, E10: a byte that is queued
  module _ (byte : ℕ) where
    pub queued-told : (left : Set)
        → queued_event s byte (Ok left)
        ≡ record {
          call = queuing byte;
          set = left;
          refusal = Ok tt;
          reply = reply.None;
          sent = 0;
          key = None;
          lent = record { bytes = []; samples = [] };
          left = record { bytes = []; samples = [] };
        }
    queued-told left = refl

    pub queued-declined :
        queued_event s byte (Err cause)
        ≡ record {
          call = queuing byte;
          set = s;
          refusal = Err cause;
          reply = reply.None;
          sent = 0;
          key = None;
          lent = record { bytes = []; samples = [] };
          left = record { bytes = []; samples = [] };
        }
    queued-declined = refl

  -- 02, E3: a string
  module _ (bytes : List ℕ) (carrier : Bool) (out left codes codes_left : List ℕ) where
    pub string-told : (t : TypedAll)
        → string_event s bytes carrier out left codes codes_left (Ok t)
        ≡ record {
          bytes = bytes;
          carrier = carrier;
          set = t.set;
          refusal = Ok tt;
          sent = t.sent;
          outbox = out;
          outbox_left = left;
          codes = codes;
          codes_left = codes_left;
        }
    string-told t = refl

    pub string-declined :
        string_event s bytes carrier out left codes codes_left (Err cause)
        ≡ record {
          bytes = bytes;
          carrier = carrier;
          set = s;
          refusal = Err cause;
          sent = 0;
          outbox = out;
          outbox_left = left;
          codes = codes;
          codes_left = codes_left;
        }
    string-declined = refl
