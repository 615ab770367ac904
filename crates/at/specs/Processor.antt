-- 01, "The AT processor" and "When a call is declined": the processor in 01's words, fresh, sound, and changed in one respect. 02, E6: it gains S12.
use Rattle.std.specs.Prelude.{ℕ, ◌+◌, ◌-◌, ◌^◌, min, Bool, true, false, ◌&&◌, leb, ltb}
use Rattle.command.specs.declared.Line.{Line}
use Rattle.command.specs.Line.{empty_line, sound_line}
use Rattle.at.specs.declared.AtProcessor.{AtProcessor}

-- true in command mode, false in data mode
abbrev pub command_mode : AtProcessor → Bool
command_mode p = p.in_command_mode

abbrev pub line_of : AtProcessor → Line
line_of p = p.cmd_buf

abbrev pub pluses : AtProcessor → ℕ
pluses p = p.plus_count

-- the carrier-seen mark
abbrev pub seen : AtProcessor → Bool
seen p = p.carrier_up

abbrev pub down_time : AtProcessor → ℕ
down_time p = p.carrier_down_for

-- the processor with this mode, line, escape (pluses held and idle time), carrier (mark and down time) and S12
abbrev changed : Bool → Line → ℕ → ℕ → Bool → ℕ → ℕ → AtProcessor → AtProcessor
changed mode line held idle mark down s12 p =
    record {
      in_command_mode = mode;
      cmd_buf = line;
      idle = idle;
      plus_count = held;
      carrier_up = mark;
      carrier_down_for = down;
      s12 = s12;
    }

abbrev pub with_mode : Bool → AtProcessor → AtProcessor
with_mode mode p = changed mode (line_of p) (pluses p) p.idle (seen p) (down_time p) p.s12 p

abbrev pub with_line : Line → AtProcessor → AtProcessor
with_line line p = changed (command_mode p) line (pluses p) p.idle (seen p) (down_time p) p.s12 p

-- these pluses and this idle time
abbrev pub with_escape : ℕ → ℕ → AtProcessor → AtProcessor
with_escape held idle p = changed (command_mode p) (line_of p) held idle (seen p) (down_time p) p.s12 p

-- this mark and this down time
abbrev pub with_carrier : Bool → ℕ → AtProcessor → AtProcessor
with_carrier mark down p = changed (command_mode p) (line_of p) (pluses p) p.idle mark down p.s12 p

abbrev pub with_s12 : ℕ → AtProcessor → AtProcessor
with_s12 s12 p = changed (command_mode p) (line_of p) (pluses p) p.idle (seen p) (down_time p) s12 p

-- 02, E6: 50 when fresh and after ATZ
abbrev pub fresh_s12 : ℕ
fresh_s12 = 50

-- fresh: command mode
abbrev pub fresh : AtProcessor
fresh =
    record {
      in_command_mode = true;
      cmd_buf = empty_line;
      idle = 0;
      plus_count = 0;
      carrier_up = false;
      carrier_down_for = 0;
      s12 = fresh_s12;
    }

-- 700 ms
abbrev pub hold_time : ℕ
hold_time = 700_000_000

-- a sound line; pluses <= 3; down time < 700 ms
unfoldable pub sound : AtProcessor → Bool
sound p = sound_line (line_of p) && (leb (pluses p) 3 && ltb (down_time p) hold_time)

-- online: data mode, pluses and idle zero
abbrev pub online : AtProcessor → AtProcessor
online p = with_mode false (with_escape 0 0 p)

-- the carrier-seen mark cleared
abbrev pub unseen : AtProcessor → AtProcessor
unseen p = with_carrier false (down_time p) p

-- nanoseconds, added up to the largest and no further
unfoldable pub added : ℕ → ℕ → ℕ
added a b = min (a + b) (2 ^ 64 - 1)
