-- `shown::after` meets its contract: line by line. Assumes nothing.
use Rattle.panel.proofs.shown.after.Goals as goal

pub returns-in-Rate : goal.returns-in-Rate
returns-in-Rate c = rw c.in-Rate.is c.made.ensures

pub returns-in-Typed : goal.returns-in-Typed
returns-in-Typed c = rw c.in-Typed.is c.typed.ensures

pub returns-in-Lapse : goal.returns-in-Lapse
returns-in-Lapse c = rw c.in-Lapse.is c.lapsed.ensures

pub returns-in-Fill : goal.returns-in-Fill
returns-in-Fill c = rw c.in-Fill.is c.filled.ensures

pub returns-in-ForcedData : goal.returns-in-ForcedData
returns-in-ForcedData c = rw c.in-ForcedData.is c.forced.ensures

pub returns-in-Cue : goal.returns-in-Cue
returns-in-Cue c = rw c.in-Cue.is c.cued.ensures

pub returns-in-Kept : goal.returns-in-Kept
returns-in-Kept c = rw c.in-Kept.is c.nothing.ensures

pub returns-in-String : goal.returns-in-String
returns-in-String c = rw c.in-String.is c.typed_all.ensures

pub returns-in-Bits : goal.returns-in-Bits
returns-in-Bits c = rw c.in-Bits.is c.bits_read.ensures

pub returns-in-Frame : goal.returns-in-Frame
returns-in-Frame c = rw c.in-Frame.is c.framed.ensures

pub returns-in-Key : goal.returns-in-Key
returns-in-Key c = rw c.in-Key.is c.lit.ensures

pub returns-in-Queued : goal.returns-in-Queued
returns-in-Queued c = rw c.in-Queued.is c.queued.ensures
