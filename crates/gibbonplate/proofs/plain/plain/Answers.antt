-- `plain::plain` meets its contract: case by case; each is read back as it was, bits as what `bits_plain` ensures. Assumes nothing.
use Rattle.gibbonplate.proofs.Bits.{read_back}
use Rattle.gibbonplate.proofs.plain.plain.Goals as goal

pub returns-in-OffHook : goal.returns-in-OffHook
returns-in-OffHook c = let p = read_back _ _ _ c.in-OffHook.is tt (rw c.blank.ensures) in record { value = p.0; back = p.1 }

pub returns-in-DialTone : goal.returns-in-DialTone
returns-in-DialTone c = let p = read_back _ _ _ c.in-DialTone.is tt (rw c.blank-in-DialTone.ensures) in record { value = p.0; back = p.1 }

pub returns-in-Dialling : goal.returns-in-Dialling
returns-in-Dialling c = let p = read_back _ _ _ c.in-Dialling.is tt (rw c.blank-in-Dialling.ensures) in record { value = p.0; back = p.1 }

pub returns-in-Ringback : goal.returns-in-Ringback
returns-in-Ringback c = let p = read_back _ _ _ c.in-Ringback.is tt (rw c.blank-in-Ringback.ensures) in record { value = p.0; back = p.1 }

pub returns-in-Ci : goal.returns-in-Ci
returns-in-Ci c = let p = read_back _ _ _ c.in-Ci.is c.bits_plain.ensures.done_le_most_done c.bits_plain.ensures.value in record { value = p.0; back = p.1 }

pub returns-in-Ansam : goal.returns-in-Ansam
returns-in-Ansam c = let p = read_back _ _ _ c.in-Ansam.is tt (rw c.blank-in-Ansam.ensures) in record { value = p.0; back = p.1 }

pub returns-in-CmJm : goal.returns-in-CmJm
returns-in-CmJm c = let p = read_back _ _ _ c.in-CmJm.is c.bits_plain-in-CmJm.ensures.done_le_most_done c.bits_plain-in-CmJm.ensures.value in record { value = p.0; back = p.1 }

pub returns-in-Cj : goal.returns-in-Cj
returns-in-Cj c = let p = read_back _ _ _ c.in-Cj.is c.bits_plain-in-Cj.ensures.done_le_most_done c.bits_plain-in-Cj.ensures.value in record { value = p.0; back = p.1 }

pub returns-in-Training : goal.returns-in-Training
returns-in-Training c = let p = read_back _ _ _ c.in-Training.is c.bits_plain-in-Training.ensures.done_le_most_done c.bits_plain-in-Training.ensures.value in record { value = p.0; back = p.1 }

pub returns-in-Connected : goal.returns-in-Connected
returns-in-Connected c = let p = read_back _ _ _ c.in-Connected.is tt c.blank-in-Connected.ensures in record { value = p.0; back = p.1 }
