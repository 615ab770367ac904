-- How many bits each payload has: those that the stages send are all of them. Ten a byte. Assumes nothing.
use mathlib.Core.Path.{◌≡◌}
use lib.ListN.{length}
use Rattle.frame.specs.Frame.{framed, ci_payload, cm_jm_payload, cj_payload, training_payload}
use Rattle.frame.proofs.Bits.{framed-length}
use Rattle.schedule.specs.Length.{ci_bits, cm_jm_bits, cj_bits, training_bits}

pub ci-length : length (framed ci_payload) ≡ ci_bits
ci-length = framed-length ci_payload

pub cm-jm-length : length (framed cm_jm_payload) ≡ cm_jm_bits
cm-jm-length = framed-length cm_jm_payload

pub cj-length : length (framed cj_payload) ≡ cj_bits
cj-length = framed-length cj_payload

pub training-length : length (framed training_payload) ≡ training_bits
training-length = framed-length training_payload
