-- `samples::fnv::hash_samples` meets its contract: after i turns the hash is that of the first i samples' bytes. Assumes nothing.
use Rattle.std.proofs.Common.{◌≡◌, take}
use Rattle.samples.specs.Bytes.{bytes_of}
use Rattle.samples.specs.Fnv.{hash_of}
use Rattle.samples.proofs.fnv.hash_samples.Given as goal

abbrev pub invariant-loop-sample : goal.invariant-loop-sample
invariant-loop-sample l = l.h ≡ hash_of l.hash (bytes_of (take l.sample-index l.samples))
