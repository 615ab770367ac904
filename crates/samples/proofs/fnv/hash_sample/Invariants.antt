-- `samples::fnv::hash_sample` meets its contract: after i turns the hash is that of the first i bytes. Assumes nothing.
use Rattle.std.proofs.Common.{◌≡◌, take}
use Rattle.samples.specs.Fnv.{hash_of}
use Rattle.samples.proofs.fnv.hash_sample.Given as goal

abbrev pub invariant-loop-byte : goal.invariant-loop-byte
invariant-loop-byte l = l.hashed ≡ hash_of l.hash (take l.byte-index l.byte-items)
