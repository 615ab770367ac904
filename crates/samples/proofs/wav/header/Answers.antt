-- `samples::wav::header` meets its contract: the header of floats has 58 bytes, and fills the array. Assumes nothing.
use Rattle.std.proofs.Common.{ap, ◌∙◌, refl}
use Rattle.samples.specs.Bytes.{low_first}
use Rattle.samples.specs.Wav.{format_of, header_of}
use Rattle.text.specs.Text.{Page, add_of, add_if}
use Rattle.samples.proofs.wav.header.Goals as goal

pub returns : goal.returns
unfolding low_first format_of header_of add_of add_if
returns c = ap (λ (p : Page). p.bytes) c.put.ensures ∙ rw (c.text.ensures.value, c.header.ensures) refl
