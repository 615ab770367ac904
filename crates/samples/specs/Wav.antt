-- No part of 01, for `call` and `earpiece`: the header of a WAV file (RIFF WAVE) of one channel: chunks of a name, a length and as many bytes,
-- all numbers low byte first.
-- Of 32-bit floats the format number is 3, IEEE float, so that its chunk counts the bytes of its extension, none, and a chunk `fact` counts the samples.
-- Of 16-bit whole numbers it is 1, PCM, the one format with neither.
use Rattle.std.specs.Prelude.{ℕ, ◌+◌, ◌*◌, List, ◌++◌}
use Rattle.samples.specs.Bytes.{low_first}
use Rattle.ascii.specs.Ascii.{ascii}

-- format, channels, rate, bytes a second, bytes a sample, bits a sample, extension
unfoldable pub format_of : ℕ → List ℕ
format_of rate = low_first 2 3 ++ low_first 2 1 ++ low_first 4 rate ++ low_first 4 (rate * 4) ++ low_first 2 4 ++ low_first 2 32 ++ low_first 2 0

unfoldable pub header_of : ℕ → ℕ → List ℕ
header_of samples rate =
    ascii "RIFF" ++ low_first 4 (samples * 4 + 50) ++ ascii "WAVE"
    ++ ascii "fmt " ++ low_first 4 18 ++ format_of rate
    ++ ascii "fact" ++ low_first 4 4 ++ low_first 4 samples
    ++ ascii "data" ++ low_first 4 (samples * 4)

unfoldable pub whole_format_of : ℕ → List ℕ
whole_format_of rate = low_first 2 1 ++ low_first 2 1 ++ low_first 4 rate ++ low_first 4 (rate * 2) ++ low_first 2 2 ++ low_first 2 16

unfoldable pub whole_header_of : ℕ → ℕ → List ℕ
whole_header_of samples rate =
    ascii "RIFF" ++ low_first 4 (samples * 2 + 36) ++ ascii "WAVE"
    ++ ascii "fmt " ++ low_first 4 16 ++ whole_format_of rate
    ++ ascii "data" ++ low_first 4 (samples * 2)
