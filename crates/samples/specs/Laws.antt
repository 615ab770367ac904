-- What the trait `Sample` asks of each type, proved of both: how many bytes a sample has, and that the header which one function makes by the
-- format's number and those bytes is the type's own of specs/Wav.antt. Assumes nothing.
use Rattle.std.specs.Prelude.{◌≡◌, ℕ, ◌+◌, ◌*◌, ◌==◌, Bool, true, false, List, ◌++◌, length, Float, refl}
use Rattle.std.proofs.Math.IntN.{ℤ}
use Rattle.ascii.specs.Ascii.{ascii}
use Rattle.samples.specs.Bytes.{low_first, float_bytes, whole_bytes}
use Rattle.samples.specs.Wav.{format_of, header_of, whole_format_of, whole_header_of}

pub float_size : (x : Float) → length (float_bytes x) ≡ 4
unfolding float_bytes low_first
float_size x = refl

pub whole_size : (x : ℤ) → length (whole_bytes x) ≡ 2
unfolding whole_bytes low_first
whole_size x = refl

-- every format but 1, that of whole numbers, has an extension and the chunk `fact`
unfoldable pub numbers_by : (format size rate : ℕ) → List ℕ
numbers_by format size rate = low_first 2 format ++ low_first 2 1 ++ low_first 4 rate ++ low_first 4 (rate * size) ++ low_first 2 size ++ low_first 2 (size * 8)

unfoldable pub header_if : (whole : Bool) (format size samples rate : ℕ) → List ℕ
header_if true format size samples rate =
    ascii "RIFF" ++ low_first 4 (samples * size + 36) ++ ascii "WAVE"
    ++ ascii "fmt " ++ low_first 4 16 ++ numbers_by format size rate
    ++ ascii "data" ++ low_first 4 (samples * size)
header_if false format size samples rate =
    ascii "RIFF" ++ low_first 4 (samples * size + 50) ++ ascii "WAVE"
    ++ ascii "fmt " ++ low_first 4 18 ++ numbers_by format size rate ++ low_first 2 0
    ++ ascii "fact" ++ low_first 4 4 ++ low_first 4 samples
    ++ ascii "data" ++ low_first 4 (samples * size)

unfoldable pub header_by : (format size samples rate : ℕ) → List ℕ
header_by format size = header_if (format == 1) format size

pub float_header : (samples rate : ℕ) → header_of samples rate ≡ header_by 3 4 samples rate
unfolding low_first format_of header_of numbers_by header_if header_by
float_header samples rate = refl

pub whole_header : (samples rate : ℕ) → whole_header_of samples rate ≡ header_by 1 2 samples rate
unfolding low_first whole_format_of whole_header_of numbers_by header_if header_by
whole_header samples rate = refl
