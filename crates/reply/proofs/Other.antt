-- A number that is no code's has no text: the table of texts has seven places, the first of them empty. Assumes nothing.
use Prim.Native.Nat.{ℕ, zero, suc}
use mathlib.Core.Path.{◌≡◌, refl}
use mathlib.Core.List.{[]}
use mathlib.Core.Logic.{◌≢◌}
use Rattle.reply.specs.declared.Code.{Code}
use Rattle.reply.specs.declared.Code.TheVariants.{Ok, Connect, NoCarrier, Error, Identification, S12}
use Rattle.reply.specs.Codes.{number_of}
use Rattle.reply.specs.Texts.{text_of}

pub other : (n s12 : ℕ) → ((code : Code) → n ≢ number_of code) → text_of n s12 ≡ []
unfolding text_of
other zero s12 none = refl
other (suc zero) s12 none = absurd (none Ok refl)
other (suc (suc zero)) s12 none = absurd (none Connect refl)
other (suc (suc (suc zero))) s12 none = absurd (none NoCarrier refl)
other (suc (suc (suc (suc zero)))) s12 none = absurd (none Error refl)
other (suc (suc (suc (suc (suc zero))))) s12 none = absurd (none Identification refl)
other (suc (suc (suc (suc (suc (suc zero)))))) s12 none = absurd (none S12 refl)
other (suc (suc (suc (suc (suc (suc (suc n))))))) s12 none = refl
