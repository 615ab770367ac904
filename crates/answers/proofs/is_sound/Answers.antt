-- `answers::is_sound` meets its contract: soundness, and demand 1, which holds of every set. Assumes nothing.
use Rattle.answers.proofs.Answers.{answers}
use Rattle.answers.proofs.is_sound.Goals as goal

pub returns : goal.returns
returns c = record { value = c.sound.ensures; answers = answers c.args.set }
