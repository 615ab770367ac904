-- `write_stage` meets its contract: case by case, each stage by its own writer, and those that are bits by the writer of bits. Assumes nothing.
use Rattle.overture.proofs.Stages.{ci-wrote, cm-jm-wrote, training-wrote}
use Rattle.overture.proofs.Call.write_stage.Goals as goal

pub returns-in-Ci : goal.returns-in-Ci
returns-in-Ci c = rw c.in-Ci.is (ci-wrote _ _ _ _ _ _ _ (λ g s p. p.1) c.write_all_bits.ensures)

pub returns-in-CmJm : goal.returns-in-CmJm
returns-in-CmJm c = rw c.in-CmJm.is (cm-jm-wrote _ _ _ _ _ _ _ (λ g s p. p.1) c.write_all_bits-in-CmJm.ensures)

pub returns-in-Training : goal.returns-in-Training
returns-in-Training c = rw c.in-Training.is (training-wrote _ _ _ _ _ _ _ (λ g s p. p.1) c.write_all_bits-in-Training.ensures)
