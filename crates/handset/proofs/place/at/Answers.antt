-- `place::at` meets its contract: each stage's run to the stage's end, and silence before and behind them. Assumes nothing.
use Rattle.std.proofs.Common.{◌≡◌, ℕ, refl, sym, subst, arith}
use Rattle.std.specs.Prelude.{min}
use Rattle.runs.specs.Runs.{Least}
use Rattle.plan.proofs.Dialled.{call-few}
use Rattle.handset.specs.Runs.{IsRun}
use Rattle.handset.proofs.Places.{early-placed, dial-tone-placed, dialling-asks, dialling-placed, ringback-asks, ringback-placed, late-placed}
use Rattle.handset.proofs.place.at.Goals as goal

least : (stage left m : ℕ) → m ≡ min left stage → Least stage left m
least stage left m e = record { few = omega arith; fits = omega arith; some = λ h k. omega arith }

pub dialled-requires : goal.dialled-requires
dialled-requires c = let rate = c.args.call.now.rate in
    dialling-asks _ _ _ _ c.requires rate.slow rate.fast (call-few c.args.call.now _ refl) _ c.if-place-edges-2.false c.if-place-edges-3.true _ (least _ _ _ c.min-then-place-edges-3.ensures)

pub rung_run-requires : goal.rung_run-requires
rung_run-requires c = let rate = c.args.call.now.rate in
    ringback-asks _ _ _ _ c.requires rate.slow rate.fast (call-few c.args.call.now _ refl) _ c.if-place-edges-3.false c.if-place-edges-4.true _ (least _ _ _ c.min-then-place-edges-4.ensures)

pub returns-then-place-edges : goal.returns-then-place-edges
returns-then-place-edges c = let rate = c.args.call.now.rate in
    subst (IsRun _ _ _ _) (sym c.silent.ensures) (early-placed _ _ _ _ c.requires rate.slow rate.fast (call-few c.args.call.now _ refl) _ c.if-place-edges.true _ (least _ _ _ c.min.ensures))

pub returns-then-place-edges-2 : goal.returns-then-place-edges-2
returns-then-place-edges-2 c = let rate = c.args.call.now.rate in
    subst (IsRun _ _ _ _) (sym c.dial_tone.ensures) (dial-tone-placed _ _ _ _ c.requires rate.slow rate.fast (call-few c.args.call.now _ refl) _ c.if-place-edges.false c.if-place-edges-2.true _ (least _ _ _ c.min-then-place-edges-2.ensures))

pub returns-then-place-edges-3 : goal.returns-then-place-edges-3
returns-then-place-edges-3 c = let rate = c.args.call.now.rate in
    dialling-placed _ _ _ _ c.requires rate.slow rate.fast (call-few c.args.call.now _ refl) _ c.if-place-edges-2.false c.if-place-edges-3.true _ (least _ _ _ c.min-then-place-edges-3.ensures) _ c.dialled.ensures

pub returns-then-place-edges-4 : goal.returns-then-place-edges-4
returns-then-place-edges-4 c = let rate = c.args.call.now.rate in
    ringback-placed _ _ _ _ c.requires rate.slow rate.fast (call-few c.args.call.now _ refl) _ c.if-place-edges-3.false c.if-place-edges-4.true _ (least _ _ _ c.min-then-place-edges-4.ensures) _ c.rung_run.ensures

pub returns-else-place-edges-4 : goal.returns-else-place-edges-4
returns-else-place-edges-4 c = let rate = c.args.call.now.rate in
    subst (IsRun _ _ _ _) (sym c.silent-else-place-edges-4.ensures) (late-placed _ _ _ _ c.requires rate.slow rate.fast (call-few c.args.call.now _ refl) _ c.if-place-edges-4.false)
