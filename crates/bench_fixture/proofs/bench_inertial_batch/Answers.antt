-- The board's densities and biases are fit, so the making gives the fresh state, and the batch is its batch. Assumes nothing.
use mathlib.Core.Path.{◌≡◌, refl, ap, ◌∙◌}
use lib.Ieee as Ieee
use Rattle.number.specs.Fit.{finite_not_negative}
use Rattle.number.specs.Said.{Told, accepts}
use Rattle.vec3.specs.Vector.{three_finite}
use Rattle.imu.specs.declared.PreintegratedImu.{PreintegratedImu}
use Rattle.imu.proofs.Cases.{made_or_blank}
use Rattle.imu.specs.State.{finite_bias, valid_calib, make_of}
use Rattle.imu_window.specs.Batch.{Batched, batch_of}
use Rattle.bench_fixture.specs.Fixture.{board}
use Rattle.bench_fixture.proofs.bench_inertial_batch.Goals as goal

taken : make_of board.bias board.calib ≡ accepts board
unfolding make_of valid_calib finite_bias three_finite finite_not_negative Ieee.of_bits Ieee.le
taken = refl

pub returns : goal.returns
returns c =
    let samples = c.args.samples.now in
    let state = c.unwrap_or-state.ensures ∙ made_or_blank c.new.result ∙ ap (λ (t : Told PreintegratedImu). t.value) (c.new.ensures ∙ taken) in
    ap (λ (b : Batched). b.value.dt) c.integrate_batch.ensures ∙ ap (λ (s : PreintegratedImu). (batch_of s samples).value.dt) state
