-- The cart's parameters are fit, so the making gives the fresh integrator, and the run is its run. Assumes nothing.
use mathlib.Core.Path.{◌≡◌, refl, ap, ◌∙◌}
use lib.Ieee as Ieee
use Rattle.number.specs.Fit.{finite_positive, finite_not_negative}
use Rattle.number.specs.Said.{Told, accepts}
use Rattle.drive.specs.Drive.{valid_drive}
use Rattle.drive.specs.Noise.{valid_noise}
use Rattle.wheel.specs.declared.WheelPreintegration.{WheelPreintegration}
use Rattle.wheel.specs.Integrator.{make_of}
use Rattle.wheel.proofs.Cases.{made_or_blank}
use Rattle.runs.specs.declared.Ran.{Ran}
use Rattle.runs.specs.Events.{events_in}
use Rattle.runs.specs.Run.{ran_of}
use Rattle.bench_fixture.specs.Fixture.{cart}
use Rattle.bench_fixture.proofs.bench_wheel_run.Goals as goal

taken : make_of cart.settings.drive cart.settings.noise ≡ accepts cart
unfolding make_of valid_noise valid_drive finite_positive finite_not_negative Ieee.of_bits Ieee.lt Ieee.le
taken = refl

pub returns : goal.returns
returns c =
    let events = events_in c.args.events.now in
    let state = c.unwrap_or-fresh.ensures ∙ made_or_blank c.new-made.result ∙ ap (λ (t : Told WheelPreintegration). t.value) (c.new-made.ensures ∙ taken) in
    c.dt.ensures
    ∙ ap (λ (r : Ran). r.state.accumulated.dt) c.run.ensures.value
    ∙ ap (λ (s : WheelPreintegration). (ran_of s events).state.accumulated.dt) state
