-- `kept_values` meets its contract: what is stored is kept at the end of the run from the integrator that was made. Assumes nothing.
use mathlib.Core.Path.{ap, ◌∙◌}
use lib.ListN.{length}
use Rattle.number.specs.Said.{Told}
use Rattle.number.specs.Tabulated.{tabulated}
use Rattle.kept.specs.declared.KeptValues.{KeptValues}
use Rattle.wheel.specs.declared.WheelPreintegration.{WheelPreintegration}
use Rattle.wheel.specs.Integrator.{make_of}
use Rattle.wheel.proofs.Cases.{made_or_blank}
use Rattle.runs.specs.declared.Ran.{Ran}
use Rattle.runs.specs.Events.{events_in}
use Rattle.runs.specs.Run.{ended, ran_of}
use Rattle.kept_bytes.specs.Fixture.{kept_number}
use Rattle.kept_bytes.proofs.kept_values.Goals as goal

pub returns : goal.returns
unfolding ran_of
returns c =
    let args = c.args in
    let events = events_in args.events.now in
    let made = ap (λ (t : Told WheelPreintegration). t.value) (c.new-made.ensures ∙ (λ i. make_of (c.drive_of-drive.ensures i) (c.noise_of.ensures i))) in
    let state = c.unwrap_or-state.ensures ∙ made_or_blank c.new-made.result ∙ made in
    let kept = ap (λ (r : Ran). r.state.kept) c.run-ran.ensures.value ∙ ap (λ (s : WheelPreintegration). (ended s events).kept) state in
    c.store.ensures ∙ ap (λ (k : KeptValues). tabulated (length args.out.now) (kept_number k)) kept
