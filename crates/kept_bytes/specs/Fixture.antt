-- What the fixture stores: of an integrator that is made with a log's parameters and sent through the events of some bytes, what it keeps.
use Rattle.std.specs.Prelude.{ℕ, List, ltb, get_or, Float}
use Rattle.std.specs.Float.{nan}
use Rattle.number.specs.Float.{◌when◌else◌}
use Rattle.kept.specs.declared.KeptValues.{KeptValues}
use Rattle.records.specs.Records.{drive_of, noise_of}
use Rattle.wheel.specs.Integrator.{make_of}
use Rattle.runs.specs.Events.{events_in}
use Rattle.runs.specs.Run.{ended}

-- a making that is refused leaves the blank state
abbrev pub kept_after : (parameters events : List ℕ) → KeptValues
kept_after parameters events = (ended (make_of (drive_of parameters) (noise_of parameters)).value (events_in events)).kept

-- the nine numbers of the rate noise, then the radians per tick
abbrev pub kept_number : KeptValues → ℕ → Float
kept_number kept i =
    get_or kept.rate_noise i nan when ltb i 9 else
    kept.radians_per_tick
