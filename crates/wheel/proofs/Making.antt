-- The integrators that `new` makes: the fresh ones of fit settings, and no others. Assumes nothing.
use mathlib.Core.Path.{◌≡◌, refl, sym, ap}
use mathlib.Core.Bool.{Bool, true, false, not}
use Rattle.number.specs.Float.{◌when◌else◌}
use Rattle.number.specs.Said.{Told, accepts, refuses}
use Rattle.number.proofs.Cases.{refused_not_accepted}
use Rattle.drive.specs.declared.DifferentialDrive.{DifferentialDrive}
use Rattle.drive.specs.declared.WheelNoise.{WheelNoise}
use Rattle.drive.specs.Drive.{valid_drive}
use Rattle.drive.specs.Noise.{valid_noise}
use Rattle.wheel.specs.declared.Settings.{Settings}
use Rattle.wheel.specs.declared.WheelPreintegration.{WheelPreintegration}
use Rattle.wheel.specs.Integrator.{settings, blank, fresh, make_of}

-- settings that are fit
pub record Made (c : Settings) : Type 0 where
  pub noise : valid_noise c.noise ≡ true
  pub drive : valid_drive c.drive ≡ true

-- what was made of these settings is fresh, and they are fit
pub made : (d : DifferentialDrive) (n : WheelNoise) (s : WheelPreintegration) → make_of d n ≡ accepts s → (s ≡ fresh (settings d n)) × Made (settings d n)
unfolding make_of
made d n s = go (valid_noise n) (valid_drive d) refl refl
  where
    go : (a b : Bool) → valid_noise n ≡ a → valid_drive d ≡ b → (refuses 6 blank when not a else refuses 7 blank when not b else accepts (fresh (settings d n))) ≡ accepts s → (s ≡ fresh (settings d n)) × Made (settings d n)
    go true true p q e = (sym (ap (λ (t : Told WheelPreintegration). t.value) e), record { noise = p; drive = q })
    go true false p q e = absurd (refused_not_accepted 7 blank s e)
    go false b p q e = absurd (refused_not_accepted 6 blank s e)

-- and fit settings are made
pub makes : (c : Settings) → Made c → make_of c.drive c.noise ≡ accepts (fresh c)
unfolding make_of
makes c k = simp (k.noise, k.drive)
