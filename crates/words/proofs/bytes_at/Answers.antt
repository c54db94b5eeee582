-- `bytes_at` meets its contract where fewer bytes are there than are asked for. Assumes nothing.
use mathlib.Core.Path.{◌∙◌, ap}
use lib.ListN.{get_or}
use Rattle.std.specs.Prelude.{List, ℕ}
use Rattle.number.specs.Tabulated.{tabulated}
use Rattle.words.proofs.Width.{padded_at}
use Rattle.words.proofs.bytes_at.Goals as goal

pub returns : goal.returns
returns g c k h = padded_at c.padded.result c.args.s.now c.args.i g.row.N k (c.padded.ensures ∙ ap (λ (r : List ℕ). tabulated g.row.N (λ j. get_or r j 0)) c.from-rest.ensures) h
