-- `root::positive_root` meets its contract: `proofs/Floats.antt` carries what `root_bits` says of patterns to floats. Assumes nothing.
use Rattle.std.proofs.Common.{rules}
use Rattle.root.proofs.Floats.{in_range, positive_no_nan, bits_no_nan, is_root}
use Rattle.root.proofs.positive_root.Goals as goal

pub float_to_bits-x : goal.float_to_bits-x
float_to_bits-x c = positive_no_nan c.args.x c.requires

pub root_bits-requires : goal.root_bits-requires
root_bits-requires c = in_range c.args.x (search rules) c.requires

pub float_from_bits-result : goal.float_from_bits-result
float_from_bits-result c = bits_no_nan c.root_bits.result c.root_bits.ensures.few

pub returns : goal.returns
returns c = is_root c.args.x c.root_bits.result (search rules) c.requires c.root_bits.ensures
