-- `tick::tick_difference` meets its contract: the bits' difference modulo 2^64 is the residue of the difference, and sign extension makes the difference over the
-- width of it. Assumes nothing.
use Rattle.std.proofs.Common.{◌≡◌, ℕ, ◌+◌, ◌%◌, ◌^◌, ◌-ℤ◌, sym, ap, ◌∙◌, w64}
use mir.ValLaws.{to_z-of_z}
use Rattle.number.specs.Ticks.{residue, signed, tick_difference}
use Rattle.number.proofs.tick.Signed.{residue_of_difference}
use Rattle.number.proofs.tick.Width.{extended_difference}
use Rattle.number.proofs.tick.tick_difference.Goals as goal

-- the bits' difference
whole_is : (c : goal.After-of_bits) → c.wrapping_sub_u64-whole.result ≡ residue 64 (c.args.to -ℤ c.args.from)
whole_is c =
    let to = c.bits_of in
    let from = c.bits_of-2 in
    let wrapped = c.wrapping_sub_u64-whole in
    let to_bits : to.result ≡ residue 64 c.args.to = to.ensures ∙ ap (residue 64) (to_z-of_z w64 c.args.to c.ranges.to) in
    let from_bits : from.result ≡ residue 64 c.args.from = from.ensures ∙ ap (residue 64) (to_z-of_z w64 c.args.from c.ranges.from) in
    let sum : (wrapped.result + residue 64 c.args.from) % 2 ^ 64 ≡ residue 64 c.args.to =
    ap (λ (z : ℕ). (wrapped.result + z) % 2 ^ 64) (sym from_bits) ∙ wrapped.ensures.value ∙ to_bits
    in
    residue_of_difference c.args.to c.args.from wrapped.result wrapped.type_inv sum

pub returns : goal.returns
unfolding tick_difference
returns c =
    let args = c.args in
    to_z-of_z w64 c.of_bits.result (record { sfits = c.of_bits.type_inv })
    ∙ c.of_bits.ensures
    ∙ ap (signed 64) c.sign_extended.ensures
    ∙ extended_difference args.width c.wrapping_sub_u64-whole.result (args.to -ℤ args.from) (whole_is c)
