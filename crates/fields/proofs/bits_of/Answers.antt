-- `fields::bits_of` meets its contract.
use Rattle.std.proofs.Common.{sym, ◌∙◌}
use Rattle.fields.proofs.FieldLaws.{nan_bits}
use Rattle.fields.proofs.bits_of.Goals as goal

pub returns-then-is_nan : goal.returns-then-is_nan
returns-then-is_nan c = nan_bits c.args.x (sym c.is_nan.ensures.value ∙ c.if-is_nan.true)
