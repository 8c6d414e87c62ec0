-- `records::write_record` meets its contract.
use Rattle.std.proofs.Common.{◌≡◌, ◌%◌, ap, ◌∙◌, arith}
use lib.Ieee.{binary64, to_bits}
use Rattle.rules.specs.Records.{bytes}
use Rattle.rules.proofs.Buffers.{bytes_one, bytes-two, bytes-eight}
use Rattle.records.proofs.Writing.{two_bytes, written}
use Rattle.records.proofs.write_record.Goals as goal

pub returns : goal.returns
returns c =
    let a = c.args in
    let f = a.r.reference in
    let flags : c.flags_of-flags.result % 256 ≡ c.flags_of-flags.result = omega (arith, c.flags_of-flags.type_inv) in
    written a.r _ _ _ _ _ _ _
    (record {
      range-is = c.to_be_bytes.ensures ∙ bytes-two _ ∙ ap (bytes 2) c.range_of-range.ensures ∙ two_bytes _;
      code_is = c.to_be_bytes-2.ensures ∙ bytes-two _;
      sure_is = c.to_be_bytes-3.ensures ∙ bytes-two _ ∙ ap (bytes 2) c.confidence_of-sure.ensures;
      flags-is = rw (← flags) (bytes_one _ ∙ ap (bytes 1) c.flags_of-flags.ensures);
      count_is = bytes_one f.n;
      sum_is = c.to_be_bytes-4.ensures ∙ bytes-two _;
      bits_is = c.to_be_bytes-5.ensures ∙ bytes-eight _ ∙ ap (bytes 8) (c.bits_of-bits.ensures ∙ ap (to_bits binary64) c.level_of.ensures);
    })
    a.at a.out.now c.requires _ _ _ _ _ _ _ c.put.ensures c.put-2.ensures c.put-3.ensures c.put-4.ensures c.put-5.ensures c.put-6.ensures c.put-7.ensures
