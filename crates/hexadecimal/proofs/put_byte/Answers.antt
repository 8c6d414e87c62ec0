use Rattle.hexadecimal.proofs.Digits.{byte_put}
use Rattle.hexadecimal.proofs.put_byte.Goals as goal

pub returns : goal.returns
returns c =
    let a = c.args in
    byte_put a.out.now a.at a.x _ _ c.requires c.glyph.ensures c.glyph-2.ensures
