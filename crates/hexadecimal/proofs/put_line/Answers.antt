use mathlib.Core.Path.{refl}
use Rattle.hexadecimal.proofs.Digits.{line-put}
use Rattle.hexadecimal.proofs.put_line.Goals as goal

pub returns : goal.returns
returns c =
    let a = c.args in
    line-put a.kind a.body.now a.at a.out.now _ _ c.requires c.put_byte.ensures c.put_bytes.ensures _ refl
