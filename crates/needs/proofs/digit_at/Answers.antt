use Rattle.std.proofs.Common.{◌^◌, sym, arith}
use Rattle.std.proofs.lemmas.Nat.{pow_pos}
use Rattle.needs.specs.Levels.{width}
use Rattle.needs.proofs.Digits.{digit_mask_shifted, digit_past}
use Rattle.needs.proofs.digit_at.Goals as goal

pub returns-then-component-lt-WIDTH : goal.returns-then-component-lt-WIDTH
returns-then-component-lt-WIDTH g c =
    record { answer = digit_mask_shifted g.row.BITS 32 c.args.code c.args.component (omega arith) }

pub returns-else-component-lt-WIDTH : goal.returns-else-component-lt-WIDTH
returns-else-component-lt-WIDTH g c =
    record { answer = sym (digit_past (2 ^ g.row.BITS) (pow_pos g.row.BITS) width _ _ c.requires.within c.if-component-lt-WIDTH.false) }
